use Rattle.std.proofs.Common.{◌∙◌}
use Rattle.cb_project.proofs.Slots.{slots-next}
use Rattle.cb_project.proofs.slot_values.Goals as goal

pub loop-leaf-preserved : goal.loop-leaf-preserved
loop-leaf-preserved c =
    c.in-Ok.ensures.items ∙
    slots-next c.args.store.now c.args.leaves.now c.loop-leaf.leaf-index (record { 0 = 0 }) c.value.result c.loop-leaf.values.items c.requires.slots c.loop-leaf-test.true c.loop-leaf.invariant c.value.ensures.value
