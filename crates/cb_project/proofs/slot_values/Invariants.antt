use Rattle.std.proofs.Common.{◌≡◌, take}
use Rattle.cb_project.specs.Answer.{slot_nodes}
use Rattle.cb_project.proofs.slot_values.Given as goal

abbrev pub invariant-loop-leaf : goal.invariant-loop-leaf
invariant-loop-leaf l = l.values.items ≡ slot_nodes l.store (take l.leaf-index l.leaves)
