use Rattle.std.proofs.Common.{◌-◌, length}
use Rattle.cb_unify.specs.Trees.{HaveSlots}
use Rattle.cb_unify.proofs.State.find_slots.Given as goal

abbrev pub invariant-slots : goal.invariant-slots
invariant-slots l = HaveSlots l.fn.self l.frame l.slots.items

abbrev pub decreases-slots : goal.decreases-slots
decreases-slots l = length l.frame - length l.slots.items
