use Rattle.std.proofs.Common.{length}
use Rattle.cb_join.specs.Cycle.{IsNoted}
use Rattle.cb_join.proofs.cycle.clear.Given as goal

abbrev pub invariant-met : goal.invariant-met
invariant-met l = IsNoted l.work.marks.items l.work.met.items

abbrev pub decreases-met : goal.decreases-met
decreases-met l = length l.work.met.items
