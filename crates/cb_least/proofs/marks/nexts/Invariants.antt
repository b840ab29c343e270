use Rattle.cb_least.proofs.Marking.{FoundFrom}
use Rattle.cb_least.proofs.marks.nexts.Given as goal

abbrev pub invariant-loop-at : goal.invariant-loop-at
invariant-loop-at l = FoundFrom l.fn.marks l.nexts.items l.at l.next

abbrev pub decreases-loop-at : goal.decreases-loop-at
decreases-loop-at l = l.at
