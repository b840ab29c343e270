use Rattle.cb_branch.proofs.Fronts.{IsPutting}
use Rattle.cb_branch.proofs.waking.put_in_front.Given as goal

abbrev pub invariant-loop-place : goal.invariant-loop-place
invariant-loop-place l = IsPutting l.fn.goals l.goals l.fn.parked l.fn.numbers l.fn.rest l.list l.place
