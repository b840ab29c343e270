use Rattle.cb_branch.proofs.Begins.{IsAsking}
use Rattle.cb_branch.proofs.additions.asked.Given as goal

abbrev pub invariant-loop-place : goal.invariant-loop-place
invariant-loop-place l = IsAsking l.goals l.fn.count l.list l.place
