use Rattle.cb_goals.proofs.Lists.{IsPushing}
use Rattle.cb_goals.proofs.Goals.push_body.Given as goal

abbrev pub invariant-loop-place : goal.invariant-loop-place
invariant-loop-place l = IsPushing l.fn.self l.self l.fn.clause l.fn.frame l.fn.count l.fn.rest l.list l.place
