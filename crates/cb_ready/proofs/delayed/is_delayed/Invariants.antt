use Rattle.cb_ready.proofs.Looks.{AnyBelow}
use Rattle.cb_ready.proofs.delayed.is_delayed.Given as goal

abbrev pub invariant-loop-place : goal.invariant-loop-place
invariant-loop-place l = AnyBelow l.fn.program l.fn.pred l.place
