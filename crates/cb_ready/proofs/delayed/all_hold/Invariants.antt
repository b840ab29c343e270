use Rattle.cb_ready.proofs.Looks.{HeldBelow}
use Rattle.cb_ready.proofs.delayed.all_hold.Given as goal

abbrev pub invariant-loop-place : goal.invariant-loop-place
invariant-loop-place l = HeldBelow l.fn.state l.fn.program l.fn.pred l.fn.args l.place
