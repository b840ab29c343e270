use Rattle.cb_ops.proofs.Turns.{Composing}
use Rattle.cb_ops.proofs.Ops.compose_all.Given as goal

abbrev pub invariant-loop-level : goal.invariant-loop-level
invariant-loop-level l = Composing l.level-index l.fn.f.0 l.fn.list l.level-items l.fn.self l.self l.n.0
