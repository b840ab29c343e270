use Rattle.cb_ops.proofs.Least.{IsLeastSoFar}
use Rattle.cb_ops.proofs.Ops.least_true.Given as goal

abbrev pub invariant-loop-i : goal.invariant-loop-i
invariant-loop-i l = IsLeastSoFar l.self.triples l.fn.f.0 l.levels l.i l.into l.n.0
