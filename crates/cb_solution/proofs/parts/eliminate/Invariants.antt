use Rattle.cb_solution.proofs.Eliminated.{ElimSo}
use Rattle.cb_solution.proofs.parts.eliminate.Given as goal

abbrev pub invariant-loop-k : goal.invariant-loop-k
invariant-loop-k l = ElimSo l.k l.levels.keys l.initial.nodes l.initial.ops l.ops l.nodes
