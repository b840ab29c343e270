use Rattle.cb_solution.proofs.Loops.{RestsSo}
use Rattle.cb_solution.proofs.rests.Given as goal

abbrev pub invariant-loop-level : goal.invariant-loop-level
invariant-loop-level l = RestsSo l.level-index l.fn.f.0 l.levels l.fn.ops l.ops l.nodes.items l.left.0
