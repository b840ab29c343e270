use Rattle.cb_boole.specs.Elimination.{Function}
use Rattle.cb_solution.specs.Parts.{AreStages}
use Rattle.cb_solution.proofs.Stages.{ImagesSo}
use Rattle.cb_solution.proofs.images.Given as goal

abbrev pub invariant-loop-k : goal.invariant-loop-k
invariant-loop-k l = (f : Function) → AreStages l.fn.ops.triples f l.levels l.nodes → ImagesSo l.k f l.levels l.nodes l.fn.ops l.ops l.images.items
