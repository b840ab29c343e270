use Rattle.cb_solution.specs.Parts.{AreAbsent}
use Rattle.cb_solution.proofs.parts.last_of.Given as goal

abbrev pub invariant-loop-k : goal.invariant-loop-k
invariant-loop-k l = AreAbsent l.support l.levels.keys l.k
