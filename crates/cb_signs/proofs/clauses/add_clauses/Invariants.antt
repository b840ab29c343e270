use Rattle.std.proofs.Common.{map, drop}
use Rattle.cb_model.specs.Forms.{clause_form}
use Rattle.cb_signs.specs.Wanted.{named_signs}
use Rattle.cb_signs.proofs.Adding.{AddsSoFar}
use Rattle.cb_signs.proofs.clauses.add_clauses.Given as goal

abbrev pub invariant-loop-clause : goal.invariant-loop-clause
invariant-loop-clause l = AddsSoFar l.base l.initial.more l.more (named_signs (map clause_form l.clauses)) (named_signs (map clause_form (drop l.clause-index l.clauses)))
