use Rattle.std.proofs.Common.{drop, map}
use Rattle.cb_model.specs.Forms.{clause_form}
use Rattle.cb_directives.specs.Checks.{check_other, others, Leaves}
use Rattle.cb_directives.proofs.declarations.Declarations.declare_others.Given as goal

abbrev pub invariant-loop-clause : goal.invariant-loop-clause
invariant-loop-clause l = Leaves check_other (others (map clause_form l.clauses)) l.initial.self (others (map clause_form (drop l.clause-index l.clauses))) l.self
