use Rattle.std.proofs.Common.{drop, map}
use Rattle.cb_model.specs.Forms.{clause_form}
use Rattle.cb_directives.specs.Checks.{check_delay, delayed, Leaves}
use Rattle.cb_directives.proofs.declarations.Declarations.declare_delays.Given as goal

abbrev pub invariant-loop-clause : goal.invariant-loop-clause
invariant-loop-clause l = Leaves (check_delay l.heads) (delayed (map clause_form l.clauses)) l.initial.self (delayed (map clause_form (drop l.clause-index l.clauses))) l.self
