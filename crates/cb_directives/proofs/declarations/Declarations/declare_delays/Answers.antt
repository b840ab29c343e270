use Rattle.std.proofs.Common.{Bool, not, refl}
use Rattle.std.proofs.lemmas.Result.{err_from_is_err_and}
use Rattle.cb_model.specs.Text.{Text}
use Rattle.cb_model.specs.Directives.{is_delay}
use Rattle.cb_directives.specs.Checks.{check_delay}
use Rattle.cb_directives.proofs.Steps.{clauses_on, clauses_stop, clauses_end}
use Rattle.cb_directives.proofs.Reading.{drop_past}
use Rattle.cb_directives.proofs.declarations.Declarations.declare_delays.Goals as goal

abbrev passes : Text → Bool
passes w = is_delay w

pub loop-clause-init : goal.loop-clause-init
loop-clause-init c = λ go. refl

pub returns-in_err-delay_clause : goal.returns-in_err-delay_clause
returns-in_err-delay_clause c =
    let p = err_from_is_err_and c.from_residual.result c.from_residual.ensures.1 in
    rw (p.1, p.2) (clauses_stop (check_delay c.args.heads.now) passes c.args.clauses.now c.loop-clause.clause-index c.clause-item.result c.args.self.now c.loop-clause.self c.in_err-delay_clause.field-0.0 c.loop-clause-test.true
    c.clause-item.is c.loop-clause.invariant c.in_err-delay_clause.ensures)

pub loop-clause-preserved : goal.loop-clause-preserved
loop-clause-preserved c =
    clauses_on (check_delay c.args.heads.now) passes c.args.clauses.now c.loop-clause.clause-index c.clause-item.result c.args.self.now c.loop-clause.self c.delay_clause.new.self c.loop-clause-test.true
    c.clause-item.is c.loop-clause.invariant c.in_ok-delay_clause.ensures

pub returns : goal.returns
returns c =
    clauses_end (check_delay c.args.heads.now) passes c.args.clauses.now c.loop-clause.clause-index c.args.self.now c.loop-clause.self c.loop-clause.invariant
    (drop_past c.args.clauses.now c.loop-clause.clause-index c.loop-clause-test.false)
