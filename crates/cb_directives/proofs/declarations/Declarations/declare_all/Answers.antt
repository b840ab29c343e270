use Rattle.std.proofs.Common.{map, subst}
use Rattle.std.proofs.lemmas.Result.{err_from_is_err_and, MatchResult-weaker}
use Rattle.cb_model.specs.Forms.{clause_form}
use Rattle.cb_model.specs.Directives.{Declared}
use Rattle.cb_directives.specs.Checks.{check_other, others, Accepts, Refuses}
use Rattle.cb_directives.proofs.Steps.{first_refused, then_refused, all_accepted}
use Rattle.cb_directives.proofs.declarations.Declarations.declare_all.Goals as goal

pub returns-in_err-declare_others : goal.returns-in_err-declare_others
returns-in_err-declare_others c =
    let p = err_from_is_err_and c.from_residual.result c.from_residual.ensures.1 in
    rw (p.1, p.2) (first_refused (map clause_form c.args.clauses.now) c.in_err-declare_others.field-0.0
    (subst (λ (d : Declared). Refuses check_other (others (map clause_form c.args.clauses.now)) d c.in_err-declare_others.field-0.0) c.requires.none c.in_err-declare_others.ensures))

pub returns : goal.returns
returns c =
    let cs = map clause_form c.args.clauses.now in
    let others_are = subst (λ (d : Declared). Accepts check_other (others cs) d c.declare_others.new.self) c.requires.none c.in_ok-declare_others.ensures in
    MatchResult-weaker c.declare_delays.result c.declare_delays.ensures
    (λ u a. all_accepted c.args.heads.now cs c.requires.heads c.declare_others.new.self others_are c.declare_delays.new.self a)
    (λ e r. then_refused c.args.heads.now cs c.requires.heads c.declare_others.new.self others_are e r)
