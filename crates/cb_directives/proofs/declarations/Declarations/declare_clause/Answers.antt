use Rattle.std.specs.Prelude.{MatchResult}
use Rattle.std.proofs.Common.{[], ◌∷◌, Bool, not, List, sym, ◌∙◌, ap, subst}
use Rattle.cb_model.specs.Text.{Text}
use Rattle.cb_model.specs.declared.RawClause.{RawClause}
use Rattle.cb_model.specs.Forms.{clause_form}
use Rattle.cb_model.specs.Directives.{Argument, is_delay}
use Rattle.cb_directives.specs.Checks.{check_other, others, arguments_of, Accepts, Refuses}
use Rattle.cb_directives.proofs.Steps.{accepts_none, picks_none, picks_all}
use Rattle.cb_directives.proofs.declarations.Declarations.declare_clause.Goals as goal

abbrev passes : Text → Bool
passes w = not (is_delay w)

pub returns-then-delays : goal.returns-then-delays
returns-then-delays c =
    let d = c.in-Directive in
    accepts_none (check_other) passes (clause_form c.args.clause.now ∷ []) c.args.self.now
    (ap (λ (r : RawClause). others (clause_form r ∷ [])) d.is ∙ picks_none (check_other) passes d.line d.word.now d.args (ap not (sym c.if-delays.ensures)))

pub returns-else-delays : goal.returns-else-delays
returns-else-delays c =
    let d = c.in-Directive in
    let same = ap (λ (r : RawClause). others (clause_form r ∷ [])) d.is ∙ picks_all (check_other) passes d.line d.word.now d.args (ap not (sym c.if-delays.ensures)) ∙ ap (arguments_of d.line d.word.now) (sym c.as_slice.ensures) in
    subst (λ (l : List Argument). MatchResult c.declare.result (λ _. Accepts (check_other) l c.args.self.now c.declare.new.self) (Refuses (check_other) l c.args.self.now)) (sym same) c.declare.ensures

pub returns-in-Rule : goal.returns-in-Rule
returns-in-Rule c = accepts_none (check_other) passes (clause_form c.args.clause.now ∷ []) c.args.self.now (ap (λ (r : RawClause). others (clause_form r ∷ [])) c.in-Rule.is)
