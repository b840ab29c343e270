use Rattle.std.proofs.Common.{[], ◌∷◌, ◌||◌, map, sym, ◌∙◌, ap}
use Rattle.std.proofs.lemmas.Result.{on_ok_weaker}
use Rattle.cb_model.specs.declared.RawClause.{RawClause}
use Rattle.cb_model.specs.Forms.{form_of, goal_form, clause_form}
use Rattle.cb_model.specs.Directives.{has_sign, heads}
use Rattle.cb_directives.proofs.Steps.{head_none, head_added, no_head}
use Rattle.cb_directives.proofs.file.add_head.Goals as goal

pub returns-in-Directive : goal.returns-in-Directive
returns-in-Directive c = head_none c.args.signs.now (clause_form c.args.clause.now ∷ []) (ap (λ (r : RawClause). heads (clause_form r ∷ [])) c.in-Directive.is)

pub returns-in-None : goal.returns-in-None
returns-in-None c =
    let r = c.in-Rule in
    head_none c.args.signs.now (clause_form c.args.clause.now ∷ []) (ap (λ (r : RawClause). heads (clause_form r ∷ [])) r.is ∙ no_head r.line (form_of r.head) r.bodied (map goal_form r.body) [] c.in-None.ensures)

pub returns-in-Some : goal.returns-in-Some
returns-in-Some c =
    let r = c.in-Rule in
    let old = c.args.signs.now in
    on_ok_weaker c.add.result
    (λ k a. head_added old c.add.new.self r.line (form_of r.head) r.bodied (map goal_form r.body) c.in-Some.name.now c.in-Some.args.now c.in-Some.ensures k a
    ∙ ap (λ (q : RawClause). has_sign old a || has_sign (heads (clause_form q ∷ [])) a) (sym r.is))
    c.add.ensures.added
