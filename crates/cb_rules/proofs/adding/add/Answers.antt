use Rattle.std.proofs.Common.{List, map, ap, sym, ◌∙◌}
use Rattle.std.proofs.lemmas.Result.{MatchResult-weaker}
use Rattle.cb_model.specs.declared.RawGoal.{RawGoal}
use Rattle.cb_model.specs.Grammar.{Rule}
use Rattle.cb_model.specs.Forms.{form_of, goal_form, clause_form}
use Rattle.cb_rules.proofs.InOrder.{adds_fact, adds_directive, adds_rule, refuses_rule}
use Rattle.cb_rules.proofs.adding.add.Goals as goal

pub returns-then-is_fact : goal.returns-then-is_fact
returns-then-is_fact c = λ ms same. adds_fact c.args.given.now.declared.now c.args.given.now.heads.now c.args.given.now.names.now ms (clause_form c.args.clause.now) c.args.all.now c.if-is_fact.ensures

pub returns-in-Directive : goal.returns-in-Directive
returns-in-Directive c = λ ms same.
    adds_directive c.args.given.now.declared.now c.args.given.now.heads.now c.args.given.now.names.now ms (clause_form c.args.clause.now) _ _ _ c.args.all.now (ap clause_form c.in-Directive.is)

pub returns-in-Rule : goal.returns-in-Rule
returns-in-Rule c = λ ms same.
    let r = c.in-Rule in
    let e = ap clause_form r.is ∙ ap (λ (gs : List RawGoal). Rule r.line (form_of r.head) r.bodied (map goal_form gs)) (sym c.as_slice.ensures) in
    MatchResult-weaker c.add_rule.result (c.add_rule.ensures ms same)
    (λ u a. adds_rule c.args.given.now.declared.now c.args.given.now.heads.now c.args.given.now.names.now ms (clause_form c.args.clause.now) r.line (form_of r.head) r.bodied (map goal_form c.as_slice.result.now) e c.if-is_fact.ensures
    c.args.all.now c.add_rule.new.all a)
    (λ x b. refuses_rule c.args.given.now.declared.now c.args.given.now.heads.now c.args.given.now.names.now ms (clause_form c.args.clause.now) r.line (form_of r.head) r.bodied (map goal_form c.as_slice.result.now) e c.if-is_fact.ensures
    x b)
