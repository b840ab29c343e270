use Rattle.std.proofs.Common.{map, refl, subst}
use Rattle.cb_model.specs.Loading.{query_body}
use Rattle.cb_marking.specs.Marking.{Refuses as Stops}
use Rattle.cb_model.specs.Forms.{goal_form}
use Rattle.cb_rules.proofs.Refusing.{query_unknown, query_clash, query_agrees}
use Rattle.cb_sorts.proofs.asking.checked.Goals as goal

pub returns-then-has_unknown-clause-refusal : goal.returns-then-has_unknown-clause-refusal
returns-then-has_unknown-clause-refusal c = λ ms same.
    (refl, query_unknown c.args.given.now.declared.now c.args.given.now.heads.now ms (map goal_form c.args.body.now) (c.if-has_unknown.ensures ms same))

pub returns-in-Ok-clause-refusal : goal.returns-in-Ok-clause-refusal
returns-in-Ok-clause-refusal c = λ ms same.
    query_agrees c.args.given.now.declared.now c.args.given.now.heads.now ms (map goal_form c.args.body.now) (c.if-has_unknown.ensures ms same) c.in-Ok.ensures.agrees

pub returns-in-Err-Clash-clause-refusal : goal.returns-in-Err-Clash-clause-refusal
returns-in-Err-Clash-clause-refusal c = λ ms same. (
  refl,
  query_clash c.args.given.now.declared.now c.args.given.now.heads.now ms (map goal_form c.args.body.now) (c.if-has_unknown.ensures ms same)
      (subst (Stops c.args.given.now.declared.now (query_body (map goal_form c.args.body.now))) c.in-Err-Clash.field-0-is c.in-Err-Clash.ensures),
)
