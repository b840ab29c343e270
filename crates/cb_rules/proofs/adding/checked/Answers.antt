use Rattle.std.proofs.Common.{map, refl, subst}
use Rattle.cb_model.specs.Loading.{body_of}
use Rattle.cb_marking.specs.Marking.{Refuses as Stops}
use Rattle.cb_model.specs.Forms.{form_of, goal_form}
use Rattle.cb_rules.proofs.Refusing.{rule_taken, rule_unknown, rule_clash, rule_agrees}
use Rattle.cb_rules.proofs.adding.checked.Goals as goal

pub returns-then-is_taken-clause-refusal : goal.returns-then-is_taken-clause-refusal
returns-then-is_taken-clause-refusal c = λ ms same.
    (refl, rule_taken c.args.given.now.declared.now c.args.given.now.heads.now ms (form_of c.args.head.now) (map goal_form c.args.body.now) c.if-is_taken.ensures)

pub returns-then-has_unknown-clause-refusal : goal.returns-then-has_unknown-clause-refusal
returns-then-has_unknown-clause-refusal c = λ ms same.
    (refl, rule_unknown c.args.given.now.declared.now c.args.given.now.heads.now ms (form_of c.args.head.now) (map goal_form c.args.body.now) c.if-is_taken.ensures (c.if-has_unknown.ensures ms same))

pub returns-in-Ok-clause-refusal : goal.returns-in-Ok-clause-refusal
returns-in-Ok-clause-refusal c = λ ms same.
    rule_agrees c.args.given.now.declared.now c.args.given.now.heads.now ms (form_of c.args.head.now) (map goal_form c.args.body.now) c.if-is_taken.ensures (c.if-has_unknown.ensures ms same) c.in-Ok.ensures.agrees

pub returns-in-Err-Clash-clause-refusal : goal.returns-in-Err-Clash-clause-refusal
returns-in-Err-Clash-clause-refusal c = λ ms same. (
  refl,
  rule_clash c.args.given.now.declared.now c.args.given.now.heads.now ms (form_of c.args.head.now) (map goal_form c.args.body.now) c.if-is_taken.ensures (c.if-has_unknown.ensures ms same)
      (subst (Stops c.args.given.now.declared.now (body_of (form_of c.args.head.now) (map goal_form c.args.body.now))) c.in-Err-Clash.field-0-is c.in-Err-Clash.ensures),
)
