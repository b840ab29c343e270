use Rattle.std.proofs.Common.{map, ◌∙◌}
use Rattle.cb_model.specs.Forms.{form_of, goal_form}
use Rattle.cb_model.specs.Sorts.{apart}
use Rattle.cb_rules.proofs.Building.{length_body, clause_is}
use Rattle.cb_rules.proofs.adding.numbered.Goals as goal

pub body_goals-requires-clause-sorts : goal.body_goals-requires-clause-sorts
body_goals-requires-clause-sorts c = c.requires.marking.goals ∙ length_body c.args.body.now (apart (form_of c.args.head.now) 0).1

pub returns : goal.returns
returns c = λ ms same.
    let n = c.args.numbers.now in
    clause_is n.declared.now n.names.now n.more.now ms (form_of c.args.head.now) (map goal_form c.args.body.now) n.variables.now c.args.marking.now c.requires.marking
    c.requires.variables c.requires.more c.arguments.new.own c.in_ok-arguments.arguments c.in-Ok.goals c.in-Ok-from_slice.sorts c.in_ok-pred.pred c.in_ok-arguments.ensures.trees c.in_ok-arguments.ensures.own
    (c.in-Ok.ensures ms same) (c.in-Ok-from_slice.ensures ∙ c.sorts.ensures) c.in_ok-pred.ensures
