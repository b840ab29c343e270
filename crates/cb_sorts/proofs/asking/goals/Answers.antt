use Rattle.std.proofs.Common.{◌++◌, List, map, ap, subst, ◌∙◌}
use Rattle.std.proofs.lemmas.List.{append-nil}
use Rattle.cb_model.specs.Forms.{goal_form}
use Rattle.cb_model.specs.Directives.{Sign}
use Rattle.cb_model.specs.Loading.{query_body, goals_signs}
use Rattle.cb_signs.specs.Wanted.{add_signs}
use Rattle.cb_rules.proofs.Building.{length_body, goals_are}
use Rattle.cb_sorts.proofs.asking.goals.Goals as goal

pub body_goals-requires-clause-sorts : goal.body_goals-requires-clause-sorts
body_goals-requires-clause-sorts c = c.requires.marking.goals ∙ length_body c.args.body.now 0

pub returns-in-Ok-clause-goals : goal.returns-in-Ok-clause-goals
returns-in-Ok-clause-goals c = λ ms same.
    goals_are c.args.given.now.declared.now c.args.given.now.names.now c.add_goals.new.more ms (query_body (map goal_form c.args.body.now)) c.variables.result.now c.args.marking.now c.requires.marking c.variables.ensures c.in_ok-goals.goals
    (c.in_ok-goals.ensures ms same)

pub returns-in-Ok-clause-names : goal.returns-in-Ok-clause-names
returns-in-Ok-clause-names c =
    let names = c.args.given.now.names.now in
    c.in_ok-add_goals.ensures ∙ ap (λ (l : List Sign). add_signs l (goals_signs (map goal_form c.args.body.now))) (ap (λ (l : List Sign). names ++ l) c.requires.none ∙ append-nil names)
