use Rattle.std.proofs.Common.{map, drop}
use Rattle.cb_model.specs.Forms.{goal_form}
use Rattle.cb_model.specs.Loading.{goals_signs}
use Rattle.cb_signs.proofs.Adding.{AddsSoFar}
use Rattle.cb_signs.proofs.terms.add_goals.Given as goal

abbrev pub invariant-loop-goal : goal.invariant-loop-goal
invariant-loop-goal l = AddsSoFar l.base l.initial.more l.more (goals_signs (map goal_form l.goals)) (goals_signs (map goal_form (drop l.goal-index l.goals)))
