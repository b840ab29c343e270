use Rattle.std.proofs.Common.{◌≡◌, List, Option, map, drop}
use Rattle.std.specs.List.{list_any}
use Rattle.cb_model.specs.Text.{Text}
use Rattle.cb_model.specs.Forms.{goal_form}
use Rattle.cb_model.specs.Loading.{goal_unknown}
use Rattle.cb_known.specs.Modules.{AreNumbers}
use Rattle.cb_known.proofs.goals.has_unknown.Given as goal

abbrev pub invariant-loop-goal : goal.invariant-loop-goal
invariant-loop-goal l = (ms : List (Option Text)) → AreNumbers ms l.modules →
    list_any (goal_unknown l.declared l.heads ms) (map goal_form l.goals) ≡ list_any (goal_unknown l.declared l.heads ms) (map goal_form (drop l.goal-index l.goals))
