use Rattle.std.proofs.Common.{◌≡◌, true, List, Option, map, drop}
use Rattle.std.specs.List.{list_all}
use Rattle.cb_model.specs.Text.{Text}
use Rattle.cb_model.specs.Written.{goal_written}
use Rattle.cb_model.specs.Forms.{goal_form}
use Rattle.cb_known.specs.Modules.{AreNumbers}
use Rattle.cb_trees.specs.Numbered.{numbering_of}
use Rattle.cb_rules.proofs.InOrder.{GoalsSoFar}
use Rattle.cb_rules.proofs.bodies.body_goals.Given as goal

abbrev pub invariant-loop-place : goal.invariant-loop-place
invariant-loop-place l = record {
  written : list_all goal_written (map goal_form (drop l.place l.goals)) ≡ true;
  goals : (ms : List (Option Text)) → AreNumbers ms l.numbers.modules.now →
      GoalsSoFar l.numbers.declared.now (numbering_of l.numbers) ms l.marking.goals l.goals l.initial.own l.place l.own l.all;
}
