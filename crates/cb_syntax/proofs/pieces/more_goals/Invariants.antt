use Rattle.std.proofs.Common.{◌≤◌, ◌-◌, length, map}
use Rattle.cb_model.specs.Forms.{goal_form}
use Rattle.cb_syntax.specs.Steps.{rest}
use Rattle.cb_syntax.proofs.GoalMoves.{GoalsSoFar}
use Rattle.cb_syntax.proofs.pieces.more_goals.Given as goal

abbrev pub invariant-loop-goal : goal.invariant-loop-goal
invariant-loop-goal l = record {
  forward : l.fn.at ≤ l.left;
  so_far : GoalsSoFar (rest l.tokens l.fn.at) (rest l.tokens l.left) (map goal_form l.found);
}

abbrev pub decreases-loop-goal : goal.decreases-loop-goal
decreases-loop-goal l = length l.tokens - l.left
