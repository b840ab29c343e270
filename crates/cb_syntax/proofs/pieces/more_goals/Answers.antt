use Rattle.std.proofs.Common.{arith}
use Rattle.cb_model.specs.Forms.{goal_form}
use Rattle.cb_lex.specs.View.{token_of}
use Rattle.cb_syntax.proofs.Folds.{pushed_by}
use Rattle.cb_syntax.proofs.GoalMoves.{goals_more, goals_took}
use Rattle.cb_syntax.proofs.pieces.more_goals.Goals as goal

pub loop-goal-preserved : goal.loop-goal-preserved
loop-goal-preserved c = record {
  forward = let f = c.in_ok-goal.ensures.forward in let g = c.loop-goal.invariant.forward in omega arith;
  so_far = goals_more _ _ _ c.loop-goal.invariant.so_far _ _ c.in_ok-goal.ensures.answer _ _ (token_of c.in-Some.next) _ c.in-Some.ensures c.in-Comma.is _ (pushed_by goal_form _ _ _ c.in_ok-push.ensures);
}

pub returns-in-Dot-clause-answer : goal.returns-in-Dot-clause-answer
returns-in-Dot-clause-answer c = goals_took _ _ _ c.loop-goal.invariant.so_far _ _ c.in_ok-goal.ensures.answer _ _ (token_of c.in-Some.next) _ c.in-Some.ensures c.in-Dot.is _ (pushed_by goal_form _ _ _ c.in_ok-push.ensures)
