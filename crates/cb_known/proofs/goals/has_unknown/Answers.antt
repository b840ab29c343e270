use Rattle.std.proofs.Common.{refl}
use Rattle.cb_model.specs.Loading.{goal_unknown}
use Rattle.cb_known.proofs.Names.{goals_stop, goals_on, goals_end}
use Rattle.cb_known.proofs.goals.has_unknown.Goals as goal

pub loop-goal-init : goal.loop-goal-init
loop-goal-init c = λ ms same. refl

pub returns-then-is_unknown_goal : goal.returns-then-is_unknown_goal
returns-then-is_unknown_goal c = λ ms same.
    goals_stop (goal_unknown c.args.declared.now c.args.heads.now ms) c.args.goals.now c.loop-goal.goal-index c.goal-item.result c.loop-goal-test.true c.goal-item.is (c.loop-goal.invariant ms same) (c.if-is_unknown_goal.ensures ms same)

pub loop-goal-preserved : goal.loop-goal-preserved
loop-goal-preserved c = λ ms same.
    goals_on (goal_unknown c.args.declared.now c.args.heads.now ms) c.args.goals.now c.loop-goal.goal-index c.goal-item.result c.loop-goal-test.true c.goal-item.is (c.loop-goal.invariant ms same) (c.if-is_unknown_goal.ensures ms same)

pub returns : goal.returns
returns c = λ ms same.
    goals_end (goal_unknown c.args.declared.now c.args.heads.now ms) c.args.goals.now c.loop-goal.goal-index c.loop-goal-test.false (c.loop-goal.invariant ms same)
