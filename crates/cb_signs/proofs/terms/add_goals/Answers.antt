use Rattle.std.proofs.Common.{List, ◌+◌, [], ◌∷◌, ap, map, drop}
use Rattle.cb_model.specs.declared.RawGoal.{RawGoal}
use Rattle.cb_model.specs.Directives.{Sign}
use Rattle.cb_model.specs.Forms.{goal_form}
use Rattle.cb_model.specs.Loading.{goals_signs}
use Rattle.cb_directives.proofs.Reading.{drop_past}
use Rattle.cb_signs.proofs.Adding.{so_far_on, so_far_end, more_goals}
use Rattle.cb_signs.proofs.terms.add_goals.Goals as goal

abbrev left : List RawGoal → List Sign
left ts = goals_signs (map goal_form ts)

pub loop-goal-preserved : goal.loop-goal-preserved
loop-goal-preserved c =
    let ts = c.args.goals.now in
    let i = c.loop-goal.goal-index in
    so_far_on c.args.base.now c.args.more.now c.loop-goal.more c.add_goal.new.more (left ts) (left (drop i ts)) (goals_signs (goal_form c.goal-item.result ∷ [])) (left (drop (i + 1) ts))
    (more_goals ts i c.goal-item.result c.loop-goal-test.true c.goal-item.is) c.loop-goal.invariant c.in_ok-add_goal.ensures

pub returns : goal.returns
returns c =
    let ts = c.args.goals.now in
    let i = c.loop-goal.goal-index in
    so_far_end c.args.base.now c.args.more.now c.loop-goal.more (left ts) (left (drop i ts)) (ap left (drop_past ts i c.loop-goal-test.false)) c.loop-goal.invariant
