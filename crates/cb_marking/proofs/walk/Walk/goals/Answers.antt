use Rattle.std.proofs.lemmas.Result.{err_from_is_err_and}
use Rattle.cb_marking.proofs.Remaining.{goals_on, goals_stop, goals_end, goal_written_at}
use Rattle.cb_marking.proofs.walk.Walk.goals.Goals as goal

pub goal-requires : goal.goal-requires
goal-requires c = goal_written_at c.args.goals.now c.loop-number.number c.index-goals-number.result c.requires c.loop-number-test.true c.index-goals-number.is

pub loop-number-preserved : goal.loop-number-preserved
loop-number-preserved c =
    goals_on c.args.declared.now c.args.self.now c.args.goals.now c.loop-number.self c.loop-number.number c.index-goals-number.result c.loop-number-test.true c.index-goals-number.is c.loop-number.invariant c.goal.new.self c.in_ok-goal.ensures

pub returns-in_err-goal : goal.returns-in_err-goal
returns-in_err-goal c =
    let p = err_from_is_err_and c.from_residual.result c.from_residual.ensures.1 in
    rw (p.1, p.2) (goals_stop c.args.declared.now c.args.self.now c.args.goals.now c.loop-number.self c.loop-number.number c.index-goals-number.result c.loop-number-test.true c.index-goals-number.is c.loop-number.invariant c.in_err-goal.field-0.0
    c.in_err-goal.ensures)

pub returns : goal.returns
returns c = goals_end c.args.declared.now c.args.self.now c.args.goals.now c.loop-number.self c.loop-number.number c.loop-number-test.false c.loop-number.invariant
