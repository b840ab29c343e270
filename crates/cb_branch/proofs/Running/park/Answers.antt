use Rattle.cb_model.specs.declared.Goal.TheVariants as goal_is
use Rattle.cb_branch.proofs.Laws.{keeps-then}
use Rattle.cb_branch.proofs.Work.{parked-work}
use Rattle.cb_branch.proofs.Running.park.Goals as goal

pub put_aside-requires : goal.put_aside-requires
put_aside-requires c =
    let st = c.requires.first.2 in
    let k = c.in_ok-pred.ensures.called st.b c.requires.first.0 c.requires.first.1 st.rest st.is st.goals in
    record { b = st.b; is = k.0; g = goal_is.Call c.requires.first.0 c.requires.first.1; rest = st.rest; goals = st.goals; cells = k.1 }

pub returns-in-Ok-clause-work : goal.returns-in-Ok-clause-work
returns-in-Ok-clause-work c =
    let st = c.requires.first.2 in
    let k = c.in_ok-pred.ensures.called st.b c.requires.first.0 c.requires.first.1 st.rest st.is st.goals in
    parked-work c.args.self.now c.put_aside.new.self st.b (goal_is.Call c.requires.first.0 c.requires.first.1) st.rest st.is st.goals (c.in-Ok.ensures.parked st.b (goal_is.Call c.requires.first.0 c.requires.first.1) st.rest k.0 st.goals k.1)

pub returns-in-Ok-clause-keeps : goal.returns-in-Ok-clause-keeps
returns-in-Ok-clause-keeps c = keeps-then c.args.self.now c.in_cells.new.self c.put_aside.new.self c.in_ok-pred.ensures.keeps c.put_aside.ensures.keeps

pub returns-in-Err-clause-keeps : goal.returns-in-Err-clause-keeps
returns-in-Err-clause-keeps c = keeps-then c.args.self.now c.in_cells.new.self c.put_aside.new.self c.in_ok-pred.ensures.keeps c.put_aside.ensures.keeps
