use Rattle.cb_model.specs.declared.Goal.TheVariants as goal_is
use Rattle.cb_branch.specs.Running.{behind}
use Rattle.cb_branch.proofs.Laws.{keeps-then}
use Rattle.cb_branch.proofs.Parking.{cells-of, keeps-lists, list-here, put-front, same-name}
use Rattle.cb_branch.proofs.Running.in_cells.Goals as goal

pub push-requires : goal.push-requires
push-requires c =
    let st = c.requires.first.2 in
    record { rest = list-here c.call.new.self c.self.inside.program.now c.self.inside.query.now c.self.inside.state c.self.inside.frames.items c.self.inside.goals c.self.inside.top c.self.inside.steps c.self.inside.waits c.self.inside.parked.items c.self.view_is (behind st.b st.rest) (c.in_ok-call.ensures.branch st.b c.requires.first.0 c.requires.first.1 st.rest st.is st.goals).0 }

pub returns-in-Ok-clause-called : goal.returns-in-Ok-clause-called
returns-in-Ok-clause-called c = λ b n args rest is e.
    let k = c.in_ok-call.ensures.branch b n args rest is e in
    let f = c.in-Call.ensures b is in
    put-front c.call.new.self c.self.inside.program.now c.self.inside.query.now c.self.inside.state c.self.inside.frames.items c.self.inside.goals c.self.inside.top c.self.inside.steps c.self.inside.waits c.self.inside.parked.items c.self.view_is c.push.new.self c.in-Ok.list c.in-Call.pred _ c.in-Ok.ensures.pushed.0 c.in-Ok.ensures.pushed.1 b (goal_is.Call n args) rest k.0 e
    (cells-of c.args.self.now c.call.new.self b c.in-Call.pred n c.in_ok-call.call.0 args rest c.in_ok-call.ensures.keeps is e (same-name b.goals n c.in-Call.pred args f.0 rest f.1 e f.2) k.1)

pub returns-in-Ok-clause-keeps : goal.returns-in-Ok-clause-keeps
returns-in-Ok-clause-keeps c = keeps-then c.args.self.now c.call.new.self _ c.in_ok-call.ensures.keeps (keeps-lists c.call.new.self c.self.inside.program.now c.self.inside.query.now c.self.inside.state c.self.inside.frames.items c.self.inside.goals c.self.inside.top c.self.inside.steps c.self.inside.waits c.self.inside.parked.items c.self.view_is c.push.new.self c.in-Ok.ensures.keeps.more c.in-Ok.list c.in-Ok.ensures.keeps.links)
