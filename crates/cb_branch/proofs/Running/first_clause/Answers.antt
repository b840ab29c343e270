use Rattle.cb_branch.proofs.Looks.{first-is, names-inside}
use Rattle.cb_branch.proofs.Laws.{call-named}
use Rattle.cb_branch.proofs.Running.first_clause.Goals as goal

pub first-requires : goal.first-requires
first-requires c = let r = c.requires in let st = r.1 in names-inside c.args.self.now c.self.inside.program.now c.self.inside.query.now c.self.inside.state c.self.inside.frames.items c.self.inside.goals c.self.inside.top c.self.inside.steps c.self.inside.waits c.self.inside.parked.items c.self.view_is c.args.pred (call-named c.args.self.now st.b c.args.pred r.0 st.rest st.is st.goals)

pub returns : goal.returns
returns c = first-is c.args.self.now c.self.inside.program.now c.self.inside.query.now c.self.inside.state c.self.inside.frames.items c.self.inside.goals c.self.inside.top c.self.inside.steps c.self.inside.waits c.self.inside.parked.items c.self.view_is c.args.pred c.first.result c.first.ensures
