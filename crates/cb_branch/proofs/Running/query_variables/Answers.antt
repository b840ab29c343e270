use Rattle.cb_branch.proofs.Looks.{query-count}
use Rattle.cb_branch.proofs.Running.query_variables.Goals as goal

pub returns : goal.returns
returns c = record { count = query-count c.args.self.now c.self.inside.program.now c.self.inside.query.now c.self.inside.state c.self.inside.frames.items c.self.inside.goals c.self.inside.top c.self.inside.steps c.self.inside.waits c.self.inside.parked.items c.self.view_is c.constants.result c.booleans.result c.sorts.result.now c.constants.ensures.count c.booleans.ensures.count c.sorts.ensures }
