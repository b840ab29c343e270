use Rattle.cb_branch.proofs.Looks.{clause-count, clause-inside}
use Rattle.cb_branch.proofs.Running.clause_variables.Goals as goal

pub clause-requires : goal.clause-requires
clause-requires c = clause-inside c.args.self.now c.self.inside.program.now c.self.inside.query.now c.self.inside.state c.self.inside.frames.items c.self.inside.goals c.self.inside.top c.self.inside.steps c.self.inside.waits c.self.inside.parked.items c.self.view_is c.args.clause c.requires

pub returns-clause-count : goal.returns-clause-count
returns-clause-count c = clause-count c.args.self.now c.self.inside.program.now c.self.inside.query.now c.self.inside.state c.self.inside.frames.items c.self.inside.goals c.self.inside.top c.self.inside.steps c.self.inside.waits c.self.inside.parked.items c.self.view_is c.args.clause _ c.booleans.result c.clause.ensures c.booleans.ensures.count
