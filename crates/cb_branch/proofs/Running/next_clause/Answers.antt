use Rattle.cb_branch.proofs.Looks.{clause-inside, next-is}
use Rattle.cb_branch.proofs.Running.next_clause.Goals as goal

pub after-requires : goal.after-requires
after-requires c = clause-inside c.args.self.now c.self.inside.program.now c.self.inside.query.now c.self.inside.state c.self.inside.frames.items c.self.inside.goals c.self.inside.top c.self.inside.steps c.self.inside.waits c.self.inside.parked.items c.self.view_is c.args.clause c.requires

pub returns : goal.returns
returns c = next-is c.args.self.now c.self.inside.program.now c.self.inside.query.now c.self.inside.state c.self.inside.frames.items c.self.inside.goals c.self.inside.top c.self.inside.steps c.self.inside.waits c.self.inside.parked.items c.self.view_is c.args.clause c.after.result c.after.ensures
