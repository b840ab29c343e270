use Rattle.std.proofs.Common.{arith}
use Rattle.cb_branch.proofs.Looks.{mark-is}
use Rattle.cb_branch.proofs.Calls.{state-here}
use Rattle.cb_branch.proofs.Running.mark.Goals as goal

pub mark-requires : goal.mark-requires
mark-requires c = state-here c.args.self.now c.self.inside.program.now c.self.inside.query.now c.self.inside.state c.self.inside.frames.items c.self.inside.goals c.self.inside.top c.self.inside.steps c.self.inside.waits c.self.inside.parked.items c.self.view_is c.requires.0 c.requires.1

pub returns : goal.returns
returns c = mark-is c.args.self.now c.self.inside.program.now c.self.inside.query.now c.self.inside.state c.self.inside.frames.items c.self.inside.goals c.self.inside.top c.self.inside.steps c.self.inside.waits c.self.inside.parked.items c.self.view_is c.mark.result c.len.result c.mark-2.result c.len-2.result c.mark-3.result c.mark.ensures.moment (let o = c.self.inside.frames.ok.0 in let e = c.len.ensures in omega arith) c.mark-2.ensures c.mark-3.ensures.moment (let o = c.self.inside.parked.ok.0 in let e = c.len-2.ensures in omega arith)
