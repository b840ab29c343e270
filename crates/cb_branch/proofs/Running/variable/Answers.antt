use Rattle.std.proofs.Common.{arith}
use Rattle.cb_branch.proofs.Showing.{frame-inside, number-inside, shown}
use Rattle.cb_branch.proofs.Running.variable.Goals as goal

pub index-requires : goal.index-requires
index-requires c =
    let h = frame-inside c.args.self.now c.self.inside.program.now c.self.inside.query.now c.self.inside.state c.self.inside.frames.items c.self.inside.goals c.self.inside.top c.self.inside.steps c.self.inside.waits c.self.inside.parked.items c.self.view_is c.requires.0 c.requires.1 in
    omega (arith, c.self.inside.frames.ok.0)

pub get-requires : goal.get-requires
get-requires c = number-inside c.args.self.now c.self.inside.program.now c.self.inside.query.now c.self.inside.state c.self.inside.frames.items c.self.inside.goals c.self.inside.top c.self.inside.steps c.self.inside.waits c.self.inside.parked.items c.self.view_is c.requires.0 c.requires.1 c.args.place c.in_ok-number.number c.in_ok-number.field-0-1.now c.index.result.now c.in_ok-number.ensures c.index.ensures

pub returns-clause-some : goal.returns-clause-some
returns-clause-some c = shown c.args.self.now c.self.inside.program.now c.self.inside.query.now c.self.inside.state c.self.inside.frames.items c.self.inside.goals c.self.inside.top c.self.inside.steps c.self.inside.waits c.self.inside.parked.items c.self.view_is c.requires.0 c.requires.1 c.args.place c.in_ok-number.number c.in_ok-number.field-0-1.now c.index.result.now c.in_ok-number.ensures c.index.ensures c.get.result.0 c.get.ensures
