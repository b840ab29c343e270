use Rattle.std.proofs.Common.{[]}
use Rattle.cb_branch.proofs.Calls.{goals-here, top-here, list-inside, not-nothing, rest-inside, skip-behind, skip-keeps, work-less}
use Rattle.cb_branch.proofs.Running.skip.Goals as goal

pub returns-clause-branch : goal.returns-clause-branch
returns-clause-branch c = λ b g rest is e.
    skip-behind c.args.self.now c.self.inside.program.now c.self.inside.query.now c.self.inside.state c.self.inside.frames.items c.self.inside.goals c.self.inside.top c.self.inside.steps c.self.inside.waits c.self.inside.parked.items c.self.view_is c.in-Some.field-0-0 c.in-Some.rest c.in-Some.ensures.some.0 (rest-inside c.args.self.now c.self.inside.program.now c.self.inside.query.now c.self.inside.state c.self.inside.frames.items c.self.inside.goals c.self.inside.top c.self.inside.steps c.self.inside.waits c.self.inside.parked.items c.self.view_is c.requires.0 c.requires.1 c.in-Some.rest c.in-Some.ensures.some.1) b g rest is e

pub returns-clause-work : goal.returns-clause-work
returns-clause-work c = work-less c.args.self.now c.self.inside.program.now c.self.inside.query.now c.self.inside.state c.self.inside.frames.items c.self.inside.goals c.self.inside.top c.self.inside.steps c.self.inside.waits c.self.inside.parked.items c.self.view_is _ c.in-Some.rest c.self.inside.state c.self.inside.steps c.in-Some.ensures.some.0

pub returns-clause-keeps : goal.returns-clause-keeps
returns-clause-keeps c = skip-keeps c.args.self.now c.self.inside.program.now c.self.inside.query.now c.self.inside.state c.self.inside.frames.items c.self.inside.goals c.self.inside.top c.self.inside.steps c.self.inside.waits c.self.inside.parked.items c.self.view_is c.in-Some.rest

pub first-requires : goal.first-requires
first-requires c = top-here c.args.self.now c.self.inside.program.now c.self.inside.query.now c.self.inside.state c.self.inside.frames.items c.self.inside.goals c.self.inside.top c.self.inside.steps c.self.inside.waits c.self.inside.parked.items c.self.view_is (list-inside c.args.self.now (c.requires.0) c.requires.1)

pub unreachable-requires : goal.unreachable-requires
unreachable-requires c = not-nothing c.args.self.now (c.requires.0) c.requires.1 (goals-here c.args.self.now c.self.inside.program.now c.self.inside.query.now c.self.inside.state c.self.inside.frames.items c.self.inside.goals c.self.inside.top c.self.inside.steps c.self.inside.waits c.self.inside.parked.items c.self.view_is [] c.in_default.ensures.none)
