use Rattle.cb_branch.specs.Running.{Moment}
use Rattle.cb_branch.proofs.Looks.{undo-moment}
use Rattle.cb_branch.proofs.Methods.{undo-back}
use Rattle.cb_branch.proofs.Looks.{undo-state}
use Rattle.cb_branch.proofs.Running.undo.Goals as goal

pub undo-requires-clause-state : goal.undo-requires-clause-state
undo-requires-clause-state c = undo-state c.args.self.now c.self.inside.program.now c.self.inside.query.now c.self.inside.state c.self.inside.frames.items c.self.inside.goals c.self.inside.top c.self.inside.steps c.self.inside.waits c.self.inside.parked.items c.self.view_is c.requires.0 c.requires.1 c.requires.2 c.requires.4

pub undo-requires-clause-moment : goal.undo-requires-clause-moment
undo-requires-clause-moment c =
    let r = c.requires in
    let m : Moment = record { state = c.to.inside.state; frames = c.to.inside.frames; links = c.to.inside.links; top = c.to.inside.top; steps = c.to.inside.steps; waits = c.to.inside.waits; parked = c.to.inside.parked } in
    (undo-moment c.args.self.now c.self.inside.program.now c.self.inside.query.now c.self.inside.state c.self.inside.frames.items c.self.inside.goals c.self.inside.top c.self.inside.steps c.self.inside.waits c.self.inside.parked.items c.self.view_is c.args.to m c.to.view_is r.0 r.1 r.2 r.3 r.4).0

pub undo-requires-2 : goal.undo-requires-2
undo-requires-2 c =
    let r = c.requires in
    let m : Moment = record { state = c.to.inside.state; frames = c.to.inside.frames; links = c.to.inside.links; top = c.to.inside.top; steps = c.to.inside.steps; waits = c.to.inside.waits; parked = c.to.inside.parked } in
    (undo-moment c.args.self.now c.self.inside.program.now c.self.inside.query.now c.self.inside.state c.self.inside.frames.items c.self.inside.goals c.self.inside.top c.self.inside.steps c.self.inside.waits c.self.inside.parked.items c.self.view_is c.args.to m c.to.view_is r.0 r.1 r.2 r.3 r.4).1

pub undo-requires-3 : goal.undo-requires-3
undo-requires-3 c =
    let r = c.requires in
    let m : Moment = record { state = c.to.inside.state; frames = c.to.inside.frames; links = c.to.inside.links; top = c.to.inside.top; steps = c.to.inside.steps; waits = c.to.inside.waits; parked = c.to.inside.parked } in
    (undo-moment c.args.self.now c.self.inside.program.now c.self.inside.query.now c.self.inside.state c.self.inside.frames.items c.self.inside.goals c.self.inside.top c.self.inside.steps c.self.inside.waits c.self.inside.parked.items c.self.view_is c.args.to m c.to.view_is r.0 r.1 r.2 r.3 r.4).2

pub returns : goal.returns
returns c =
    let m : Moment = record { state = c.to.inside.state; frames = c.to.inside.frames; links = c.to.inside.links; top = c.to.inside.top; steps = c.to.inside.steps; waits = c.to.inside.waits; parked = c.to.inside.parked } in
    record { back = λ s b is e k. undo-back c.args.self.now c.self.inside.program.now c.self.inside.query.now c.self.inside.state c.self.inside.frames.items c.self.inside.goals c.self.inside.top c.self.inside.steps c.self.inside.waits c.self.inside.parked.items c.self.view_is c.args.to m c.to.view_is c.undo.new.self c.truncate.new.self.items c.undo-2.new.self c.truncate.ensures.items c.undo-2.ensures.cut c.undo-3.new.self c.truncate-2.new.self.items c.truncate-2.ensures.items c.undo-3.ensures.back c.undo.ensures.back s b is e k }
