use Rattle.std.proofs.Common.{[], ◌∷◌, ap, sym}
use Rattle.cb_heap.specs.declared.Ref.{Ref}
use Rattle.cb_wake.proofs.Back.{keeps-self}
use Rattle.cb_items.proofs.Lists.{append-nil}
use Rattle.cb_branch.proofs.Begins.{pushed-more}
use Rattle.cb_branch.proofs.Laws.{keeps-refl}
use Rattle.cb_branch.proofs.Parking.{aside, keeps-waits, list-here, not-none, starts-state}
use Rattle.cb_branch.proofs.Running.put_aside.Goals as goal

pub first-requires : goal.first-requires
first-requires c = list-here c.args.self.now c.self.inside.program.now c.self.inside.query.now c.self.inside.state c.self.inside.frames.items c.self.inside.goals c.self.inside.top c.self.inside.steps c.self.inside.waits c.self.inside.parked.items c.self.view_is c.requires.b c.requires.is

pub unreachable-requires : goal.unreachable-requires
unreachable-requires c = not-none c.args.self.now c.self.inside.program.now c.self.inside.query.now c.self.inside.state c.self.inside.frames.items c.self.inside.goals c.self.inside.top c.self.inside.steps c.self.inside.waits c.self.inside.parked.items c.self.view_is c.requires.b c.requires.g c.requires.rest c.requires.is c.requires.goals c.in_default.ensures.none

pub new-requires-clause-state : goal.new-requires-clause-state
new-requires-clause-state c = starts-state c.args.self.now c.self.inside.program.now c.self.inside.query.now c.self.inside.state c.self.inside.frames.items c.self.inside.goals c.self.inside.top c.self.inside.steps c.self.inside.waits c.self.inside.parked.items c.self.view_is c.args.pred c.args.call.0 c.requires

pub returns-in_err-parked-clause-keeps : goal.returns-in_err-parked-clause-keeps
returns-in_err-parked-clause-keeps c = keeps-refl c.args.self.now

pub returns-in_default-push-clause-keeps : goal.returns-in_default-push-clause-keeps
returns-in_default-push-clause-keeps c =
    let more = pushed-more _ c.self.inside.parked.items c.push.new.self.items _ c.push.ensures.items in
    keeps-waits c.args.self.now c.self.inside.program.now c.self.inside.query.now c.self.inside.state c.self.inside.frames.items c.self.inside.goals c.self.inside.top c.self.inside.steps c.self.inside.waits c.self.inside.parked.items c.self.view_is c.self.inside.goals [] c.self.inside.top c.self.inside.waits c.push.new.self.items more.0
    (sym (append-nil c.self.inside.goals)) (keeps-self c.self.inside.waits) more.1

pub returns-in_default-park-clause-keeps : goal.returns-in_default-park-clause-keeps
returns-in_default-park-clause-keeps c =
    keeps-waits c.args.self.now c.self.inside.program.now c.self.inside.query.now c.self.inside.state c.self.inside.frames.items c.self.inside.goals c.self.inside.top c.self.inside.steps c.self.inside.waits c.self.inside.parked.items c.self.view_is c.self.inside.goals [] c.self.inside.top c.park.new.self c.push.new.self.items (c.in_ok-parked.parked ∷ [])
    (sym (append-nil c.self.inside.goals)) c.park.ensures.moments c.in-Ok.ensures.items

pub returns-clause-parked : goal.returns-clause-parked
returns-clause-parked c =
    let o = c.in_ok-parked.ensures.call in
    aside c.args.self.now c.self.inside.program.now c.self.inside.query.now c.self.inside.state c.self.inside.frames.items c.self.inside.goals c.self.inside.top c.self.inside.steps c.self.inside.waits c.self.inside.parked.items c.self.view_is c.in-Some.rest _ c.args.pred c.args.call.0 c.in_ok-parked.parked c.park.new.self c.push.new.self.items c.in-Some.ensures.some.0 c.in-Some.ensures.some.1
    o.0 (ap (λ (r : Ref). r.0) o.1) c.in_ok-parked.ensures.parked c.in-Ok-park.ensures.parked c.in-Ok.ensures.items

pub returns-clause-keeps : goal.returns-clause-keeps
returns-clause-keeps c =
    keeps-waits c.args.self.now c.self.inside.program.now c.self.inside.query.now c.self.inside.state c.self.inside.frames.items c.self.inside.goals c.self.inside.top c.self.inside.steps c.self.inside.waits c.self.inside.parked.items c.self.view_is c.self.inside.goals [] c.in-Some.rest c.park.new.self c.push.new.self.items (c.in_ok-parked.parked ∷ [])
    (sym (append-nil c.self.inside.goals)) c.park.ensures.moments c.in-Ok.ensures.items
