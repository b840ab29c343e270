use Rattle.std.proofs.Common.{◌∙◌, ◌<◌, List, length, ap, sym, subst}
use Rattle.cb_model.specs.Bits.{Each}
use Rattle.cb_heap.specs.declared.Ref.{Ref}
use Rattle.cb_ready.specs.Parked.{Parked}
use Rattle.cb_ready.specs.Ready.{TellsReady}
use Rattle.cb_ready.proofs.Standing.{standing-there}
use Rattle.cb_branch.proofs.Parking.{if-ok, starts-held, starts-state, tells-first}
use Rattle.cb_branch.proofs.Running.is_call_ready.Goals as goal

pub new-requires-clause-state : goal.new-requires-clause-state
new-requires-clause-state c = starts-state c.args.self.now c.self.inside.program.now c.self.inside.query.now c.self.inside.state c.self.inside.frames.items c.self.inside.goals c.self.inside.top c.self.inside.steps c.self.inside.waits c.self.inside.parked.items c.self.view_is c.args.pred c.args.call.0 c.requires

pub is_ready-ready-requires-clause-state : goal.is_ready-ready-requires-clause-state
is_ready-ready-requires-clause-state c = starts-state c.args.self.now c.self.inside.program.now c.self.inside.query.now c.self.inside.state c.self.inside.frames.items c.self.inside.goals c.self.inside.top c.self.inside.steps c.self.inside.waits c.self.inside.parked.items c.self.view_is c.args.pred c.args.call.0 c.requires

pub is_ready-ready-requires-clause-there : goal.is_ready-ready-requires-clause-there
is_ready-ready-requires-clause-there c =
    let o = c.in_ok-parked.ensures.call in
    let k = starts-held c.args.self.now c.self.inside.program.now c.self.inside.query.now c.self.inside.state c.self.inside.frames.items c.self.inside.goals c.self.inside.top c.self.inside.steps c.self.inside.waits c.self.inside.parked.items c.self.view_is c.args.pred c.args.call.0 c.requires c.in_ok-parked.parked o.0 (ap (λ (r : Ref). r.0) o.1) c.in_ok-parked.ensures.parked in
    let e = c.as_slice.ensures.value ∙ ap (λ (x : Parked). x.args) c.parked.view_is in
    subst (λ (rs : List Ref). Each (λ (r : Ref). r.0 < length c.self.inside.state.heap.sorts) rs) (sym e) (standing-there _ c.self.inside.state _ _ k.args)

pub returns : goal.returns
returns c =
    let e = c.as_slice.ensures.value ∙ ap (λ (x : Parked). x.args) c.parked.view_is in
    if-ok c.is_ready-ready.result
    (λ x tells.
    tells-first c.args.self.now c.self.inside.program.now c.self.inside.query.now c.self.inside.state c.self.inside.frames.items c.self.inside.goals c.self.inside.top c.self.inside.steps c.self.inside.waits c.self.inside.parked.items c.self.view_is c.args.pred c.args.call.0 c.in_ok-parked.parked x c.in_ok-parked.ensures.parked
    (subst (λ (rs : List Ref). TellsReady c.self.inside.state c.self.inside.program.now c.args.pred rs x) e tells))
    c.is_ready-ready.ensures
