use Rattle.std.proofs.Common.{◌∙◌, ap, sym, arith}
use Rattle.cb_ready.specs.Parked.{Parked}
use Rattle.cb_branch.proofs.Parking.{got-parked, waiting-there}
use Rattle.cb_branch.proofs.Running.waiting.Goals as goal

pub index-call-requires : goal.index-call-requires
index-call-requires c =
    let h = waiting-there c.args.self.now c.self.inside.program.now c.self.inside.query.now c.self.inside.state c.self.inside.frames.items c.self.inside.goals c.self.inside.top c.self.inside.steps c.self.inside.waits c.self.inside.parked.items c.self.view_is c.requires.0 c.args.k c.in_ok-number.number c.requires.1 (sym c.waiting.ensures ∙ c.in_ok-number.was) in
    omega (arith, c.self.inside.parked.ok.0)

pub returns-clause-some : goal.returns-clause-some
returns-clause-some c =
    let n = sym c.waiting.ensures ∙ c.in_ok-number.was in
    let h = waiting-there c.args.self.now c.self.inside.program.now c.self.inside.query.now c.self.inside.state c.self.inside.frames.items c.self.inside.goals c.self.inside.top c.self.inside.steps c.self.inside.waits c.self.inside.parked.items c.self.view_is c.requires.0 c.args.k c.in_ok-number.number c.requires.1 n in
    got-parked c.args.self.now c.self.inside.program.now c.self.inside.query.now c.self.inside.state c.self.inside.frames.items c.self.inside.goals c.self.inside.top c.self.inside.steps c.self.inside.waits c.self.inside.parked.items c.self.view_is c.requires.0 c.args.k c.in_ok-number.number c.index-call.result.now c.call.inside.pred c.as_slice.result.now c.requires.1 n h c.index-call.ensures
    (ap (λ (x : Parked). x.pred) c.call.view_is) (c.as_slice.ensures.value ∙ ap (λ (x : Parked). x.args) c.call.view_is)
