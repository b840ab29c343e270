use Rattle.cb_unify.proofs.Solving.{settled-now}
use Rattle.cb_unify.proofs.Inside.{seen}
use Rattle.cb_unify.proofs.Back.{keeps-back, undo-is}
use Rattle.cb_unify.specs.Moments.{Moment}
use Rattle.cb_unify.proofs.State.undo.Goals as goal

pub returns-clause-reverted : goal.returns-clause-reverted
returns-clause-reverted c =
    let m : Moment = record { heap = c.to.inside.heap; store = c.to.inside.store; made = c.to.inside.made } in
    undo-is c.args.self.now (seen c.self.inside) c.self.view_is c.args.to m c.to.view_is c.undo.new.self c.undo.ensures.reverted c.undo-2.new.self c.undo-2.ensures.reverted c.truncate.new.self.items c.truncate.ensures.items

pub returns-clause-moments : goal.returns-clause-moments
returns-clause-moments c = λ s is e k. keeps-back s c.args.self.now _ c.args.to (returns-clause-reverted c) is e k

pub invariant_of-self : goal.invariant_of-self
invariant_of-self c = settled-now c.len-self-inside.result c.undo.new.self c.undo.ensures.heap c.len-self-inside.ensures.number
