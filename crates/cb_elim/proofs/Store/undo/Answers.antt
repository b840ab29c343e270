use Rattle.std.proofs.Common.{◌≡◌, take, drop, subst, sym, ◌∙◌, arith}
use Rattle.std.proofs.lemmas.Grind.{common_steps}
use Rattle.cb_elim.specs.Store.{Seen, IsStore}
use Rattle.cb_elim.specs.Moments.{Moment, IsMoment, undone}
use Rattle.cb_elim.proofs.Inside.{seen}
use Rattle.cb_elim.proofs.Kept.{watched-undo}
use Rattle.cb_elim.proofs.Back.{undo-is, back-to, keeps-back}
use Rattle.cb_elim.proofs.Store.undo.Goals as goal

pub returns-clause-reverted : goal.returns-clause-reverted
returns-clause-reverted c =
    let m : Moment = record { nodes = c.to.inside.nodes; drawn = c.to.inside.drawn; free = c.to.inside.free; slots = c.to.inside.slots; trail = c.to.inside.trail } in
    let slots : c.truncate.new.self.items ≡ take c.to.inside.slots (undone (drop c.to.inside.trail c.self.inside.trail) c.self.inside.slots.items) = grind (arith, common_steps) in
    undo-is c.args.self.now (seen c.self.inside) c.self.view_is c.args.to m c.to.view_is c.restore.new.trail c.restore.ensures.trail c.truncate.new.self.items slots c.truncate-2.new.self.items c.truncate-2.ensures.items c.cut.new.self
    c.cut.ensures.triples c.cut.ensures.budget c.cut.ensures.fulls

pub returns-clause-store : goal.returns-clause-store
returns-clause-store c = subst (λ (s : Seen). IsStore s) (sym (returns-clause-reverted c)) c.requires.moment.store

pub returns-clause-back : goal.returns-clause-back
returns-clause-back c = λ s st e k. returns-clause-reverted c ∙ back-to s c.args.self.now c.args.to st e k

pub returns-clause-moments : goal.returns-clause-moments
returns-clause-moments c = λ s st e k. keeps-back s c.args.self.now _ c.args.to (returns-clause-reverted c) st e k

pub invariant_of-self : goal.invariant_of-self
invariant_of-self c =
    let m : Moment = record { nodes = c.to.inside.nodes; drawn = c.to.inside.drawn; free = c.to.inside.free; slots = c.to.inside.slots; trail = c.to.inside.trail } in
    let slots : c.truncate.new.self.items ≡ take c.to.inside.slots (undone (drop c.to.inside.trail c.self.inside.trail) c.self.inside.slots.items) = grind (arith, common_steps) in
    watched-undo c.args.self.now (seen c.self.inside) c.self.view_is c.requires.store c.self.inside.lent c.self.inside.uses m (subst (λ (n : Moment). IsMoment n c.args.self.now) (sym c.to.view_is) c.requires.moment) c.restore.new.trail c.restore.ensures.trail
    c.truncate.new.self.items slots c.cut-2.new.self c.cut-2.ensures c.cut.new.self c.cut.ensures.triples c.self.invariant
