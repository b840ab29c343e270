use Rattle.cb_heap.specs.Heap.{Terms}
use Rattle.cb_unify.proofs.Solving.{settled-cells}
use Rattle.std.proofs.Common.{length, ap, arith, length-append, ◌∷◌, []}
use Rattle.cb_elim.specs.Store.{Seen as Booleans}
use Rattle.cb_unify.proofs.Inside.{seen}
use Rattle.cb_unify.proofs.Leaves.{leaf-of}
use Rattle.cb_unify.proofs.Making.{state-store}
use Rattle.cb_unify.proofs.State.leaf.Goals as goal

pub returns-in_err-r-clause-state : goal.returns-in_err-r-clause-state
returns-in_err-r-clause-state c =
    let e = ap (λ (o : Booleans). length o.slots) c.in_ok-slot.ensures.held.1 in
    state-store c.args.self.now (seen c.self.inside) c.self.view_is c.requires.state c.hold.new.self c.hold.ensures.store (omega (arith, e, length-append c.self.inside.store.slots (c.args.f ∷ []))) c.add.new.self c.in_err-r.ensures.refused

pub returns-clause-leaf : goal.returns-clause-leaf
returns-clause-leaf c =
    leaf-of c.args.self.now (seen c.self.inside) c.self.view_is c.requires.state c.args.f c.hold.new.self c.in_ok-slot.ensures.held.1 c.hold.ensures.store c.hold.ensures.moments c.in_ok-slot.ensures.arguments c.in_ok-slot.slot.0 c.in_ok-slot.ensures.held.0
    c.in_ok-slot.ensures.stays c.add.new.self c.in_ok-r.ensures.added.1 c.add.ensures.heap c.add.ensures.finite c.add.ensures.moments c.in_ok-r.r.0 c.in_ok-r.ensures.added.0

pub returns-clause-state : goal.returns-clause-state
returns-clause-state c = (returns-clause-leaf c).added.state

pub invariant_of-self-2 : goal.invariant_of-self-2
invariant_of-self-2 c = settled-cells c.self.inside.settled c.self.inside.heap.cells c.add.new.self.cells _ (ap (λ (t : Terms). t.cells) c.in_ok-r.ensures.added.1) c.self.invariant
