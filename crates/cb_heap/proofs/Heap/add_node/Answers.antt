use Rattle.std.proofs.Common.{◌<◌, length, sym, subst}
use Rattle.cb_model.specs.Bits.{Each}
use Rattle.cb_heap.specs.declared.Ref.{Ref}
use Rattle.cb_heap.specs.Finite.{AllFinite, IsFinite}
use Rattle.cb_heap.specs.Heap.{Terms, IsHeap}
use Rattle.cb_heap.proofs.Adding.{finite-node, heap-node}
use Rattle.cb_heap.proofs.Inside.{seen}
use Rattle.cb_heap.proofs.Heap.add_node.Goals as goal

pub returns-in-Ok-clause-finite : goal.returns-in-Ok-clause-finite
returns-in-Ok-clause-finite c all r =
    let t : Terms = seen c.self.inside in
    subst (λ xs. IsFinite xs r) (sym c.in-Ok.ensures.cells)
    (finite-node t (subst IsHeap (sym c.self.view_is) c.requires.heap) c.args.name c.args.args.now (subst (λ (o : Terms). Each (λ (q : Ref). q.0 < length o.cells) c.args.args.now) (sym c.self.view_is) c.requires.there)
    (subst (λ (o : Terms). AllFinite o.cells) (sym c.self.view_is) all) r)

pub returns-in-Ok-clause-heap : goal.returns-in-Ok-clause-heap
returns-in-Ok-clause-heap c =
    let t : Terms = seen c.self.inside in
    subst IsHeap (λ i. record { cells = sym c.in-Ok.ensures.cells i; sorts = sym c.in-Ok.ensures.sorts i; trail = t.trail })
    (heap-node t (subst IsHeap (sym c.self.view_is) c.requires.heap) c.args.name c.args.args.now (subst (λ (o : Terms). Each (λ (q : Ref). q.0 < length o.cells) c.args.args.now) (sym c.self.view_is) c.requires.there))
