use Rattle.std.proofs.Common.{◌≡◌, [], ◌∷◌, ◌++◌, length, sym, subst, rules}
use Rattle.cb_heap.specs.Finite.{AllFinite, IsFinite}
use Rattle.cb_heap.specs.Heap.{Terms, IsAddable, IsHeap, sort_of, stored_as}
use Rattle.cb_heap.proofs.Adding.{finite-cell, heap-cell}
use Rattle.cb_heap.proofs.Inside.{seen}
use Rattle.cb_heap.proofs.Heap.add.Goals as goal

pub returns-clause-finite : goal.returns-clause-finite
returns-clause-finite c all r =
    let t : Terms = seen c.self.inside in
    let items : c.push-2.new.self.items ≡ t.cells ++ stored_as c.args.cell ∷ [] = search rules in
    subst (λ xs. IsFinite xs r) (sym items)
    (finite-cell t (subst IsHeap (sym c.self.view_is) c.requires.heap) c.args.cell (subst (λ (o : Terms). IsAddable (length o.cells) c.args.cell) (sym c.self.view_is) c.requires.addable)
    (subst (λ (o : Terms). AllFinite o.cells) (sym c.self.view_is) all) r)

pub returns-clause-heap : goal.returns-clause-heap
returns-clause-heap c =
    let t : Terms = seen c.self.inside in
    let items : c.push-2.new.self.items ≡ t.cells ++ stored_as c.args.cell ∷ [] = search rules in
    let sorts : c.push.new.self.items ≡ t.sorts ++ sort_of c.args.cell ∷ [] = search rules in
    subst IsHeap (λ i. record { cells = sym items i; sorts = sym sorts i; trail = t.trail })
    (heap-cell t (subst IsHeap (sym c.self.view_is) c.requires.heap) c.args.cell (subst (λ (o : Terms). IsAddable (length o.cells) c.args.cell) (sym c.self.view_is) c.requires.addable))
