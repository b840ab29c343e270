use Rattle.std.proofs.Common.{refl, ap, arith}
use Rattle.cb_heap.specs.Heap.{Terms}
use Rattle.cb_join.proofs.Joins.{clash-sorts, exit-young, exit-old, exit-unlike, exit-same, young-linked, old-linked, same-linked, owed-below, is-true, is-false}
use Rattle.cb_join.proofs.equate.Goals as goal

pub returns-then-not-same_sort-clause-clashes : goal.returns-then-not-same_sort-clause-clashes
returns-then-not-same_sort-clause-clashes c _ =
    clash-sorts c.args.heap.now.sorts c.args.heap.now.cells c.args.l c.args.r c.sort.result c.sort-2.result c.sort.ensures c.sort-2.ensures (λ e. is-false _ c.if-not-same_sort.true (c.same_sort.ensures.1 e))

pub rewrite-requires-clause-linked : goal.rewrite-requires-clause-linked
rewrite-requires-clause-linked c =
    young-linked c.args.heap.now.sorts c.args.heap.now.cells c.args.owed.now.pending.items c.args.owed.now.leaves.items c.args.l c.args.r c.requires.heap.linked c.requires.within c.requires.ends c.requires.older c.sort.result c.sort-2.result c.sort.ensures c.sort-2.ensures c.stored-a.result c.stored-b.result c.stored-a.ensures c.stored-b.ensures
    _ refl (c.is_unbound.ensures.0 (is-true _ c.if-is_unbound.true))

pub returns-then-is_unbound-clause-equated : goal.returns-then-is_unbound-clause-equated
returns-then-is_unbound-clause-equated c _ =
    exit-young c.args.heap.now.sorts c.args.heap.now.cells c.args.owed.now.pending.items c.args.owed.now.leaves.items c.args.l c.args.r c.requires.heap.linked c.requires.within c.requires.ends c.requires.older c.sort.result c.sort-2.result c.sort.ensures c.sort-2.ensures c.stored-a.result c.stored-b.result c.stored-a.ensures c.stored-b.ensures
    _ refl (c.same_sort.ensures.0 (is-true _ c.if-not-same_sort.false)) (c.is_unbound.ensures.0 (is-true _ c.if-is_unbound.true)) c.rewrite.new.self.cells (ap (λ (t : Terms). t.cells) (c.in_ok-rewrite.ensures.rewritten c.stored-b.result c.stored-b.ensures))

pub returns-then-is_unbound-clause-sorts : goal.returns-then-is_unbound-clause-sorts
returns-then-is_unbound-clause-sorts c =
    ap (λ (t : Terms). t.sorts) (c.in_ok-rewrite.ensures.rewritten c.stored-b.result c.stored-b.ensures)

pub rewrite-requires-then-is_unbound-2-clause-linked : goal.rewrite-requires-then-is_unbound-2-clause-linked
rewrite-requires-then-is_unbound-2-clause-linked c =
    old-linked c.args.heap.now.sorts c.args.heap.now.cells c.args.owed.now.pending.items c.args.owed.now.leaves.items c.args.l c.args.r c.requires.heap.linked c.requires.within c.requires.ends c.requires.older c.sort.result c.sort-2.result c.sort.ensures c.sort-2.ensures c.stored-a.result c.stored-b.result c.stored-a.ensures c.stored-b.ensures
    _ refl (c.is_unbound-2.ensures.0 (is-true _ c.if-is_unbound-2.true)) (λ h. is-false _ c.if-is_unbound.false (c.is_unbound.ensures.1 h))

pub returns-then-is_unbound-2-clause-equated : goal.returns-then-is_unbound-2-clause-equated
returns-then-is_unbound-2-clause-equated c _ =
    exit-old c.args.heap.now.sorts c.args.heap.now.cells c.args.owed.now.pending.items c.args.owed.now.leaves.items c.args.l c.args.r c.requires.heap.linked c.requires.within c.requires.ends c.requires.older c.sort.result c.sort-2.result c.sort.ensures c.sort-2.ensures c.stored-a.result c.stored-b.result c.stored-a.ensures c.stored-b.ensures
    _ refl (c.same_sort.ensures.0 (is-true _ c.if-not-same_sort.false)) (c.is_unbound-2.ensures.0 (is-true _ c.if-is_unbound-2.true)) (λ h. is-false _ c.if-is_unbound.false (c.is_unbound.ensures.1 h)) c.rewrite-then-is_unbound-2.new.self.cells (ap (λ (t : Terms). t.cells) (c.in_ok-rewrite-2.ensures.rewritten c.stored-a.result c.stored-a.ensures))

pub returns-then-is_unbound-2-clause-sorts : goal.returns-then-is_unbound-2-clause-sorts
returns-then-is_unbound-2-clause-sorts c =
    ap (λ (t : Terms). t.sorts) (c.in_ok-rewrite-2.ensures.rewritten c.stored-a.result c.stored-a.ensures)

pub returns-then-not-alike-clause-clashes : goal.returns-then-not-alike-clause-clashes
returns-then-not-alike-clause-clashes c _ =
    exit-unlike c.args.heap.now.sorts c.args.heap.now.cells c.args.owed.now.pending.items c.args.owed.now.leaves.items c.args.l c.args.r c.requires.heap.linked c.requires.within c.requires.ends c.requires.older c.sort.result c.sort-2.result c.sort.ensures c.sort-2.ensures c.stored-a.result c.stored-b.result c.stored-a.ensures c.stored-b.ensures
    (λ h. is-false _ c.if-is_unbound-2.false (c.is_unbound-2.ensures.1 h)) (λ h. is-false _ c.if-is_unbound.false (c.is_unbound.ensures.1 h)) (λ h. is-false _ c.if-not-alike.true (c.alike.ensures.1 h))

pub rewrite-requires-2-clause-linked : goal.rewrite-requires-2-clause-linked
rewrite-requires-2-clause-linked c =
    same-linked c.args.heap.now.sorts c.args.heap.now.cells c.args.owed.now.pending.items c.args.owed.now.leaves.items c.args.l c.args.r c.requires.heap.linked c.requires.within c.requires.ends c.requires.older c.sort.result c.sort-2.result c.sort.ensures c.sort-2.ensures c.stored-a.result c.stored-b.result c.stored-a.ensures c.stored-b.ensures
    _ refl (λ h. is-false _ c.if-is_unbound-2.false (c.is_unbound-2.ensures.1 h))

pub owe-requires-clause-below : goal.owe-requires-clause-below
owe-requires-clause-below c =
    owed-below c.args.heap.now.cells c.requires.heap.linked c.args.l c.args.r c.requires.there c.stored-a.result c.stored-b.result c.stored-a.ensures c.stored-b.ensures (c.alike.ensures.0 (is-true _ c.if-not-alike.false))
    (let n = c.len-count.ensures.number in let m = c.len-count.ensures.small in omega (arith, n, m))

pub returns-in_err-owe-clause-sorts : goal.returns-in_err-owe-clause-sorts
returns-in_err-owe-clause-sorts c =
    ap (λ (t : Terms). t.sorts) (c.in_ok-rewrite-3.ensures.rewritten c.stored-b.result c.stored-b.ensures)

pub returns-clause-equated : goal.returns-clause-equated
returns-clause-equated c _ =
    exit-same c.args.heap.now.sorts c.args.heap.now.cells c.args.owed.now.pending.items c.args.owed.now.leaves.items c.args.l c.args.r c.requires.heap.linked c.requires.within c.requires.ends c.requires.older c.sort.result c.sort-2.result c.sort.ensures c.sort-2.ensures c.stored-a.result c.stored-b.result c.stored-a.ensures c.stored-b.ensures
    _ refl (c.same_sort.ensures.0 (is-true _ c.if-not-same_sort.false)) (λ h. is-false _ c.if-is_unbound-2.false (c.is_unbound-2.ensures.1 h)) (λ h. is-false _ c.if-is_unbound.false (c.is_unbound.ensures.1 h)) (c.alike.ensures.0 (is-true _ c.if-not-alike.false)) c.rewrite-2.new.self.cells (ap (λ (t : Terms). t.cells) (c.in_ok-rewrite-3.ensures.rewritten c.stored-b.result c.stored-b.ensures))
    c.owe.new.owed.pending.items c.owe.new.owed.leaves.items c.in_ok-owe.ensures.pending c.in_ok-owe.ensures.leaves

pub returns-clause-sorts : goal.returns-clause-sorts
returns-clause-sorts c =
    ap (λ (t : Terms). t.sorts) (c.in_ok-rewrite-3.ensures.rewritten c.stored-b.result c.stored-b.ensures)
