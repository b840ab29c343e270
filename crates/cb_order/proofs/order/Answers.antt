use Rattle.std.proofs.Common.{◌≡◌, ◌+◌, ◌<◌, [], Bool, true, false, length, slice_index_or, refl, ap, sym, subst, ◌∙◌, arith}
use mathlib.Core.Bool.{beq}
use Rattle.std.proofs.lemmas.Bool.{true≢false}
use Rattle.cb_order.specs.Sorting.{state_of, is_placed, IsSorting}
use Rattle.cb_order.proofs.Orders.{order-acyclic}
use Rattle.cb_order.proofs.Steps.{seen-more, ends-in-cycle, ends-in-order}
use Rattle.cb_order.proofs.order.Goals as goal

pub loop-item-init : goal.loop-item-init
loop-item-init c = record { sorting = c.in_ok-sorting.ensures.sorting c.args.graph.now (sym c.len.ensures); none = c.in_ok-sorting.ensures.none }

pub settle-requires-clause-sorting : goal.settle-requires-clause-sorting
settle-requires-clause-sorting c =
    (c.loop-item.item + 1, c.in_ok-look.ensures.sorting (c.loop-item.item + 1) [] (seen-more c.args.graph.now c.loop-item.item (state_of c.loop-item.sorting) c.loop-item.invariant.sorting (omega arith)))

pub loop-item-preserved : goal.loop-item-preserved
loop-item-preserved c = record {
  sorting = c.in_ok-settle.ensures.sorting (c.loop-item.item + 1) (c.in_ok-look.ensures.sorting (c.loop-item.item + 1) [] (seen-more c.args.graph.now c.loop-item.item (state_of c.loop-item.sorting) c.loop-item.invariant.sorting (omega arith)));
  none = c.in_ok-settle.ensures.none;
}

unmarked : (b : Bool) → beq b false ≡ true → b ≡ false
unmarked false e = refl
unmarked true e = absurd (true≢false (sym e))

marked : (b : Bool) → beq b false ≡ false → b ≡ true
marked true e = refl
marked false e = absurd (true≢false e)

pub returns-then-contains-clause-order : goal.returns-then-contains-clause-order
returns-then-contains-clause-order c =
    let s = c.loop-item.invariant.sorting in
    let e : c.loop-item.item ≡ length c.args.graph.now = omega arith in
    let h = c.if-contains.ensures.cases in
    let p = s.shape.placed in
    let l : h.0 < length c.loop-item.sorting.placed.items = omega (arith, h.1, ap length c.deref.ensures.value) in
    let u : is_placed c.loop-item.sorting.placed.items h.0 ≡ false = ap (λ ps. slice_index_or ps h.0 false) (sym c.deref.ensures.value) ∙ unmarked (slice_index_or c.deref.result.now h.0 false) (h.2 false) in
    ends-in-cycle c.args.graph.now (state_of c.loop-item.sorting) c.requires.items (subst (λ n. IsSorting c.args.graph.now n [] (state_of c.loop-item.sorting)) e s) c.loop-item.invariant.none h.0 (omega (arith, l, p)) u

pub returns-clause-order : goal.returns-clause-order
returns-clause-order c =
    let s = c.loop-item.invariant.sorting in
    let e : c.loop-item.item ≡ length c.args.graph.now = omega arith in
    let p = s.shape.placed in
    ends-in-order c.args.graph.now (state_of c.loop-item.sorting) (subst (λ n. IsSorting c.args.graph.now n [] (state_of c.loop-item.sorting)) e s)
    (λ i l. let w : i < length c.deref.result.now = omega (arith, l, p, ap length c.deref.ensures.value) in
    ap (λ ps. slice_index_or ps i false) (sym c.deref.ensures.value) ∙ marked (slice_index_or c.deref.result.now i false) (c.if-contains.ensures.cases i false (omega arith) w))

pub returns-clause-none : goal.returns-clause-none
returns-clause-none c =
    let s = c.loop-item.invariant.sorting in
    let e : c.loop-item.item ≡ length c.args.graph.now = omega arith in
    let p = s.shape.placed in
    order-acyclic c.args.graph.now c.loop-item.sorting.order.items c.requires.items (ends-in-order c.args.graph.now (state_of c.loop-item.sorting) (subst (λ n. IsSorting c.args.graph.now n [] (state_of c.loop-item.sorting)) e s)
    (λ i l. let w : i < length c.deref.result.now = omega (arith, l, p, ap length c.deref.ensures.value) in
    ap (λ ps. slice_index_or ps i false) (sym c.deref.ensures.value) ∙ marked (slice_index_or c.deref.result.now i false) (c.if-contains.ensures.cases i false (omega arith) w)))
