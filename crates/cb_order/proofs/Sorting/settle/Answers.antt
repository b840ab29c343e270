use Rattle.std.proofs.Common.{◌≡◌, ℕ, [], sym, subst, rules}
use Rattle.std.specs.Ordering.{nat_cmp}
use Rattle.std.specs.BTreeMap.Range.{IsLtBy}
use Rattle.std.proofs.lemmas.List.Elements.{All-contains}
use Rattle.cb_order.specs.Sorting.{state_of, IsSorting}
use Rattle.cb_order.proofs.Looks.{less-key}
use Rattle.cb_order.proofs.Steps.{popped, marks-left, in_placed}
use Rattle.cb_order.proofs.Sorting.settle.Goals as goal

pub place-requires-clause-next : goal.place-requires-clause-next
place-requires-clause-next c =
    let s = c.loop-item.invariant.some in
    (s.0, popped c.args.graph.now s.0 c.in-Some.item c.pop_first.new.self.keys (state_of c.loop-item.self) s.1 c.in-Some.ensures.removal (λ i h. less-key c.in-Some.item i (All-contains (IsLtBy nat_cmp c.in-Some.item) c.pop_first.new.self.keys i c.in-Some.ensures.all_above h)))

pub loop-item-smaller : goal.loop-item-smaller
loop-item-smaller c =
    let s = c.loop-item.invariant.some in
    let n = popped c.args.graph.now s.0 c.in-Some.item c.pop_first.new.self.keys (state_of c.loop-item.self) s.1 c.in-Some.ensures.removal (λ i h. less-key c.in-Some.item i (All-contains (IsLtBy nat_cmp c.in-Some.item) c.pop_first.new.self.keys i c.in-Some.ensures.all_above h)) in
    rw c.in_ok-place.ensures.placed (marks-left c.loop-item.self.placed.items c.in-Some.item (in_placed c.args.graph.now c.requires.items s.0 c.in-Some.item _ n) n.unplaced)

pub loop-item-preserved : goal.loop-item-preserved
loop-item-preserved c =
    let s = c.loop-item.invariant.some in
    let next = λ (seen : ℕ) (m : IsSorting c.args.graph.now seen [] (state_of c.loop-item.self)). popped c.args.graph.now seen c.in-Some.item c.pop_first.new.self.keys (state_of c.loop-item.self) m c.in-Some.ensures.removal (λ i h. less-key c.in-Some.item i (All-contains (IsLtBy nat_cmp c.in-Some.item) c.pop_first.new.self.keys i c.in-Some.ensures.all_above h)) in
    record {
      some = (s.0, c.in_ok-place.ensures.sorting s.0 (next s.0 s.1));
      sorting = λ seen m. c.in_ok-place.ensures.sorting seen (next seen (c.loop-item.invariant.sorting seen m));
    }

pub returns-clause-sorting : goal.returns-clause-sorting
returns-clause-sorting c seen m =
    let same : c.pop_first.new.self.keys ≡ c.loop-item.self.ready.keys = search (rules, c.in_default.ensures.unchanged) in
    let s = state_of c.loop-item.self in
    subst (λ ks. IsSorting c.args.graph.now seen [] (record { order = s.order; placed = s.placed; waits = s.waits; ready = ks })) (sym same) (c.loop-item.invariant.sorting seen m)
