use Rattle.std.proofs.Common.{rules, arith, ◌≡◌, ◌<◌, ◌≤◌, length, Some, None, refl, sym, subst}
use Rattle.std.specs.Prelude.{◌≢◌, slice_get, get_or}
use Rattle.std.proofs.lemmas.Bool.{true≢false}
use Rattle.std.proofs.lemmas.Option.{slice_get_within, slice_get-get_or}
use Rattle.cb_heap.specs.declared.Stored.TheVariants as cell
use Rattle.cb_heap.specs.Below.{IsBelow}
use Rattle.cb_heap.proofs.Search.{child-names, meets-as, meets-one, past-none, searched, searching-at, searching-bound, searching-start, searching-step}
use Rattle.cb_heap.proofs.below.is_below.Goals as goal

pub cells-init : goal.cells-init
cells-init c = searching-start c.args.cells.now c.args.from (λ n. n ≢ c.args.to) c.new-met.result.keys c.insert.new.self.keys c.requires.there c.new-met.ensures.empty
    (meets-one c.args.from c.new-met.result.keys c.insert.new.self.keys c.in_ok-insert.ensures.keys c.in_ok-insert.ensures.updates.0 c.insert.ensures.unique)

pub bounds-cells-at : goal.bounds-cells-at
bounds-cells-at c =
    let at : slice_get c.cells.met.keys c.cells.done ≡ Some c.in-Some.at = search rules in
    (searching-at c.args.cells.now c.args.from (λ n. n ≢ c.args.to) c.cells.met.keys c.cells.done c.in-Some.at c.cells.invariant at).1

pub offset_bounds-cells-at : goal.offset_bounds-cells-at
offset_bounds-cells-at c =
    let at : slice_get c.cells.met.keys c.cells.done ≡ Some c.in-Some.at = search rules in
    let less : c.in-Some.at < length c.args.cells.now = (searching-at c.args.cells.now c.args.from (λ n. n ≢ c.args.to) c.cells.met.keys c.cells.done c.in-Some.at c.cells.invariant at).1 in
    search rules

pub returns-then-at-to : goal.returns-then-at-to
returns-then-at-to c =
    let at : slice_get c.cells.met.keys c.cells.done ≡ Some c.in-Some.at = search rules in (
      λ _. subst (λ x. IsBelow c.args.cells.now c.args.from x) c.if-at-to.true
          (searching-at c.args.cells.now c.args.from (λ n. n ≢ c.args.to) c.cells.met.keys c.cells.done c.in-Some.at c.cells.invariant at).0,
      λ _. refl,
    )

pub meet-requires-clause-small : goal.meet-requires-clause-small
meet-requires-clause-small c j n =
    let at : slice_get c.cells.met.keys c.cells.done ≡ Some c.in-Some.at = search rules in
    let less : c.in-Some.at < length c.args.cells.now = (searching-at c.args.cells.now c.args.from (λ n. n ≢ c.args.to) c.cells.met.keys c.cells.done c.in-Some.at c.cells.invariant at).1 in
    let w : j < length c.args.cells.now = c.requires.linked.within c.in-Some.at j (_, slice_get-get_or c.args.cells.now c.in-Some.at (cell.Leaf 0) less, n) in
    omega (arith, w, c.requires.small)

pub overflow_add-done : goal.overflow_add-done
overflow_add-done c =
    let at : slice_get c.cells.met.keys c.cells.done ≡ Some c.in-Some.at = search rules in
    let w : c.cells.done < length c.cells.met.keys = slice_get_within c.cells.met.keys c.cells.done c.in-Some.at at in
    let b : length c.cells.met.keys ≤ length c.args.cells.now = searching-bound c.args.cells.now c.args.from (λ n. n ≢ c.args.to) c.cells.met.keys c.cells.done c.cells.invariant in
    omega (arith, w, b, c.requires.small)

pub cells-smaller : goal.cells-smaller
cells-smaller c =
    let at : slice_get c.cells.met.keys c.cells.done ≡ Some c.in-Some.at = search rules in
    let w : c.cells.done < length c.cells.met.keys = slice_get_within c.cells.met.keys c.cells.done c.in-Some.at at in
    let b : length c.cells.met.keys ≤ length c.args.cells.now = searching-bound c.args.cells.now c.args.from (λ n. n ≢ c.args.to) c.cells.met.keys c.cells.done c.cells.invariant in
    omega (arith, w, b)

pub cells-preserved : goal.cells-preserved
cells-preserved c =
    let at : slice_get c.cells.met.keys c.cells.done ≡ Some c.in-Some.at = search rules in
    let less : c.in-Some.at < length c.args.cells.now = (searching-at c.args.cells.now c.args.from (λ n. n ≢ c.args.to) c.cells.met.keys c.cells.done c.in-Some.at c.cells.invariant at).1 in
    let is : slice_get c.args.cells.now c.in-Some.at ≡ Some (get_or c.args.cells.now c.in-Some.at (cell.Leaf 0)) = slice_get-get_or c.args.cells.now c.in-Some.at (cell.Leaf 0) less in
    searching-step c.args.cells.now c.requires.linked c.args.from (λ n. n ≢ c.args.to) c.cells.met.keys c.meet.new.met.keys c.cells.done c.in-Some.at c.cells.invariant at c.if-at-to.false
    (meets-as _ _ c.cells.met.keys c.meet.new.met.keys (child-names c.args.cells.now c.in-Some.at _ is) c.in_ok-meet.ensures.meets)

pub returns : goal.returns
returns c =
    let none : slice_get c.cells.met.keys c.cells.done ≡ None = search rules in (
      λ e. absurd (true≢false (sym e)),
      λ b. absurd (searched c.args.cells.now c.args.from c.args.to (λ n. n ≢ c.args.to) c.cells.met.keys c.cells.done c.cells.invariant (past-none c.cells.met.keys c.cells.done none) b refl),
    )
