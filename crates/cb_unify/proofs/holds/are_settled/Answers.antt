use Rattle.std.proofs.Common.{rules, arith, ◌≡◌, Some, None, refl, sym, ap, ◌∙◌}
use Rattle.std.specs.Prelude.{slice_get}
use Rattle.std.proofs.lemmas.Bool.{true≢false}
use Rattle.cb_heap.proofs.Search.{meets-one, searching-start}
use Rattle.cb_unify.proofs.Settled.{SettlesAt, all-settled, left-at, settled-at, settled-step}
use Rattle.cb_unify.proofs.holds.are_settled.Goals as goal

pub cells-init : goal.cells-init
cells-init c =
    searching-start c.args.heap.now.cells c.args.r.0 (SettlesAt c.args.store.now c.args.when c.args.heap.now.cells) c.new-met.result.keys c.insert.new.self.keys c.requires.there c.new-met.ensures.empty
    (meets-one c.args.r.0 c.new-met.result.keys c.insert.new.self.keys c.in_ok-insert.ensures.keys c.in_ok-insert.ensures.updates.0 c.insert.ensures.unique)

pub stored-requires : goal.stored-requires
stored-requires c =
    let at : slice_get c.cells.met.keys c.cells.done ≡ Some c.in-Some.at = search rules in
    (left-at c.args.store.now c.args.when c.args.heap.now.cells c.args.r.0 c.cells.met.keys c.cells.done c.cells.invariant c.in-Some.at at).0

pub settles-requires-clause-slot : goal.settles-requires-clause-slot
settles-requires-clause-slot c x e = c.requires.slots c.in-Some.at x (c.stored.ensures ∙ ap Some e)

pub returns-in-Ok-false : goal.returns-in-Ok-false
returns-in-Ok-false c =
    let at : slice_get c.cells.met.keys c.cells.done ≡ Some c.in-Some.at = search rules in (
      λ e. absurd (true≢false (sym e)),
      λ all. absurd (true≢false (sym (c.in-Ok-false.ensures.1 (settled-at c.args.store.now c.args.when c.args.heap.now.cells c.args.r.0 c.cells.met.keys c.cells.done c.cells.invariant c.in-Some.at c.stored.result at c.stored.ensures all)) ∙ c.in-Ok-false.field-0-test)),
    )

pub meet-requires-clause-there : goal.meet-requires-clause-there
meet-requires-clause-there c =
    let at : slice_get c.cells.met.keys c.cells.done ≡ Some c.in-Some.at = search rules in
    (left-at c.args.store.now c.args.when c.args.heap.now.cells c.args.r.0 c.cells.met.keys c.cells.done c.cells.invariant c.in-Some.at at).0

pub overflow_add-done : goal.overflow_add-done
overflow_add-done c =
    let at : slice_get c.cells.met.keys c.cells.done ≡ Some c.in-Some.at = search rules in
    let b = (left-at c.args.store.now c.args.when c.args.heap.now.cells c.args.r.0 c.cells.met.keys c.cells.done c.cells.invariant c.in-Some.at at).1 in
    let n = c.len-count.ensures.number in
    let m = c.len-count.ensures.small in
    omega (arith, b, n, m)

pub cells-smaller : goal.cells-smaller
cells-smaller c =
    let at : slice_get c.cells.met.keys c.cells.done ≡ Some c.in-Some.at = search rules in
    let b = (left-at c.args.store.now c.args.when c.args.heap.now.cells c.args.r.0 c.cells.met.keys c.cells.done c.cells.invariant c.in-Some.at at).1 in
    omega (arith, b)

pub cells-preserved : goal.cells-preserved
cells-preserved c =
    let at : slice_get c.cells.met.keys c.cells.done ≡ Some c.in-Some.at = search rules in
    settled-step c.args.store.now c.args.when c.args.heap.now.cells c.args.r.0 c.cells.met.keys c.cells.done c.cells.invariant c.requires.heap.linked c.meet.new.met.keys c.in-Some.at c.stored.result at c.stored.ensures
    (c.in-Ok-true.ensures.0 c.in-Ok-true.field-0-test) c.in_ok-meet.ensures.meets

pub returns : goal.returns
returns c =
    let none : slice_get c.cells.met.keys c.cells.done ≡ None = search rules in (
      (λ e. all-settled c.args.store.now c.args.when c.args.heap.now.cells c.args.r.0 c.cells.met.keys c.cells.done c.cells.invariant none),
      (λ all. refl),
    )

pub meet-requires-clause-unique : goal.meet-requires-clause-unique
meet-requires-clause-unique c = c.cells.invariant.unique
