use Rattle.std.proofs.Common.{◌≡◌, ◌<◌, length, Some, slice_get, option_map, sym, subst}
use Rattle.cb_elim.specs.Store.{Seen as Booleans}
use Rattle.cb_heap.specs.Heap.{Terms, shown_as}
use Rattle.cb_heap.specs.Links.{IsLast}
use Rattle.cb_heap.specs.declared.Cell.TheVariants as shown
use Rattle.cb_unify.proofs.Slots.{has-slot}
use Rattle.cb_diagram_cases.proofs.state_seen.bit.Goals as goal

pub value-requires-clause-slot : goal.value-requires-clause-slot
value-requires-clause-slot c =
    let r = c.args.r.0 in
    let e = c.last.result.0 in
    let x = c.in-Leaf.slot in
    let last = subst (λ (t : Terms). IsLast t.cells r e) c.heap-2.ensures c.last.ensures in
    let shows = subst (λ (t : Terms). Some (shown.Leaf x) ≡ option_map shown_as (slice_get t.cells e)) c.heap.ensures c.in-Leaf.ensures in
    let h = has-slot c.args.state.now c.requires.state r e x last shows in
    subst (λ (b : Booleans). x < length b.slots) (sym c.store_ref.ensures) h.there
