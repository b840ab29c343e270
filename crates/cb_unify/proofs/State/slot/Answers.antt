use Rattle.std.proofs.Common.{◌≡◌, Some, sym, subst}
use Rattle.std.specs.Prelude.{slice_get}
use Rattle.std.specs.Option.{option_map}
use Rattle.cb_heap.specs.Heap.{shown_as}
use Rattle.cb_heap.specs.Links.{IsLast}
use Rattle.cb_unify.specs.State.{Seen, IsState}
use Rattle.cb_unify.specs.Growth.{HasSlot}
use Rattle.cb_unify.proofs.Inside.{seen}
use Rattle.cb_unify.proofs.Slots.{has-slot, not-leaf}
use Rattle.cb_unify.proofs.State.slot.Goals as goal

pub returns-in-Leaf-clause-slot : goal.returns-in-Leaf-clause-slot
returns-in-Leaf-clause-slot c =
    subst (λ (s : Seen). HasSlot s c.args.r.0 c.in-Leaf.slot) c.self.view_is
    (has-slot (seen c.self.inside) (subst IsState (sym c.self.view_is) c.requires.state) c.args.r.0 c.last-end.result.0 c.in-Leaf.slot c.last-end.ensures c.in-Leaf.ensures)

pub returns-in_default : goal.returns-in_default
returns-in_default c = record {
  slot = tt;
  some = λ t fits at e. not-leaf t c.args.self.now.heap.sorts c.args.self.now.heap.cells c.args.r.0 c.last-end.result.0 c.cell.result fits
      (subst (λ (s : Seen). IsLast s.heap.cells c.args.r.0 c.last-end.result.0) c.self.view_is c.last-end.ensures)
      (subst (λ (s : Seen). Some c.cell.result ≡ option_map shown_as (slice_get s.heap.cells c.last-end.result.0)) c.self.view_is c.cell.ensures) at (λ x d. c.in_default.not-Leaf x d);
}
