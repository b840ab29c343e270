use Rattle.std.proofs.Common.{◌≡◌, ℕ, true, drop, slice_set}
use Rattle.cb_order.specs.Sorting.{IsShaped, IsSorting, IsNext, state_of}
use Rattle.cb_order.proofs.Sorting.place.Given as goal

abbrev pub invariant-loop-wait : goal.invariant-loop-wait
invariant-loop-wait l = record {
  shape : IsShaped l.graph (state_of l.self);
  placed : l.self.placed.items ≡ slice_set l.fn.self.placed.items l.fn.item true;
  sorting : (seen : ℕ) → IsNext l.graph seen l.fn.item (state_of l.fn.self) → IsSorting l.graph seen (drop l.wait-index l.wait-items) (state_of l.self);
}
