use Rattle.std.proofs.Common.{◌≡◌, []}
use Rattle.cb_order.specs.Sorting.{IsSorting, state_of}
use Rattle.cb_order.proofs.order.Given as goal

abbrev pub invariant-loop-item : goal.invariant-loop-item
invariant-loop-item l = record {
  sorting : IsSorting l.graph l.item [] (state_of l.sorting);
  none : l.sorting.ready.keys ≡ [];
}
