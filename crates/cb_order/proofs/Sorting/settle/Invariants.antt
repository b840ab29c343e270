use Rattle.std.proofs.Common.{ℕ, [], sum_by, if◌then◌else◌}
use Rattle.cb_order.specs.Sorting.{IsSorting, state_of}
use Rattle.cb_order.proofs.Sorting.settle.Given as goal

abbrev pub invariant-loop-item : goal.invariant-loop-item
invariant-loop-item l = record {
  some : (seen : ℕ) × IsSorting l.graph seen [] (state_of l.self);
  sorting : (seen : ℕ) → IsSorting l.graph seen [] (state_of l.fn.self) → IsSorting l.graph seen [] (state_of l.self);
}

abbrev pub decreases-loop-item : goal.decreases-loop-item
decreases-loop-item l = sum_by (λ b. if b then 0 else 1) l.self.placed.items
