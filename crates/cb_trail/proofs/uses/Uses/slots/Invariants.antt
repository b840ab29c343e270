use Rattle.std.proofs.Common.{ℕ, ◌<◌, ◌⊎◌}
use Rattle.cb_trail.specs.Uses.{IsIn}
use Rattle.cb_trail.proofs.Linked.{Met}
use Rattle.cb_trail.proofs.uses.Uses.slots.Given as goal

abbrev pub invariant-loop-at : goal.invariant-loop-at
invariant-loop-at l = record {
  met : Met l.self-inside.uses.items l.level l.below l.at l.into.keys;
  kept : (x : ℕ) → IsIn l.initial.into.keys x → IsIn l.into.keys x;
  below : (x : ℕ) → IsIn l.into.keys x → (x < l.below) ⊎ IsIn l.initial.into.keys x;
}

abbrev pub decreases-loop-at : goal.decreases-loop-at
decreases-loop-at l = l.at
