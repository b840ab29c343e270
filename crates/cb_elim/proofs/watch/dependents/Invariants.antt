use Rattle.std.proofs.Common.{ℕ, ◌<◌, map, take}
use Rattle.cb_ops.specs.Support.{IsListed}
use Rattle.cb_trail.specs.Uses.{IsUsed}
use Rattle.cb_elim.proofs.watch.dependents.Given as goal

abbrev pub invariant-loop-level : goal.invariant-loop-level
invariant-loop-level l = record {
  below : (x : ℕ) → IsListed l.found.keys x → x < l.below;
  whole : (k x t : ℕ) → IsListed (map (λ i. i.0) (take l.level-index l.images)) k → x < l.below → IsUsed l.uses k x t → IsListed l.found.keys x;
}
