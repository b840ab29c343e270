use Rattle.std.proofs.Common.{◌⊎◌, ℕ, ◌≤◌, take}
use Rattle.cb_ops.specs.Support.{IsListed}
use Rattle.cb_elim.proofs.parts.gather.Given as goal

abbrev pub invariant-loop-level : goal.invariant-loop-level
invariant-loop-level l = record {
  kept : (k : ℕ) → IsListed l.initial.levels.keys k → IsListed l.levels.keys k;
  from : (k : ℕ) → IsListed l.levels.keys k → IsListed l.initial.levels.keys k ⊎ ((l.constants ≤ k) × IsListed l.support k);
  whole : (k : ℕ) → IsListed (take l.level-index l.support) k → l.constants ≤ k → IsListed l.levels.keys k;
}
