use Rattle.std.proofs.Common.{ℕ, ◌≤◌, take}
use Rattle.cb_ops.specs.Support.{IsListed}
use Rattle.cb_trail.specs.Uses.{IsUsed}
use Rattle.cb_elim.specs.Watch.{KeepsUses}
use Rattle.cb_elim.proofs.watch.add_uses.Given as goal

abbrev pub invariant-loop-level : goal.invariant-loop-level
invariant-loop-level l = record {
  kept : KeepsUses l.initial.uses l.uses;
  used : (k : ℕ) → IsListed (take l.level-index l.levels) k → l.constants ≤ k → (IsListed l.before k → ⊥) → IsUsed l.uses k l.slot l.since;
}
