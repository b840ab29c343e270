use Rattle.std.proofs.Common.{◌≡◌, ℕ, ◌≤◌, nat_eq, Some, drop}
use Rattle.indexmap.specs.IndexMap.{get}
use Rattle.cb_elim.specs.Store.{stands_in}
use Rattle.cb_project.proofs.renaming.levels_of.Given as goal

abbrev pub invariant-loop-entry : goal.invariant-loop-entry
invariant-loop-entry l = record {
  known : (x v : ℕ) → get nat_eq l.levels x ≡ Some v → stands_in l.free v ≡ Some x;
  stands : (k : ℕ) → l.next ≤ k → stands_in l.free k ≡ stands_in (drop l.entry-index l.free) k;
}
