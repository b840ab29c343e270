use Rattle.std.proofs.Common.{◌≡◌, ℕ, ◌<◌, length, get_or}
use Rattle.cb_levels.proofs.levels.Given as goal

abbrev pub invariant-loop-level : goal.invariant-loop-level
invariant-loop-level l = record {
  long : length l.levels.items ≡ length l.order;
  at : (k : ℕ) → k < l.level → get_or l.levels.items (get_or l.order k 0) 0 ≡ k;
}
