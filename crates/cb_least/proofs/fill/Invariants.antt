use Rattle.std.proofs.Common.{◌≡◌, ℕ, ◌<◌, ◌≤◌, true, false, get_or}
use Rattle.cb_least.proofs.fill.Given as goal

abbrev pub invariant-loop-input : goal.invariant-loop-input
invariant-loop-input l = record {
  inside : (i : ℕ) → l.from ≤ i → i < l.input → get_or l.bits i false ≡ true;
  below : (i : ℕ) → i < l.from → get_or l.bits i false ≡ get_or l.fn.bits i false;
  above : (i : ℕ) → l.input ≤ i → get_or l.bits i false ≡ get_or l.fn.bits i false;
}
