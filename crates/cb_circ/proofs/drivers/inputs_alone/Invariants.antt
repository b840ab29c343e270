use Rattle.std.proofs.Common.{◌≡◌, ◌<◌, ℕ, get_or, length}
use Rattle.cb_circ.proofs.drivers.inputs_alone.Given as goal

abbrev pub invariant-loop-input : goal.invariant-loop-input
invariant-loop-input l = record {
  long : length l.drivers.items ≡ l.nets;
  so : (k : ℕ) → k < l.input → get_or l.drivers.items k 0 ≡ k;
}
