use Rattle.std.proofs.Common.{◌≤◌, length}
use Rattle.cb_levels.proofs.depths.deepest.Given as goal

abbrev pub invariant-loop-i : goal.invariant-loop-i
invariant-loop-i l = l.place ≤ length l.nets
