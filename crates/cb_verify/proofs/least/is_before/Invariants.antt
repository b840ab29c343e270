use Rattle.std.proofs.Common.{◌≡◌, drop, nat_lt}
use Rattle.cb_model.specs.Bits.{weight}
use Rattle.cb_verify.proofs.least.is_before.Given as goal

abbrev pub invariant-loop-i : goal.invariant-loop-i
invariant-loop-i l = nat_lt (weight l.one) (weight l.two) ≡ nat_lt (weight (drop l.i l.one)) (weight (drop l.i l.two))
