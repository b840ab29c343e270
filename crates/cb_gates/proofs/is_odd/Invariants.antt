use Rattle.std.proofs.Common.{◌≡◌, drop}
use Rattle.cb_model.specs.Bits.{xor, odd_of}
use Rattle.cb_gates.proofs.is_odd.Given as goal

abbrev pub invariant-loop-bit : goal.invariant-loop-bit
invariant-loop-bit l = xor l.odd (odd_of (drop l.bit-index l.bits)) ≡ odd_of l.bits
