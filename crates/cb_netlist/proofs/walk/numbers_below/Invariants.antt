use Rattle.std.proofs.Common.{◌≡◌}
use Rattle.cb_model.specs.Bits.{numbers}
use Rattle.cb_netlist.proofs.walk.numbers_below.Given as goal

abbrev pub invariant-loop-number : goal.invariant-loop-number
invariant-loop-number l = l.numbers.items ≡ numbers l.number
