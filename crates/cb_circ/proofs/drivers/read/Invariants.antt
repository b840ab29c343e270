use Rattle.std.proofs.Common.{◌≡◌, ◌++◌, drop, length}
use Rattle.cb_circ.specs.Marks.{AreWithin}
use Rattle.cb_circ.specs.Driving.{values_at}
use Rattle.cb_circ.proofs.drivers.read.Given as goal

abbrev pub invariant-loop-number : goal.invariant-loop-number
invariant-loop-number l = record {
  within : AreWithin (length l.values) (drop l.number-index l.numbers);
  so : l.initial.found.items ++ values_at l.values l.numbers ≡ l.found.items ++ values_at l.values (drop l.number-index l.numbers);
}
