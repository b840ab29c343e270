use Rattle.std.proofs.Common.{◌≡◌, drop, length}
use Rattle.cb_circ.specs.Marks.{AreWithin}
use Rattle.cb_circ.specs.Driving.{set_all}
use Rattle.cb_circ.proofs.drivers.write.Given as goal

abbrev pub invariant-loop-at : goal.invariant-loop-at
invariant-loop-at l = record {
  within : AreWithin (length l.values) (drop l.at l.numbers);
  so : set_all l.initial.values l.numbers l.given ≡ set_all l.values (drop l.at l.numbers) (drop l.at l.given);
}
