use Rattle.std.proofs.Common.{◌≡◌, ◌++◌, drop, length}
use Rattle.cb_circ.specs.Marks.{AreWithin}
use Rattle.cb_circ.specs.Owners.{wanted}
use Rattle.cb_circ.proofs.owners.want.Given as goal

abbrev pub invariant-loop-net : goal.invariant-loop-net
invariant-loop-net l = record {
  within : AreWithin (length l.owners) (drop l.net-index l.nets);
  so : l.initial.needs.items ++ wanted l.owners l.nets ≡ l.needs.items ++ wanted l.owners (drop l.net-index l.nets);
}
