use Rattle.std.proofs.Common.{◌≡◌, drop, length}
use Rattle.cb_circ.specs.Marks.{AreWithin}
use Rattle.cb_circ.specs.Owners.{owned}
use Rattle.cb_circ.proofs.owners.own.Given as goal

abbrev pub invariant-loop-net : goal.invariant-loop-net
invariant-loop-net l = record {
  within : AreWithin (length l.owners) (drop l.net-index l.nets);
  so : owned l.initial.owners l.nets l.fn.instance ≡ owned l.owners (drop l.net-index l.nets) l.fn.instance;
}
