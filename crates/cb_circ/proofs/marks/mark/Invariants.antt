use Rattle.std.proofs.Common.{◌≡◌, drop, length}
use Rattle.cb_circ.specs.Marks.{marked, AreWithin}
use Rattle.cb_circ.proofs.marks.mark.Given as goal

abbrev pub invariant-loop-net : goal.invariant-loop-net
invariant-loop-net l = record {
  within : AreWithin (length l.marks) (drop l.net-index l.nets);
  so : marked l.initial.marks l.nets ≡ marked l.marks (drop l.net-index l.nets);
}
