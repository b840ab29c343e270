use Rattle.std.proofs.Common.{◌≡◌, drop, length}
use Rattle.cb_circ.specs.Marks.{are_marked, AreWithin}
use Rattle.cb_circ.proofs.marks.all_marked.Given as goal

abbrev pub invariant-loop-net : goal.invariant-loop-net
invariant-loop-net l = record {
  within : AreWithin (length l.marks) (drop l.net-index l.nets);
  so : are_marked l.marks l.nets ≡ are_marked l.marks (drop l.net-index l.nets);
}
