use Rattle.std.proofs.Common.{◌+◌, ◌≤◌, length, take}
use Rattle.cb_ops.specs.Ops.{Grows}
use Rattle.cb_project.specs.Renaming.{AreImages}
use Rattle.cb_project.proofs.renaming.parameters.Given as goal

abbrev pub invariant-loop-i : goal.invariant-loop-i
invariant-loop-i l = record {
  images : AreImages l.ops.triples (take l.i l.names.entries) l.images.items;
  grows : Grows l.fn.ops l.ops;
  room : length l.ops.triples ≤ length l.fn.ops.triples + l.i;
}
