use Rattle.std.proofs.Common.{◌≡◌, ◌+◌, ◌++◌, drop, map}
use Rattle.cb_flat.specs.Walk.{placed_net}
use Rattle.cb_circ.specs.Marks.{AreWithin}
use Rattle.cb_circ.proofs.drivers.module_outs.Given as goal

abbrev pub invariant-loop-net : goal.invariant-loop-net
invariant-loop-net l = record {
  within : AreWithin (l.part.inputs + l.part.gates) (drop l.net-index l.nets);
  so : l.initial.found.items ++ map (placed_net l.part.inputs l.inputs l.first l.pins) l.nets ≡ l.found.items ++ map (placed_net l.part.inputs l.inputs l.first l.pins) (drop l.net-index l.nets);
}
