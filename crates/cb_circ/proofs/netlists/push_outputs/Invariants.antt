use Rattle.std.proofs.Common.{◌≡◌, drop, length}
use Rattle.cb_circ.specs.Marks.{AreWithin}
use Rattle.cb_circ.specs.Driving.{values_at, with_outputs}
use Rattle.cb_circ.proofs.netlists.push_outputs.Given as goal

abbrev pub invariant-loop-net : goal.invariant-loop-net
invariant-loop-net l = record {
  within : AreWithin (length l.drivers) (drop l.net-index l.nets);
  so : with_outputs l.initial.netlist (values_at l.drivers l.nets) ≡ with_outputs l.netlist (values_at l.drivers (drop l.net-index l.nets));
}
