use Rattle.std.proofs.Common.{take}
use Rattle.cb_circ.specs.View.{module_view}
use Rattle.cb_circ.specs.Driving.{AreDrivers}
use Rattle.cb_circ.proofs.circuits.Circuits.drivers.Given as goal

abbrev pub invariant-loop-instance : goal.invariant-loop-instance
invariant-loop-instance l = AreDrivers l.self.flats (module_view l.raw) l.raw.nets (take l.instance-index l.order) l.drivers.items
