use Rattle.std.proofs.Common.{◌≡◌, map, take}
use Rattle.cb_flat.specs.Walk.{placed_net}
use Rattle.cb_netlist.proofs.walk.Frame.pins.Given as goal

abbrev pub invariant-loop-pin : goal.invariant-loop-pin
invariant-loop-pin l = l.nets.items ≡ map (placed_net l.netlist.inputs l.whole l.self.base l.self.nets.items) (take l.pin-index l.pins)
