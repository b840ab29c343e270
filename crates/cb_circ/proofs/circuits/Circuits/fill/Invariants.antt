use Rattle.cb_circ.specs.View.{module_view}
use Rattle.cb_circ.proofs.Filling.{Filling}
use Rattle.cb_circ.proofs.circuits.Circuits.fill.Given as goal

abbrev pub invariant-loop-at : goal.invariant-loop-at
invariant-loop-at l = Filling l.self.flats (module_view l.raw) l.initial.netlist l.netlist l.at
