use Rattle.std.proofs.Common.{◌≡◌, ◌++◌, map, drop}
use Rattle.cb_circ.specs.Owners.{wanted}
use Rattle.cb_circ.proofs.owners.graph.Given as goal

abbrev pub invariant-loop-instance : goal.invariant-loop-instance
invariant-loop-instance l = map (wanted l.owners.items) l.raw.ins ≡ l.graph ++ map (wanted l.owners.items) (drop l.instance l.raw.ins)
