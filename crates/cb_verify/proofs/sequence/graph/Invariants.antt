use Rattle.std.proofs.Common.{◌≡◌, ◌++◌, map, drop}
use Rattle.cb_verify.specs.Order.{gate_needs, own_nets}
use Rattle.cb_verify.proofs.sequence.graph.Given as goal

abbrev pub invariant-loop-gate : goal.invariant-loop-gate
invariant-loop-gate l = gate_needs l.circuit ≡ l.graph ++ map (λ g. own_nets l.circuit.inputs g.ins) (drop l.gate-index l.circuit.gates)
