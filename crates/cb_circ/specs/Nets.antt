-- The nets of a circuit.
use Rattle.std.specs.Prelude.{◌<◌}
use Rattle.cb_model.specs.declared.Circuit.{Circuit}
use Rattle.cb_model.specs.Bits.{Each}

-- each output and each pin of a gate is a net of the circuit
pub record HasNets (c : Circuit) : Type 0 where
  pub outputs : Each (λ n. n < c.nets) c.outputs
  pub pins : Each (λ g. Each (λ n. n < c.nets) g.ins) c.gates
