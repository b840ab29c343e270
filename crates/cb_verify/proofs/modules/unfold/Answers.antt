use Rattle.std.proofs.Common.{ap, sym, subst, ◌∙◌}
use Rattle.std.specs.Prelude.{IfOk}
use Rattle.cb_model.specs.declared.Circuit.{Circuit}
use Rattle.cb_model.specs.Bits.{Bits}
use Rattle.cb_model.specs.Circuits.{Outputs}
use Rattle.cb_model.specs.Room.{circuit_pins, flat_pins}
use Rattle.cb_circ.specs.At.{flat_at}
use Rattle.cb_verify.specs.Nodes.{Adds, node_bits}
use Rattle.cb_verify.proofs.Rooms.{unfolds-room, unfolds-cause, unfolds-none}
use Rattle.cb_verify.proofs.modules.unfold.Goals as goal

pub returns-in_err-circuit-clause-room : goal.returns-in_err-circuit-clause-room
returns-in_err-circuit-clause-room c = unfolds-none (flat_pins (flat_at c.args.circuits.now c.args.«module»)) c.args.inputs.now c.args.ops.now

pub unfold_circuit-requires-clause-flattened : goal.unfold_circuit-requires-clause-flattened
unfold_circuit-requires-clause-flattened c = (flat_at c.args.circuits.now c.args.«module», c.in_ok-circuit.ensures.flattened)

pub unfold_circuit-requires-clause-as_many : goal.unfold_circuit-requires-clause-as_many
unfold_circuit-requires-clause-as_many c = c.requires.as_many ∙ sym (ap (λ (k : Circuit). k.inputs) c.in_ok-circuit.ensures.is)

pub returns-clause-outputs : goal.returns-clause-outputs
returns-clause-outputs c =
    subst (λ (k : Circuit). IfOk c.unfold_circuit.result (λ ns. (a : Bits) → Outputs k (node_bits c.args.ops.now.triples c.args.inputs.now a) (node_bits c.unfold_circuit.new.ops.triples ns.items a))) c.in_ok-circuit.ensures.is
    c.unfold_circuit.ensures.outputs

pub returns-clause-room : goal.returns-clause-room
returns-clause-room c =
    unfolds-room (flat_at c.args.circuits.now c.args.«module») c.args.inputs.now c.args.ops.now c.unfold_circuit.new.ops
    (subst (λ (k : Circuit). Adds c.args.ops.now c.unfold_circuit.new.ops (circuit_pins k) c.args.inputs.now) c.in_ok-circuit.ensures.is c.unfold_circuit.ensures.room)

pub returns-clause-cause : goal.returns-clause-cause
returns-clause-cause c = λ stop.
    unfolds-cause (flat_at c.args.circuits.now c.args.«module») c.args.inputs.now c.args.ops.now c.unfold_circuit.new.ops
    (subst (λ (k : Circuit). Adds c.args.ops.now c.unfold_circuit.new.ops (circuit_pins k) c.args.inputs.now) c.in_ok-circuit.ensures.is c.unfold_circuit.ensures.room)
    c.unfold_circuit.ensures.grows (c.unfold_circuit.ensures.rose stop) (c.unfold_circuit.ensures.full stop)
