use Rattle.std.proofs.Common.{◌+◌, ◌<◌, sym, ap, subst, length, ◌∙◌}
use Rattle.cb_model.specs.declared.Circuit.{Circuit}
use Rattle.cb_model.specs.Circuits.{Outputs}
use Rattle.cb_model.specs.Room.{circuit_pins, room_v}
use Rattle.cb_circ.specs.At.{module_at, flat_at}
use Rattle.cb_verify.specs.Modules.{circuit_at}
use Rattle.cb_verify.proofs.Shaped.{circuit-inputs, circuit-outputs, circuit-room, right-of}
use Rattle.cb_verify.proofs.modules.with_module.Goals as goal

pub compared-requires-clause-flattened : goal.compared-requires-clause-flattened
compared-requires-clause-flattened c = (flat_at c.args.circuits.now c.args.m, c.in_ok-one.ensures.flattened)

pub compared-requires-clause-fits : goal.compared-requires-clause-fits
compared-requires-clause-fits c = (
  (flat_at c.args.circuits.now c.args.n, c.in_ok-two.ensures.flattened),
  circuit-inputs c.args.circuits.now c.requires.flats c.args.n c.in_ok-two.two c.in_ok-two.ensures.is ∙ sym c.requires.inputs
      ∙ sym (circuit-inputs c.args.circuits.now c.requires.flats c.args.m c.in_ok-one.one c.in_ok-one.ensures.is),
)

pub compared-requires-clause-as_many : goal.compared-requires-clause-as_many
compared-requires-clause-as_many c =
    circuit-outputs c.args.circuits.now c.requires.flats c.args.n c.in_ok-two.two c.in_ok-two.ensures.is ∙ sym c.requires.outputs
    ∙ sym (circuit-outputs c.args.circuits.now c.requires.flats c.args.m c.in_ok-one.one c.in_ok-one.ensures.is)

pub returns-clause-verdict : goal.returns-clause-verdict
returns-clause-verdict c =
    right-of c.in_ok-one.one (circuit_at c.args.circuits.now c.args.m) (Outputs c.in_ok-two.two) (Outputs (circuit_at c.args.circuits.now c.args.n)) c.in_ok-one.ensures.is (ap Outputs c.in_ok-two.ensures.is) c.compared.result
    c.compared.ensures.verdict

pub returns-clause-nodes : goal.returns-clause-nodes
returns-clause-nodes c = λ stop.
    subst
    (λ (k : Circuit). c.args.budget < room_v (circuit_pins (circuit_at c.args.circuits.now c.args.m) + circuit_pins k) 0 (length (module_at c.args.circuits.now c.args.m).outputs) (length (module_at c.args.circuits.now c.args.m).inputs))
    c.in_ok-two.ensures.is
    (circuit-room c.args.circuits.now c.requires.flats c.args.m c.in_ok-one.one c.in_ok-one.ensures.is c.args.budget (circuit_pins c.in_ok-two.two) (c.compared.ensures.nodes stop))
