use Rattle.std.proofs.Common.{refl, sum, map, sym, ◌∙◌}
use Rattle.cb_model.specs.Circuits.{BySpec}
use Rattle.cb_model.specs.Room.{expr_size}
use Rattle.cb_circ.specs.At.{flat_at}
use Rattle.cb_verify.specs.Modules.{circuit_at}
use Rattle.cb_verify.proofs.Shaped.{circuit-outputs, circuit-scope, circuit-room, right-of}
use Rattle.cb_verify.proofs.modules.with_exprs.Goals as goal

pub compared-requires-clause-flattened : goal.compared-requires-clause-flattened
compared-requires-clause-flattened c = (flat_at c.args.circuits.now c.args.m, c.in_ok-circuit.ensures.flattened)

pub compared-requires-clause-fits : goal.compared-requires-clause-fits
compared-requires-clause-fits c = circuit-scope c.args.circuits.now c.requires.flats c.args.m c.in_ok-circuit.circuit c.in_ok-circuit.ensures.is c.args.exprs.now c.requires.scope

pub compared-requires-clause-as_many : goal.compared-requires-clause-as_many
compared-requires-clause-as_many c = c.requires.as_many ∙ sym (circuit-outputs c.args.circuits.now c.requires.flats c.args.m c.in_ok-circuit.circuit c.in_ok-circuit.ensures.is)

pub returns-clause-verdict : goal.returns-clause-verdict
returns-clause-verdict c =
    right-of c.in_ok-circuit.circuit (circuit_at c.args.circuits.now c.args.m) (BySpec c.args.exprs.now) (BySpec c.args.exprs.now) c.in_ok-circuit.ensures.is refl c.compared.result c.compared.ensures.verdict

pub returns-clause-nodes : goal.returns-clause-nodes
returns-clause-nodes c = λ stop.
    circuit-room c.args.circuits.now c.requires.flats c.args.m c.in_ok-circuit.circuit c.in_ok-circuit.ensures.is c.args.budget (sum (map expr_size c.args.exprs.now)) (c.compared.ensures.nodes stop)
