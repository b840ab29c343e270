use Rattle.std.proofs.Common.{◌*◌, ◌^◌, ◌∙◌, ap, map, length}
use Rattle.cb_model.specs.Room.{circuit_pins}
use Rattle.cb_ops.proofs.Ite.{Grows-same}
use Rattle.cb_verify.specs.Wanted.{size_of}
use Rattle.cb_verify.proofs.Deciding.{nodes-are-later, nodes-long, fits-nodes, got-room, want-room, got-whole, want-whole, is-right, as-many, last-room, within-two, within-three, within-all, levels-room}
use Rattle.cb_verify.proofs.comparison.decide.Goals as goal

pub unfold_circuit-requires-clause-as_many : goal.unfold_circuit-requires-clause-as_many
unfold_circuit-requires-clause-as_many c =
    nodes-long c.args.circuit.now c.requires.flattened c.args.wanted c.requires.fits c.requires.as_many c.in-Ok.places.order.items c.in-Ok.places.levels.items c.in-Ok.ensures c.literals_at.new.ops c.literals_at.new.ops c.literals_at.new.ops (Grows-same c.literals_at.new.ops) (Grows-same c.literals_at.new.ops) c.in_ok-inputs.inputs.items c.as_slice-nodes.result.now c.as_slice-nodes.ensures.value c.in_ok-inputs.ensures.nodes (λ a. c.in_ok-inputs.ensures.bits a ∙ ap (map a) c.as_slice.ensures.value)

pub returns-in_err-got-clause-room : goal.returns-in_err-got-clause-room
returns-in_err-got-clause-room c =
    within-two (length c.args.ops.now.triples) c.args.circuit.now.inputs (circuit_pins c.args.circuit.now) (size_of c.args.wanted) (length c.args.circuit.now.outputs) (2 * 2 ^ c.args.circuit.now.inputs) (length c.literals_at.new.ops.triples) (length c.unfold_circuit.new.ops.triples) (levels-room c.args.circuit.now.inputs c.in-Ok.places.order.items c.in-Ok.places.levels.items c.as_slice.result.now c.as_slice.ensures.value c.in-Ok.ensures (length c.args.ops.now.triples) (length c.literals_at.new.ops.triples) c.literals_at.ensures.room) (got-room c.args.circuit.now c.requires.flattened c.args.wanted c.requires.fits c.requires.as_many c.in-Ok.places.order.items c.in-Ok.places.levels.items c.in-Ok.ensures c.literals_at.new.ops c.unfold_circuit.new.ops c.unfold_circuit.new.ops c.unfold_circuit.ensures.grows (Grows-same c.unfold_circuit.new.ops) c.in_ok-inputs.inputs.items c.as_slice-nodes.result.now c.as_slice-nodes.ensures.value c.in_ok-inputs.ensures.nodes (λ a. c.in_ok-inputs.ensures.bits a ∙ ap (map a) c.as_slice.ensures.value) (circuit_pins c.args.circuit.now) c.unfold_circuit.ensures.room)

pub wanted_nodes-requires-clause-nodes : goal.wanted_nodes-requires-clause-nodes
wanted_nodes-requires-clause-nodes c =
    nodes-are-later c.args.circuit.now c.requires.flattened c.args.wanted c.requires.fits c.requires.as_many c.in-Ok.places.order.items c.in-Ok.places.levels.items c.in-Ok.ensures c.literals_at.new.ops c.unfold_circuit.new.ops c.unfold_circuit.new.ops c.unfold_circuit.ensures.grows (Grows-same c.unfold_circuit.new.ops) c.in_ok-inputs.inputs.items c.as_slice-nodes.result.now c.as_slice-nodes.ensures.value c.in_ok-inputs.ensures.nodes (λ a. c.in_ok-inputs.ensures.bits a ∙ ap (map a) c.as_slice.ensures.value)

pub wanted_nodes-requires-clause-fits : goal.wanted_nodes-requires-clause-fits
wanted_nodes-requires-clause-fits c =
    fits-nodes c.args.circuit.now c.requires.flattened c.args.wanted c.requires.fits c.requires.as_many c.in-Ok.places.order.items c.in-Ok.places.levels.items c.in-Ok.ensures c.literals_at.new.ops c.unfold_circuit.new.ops c.unfold_circuit.new.ops c.unfold_circuit.ensures.grows (Grows-same c.unfold_circuit.new.ops) c.in_ok-inputs.inputs.items c.as_slice-nodes.result.now c.as_slice-nodes.ensures.value c.in_ok-inputs.ensures.nodes (λ a. c.in_ok-inputs.ensures.bits a ∙ ap (map a) c.as_slice.ensures.value)

pub returns-in_err-values-clause-room : goal.returns-in_err-values-clause-room
returns-in_err-values-clause-room c =
    within-three (length c.args.ops.now.triples) c.args.circuit.now.inputs (circuit_pins c.args.circuit.now) (size_of c.args.wanted) (length c.args.circuit.now.outputs) (2 * 2 ^ c.args.circuit.now.inputs) (length c.literals_at.new.ops.triples) (length c.unfold_circuit.new.ops.triples) (length c.wanted_nodes.new.ops.triples) (levels-room c.args.circuit.now.inputs c.in-Ok.places.order.items c.in-Ok.places.levels.items c.as_slice.result.now c.as_slice.ensures.value c.in-Ok.ensures (length c.args.ops.now.triples) (length c.literals_at.new.ops.triples) c.literals_at.ensures.room) (got-room c.args.circuit.now c.requires.flattened c.args.wanted c.requires.fits c.requires.as_many c.in-Ok.places.order.items c.in-Ok.places.levels.items c.in-Ok.ensures c.literals_at.new.ops c.unfold_circuit.new.ops c.wanted_nodes.new.ops c.unfold_circuit.ensures.grows c.wanted_nodes.ensures.grows c.in_ok-inputs.inputs.items c.as_slice-nodes.result.now c.as_slice-nodes.ensures.value c.in_ok-inputs.ensures.nodes (λ a. c.in_ok-inputs.ensures.bits a ∙ ap (map a) c.as_slice.ensures.value) (circuit_pins c.args.circuit.now) c.unfold_circuit.ensures.room) (want-room c.args.circuit.now c.requires.flattened c.args.wanted c.requires.fits c.requires.as_many c.in-Ok.places.order.items c.in-Ok.places.levels.items c.in-Ok.ensures c.literals_at.new.ops c.unfold_circuit.new.ops c.wanted_nodes.new.ops c.unfold_circuit.ensures.grows c.wanted_nodes.ensures.grows c.in_ok-inputs.inputs.items c.as_slice-nodes.result.now c.as_slice-nodes.ensures.value c.in_ok-inputs.ensures.nodes (λ a. c.in_ok-inputs.ensures.bits a ∙ ap (map a) c.as_slice.ensures.value) (size_of c.args.wanted) c.wanted_nodes.ensures.room)

pub verdict-requires-clause-got : goal.verdict-requires-clause-got
verdict-requires-clause-got c =
    got-whole c.args.circuit.now c.requires.flattened c.args.wanted c.requires.fits c.requires.as_many c.in-Ok.places.order.items c.in-Ok.places.levels.items c.in-Ok.ensures c.literals_at.new.ops c.unfold_circuit.new.ops c.wanted_nodes.new.ops c.unfold_circuit.ensures.grows c.wanted_nodes.ensures.grows c.in_ok-inputs.inputs.items c.as_slice-nodes.result.now c.as_slice-nodes.ensures.value c.in_ok-inputs.ensures.nodes (λ a. c.in_ok-inputs.ensures.bits a ∙ ap (map a) c.as_slice.ensures.value) c.in_ok-got.got.items c.as_slice-2.result.now c.as_slice-2.ensures.value c.in_ok-got.ensures.nodes c.in_ok-got.ensures.outputs c.in_ok-values.values.items c.as_slice-3.result.now c.as_slice-3.ensures.value c.in_ok-values.ensures.nodes c.in_ok-values.ensures.values

pub verdict-requires-clause-wanted : goal.verdict-requires-clause-wanted
verdict-requires-clause-wanted c =
    want-whole c.args.circuit.now c.requires.flattened c.args.wanted c.requires.fits c.requires.as_many c.in-Ok.places.order.items c.in-Ok.places.levels.items c.in-Ok.ensures c.literals_at.new.ops c.unfold_circuit.new.ops c.wanted_nodes.new.ops c.unfold_circuit.ensures.grows c.wanted_nodes.ensures.grows c.in_ok-inputs.inputs.items c.as_slice-nodes.result.now c.as_slice-nodes.ensures.value c.in_ok-inputs.ensures.nodes (λ a. c.in_ok-inputs.ensures.bits a ∙ ap (map a) c.as_slice.ensures.value) c.in_ok-got.got.items c.as_slice-2.result.now c.as_slice-2.ensures.value c.in_ok-got.ensures.nodes c.in_ok-got.ensures.outputs c.in_ok-values.values.items c.as_slice-3.result.now c.as_slice-3.ensures.value c.in_ok-values.ensures.nodes c.in_ok-values.ensures.values

pub verdict-requires-clause-as_many : goal.verdict-requires-clause-as_many
verdict-requires-clause-as_many c =
    as-many c.args.circuit.now c.requires.flattened c.args.wanted c.requires.fits c.requires.as_many c.in-Ok.places.order.items c.in-Ok.places.levels.items c.in-Ok.ensures c.literals_at.new.ops c.unfold_circuit.new.ops c.wanted_nodes.new.ops c.unfold_circuit.ensures.grows c.wanted_nodes.ensures.grows c.in_ok-inputs.inputs.items c.as_slice-nodes.result.now c.as_slice-nodes.ensures.value c.in_ok-inputs.ensures.nodes (λ a. c.in_ok-inputs.ensures.bits a ∙ ap (map a) c.as_slice.ensures.value) c.in_ok-got.got.items c.as_slice-2.result.now c.as_slice-2.ensures.value c.in_ok-got.ensures.nodes c.in_ok-got.ensures.outputs c.in_ok-values.values.items c.as_slice-3.result.now c.as_slice-3.ensures.value c.in_ok-values.ensures.nodes c.in_ok-values.ensures.values

pub returns-in_err-verdict-clause-room : goal.returns-in_err-verdict-clause-room
returns-in_err-verdict-clause-room c =
    within-all (length c.args.ops.now.triples) c.args.circuit.now.inputs (circuit_pins c.args.circuit.now) (size_of c.args.wanted) (length c.args.circuit.now.outputs) (2 * 2 ^ c.args.circuit.now.inputs) (length c.literals_at.new.ops.triples) (length c.unfold_circuit.new.ops.triples) (length c.wanted_nodes.new.ops.triples) (length c.verdict.new.ops.triples) (levels-room c.args.circuit.now.inputs c.in-Ok.places.order.items c.in-Ok.places.levels.items c.as_slice.result.now c.as_slice.ensures.value c.in-Ok.ensures (length c.args.ops.now.triples) (length c.literals_at.new.ops.triples) c.literals_at.ensures.room) (got-room c.args.circuit.now c.requires.flattened c.args.wanted c.requires.fits c.requires.as_many c.in-Ok.places.order.items c.in-Ok.places.levels.items c.in-Ok.ensures c.literals_at.new.ops c.unfold_circuit.new.ops c.wanted_nodes.new.ops c.unfold_circuit.ensures.grows c.wanted_nodes.ensures.grows c.in_ok-inputs.inputs.items c.as_slice-nodes.result.now c.as_slice-nodes.ensures.value c.in_ok-inputs.ensures.nodes (λ a. c.in_ok-inputs.ensures.bits a ∙ ap (map a) c.as_slice.ensures.value) (circuit_pins c.args.circuit.now) c.unfold_circuit.ensures.room) (want-room c.args.circuit.now c.requires.flattened c.args.wanted c.requires.fits c.requires.as_many c.in-Ok.places.order.items c.in-Ok.places.levels.items c.in-Ok.ensures c.literals_at.new.ops c.unfold_circuit.new.ops c.wanted_nodes.new.ops c.unfold_circuit.ensures.grows c.wanted_nodes.ensures.grows c.in_ok-inputs.inputs.items c.as_slice-nodes.result.now c.as_slice-nodes.ensures.value c.in_ok-inputs.ensures.nodes (λ a. c.in_ok-inputs.ensures.bits a ∙ ap (map a) c.as_slice.ensures.value) (size_of c.args.wanted) c.wanted_nodes.ensures.room) (last-room c.args.circuit.now c.requires.flattened c.args.wanted c.requires.fits c.requires.as_many c.in-Ok.places.order.items c.in-Ok.places.levels.items c.in-Ok.ensures c.literals_at.new.ops c.unfold_circuit.new.ops c.wanted_nodes.new.ops c.unfold_circuit.ensures.grows c.wanted_nodes.ensures.grows c.in_ok-inputs.inputs.items c.as_slice-nodes.result.now c.as_slice-nodes.ensures.value c.in_ok-inputs.ensures.nodes (λ a. c.in_ok-inputs.ensures.bits a ∙ ap (map a) c.as_slice.ensures.value) c.in_ok-got.got.items c.as_slice-2.result.now c.as_slice-2.ensures.value c.in_ok-got.ensures.nodes c.in_ok-got.ensures.outputs c.in_ok-values.values.items c.as_slice-3.result.now c.as_slice-3.ensures.value c.in_ok-values.ensures.nodes c.in_ok-values.ensures.values (length c.verdict.new.ops.triples) c.verdict.ensures.room)

pub returns-clause-verdict : goal.returns-clause-verdict
returns-clause-verdict c =
    is-right c.args.circuit.now c.requires.flattened c.args.wanted c.requires.fits c.requires.as_many c.in-Ok.places.order.items c.in-Ok.places.levels.items c.in-Ok.ensures c.literals_at.new.ops c.unfold_circuit.new.ops c.wanted_nodes.new.ops c.unfold_circuit.ensures.grows c.wanted_nodes.ensures.grows c.in_ok-inputs.inputs.items c.as_slice-nodes.result.now c.as_slice-nodes.ensures.value c.in_ok-inputs.ensures.nodes (λ a. c.in_ok-inputs.ensures.bits a ∙ ap (map a) c.as_slice.ensures.value) c.in_ok-got.got.items c.as_slice-2.result.now c.as_slice-2.ensures.value c.in_ok-got.ensures.nodes c.in_ok-got.ensures.outputs c.in_ok-values.values.items c.as_slice-3.result.now c.as_slice-3.ensures.value c.in_ok-values.ensures.nodes c.in_ok-values.ensures.values c.verdict.new.ops c.verdict.ensures.grows c.in_ok-verdict.verdict c.in_ok-verdict.ensures.verdict

pub returns-clause-room : goal.returns-clause-room
returns-clause-room c =
    within-all (length c.args.ops.now.triples) c.args.circuit.now.inputs (circuit_pins c.args.circuit.now) (size_of c.args.wanted) (length c.args.circuit.now.outputs) (2 * 2 ^ c.args.circuit.now.inputs) (length c.literals_at.new.ops.triples) (length c.unfold_circuit.new.ops.triples) (length c.wanted_nodes.new.ops.triples) (length c.verdict.new.ops.triples) (levels-room c.args.circuit.now.inputs c.in-Ok.places.order.items c.in-Ok.places.levels.items c.as_slice.result.now c.as_slice.ensures.value c.in-Ok.ensures (length c.args.ops.now.triples) (length c.literals_at.new.ops.triples) c.literals_at.ensures.room) (got-room c.args.circuit.now c.requires.flattened c.args.wanted c.requires.fits c.requires.as_many c.in-Ok.places.order.items c.in-Ok.places.levels.items c.in-Ok.ensures c.literals_at.new.ops c.unfold_circuit.new.ops c.wanted_nodes.new.ops c.unfold_circuit.ensures.grows c.wanted_nodes.ensures.grows c.in_ok-inputs.inputs.items c.as_slice-nodes.result.now c.as_slice-nodes.ensures.value c.in_ok-inputs.ensures.nodes (λ a. c.in_ok-inputs.ensures.bits a ∙ ap (map a) c.as_slice.ensures.value) (circuit_pins c.args.circuit.now) c.unfold_circuit.ensures.room) (want-room c.args.circuit.now c.requires.flattened c.args.wanted c.requires.fits c.requires.as_many c.in-Ok.places.order.items c.in-Ok.places.levels.items c.in-Ok.ensures c.literals_at.new.ops c.unfold_circuit.new.ops c.wanted_nodes.new.ops c.unfold_circuit.ensures.grows c.wanted_nodes.ensures.grows c.in_ok-inputs.inputs.items c.as_slice-nodes.result.now c.as_slice-nodes.ensures.value c.in_ok-inputs.ensures.nodes (λ a. c.in_ok-inputs.ensures.bits a ∙ ap (map a) c.as_slice.ensures.value) (size_of c.args.wanted) c.wanted_nodes.ensures.room) (last-room c.args.circuit.now c.requires.flattened c.args.wanted c.requires.fits c.requires.as_many c.in-Ok.places.order.items c.in-Ok.places.levels.items c.in-Ok.ensures c.literals_at.new.ops c.unfold_circuit.new.ops c.wanted_nodes.new.ops c.unfold_circuit.ensures.grows c.wanted_nodes.ensures.grows c.in_ok-inputs.inputs.items c.as_slice-nodes.result.now c.as_slice-nodes.ensures.value c.in_ok-inputs.ensures.nodes (λ a. c.in_ok-inputs.ensures.bits a ∙ ap (map a) c.as_slice.ensures.value) c.in_ok-got.got.items c.as_slice-2.result.now c.as_slice-2.ensures.value c.in_ok-got.ensures.nodes c.in_ok-got.ensures.outputs c.in_ok-values.values.items c.as_slice-3.result.now c.as_slice-3.ensures.value c.in_ok-values.ensures.nodes c.in_ok-values.ensures.values (length c.verdict.new.ops.triples) c.verdict.ensures.room)
