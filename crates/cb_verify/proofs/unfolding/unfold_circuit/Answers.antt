use Rattle.cb_verify.proofs.Bridge.{outputs-in, outputs-are, outputs-have}
use Rattle.cb_verify.proofs.unfolding.unfold_circuit.Goals as goal

pub nodes_at-requires : goal.nodes_at-requires
nodes_at-requires c =
    outputs-in c.args.circuit.now c.requires.flattened c.args.ops.now c.args.inputs.now c.requires.as_many c.ordered_nodes.new.ops c.in_ok-nodes.nodes.items c.in_ok-nodes.ensures.nodes c.in_ok-nodes.ensures.nets
    c.as_slice-2.result.now c.as_slice-2.ensures.value c.as_slice-3.result.now c.as_slice-3.ensures

pub returns-clause-nodes : goal.returns-clause-nodes
returns-clause-nodes c =
    outputs-are c.args.circuit.now c.requires.flattened c.args.ops.now c.args.inputs.now c.requires.as_many c.ordered_nodes.new.ops c.in_ok-nodes.nodes.items c.in_ok-nodes.ensures.nodes c.in_ok-nodes.ensures.nets
    c.as_slice-2.result.now c.as_slice-2.ensures.value c.as_slice-3.result.now c.as_slice-3.ensures c.in_ok-outputs.outputs.items c.in_ok-outputs.ensures.nodes

pub returns-clause-outputs : goal.returns-clause-outputs
returns-clause-outputs c =
    outputs-have c.args.circuit.now c.requires.flattened c.args.ops.now c.args.inputs.now c.requires.as_many c.ordered_nodes.new.ops c.in_ok-nodes.nodes.items c.in_ok-nodes.ensures.nodes c.in_ok-nodes.ensures.nets
    c.as_slice-2.result.now c.as_slice-2.ensures.value c.as_slice-3.result.now c.as_slice-3.ensures c.in_ok-outputs.outputs.items c.in_ok-outputs.ensures.nodes
