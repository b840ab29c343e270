use Rattle.std.proofs.Common.{◌≡◌, List, ℕ, drop, map}
use Rattle.cb_model.specs.Bits.{Bits}
use Rattle.cb_dd.specs.Diagram.{IsNode, function_of}
use Rattle.cb_ops.specs.Ops.{Grows, DependsOn}
use Rattle.cb_verify.specs.Nodes.{DependOn, Adds, node_at, node_bits, operator_value, chain_value}
use Rattle.cb_verify.proofs.pins.chain_over.Given as goal

abbrev pub invariant-loop-pin : goal.invariant-loop-pin
invariant-loop-pin l = record {
  grows : Grows l.initial.ops l.ops;
  is_node : IsNode l.ops.triples l.node.0;
  function : (a : Bits) → operator_value l.operator (function_of l.ops.triples l.node.0 a) (chain_value l.operator (node_bits l.initial.ops.triples (drop l.pin-index (map (node_at l.nodes) l.rest)) a)) ≡ chain_value l.operator (node_bits l.initial.ops.triples (map (node_at l.nodes) l.pins) a);
  depends : (ls : List ℕ) → DependOn l.initial.ops.triples (map (node_at l.nodes) l.pins) ls → DependsOn l.ops.triples l.node.0 ls;
  room : Adds l.initial.ops l.ops l.pin-index (map (node_at l.nodes) l.pins);
}
