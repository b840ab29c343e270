use Rattle.std.proofs.Common.{◌≡◌, List, ℕ, drop}
use Rattle.cb_model.specs.Bits.{Bits}
use Rattle.cb_dd.specs.Diagram.{IsNode, function_of}
use Rattle.cb_ops.specs.Ops.{Grows, DependsOn}
use Rattle.cb_verify.specs.Nodes.{DependOn, Adds, node_bits, operator_value, chain_value}
use Rattle.cb_verify.proofs.nodes.chain.Given as goal

abbrev pub invariant-loop-next : goal.invariant-loop-next
invariant-loop-next l = record {
  grows : Grows l.initial.ops l.ops;
  is_node : IsNode l.ops.triples l.node.0;
  function : (a : Bits) → operator_value l.operator (function_of l.ops.triples l.node.0 a) (chain_value l.operator (node_bits l.initial.ops.triples (drop l.next-index l.rest) a)) ≡ chain_value l.operator (node_bits l.initial.ops.triples l.nodes a);
  depends : (ls : List ℕ) → DependOn l.initial.ops.triples l.nodes ls → DependsOn l.ops.triples l.node.0 ls;
  room : Adds l.initial.ops l.ops l.next-index l.nodes;
}
