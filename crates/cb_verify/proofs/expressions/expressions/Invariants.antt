use Rattle.std.proofs.Common.{◌≡◌, [], map, take, sum}
use Rattle.cb_model.specs.Bits.{Bits, bits_of}
use Rattle.cb_model.specs.Values.{expr_value}
use Rattle.cb_model.specs.Room.{expr_size}
use Rattle.cb_ops.specs.Ops.{Grows}
use Rattle.cb_verify.specs.Nodes.{AreNodes, Adds, node_bits}
use Rattle.cb_verify.proofs.expressions.expressions.Given as goal

abbrev pub invariant-loop-one : goal.invariant-loop-one
invariant-loop-one l = record {
  nodes : AreNodes l.ops.triples l.nodes.items;
  functions : (a : Bits) → node_bits l.ops.triples l.nodes.items a ≡ map (expr_value (bits_of []) (bits_of (node_bits l.initial.ops.triples l.inputs a))) (take l.one-index l.wanted);
  grows : Grows l.initial.ops l.ops;
  room : Adds l.initial.ops l.ops (sum (map expr_size (take l.one-index l.wanted))) l.inputs;
}
