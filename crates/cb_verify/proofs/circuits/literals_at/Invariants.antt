use Rattle.std.proofs.Common.{◌≡◌, ◌+◌, ◌≤◌, length, map, take}
use Rattle.cb_model.specs.Bits.{Bits}
use Rattle.cb_ops.specs.Ops.{Grows}
use Rattle.cb_verify.specs.Nodes.{AreNodes, node_bits}
use Rattle.cb_verify.proofs.circuits.literals_at.Given as goal

abbrev pub invariant-loop-level : goal.invariant-loop-level
invariant-loop-level l = record {
  nodes : AreNodes l.ops.triples l.nodes.items;
  bits : (a : Bits) → node_bits l.ops.triples l.nodes.items a ≡ map a (take l.level-index l.levels);
  grows : Grows l.initial.ops l.ops;
  room : length l.ops.triples ≤ length l.initial.ops.triples + l.level-index;
}
