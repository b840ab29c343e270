use Rattle.std.proofs.Common.{◌+◌, ◌*◌, ◌^◌, ◌≤◌, ℕ, List, length, take}
use Rattle.cb_verify.specs.Nodes.{AreNodes, DependOn}
use Rattle.cb_verify.specs.Order.{pins_in}
use Rattle.cb_ops.specs.Ops.{Grows}
use Rattle.cb_verify.proofs.Evaluates.{Evaluates}
use Rattle.cb_verify.proofs.ordered.ordered_nodes.Given as goal

abbrev pub invariant-loop-k : goal.invariant-loop-k
invariant-loop-k l = record {
  nodes : AreNodes l.ops.triples l.nodes.items;
  bits : Evaluates l.circuit l.fn.ops.triples l.inputs l.ops.triples l.nodes.items (take l.k-index l.order);
  grows : Grows l.fn.ops l.ops;
  room : (ls : List ℕ) → DependOn l.fn.ops.triples l.inputs ls → length l.ops.triples ≤ length l.fn.ops.triples + pins_in l.circuit (take l.k-index l.order) * (2 * 2 ^ length ls);
}
