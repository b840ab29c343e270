use Rattle.std.proofs.Common.{◌+◌, ◌*◌, ◌^◌, ◌≤◌, length, take}
use Rattle.cb_ops.specs.Ops.{Grows}
use Rattle.cb_verify.specs.Nodes.{node_bits, unequal}
use Rattle.cb_verify.specs.Least.{LeastOf, row_of}
use Rattle.cb_verify.proofs.least.least_difference.Given as goal

abbrev pub invariant-loop-i : goal.invariant-loop-i
invariant-loop-i l = record {
  least : LeastOf l.places.levels.items (λ a. unequal (node_bits l.initial.ops.triples (take l.i l.got) a) (node_bits l.initial.ops.triples (take l.i l.wanted) a)) (row_of l.least);
  grows : Grows l.initial.ops l.ops;
  room : length l.ops.triples ≤ length l.initial.ops.triples + l.i * (2 * 2 ^ length l.places.levels.items);
}
