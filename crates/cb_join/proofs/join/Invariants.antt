use Rattle.std.proofs.Common.{◌≡◌, ◌+◌, length}
use Rattle.cb_heap.specs.Heap.{IsHeap}
use Rattle.cb_heap.specs.Moments.{KeepsMoments}
use Rattle.cb_join.specs.Joins.{IsWithin, Joined, KeepsLeaves, work}
use Rattle.cb_join.proofs.join.Given as goal

abbrev pub invariant-pairs : goal.invariant-pairs
invariant-pairs l = record {
  joined : Joined l.initial.heap.sorts l.initial.heap.cells l.initial.owed.pending.items l.initial.owed.leaves.items l.heap.cells l.owed.pending.items l.owed.leaves.items;
  within : IsWithin l.heap.cells l.owed.pending.items;
  keeps : KeepsLeaves l.initial.heap.sorts l.initial.heap.cells l.initial.owed.leaves.items l.heap.cells l.owed.leaves.items;
  sorts : l.heap.sorts ≡ l.initial.heap.sorts;
  moments : KeepsMoments l.initial.heap l.heap;
  heap : IsHeap l.heap;
}

abbrev pub decreases-pairs : goal.decreases-pairs
decreases-pairs l = work l.heap.cells + length l.owed.pending.items
