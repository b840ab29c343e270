use Rattle.std.proofs.Common.{◌≡◌, ◌<◌, length}
use Rattle.cb_heap.specs.Heap.{IsHeap}
use Rattle.cb_heap.specs.Links.{LeadsTo, chain}
use Rattle.cb_heap.specs.Moments.{KeepsMoments}
use Rattle.cb_join.specs.Joins.{IsEnd, IsShortened}
use Rattle.cb_join.proofs.end_of.Given as goal

abbrev pub invariant-links : goal.invariant-links
invariant-links l = record {
  there : l.at < length l.heap.cells;
  leads : LeadsTo l.heap.cells l.at l.end.0;
  end : IsEnd l.heap.cells l.end.0;
  shortened : IsShortened l.initial.heap.sorts l.initial.heap.cells l.heap.cells;
  sorts : l.heap.sorts ≡ l.initial.heap.sorts;
  moments : KeepsMoments l.initial.heap l.heap;
  heap : IsHeap l.heap;
}

abbrev pub decreases-links : goal.decreases-links
decreases-links l = chain l.heap.cells l.at
