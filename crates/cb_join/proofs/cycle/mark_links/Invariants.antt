use Rattle.std.proofs.Common.{◌≡◌, ◌<◌, length}
use Rattle.cb_heap.specs.Finite.{IsFinite}
use Rattle.cb_heap.specs.Links.{chain}
use Rattle.cb_join.specs.Cycle.{IsNoted, MoreDone}
use Rattle.cb_join.proofs.cycle.mark_links.Given as goal

abbrev pub invariant-links : goal.invariant-links
invariant-links l = record {
  there : l.at < length l.heap.cells;
  finite : IsFinite l.heap.cells l.at;
  done : MoreDone l.heap.cells l.initial.work.marks.items l.work.marks.items;
  number : length l.work.marks.items ≡ length l.initial.work.marks.items;
  noted : IsNoted l.work.marks.items l.work.met.items;
  way : l.work.way.items ≡ l.initial.work.way.items;
}

abbrev pub decreases-links : goal.decreases-links
decreases-links l = chain l.heap.cells l.at
