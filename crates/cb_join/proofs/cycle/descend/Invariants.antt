use Rattle.std.proofs.Common.{◌≡◌, ◌+◌, length}
use Rattle.cb_join.specs.Cycle.{AreDone, Frames, StaysMet, IsNoted, left_at, frames_left}
use Rattle.cb_join.proofs.cycle.descend.Given as goal

abbrev pub invariant-way : goal.invariant-way
invariant-way l = record {
  done : AreDone l.heap.cells l.work.marks.items;
  frames : Frames l.heap.cells l.work.marks.items l.work.way.items;
  stays : StaysMet l.initial.work.marks.items l.work.marks.items;
  number : length l.work.marks.items ≡ length l.initial.work.marks.items;
  noted : IsNoted l.work.marks.items l.work.met.items;
}

abbrev pub decreases-way : goal.decreases-way
decreases-way l = left_at l.heap.cells l.work.marks.items + frames_left l.heap.cells l.work.way.items
