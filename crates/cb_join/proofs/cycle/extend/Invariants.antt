use Rattle.std.proofs.Common.{◌≡◌, ◌-◌, length}
use Rattle.cb_join.specs.Cycle.{AreNew}
use Rattle.cb_join.proofs.cycle.extend.Given as goal

abbrev pub invariant-marks : goal.invariant-marks
invariant-marks l = record {
  new : AreNew l.work.marks.items;
  met : l.work.met.items ≡ l.initial.work.met.items;
  way : l.work.way.items ≡ l.initial.work.way.items;
}

abbrev pub decreases-marks : goal.decreases-marks
decreases-marks l = l.count - length l.work.marks.items
