use Rattle.std.proofs.Common.{◌≡◌, ◌<◌, ◌≤◌, length, take, drop}
use Rattle.cb_model.specs.Bits.{Each}
use Rattle.cb_heap.specs.Moments.{undone}
use Rattle.cb_heap.proofs.take_back.Given as goal

abbrev pub invariant-back : goal.invariant-back
invariant-back l = record {
  mark : l.to ≤ length l.trail;
  within : Each (λ c. c.cell < length l.cells) l.trail;
  trail : take l.to l.trail ≡ take l.to l.initial.trail;
  cells : undone (drop l.to l.trail) l.cells ≡ undone (drop l.to l.initial.trail) l.initial.cells;
}

abbrev pub decreases-back : goal.decreases-back
decreases-back l = length l.trail
