use Rattle.std.proofs.Common.{◌≡◌, ◌<◌, ◌≤◌, length, take, drop}
use Rattle.cb_model.specs.Bits.{Each}
use Rattle.cb_elim.specs.Moments.{undone}
use Rattle.cb_elim.proofs.restore.Given as goal

abbrev pub invariant-back : goal.invariant-back
invariant-back l = record {
  mark : l.to ≤ length l.trail;
  within : Each (λ c. c.slot < length l.slots) l.trail;
  trail : take l.to l.trail ≡ take l.to l.initial.trail;
  slots : undone (drop l.to l.trail) l.slots ≡ undone (drop l.to l.initial.trail) l.initial.slots;
}

abbrev pub decreases-back : goal.decreases-back
decreases-back l = length l.trail
