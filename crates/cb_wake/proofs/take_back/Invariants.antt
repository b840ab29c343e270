use Rattle.std.proofs.Common.{◌≡◌, ◌≤◌, length, take, drop}
use Rattle.cb_wake.specs.Moments.{put_back}
use Rattle.cb_wake.proofs.take_back.Given as goal

abbrev pub invariant-back : goal.invariant-back
invariant-back l = record {
  mark : l.to ≤ length l.taken;
  taken : take l.to l.taken ≡ take l.to l.initial.taken;
  still : put_back (drop l.to l.taken) l.still ≡ put_back (drop l.to l.initial.taken) l.initial.still;
}

abbrev pub decreases-back : goal.decreases-back
decreases-back l = length l.taken
