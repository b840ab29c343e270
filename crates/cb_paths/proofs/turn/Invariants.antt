use Rattle.std.proofs.Common.{◌≡◌, ℕ, List, length, vec_len, vec_capacity}
use Rattle.cb_dd.specs.declared.Triple.{Triple}
use Rattle.cb_paths.specs.Walk.{IsWalk, after, to_come}
use Rattle.cb_paths.proofs.turn.Given as goal

abbrev pub invariant-loop-i : goal.invariant-loop-i
invariant-loop-i l = record {
  as_many : length l.literals.items ≡ length l.others.items;
  come : (ts : List Triple) → to_come ts l.fn.literals.items l.fn.others.items l.fn.from.0 ≡ after ts l.literals.items l.others.items;
  walk : (ts : List Triple) (room : ℕ) → IsWalk ts room l.fn.literals.items l.fn.others.items l.fn.from.0 → IsWalk ts room l.literals.items l.others.items 0;
  literals_room : vec_capacity l.literals ≡ vec_capacity l.fn.literals;
  others_room : vec_capacity l.others ≡ vec_capacity l.fn.others;
}

abbrev pub decreases-loop-i : goal.decreases-loop-i
decreases-loop-i l = vec_len l.others
