use Rattle.std.proofs.Common.{◌≡◌, ℕ, ◌+◌, ◌-◌, length, get_or}
use Rattle.cb_trail.proofs.uses.make_room.Given as goal

abbrev pub invariant-loop-last : goal.invariant-loop-last
invariant-loop-last l = (k : ℕ) → get_or l.last.items k 0 ≡ get_or l.initial.last.items k 0

abbrev pub decreases-loop-last : goal.decreases-loop-last
decreases-loop-last l = l.level + 1 - length l.last.items
