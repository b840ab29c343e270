use Rattle.std.proofs.Common.{◌<◌, ◌≤◌, ◌+◌}
use Rattle.cb_heap.specs.Below.{Meets}
use Rattle.cb_heap.proofs.below.meet_behind.Given as goal

abbrev pub invariant-loop-k : goal.invariant-loop-k
invariant-loop-k l = Meets (λ j. (l.at < j) × (j ≤ l.at + l.k)) l.fn.met.keys l.met.keys
