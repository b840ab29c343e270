use Rattle.std.proofs.Common.{◌≡◌, ◌++◌, drop}
use Rattle.cb_levels.specs.Meeting.{unmarked}
use Rattle.cb_levels.proofs.Meeting.finish.Given as goal

abbrev pub invariant-loop-input : goal.invariant-loop-input
invariant-loop-input l = l.order.items ++ unmarked l.input (drop l.input l.met.items) ≡ l.initial.order.items ++ unmarked 0 l.met.items
