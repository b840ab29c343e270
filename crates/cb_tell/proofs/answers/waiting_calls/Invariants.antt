use Rattle.std.proofs.Common.{◌≡◌, ◌-◌, length, map, take}
use Rattle.cb_branch.specs.Running.{calls_of}
use Rattle.cb_tell.specs.Items.{call_of}
use Rattle.cb_tell.proofs.answers.waiting_calls.Given as goal

abbrev pub invariant-loop-pred : goal.invariant-loop-pred
invariant-loop-pred l = map call_of l.all.items ≡ take (length l.all.items) (calls_of l.engine.state)

abbrev pub decreases-loop-pred : goal.decreases-loop-pred
decreases-loop-pred l = length (calls_of l.engine.state) - length l.all.items
