use Rattle.std.proofs.Common.{◌≡◌, ◌++◌}
use Rattle.cb_heap.specs.Reading.{side_by_side}
use Rattle.cb_join.proofs.owe_each.Given as goal

abbrev pub invariant-loop-n : goal.invariant-loop-n
invariant-loop-n l = l.pending.items ≡ l.initial.pending.items ++ side_by_side l.i l.j l.n
