use Rattle.std.proofs.Common.{◌≤◌}
use Rattle.cb_known.proofs.Numbers.{NumbersSoFar}
use Rattle.cb_known.proofs.modules.Modules.new.Given as goal

abbrev pub invariant-loop-clause : goal.invariant-loop-clause
invariant-loop-clause l = record { few : l.next ≤ l.clause-index; numbers : NumbersSoFar l.clauses l.numbers l.next l.clause-index }
