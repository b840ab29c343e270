use Rattle.std.proofs.Common.{◌≤◌, length}
use Rattle.cb_chains.specs.Chained.{Chained}
use Rattle.cb_chains.proofs.Chains.new.Given as goal

abbrev pub invariant-loop-at : goal.invariant-loop-at
invariant-loop-at l = record { within : l.at ≤ length l.clauses; chained : Chained l.clauses l.preds l.at l.firsts.items l.nexts.items }

abbrev pub decreases-loop-at : goal.decreases-loop-at
decreases-loop-at l = l.at
