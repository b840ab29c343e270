use Rattle.std.proofs.Common.{◌≡◌, ◌≤◌, ◌++◌, length, drop}
use Rattle.cb_unify.specs.Works.{last_first, works}
use Rattle.cb_unify.proofs.writing.push_trees.Given as goal

abbrev pub invariant-loop-k : goal.invariant-loop-k
invariant-loop-k l = record {
  within : l.k ≤ length l.trees;
  works : works l.pending.items ≡ works l.fn.pending.items ++ last_first (drop l.k l.trees);
}

abbrev pub decreases-loop-k : goal.decreases-loop-k
decreases-loop-k l = l.k
