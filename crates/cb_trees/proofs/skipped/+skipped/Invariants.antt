use Rattle.std.proofs.Common.{◌≡◌, true, drop}
use Rattle.cb_model.specs.Written.{are_written}
use Rattle.cb_trees.proofs.Walk.{all_forms, OwnSoFar}
use Rattle.cb_trees.proofs.skipped.+skipped.Given as goal

abbrev pub invariant-skip_all-loop-term : goal.invariant-skip_all-loop-term
invariant-skip_all-loop-term l = record { written : are_written (all_forms (drop l.term-index l.terms)) ≡ true; own : OwnSoFar l.terms l.initial.own l.term-index l.own }
