use Rattle.std.proofs.Common.{◌≡◌, true, drop}
use Rattle.cb_model.specs.Written.{are_written}
use Rattle.cb_trees.proofs.Walk.{all_forms, OwnSoFar}
use Rattle.cb_facts.proofs.Exprs.{SpecSoFar}
use Rattle.cb_facts.proofs.expressions.+exprs.Given as goal

abbrev pub invariant-exprs-loop-term : goal.invariant-exprs-loop-term
invariant-exprs-loop-term l = record {
  written : are_written (all_forms (drop l.term-index l.terms)) ≡ true;
  own : OwnSoFar l.terms l.initial.own l.term-index l.own;
  so : SpecSoFar l.inputs l.terms l.initial.own l.term-index l.own l.all;
}
