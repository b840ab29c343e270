use Rattle.std.proofs.Common.{◌≡◌, true, drop}
use Rattle.cb_model.specs.Written.{are_written}
use Rattle.cb_trees.proofs.Walk.{all_forms}
use Rattle.cb_facts.proofs.Steps.{NetsSoFar}
use Rattle.cb_facts.proofs.nets.Nets.nets.Given as goal

abbrev pub invariant-loop-term : goal.invariant-loop-term
invariant-loop-term l = record {
  written : are_written (all_forms (drop l.term-index l.terms)) ≡ true;
  so : NetsSoFar l.terms l.initial.self l.term-index l.self l.numbers.items;
}
