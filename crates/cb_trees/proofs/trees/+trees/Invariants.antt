use Rattle.std.proofs.Common.{◌≡◌, true, drop}
use Rattle.cb_model.specs.Written.{are_written}
use Rattle.cb_trees.specs.Places.{sorts_given}
use Rattle.cb_trees.specs.Numbered.{numbering_of}
use Rattle.cb_trees.proofs.Walk.{all_forms, OwnSoFar}
use Rattle.cb_trees.proofs.InPlaces.{TreesSoFar}
use Rattle.cb_trees.proofs.trees.+trees.Given as goal

abbrev pub invariant-trees-loop-place : goal.invariant-trees-loop-place
invariant-trees-loop-place l = record {
  written : are_written (all_forms (drop l.place l.args)) ≡ true;
  own : OwnSoFar l.args l.initial.own l.place l.own;
  trees : TreesSoFar l.numbers.declared.now (numbering_of l.numbers) (sorts_given l.places.declared l.places.count) l.args l.initial.own l.place l.own l.all;
}
