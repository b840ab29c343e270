use Rattle.std.proofs.Common.{◌≡◌, ℕ, ◌+◌, ◌*◌, ◌≤◌, List, length}
use Rattle.cb_ops.specs.Ops.{Grows}
use Rattle.cb_boole.specs.Stages.{IsStage}
use Rattle.cb_project.specs.Leaves.{functions_of, AllNodes, AllDepend}
use Rattle.cb_project.proofs.Whole.{all_levels, leaf_bound}
use Rattle.cb_project.proofs.leaves.leaf_nodes.Given as goal

abbrev pub invariant-loop-i : goal.invariant-loop-i
invariant-loop-i l = record {
  stage : IsStage l.constants l.first (functions_of l.fn.ops.triples l.values) (functions_of l.ops.triples l.nodes.items) (functions_of l.ops.triples l.left.items);
  nodes : AllNodes l.ops.triples l.nodes.items;
  later : AllNodes l.ops.triples l.left.items;
  count : length l.nodes.items ≡ l.i;
  all : length l.left.items + l.i ≡ length l.values;
  grows : Grows l.fn.ops l.ops;
  within : (ls : List ℕ) → AllDepend l.fn.ops.triples l.values ls →
      AllDepend l.ops.triples l.left.items (all_levels ls l.first (length l.values)) ×
      (length l.ops.triples ≤ length l.fn.ops.triples + l.i * leaf_bound ls (length l.values));
}
