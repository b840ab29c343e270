use Rattle.std.proofs.Common.{◌≡◌, ℕ, ◌+◌, ◌*◌, ◌^◌, ◌≤◌, List, length, drop}
use Rattle.cb_dd.specs.Diagram.{IsNode, function_of}
use Rattle.cb_ops.specs.Ops.{Grows, DependsOn}
use Rattle.cb_boole.specs.Elimination.{rest}
use Rattle.cb_project.proofs.leaves.eliminate.Given as goal

abbrev pub invariant-loop-level : goal.invariant-loop-level
invariant-loop-level l = record {
  is_node : IsNode l.ops.triples l.left.0;
  function : rest (drop l.level-index l.levels) (function_of l.ops.triples l.left.0) ≡ rest l.levels (function_of l.fn.ops.triples l.fn.f.0);
  grows : Grows l.fn.ops l.ops;
  within : (ls : List ℕ) → DependsOn l.fn.ops.triples l.fn.f.0 ls → DependsOn l.ops.triples l.left.0 ls × (length l.ops.triples ≤ length l.fn.ops.triples + l.level-index * (3 * 2 ^ length ls));
}
