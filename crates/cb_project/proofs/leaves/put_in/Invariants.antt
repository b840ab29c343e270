use Rattle.std.proofs.Common.{◌≡◌, ℕ, ◌+◌, ◌*◌, ◌^◌, ◌≤◌, List, length, map, take}
use Rattle.cb_ops.specs.Ops.{Grows}
use Rattle.cb_ops.specs.Substitute.{substituted}
use Rattle.cb_solution.specs.Solution.{ImagesWithin}
use Rattle.cb_project.specs.Leaves.{functions_of, AllNodes, AllDepend}
use Rattle.cb_project.proofs.leaves.put_in.Given as goal

abbrev pub invariant-loop-value : goal.invariant-loop-value
invariant-loop-value l = record {
  nodes : AllNodes l.ops.triples l.nodes.items;
  functions : functions_of l.ops.triples l.nodes.items ≡ map (λ g p. g (substituted l.fn.ops.triples l.images p)) (functions_of l.fn.ops.triples (take l.value-index l.values));
  grows : Grows l.fn.ops l.ops;
  within : (ls : List ℕ) → AllDepend l.fn.ops.triples l.values ls → ImagesWithin l.fn.ops.triples l.images ls →
      AllDepend l.ops.triples l.nodes.items ls × (length l.ops.triples ≤ length l.fn.ops.triples + l.value-index * (3 * (2 ^ length ls * 2 ^ length ls)));
}
