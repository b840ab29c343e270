use Rattle.std.proofs.Common.{◌≡◌, ◌+◌, ◌≤◌, length, drop}
use Rattle.std.specs.Prelude.{sum_by}
use Rattle.cb_model.specs.declared.Tree.TheVariants as tree
use Rattle.cb_model.specs.Room.{expr_size}
use Rattle.cb_unify.specs.Trees.{HaveSlots, IsTreeOf, nodes_most}
use Rattle.cb_unify.proofs.build.bus_cell.Given as goal

abbrev pub invariant-loop-k : goal.invariant-loop-k
invariant-loop-k l = record {
  within : l.k ≤ length l.es;
  bus : IsTreeOf l.fn.state l.state l.frame (tree.Bus (drop l.k l.es) l.fn.tail) l.at.0;
  slots : HaveSlots l.state l.frame l.slots.items;
  room : length l.state.store.nodes.triples ≤ length l.fn.state.store.nodes.triples + nodes_most l.fn.state.store (sum_by expr_size (drop l.k l.es));
  fulls : l.state.store.nodes.fulls ≡ l.fn.state.store.nodes.fulls;
}

abbrev pub decreases-loop-k : goal.decreases-loop-k
decreases-loop-k l = l.k
