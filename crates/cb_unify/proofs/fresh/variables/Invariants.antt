use Rattle.std.proofs.Common.{◌≡◌, ◌+◌, ◌≤◌, length, take}
use Rattle.cb_model.specs.Program.{bools}
use Rattle.cb_unify.specs.State.{IsState}
use Rattle.cb_unify.specs.Moments.{KeepsMoments}
use Rattle.cb_unify.specs.Growth.{AreMade}
use Rattle.cb_unify.proofs.fresh.variables.Given as goal

abbrev pub invariant-loop-sort : goal.invariant-loop-sort
invariant-loop-sort l = record {
  made : AreMade l.initial.state l.state (take l.sort-index l.sorts) l.cells.items;
  room : length l.state.store.nodes.triples ≤ length l.initial.state.store.nodes.triples + bools (take l.sort-index l.sorts);
  fulls : l.state.store.nodes.fulls ≡ l.initial.state.store.nodes.fulls;
  moments : KeepsMoments l.initial.state l.state;
  state : IsState l.state;
}
