-- Laws of a state: each is the contract of a function that does nothing.
use Rattle.std.specs.Prelude.{◌≡◌, ◌≤◌, true}
use Rattle.cb_model.specs.declared.Tree.{Tree}
use Rattle.cb_model.specs.Room.{tree_size}
use Rattle.cb_model.specs.Sorted.{operands_fit}
use Rattle.cb_dd.specs.Diagram.{Store as Nodes}
use Rattle.cb_ops.specs.Ops.{Grows}
use Rattle.cb_elim.specs.Store.{Seen as Booleans}
use Rattle.cb_unify.specs.State.{Seen, IsState}
use Rattle.cb_unify.specs.Moments.{KeepsMoments}
use Rattle.cb_unify.specs.Growth.{IsExtended}
use Rattle.cb_unify.specs.Lending.{IsLent, with_store}
use Rattle.cb_unify.specs.Trees.{bit_places}

-- What is left of a loan: the state is one, its moments are kept, and its values are those that it had.
pub record IsLentState (old new : Seen) : Type 0 where
  pub state : IsState new
  pub moments : KeepsMoments old new
  pub extended : IsExtended old new

-- a loan of the store
abbrev pub StoreIsLent : Type 0
StoreIsLent = (s : Seen) (b : Booleans) → IsState s → IsLent s.store b → IsLentState s (with_store b s)

-- a loan of the operations
abbrev pub OpsAreLent : Type 0
OpsAreLent = (s : Seen) (n : Nodes) → IsState s → Grows s.store.nodes n → IsLentState s (with_store (record s.store { nodes = n }) s)

-- A tree whose chains have operands has no more Boolean places than operators and leaves.
abbrev pub PlacesAreFew : Type 0
PlacesAreFew = (x : Tree) → operands_fit x ≡ true → bit_places x ≤ tree_size x
