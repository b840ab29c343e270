-- Calls that were parked, and what their cells stand for.
use Rattle.std.specs.Prelude.{◌≡◌, ℕ, suc, ◌<◌, List, [], ◌∷◌, length, get_or}
use Rattle.cb_model.specs.declared.Tree.{Tree}
use Rattle.cb_model.specs.declared.Tree.TheVariants as tree
use Rattle.cb_model.specs.Values.{Sorts}
use Rattle.cb_heap.specs.declared.Ref.{Ref}
use Rattle.cb_unify.specs.State.{Seen, FitsTable}
use Rattle.cb_items.specs.Calls.{AreStanding}
use Rattle.cb_items.specs.Standing.{Stands}

-- a predicate, the cell of its call, and the cells of the arguments
pub record Parked : Type 0 where
  pub pred : ℕ
  pub call : Ref
  pub args : List Ref

-- The call's cell stands for the call with these arguments, and the arguments' cells for the arguments, of which there are
-- as many as the predicate has.
pub record IsParked (t : Sorts) (s : Seen) (c : Parked) (xs : List Tree) : Type 0 where
  pub there : c.call.0 < length s.heap.sorts
  pub call : Stands t s c.call.0 (tree.Node c.pred xs)
  pub args : AreStanding t s c.args xs
  pub number : length xs ≡ length (get_or t c.pred [])

-- the call of a predicate in this cell was parked, whatever arguments it stands for
abbrev pub ParksCall : Seen → ℕ → ℕ → Parked → Type 0
ParksCall s pred call c = (t : Sorts) (xs : List Tree) → FitsTable t s → Stands t s call (tree.Node pred xs) → IsParked t s c xs

-- the cells from this one on
abbrev pub AreFrom : ℕ → List Ref → Type 0
AreFrom j [] = Unit {0}
AreFrom j (r ∷ rs) = (r.0 ≡ j) × AreFrom (suc j) rs
