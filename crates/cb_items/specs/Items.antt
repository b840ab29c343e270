-- What the additions of a branch make of its state.
use Rattle.std.specs.Prelude.{◌≡◌, ◌≢◌, ◌-◌, ◌^◌, Bool, true, false, Result, Ok, Err, ℕ, ◌+◌, ◌<◌, ◌≤◌, List, [], ◌∷◌, ◌++◌, length}
use Rattle.cb_model.specs.declared.Sort.{Sort}
use Rattle.cb_model.specs.declared.Tree.{Tree}
use Rattle.cb_model.specs.Outside.{Rose}
use Rattle.cb_model.specs.Program.{bools}
use Rattle.cb_model.specs.Values.{Sorts, World}
use Rattle.cb_model.specs.Equations.{Item, Pair, Solvable, Refuted}
use Rattle.cb_dd.specs.declared.Stop.{Stop}
use Rattle.cb_dd.specs.declared.Stop.TheVariants.{Nodes}
use Rattle.cb_unify.specs.State.{Seen, FitsTable}
use Rattle.cb_unify.specs.Growth.{IsGrown}
use Rattle.cb_items.specs.Standing.{Stands, IsFrame, IsVals}

-- whether an answer is a stop for nodes
abbrev pub wants_nodes : {A : Type 0} → Result A Stop → Bool
wants_nodes (Err Nodes) = true
wants_nodes _ = false

-- The count of refusals for nodes doesn't fall. After a stop for nodes it rose, and the budget isn't the greatest there is.
pub record Refuses (old new : Seen) (wants : Bool) : Type 0 where
  pub more : old.store.nodes.fulls ≤ new.store.nodes.fulls
  pub rose : wants ≡ true → Rose old.store.nodes.fulls new.store.nodes.fulls
  pub bounded : wants ≡ true → old.store.nodes.budget ≢ 2 ^ 64 - 1

-- the constants and the budget stay, and so many levels were drawn
pub record StaysBut (old new : Seen) (n : ℕ) : Type 0 where
  pub constants : new.store.constants ≡ old.store.constants
  pub budget : new.store.nodes.budget ≡ old.store.nodes.budget
  pub drawn : new.store.drawn ≡ old.store.drawn + n

-- Variables of these sorts were made, behind those that were there: the frame has their cells, and all values that the
-- others had they still have.
pub record AddsFrame (old new : Seen) (zs : List Sort) (frame : List ℕ) : Type 0 where
  pub grown : IsGrown old new
  pub made : new.made ≡ old.made ++ frame
  pub frame_is : IsFrame new (length old.made) zs frame
  pub fits : (t : Sorts) → FitsTable t old → FitsTable t new
  pub stays : StaysBut old new (bools zs)
  pub vals : (w : World) (es : List Item) → IsVals w old es → IsVals w new es

-- An item was added: the values that are left are those that satisfy it too, and there are some at every assignment.
pub record AddsItem (w : World) (old new : Seen) (x : Item) : Type 0 where
  pub grown : IsGrown old new
  pub made : new.made ≡ old.made
  pub fits : FitsTable w.arguments new
  pub stays : StaysBut old new 0
  pub vals : (es : List Item) → IsVals w old es → IsVals w new (es ++ x ∷ [])
  pub solvable : (es : List Item) → IsVals w old es → Solvable w (es ++ x ∷ [])

-- the item that two cells are equal was added, whatever trees they stand for
abbrev pub AddsPair : Seen → Seen → ℕ → ℕ → Type 0
AddsPair old new l r = (w : World) (x y : Tree) → FitsTable w.arguments old → Stands w.arguments old l x → Stands w.arguments old r y → AddsItem w old new (Pair x y)

-- that item has no solution with those before, at some assignment
abbrev pub RefutesPair : Seen → ℕ → ℕ → Type 0
RefutesPair s l r = (w : World) (es : List Item) (x y : Tree) → Stands w.arguments s l x → Stands w.arguments s r y → IsVals w s es → Refuted w (es ++ Pair x y ∷ [])
