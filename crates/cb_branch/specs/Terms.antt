-- What the goals of a branch make of its terms.
use Rattle.std.specs.Prelude.{◌≡◌, Result, ℕ, true, List, [], ◌∷◌, ◌++◌, length, map, Option, Some, slice_get, IfOk, IfSome, IfNone}
use Rattle.cb_model.specs.declared.Sort.{Sort}
use Rattle.cb_model.specs.declared.Sort.TheVariants as sort
use Rattle.cb_model.specs.declared.Tree.{Tree}
use Rattle.cb_model.specs.declared.Tree.TheVariants as tree
use Rattle.cb_model.specs.Program.{bools, shift_tree}
use Rattle.cb_model.specs.Sorted.{tree_fits}
use Rattle.cb_model.specs.Values.{Sorts, World, tree_in_scope}
use Rattle.cb_model.specs.Equations.{Item, Pair, Solvable, Refuted}
use Rattle.cb_model.specs.Derivation.{head_item}
use Rattle.cb_unify.specs.State.{Seen, FitsTable, IsState}
use Rattle.cb_unify.specs.Growth.{IsBuilt, IsExtended, IsGrown, IsSortedFrame}
use Rattle.cb_items.specs.Items.{AddsPair, RefutesPair, StaysBut}
use Rattle.cb_items.specs.Standing.{Stands, IsFrame, IsVals}
use Rattle.cb_items.specs.Shifted.{IsShifted}

-- where the terms fit the table, a tree over the frame's variables fits the sort
pub record IsBuildable (s : Seen) (t : Sorts) (zs : List Sort) (frame : List ℕ) (z : Sort) (x : Tree) : Type 0 where
  pub table : FitsTable t s
  pub frame_is : IsSortedFrame s zs frame
  pub scope : tree_in_scope s.store.constants (length zs) x ≡ true
  pub fits : tree_fits t zs z x ≡ true

-- the cell was built: it has the value of the tree over the frame's variables
pub record Makes (t : Sorts) (old new : Seen) (zs : List Sort) (frame : List ℕ) (z : Sort) (x : Tree) (r : ℕ) : Type 0 where
  pub built : IsBuilt new zs frame x r
  pub extended : IsExtended old new
  pub sort : slice_get new.heap.sorts r ≡ Some z
  pub fits : FitsTable t new
  pub stays : StaysBut old new 0

-- the tree over the frame's variables can be built
abbrev pub CanBuild : Seen → List ℕ → Tree → Type 0
CanBuild s frame x = (t : Sorts) × (zs : List Sort) × (z : Sort) × IsBuildable s t zs frame z x

-- the same of a term
abbrev pub CanBuildTerm : Seen → List ℕ → Tree → Type 0
CanBuildTerm s frame x = (t : Sorts) × (zs : List Sort) × IsBuildable s t zs frame sort.Term x

-- the same of two trees of one sort
abbrev pub CanEquate : Seen → List ℕ → Tree → Tree → Type 0
CanEquate s frame l r =
    (t : Sorts) × (zs : List Sort) × (z : Sort) × IsBuildable s t zs frame z l × IsBuildable s t zs frame z r

-- the cell was built, for each table and sorts for which the tree can be
abbrev pub IsMade : Seen → Seen → List ℕ → Tree → ℕ → Type 0
IsMade old new frame x r =
    (t : Sorts) (zs : List Sort) (z : Sort) → IsBuildable old t zs frame z x → Makes t old new zs frame z x r

-- the same of a term
abbrev pub IsMadeTerm : Seen → Seen → List ℕ → Tree → ℕ → Type 0
IsMadeTerm old new frame x r =
    (t : Sorts) (zs : List Sort) → IsBuildable old t zs frame sort.Term x → Makes t old new zs frame sort.Term x r

-- What an addition makes of a state: an item, and so many levels.
pub record Adds (w : World) (old new : Seen) (n : ℕ) (x : Item) : Type 0 where
  pub state : IsState new
  pub grown : IsGrown old new
  pub fits : FitsTable w.arguments new
  pub stays : StaysBut old new n
  pub vals : (es : List Item) → IsVals w old es → IsVals w new (es ++ x ∷ [])
  pub solvable : (es : List Item) → IsVals w old es → Solvable w (es ++ x ∷ [])

-- the item can't be added
abbrev pub NoItem : World → Seen → Item → Type 0
NoItem w s x = (es : List Item) → IsVals w s es → Refuted w (es ++ x ∷ [])

-- what an equation of trees makes of a state: it makes no variable
abbrev pub Equates : Seen → Seen → World → Item → Type 0
Equates old new w x = Adds w old new 0 x × (new.made ≡ old.made)

-- the head of a clause over variables of these sorts fits a table that the terms fit
pub record IsHead (s : Seen) (t : Sorts) (zs : List Sort) (name : ℕ) (head : List Tree) : Type 0 where
  pub table : FitsTable t s
  pub scope : tree_in_scope s.store.constants (length zs) (tree.Node name head) ≡ true
  pub fits : tree_fits t zs sort.Term (tree.Node name head) ≡ true

-- an equation of two trees over a frame's variables, as the derivation renames them
abbrev pub ForEquation : Seen → List ℕ → Tree → Tree → (World → Item → Type 0) → Type 0
ForEquation s frame l r P =
    (w : World) (zs : List Sort) (z : Sort) (base : ℕ) (l' r' : Tree) → IsBuildable s w.arguments zs frame z l → IsBuildable s w.arguments zs frame z r →
    IsFrame s base zs frame → IsShifted base l l' → IsShifted base r r' → P w (Pair l' r')

-- the head of a clause and a call, as the derivation renames the head
abbrev pub ForHead : Seen → List Sort → ℕ → List Tree → ℕ → (World → Item → Type 0) → Type 0
ForHead s zs pred head call P =
    (w : World) (args : List Tree) → IsHead s w.arguments zs pred head → Stands w.arguments s call (tree.Node pred args) →
    P w (head_item pred (map (shift_tree (length s.made)) head) args)

-- the clause's variables, which were made behind the others
pub record IsRenamed (old new : Seen) (zs : List Sort) (frame : List ℕ) : Type 0 where
  pub made : new.made ≡ old.made ++ frame
  pub frame_is : IsFrame new (length old.made) zs frame

-- the tree was built, and its cell made equal to another
pub record IsHeaded (t : Sorts) (old new : Seen) (zs : List Sort) (frame : List ℕ) (x : Tree) (call : ℕ) : Type 0 where
  pub mid : Seen
  pub is : IsState mid
  pub cell : ℕ
  pub makes : Makes t old mid zs frame sort.Term x cell
  pub pair : AddsPair mid new cell call

-- the tree was built, and its cell can't be equal to the other
pub record IsUnheaded (t : Sorts) (old : Seen) (zs : List Sort) (frame : List ℕ) (x : Tree) (call : ℕ) : Type 0 where
  pub mid : Seen
  pub is : IsState mid
  pub cell : ℕ
  pub makes : Makes t old mid zs frame sort.Term x cell
  pub none : RefutesPair mid cell call

-- the head of a clause, with new variables, was made equal to the call
abbrev pub AddsHead : Seen → Seen → List Sort → ℕ → List Tree → ℕ → List ℕ → Type 0
AddsHead old new zs pred head call frame =
    ForHead old zs pred head call (λ w x. Adds w old new (bools zs) x × IsRenamed old new zs frame)

-- a term over the frame's variables was made equal to the cell, for each table and sorts for which it can be built
abbrev pub Heads : Seen → Seen → List ℕ → Tree → ℕ → Type 0
Heads old new frame x call =
    (t : Sorts) (zs : List Sort) → IsBuildable old t zs frame sort.Term x → IsHeaded t old new zs frame x call

-- it can't be equal to it
abbrev pub NeverHeads : Seen → List ℕ → Tree → ℕ → Type 0
NeverHeads s frame x call =
    (t : Sorts) (zs : List Sort) → IsBuildable s t zs frame sort.Term x → IsUnheaded t s zs frame x call

-- a frame was given, of which this holds
abbrev pub IfFrame : {E : Type 0} → Result (Option (List ℕ)) E → (List ℕ → Type 0) → Type 0
IfFrame r P = IfOk r (λ o. IfSome o P)

-- none was given
abbrev pub IfNoFrame : {E : Type 0} → Result (Option (List ℕ)) E → Type 0 → Type 0
IfNoFrame r P = IfOk r (λ o. IfNone o P)
