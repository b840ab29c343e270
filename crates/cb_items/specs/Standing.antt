-- What a branch of the derivation keeps of a state: cells that stand for trees over the branch's variables, and the values
-- that are the solutions of its items.
use Rattle.std.specs.Prelude.{◌≡◌, ◌↔◌, ℕ, ◌+◌, ◌<◌, ◌≤◌, List, [], ◌∷◌, length, Some, slice_get}
use Rattle.cb_model.specs.declared.Sort.{Sort}
use Rattle.cb_model.specs.declared.Tree.{Tree}
use Rattle.cb_model.specs.Bits.{Bits}
use Rattle.cb_model.specs.Values.{Sorts, World, Valuation, IsValuation, tree_value}
use Rattle.cb_model.specs.Equations.{Item, Holds, Sat}
use Rattle.cb_heap.specs.Reading.{Reading, Agree}
use Rattle.cb_unify.specs.State.{Seen, Reads, Gives, InVals}

-- the cell stands for the tree: wherever the variables have these values, it has the value of the tree
abbrev pub Stands : Sorts → Seen → ℕ → Tree → Type 0
Stands t s r tree = (a w : Bits) (g : Reading) (b : Valuation) → Reads t s a w g → Gives s g b → g r ≡ tree_value a b tree

-- a variable made: cell k of the frame is variable base + k, of the k-th sort
pub record IsPlace (s : Seen) (base : ℕ) (frame : List ℕ) (k : ℕ) (z : Sort) : Type 0 where
  pub cell : ℕ
  pub at : slice_get frame k ≡ Some cell
  pub made : slice_get s.made (base + k) ≡ Some cell
  pub sort : slice_get s.heap.sorts cell ≡ Some z

-- the frame's cells are the variables from base on, of these sorts
pub record IsFrame (s : Seen) (base : ℕ) (zs : List Sort) (frame : List ℕ) : Type 0 where
  pub number : length frame ≡ length zs
  pub within : base + length zs ≤ length s.made
  pub places : (k : ℕ) (z : Sort) → slice_get zs k ≡ Some z → IsPlace s base frame k z

-- the values of the state are the solutions of the items
abbrev pub IsVals : World → Seen → List Item → Type 0
IsVals w s es = (a : Bits) (b : Valuation) → IsValuation w b → InVals w.arguments s a b ↔ Sat es a b

-- the pairs of cells have one value exactly where the item holds
abbrev pub Says : Sorts → Seen → List (ℕ × ℕ) → Item → Type 0
Says t s ps x = (a w : Bits) (g : Reading) (b : Valuation) → Reads t s a w g → Gives s g b → Agree g ps ↔ Holds a b x

-- the variables that were made are the branch's, in order, each of its sort
pub record HasVariables (s : Seen) (zs : List Sort) : Type 0 where
  pub number : length s.made ≡ length zs
  pub sorts : (k r : ℕ) (z : Sort) → slice_get s.made k ≡ Some r → slice_get zs k ≡ Some z → slice_get s.heap.sorts r ≡ Some z
