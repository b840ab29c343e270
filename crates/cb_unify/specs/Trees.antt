-- What writing a tree as cells makes of a state.
use Rattle.std.specs.Prelude.{◌≡◌, ℕ, ◌+◌, ◌*◌, ◌^◌, ◌<◌, ◌≤◌, true, Result, List, [], ◌∷◌, length, map, Option, Some, None, get_or, slice_get, sum, sum_by}
use Rattle.cb_model.specs.declared.Sort.{Sort}
use Rattle.cb_model.specs.declared.Sort.TheVariants as sort
use Rattle.cb_model.specs.declared.Expr.{Expr}
use Rattle.cb_model.specs.declared.Tree.{Tree}
use Rattle.cb_model.specs.declared.Tree.TheOpen.{Tree-F}
use Rattle.cb_model.specs.declared.Tree.TheVariants as tree
use Rattle.cb_model.specs.declared.Tree.TheFolds.{fold-Tree}
use Rattle.cb_model.specs.Bits.{Bits, Each, all_of}
use Rattle.cb_model.specs.Room.{tree_size}
use Rattle.cb_model.specs.Sorted.{arguments_fit, tree_fits, tree_sort, variables_fit}
use Rattle.cb_model.specs.Values.{Bit, Name, Sorts, expr_value, grounds}
use Rattle.cb_boole.specs.View.{point}
use Rattle.cb_dd.specs.declared.Stop.{Stop}
use Rattle.cb_elim.specs.declared.Slot.{Slot}
use Rattle.cb_elim.specs.Expression.{variable_bits}
use Rattle.cb_elim.specs.Store.{Seen as Booleans, IsArgument, view_of}
use Rattle.cb_heap.specs.declared.Ref.{Ref}
use Rattle.cb_heap.specs.declared.Stored.TheVariants as cell
use Rattle.cb_heap.specs.Reading.{Reading, CellsHold}
use Rattle.cb_unify.specs.State.{Seen, FitsTable, Reads, node_bit}
use Rattle.cb_unify.specs.Growth.{AddsNodes, IsAdded, IsBuilt, IsSortedFrame, StopsBy}
use Rattle.cb_unify.specs.Solve.{width}

-- ---- what is promised

-- Over a table that the terms fit: the cell has the value of the tree and its sort, and the terms still fit.
pub record HasTree (t : Sorts) (zs : List Sort) (s : Seen) (frame : List ℕ) (x : Tree) (r : ℕ) : Type 0 where
  pub value : IsBuilt s zs frame x r
  pub sort : slice_get s.heap.sorts r ≡ Some (tree_sort x)
  pub fits : FitsTable t s

-- The cell has the value of the tree over the frame's variables, and the sort of its place, wherever the terms fit a
-- table, the frame's cells have sorts, and the tree fits that table and those sorts.
abbrev pub IsWritten : Seen → Seen → List ℕ → Tree → ℕ → Type 0
IsWritten old new frame x r = (t : Sorts) (zs : List Sort) (z : Sort) → FitsTable t old → IsSortedFrame old zs frame → tree_fits t zs z x ≡ true → HasTree t zs new frame x r × (tree_sort x ≡ z)

-- a compound stands in the cell, with so many arguments in the cells that follow
pub record IsCompoundAt (s : Seen) (name count r : ℕ) : Type 0 where
  pub cell : slice_get s.heap.cells r ≡ Some (cell.Node name count)
  pub behind : r + count < length s.heap.cells

-- where the tree is a compound, so is what stands in the cell
abbrev pub HasCompound : Seen → Tree → ℕ → Type 0
HasCompound s x r = (name : ℕ) (xs : List Tree) → x ≡ tree.Node name xs → IsCompoundAt s name (length xs) r

-- the Boolean places of a tree, each of which gets a slot at most
abbrev pub bit_places_step : Tree-F ℕ → ℕ
bit_places_step (Tree-F.Leaf e) = 1
bit_places_step (Tree-F.Bus es t) = length es
bit_places_step (Tree-F.Node n ns) = sum ns
bit_places_step _ = 0

abbrev pub bit_places : Tree → ℕ
bit_places = fold-Tree ℕ bit_places_step

-- two nodes for each of so many operators and leaves and each row of the levels
abbrev pub nodes_most : Booleans → ℕ → ℕ
nodes_most s n = 2 * n * 2 ^ width s

-- there are at most so many nodes more as so many operators and leaves take
abbrev pub WritesAtMost : Booleans → Booleans → ℕ → Type 0
WritesAtMost s u n = AddsNodes s u (nodes_most s n)

-- where the answer is a stop for nodes, the budget is too small for twice so many operators and leaves
abbrev pub StopsAt : {A : Type 0} → Result A Stop → Booleans → Booleans → ℕ → Type 0
StopsAt r s u n = StopsBy r s u (nodes_most s (2 * n))

-- the nodes that writing a tree adds at most
abbrev pub build_most : Booleans → Tree → ℕ
build_most s x = 4 * tree_size x * 2 ^ width s

-- ---- parts

-- the slots of the first variables of a frame; a variable without one is no truth value
pub record HaveSlots (s : Seen) (frame : List ℕ) (slots : List (Option Slot)) : Type 0 where
  pub number : length slots ≤ length frame
  pub some : (k r : ℕ) (x : Slot) → slice_get frame k ≡ Some r → slice_get slots k ≡ Some (Some x) → (w : Bits) (g : Reading) → CellsHold w s.heap.cells g → g r ≡ Bit (w x.0)
  pub none : (t : Sorts) (k r : ℕ) → FitsTable t s → slice_get frame k ≡ Some r → slice_get slots k ≡ Some None → slice_get s.heap.sorts r ≡ Some sort.Bool → ⊥

-- the node has the value of the expression, whose variables have the bits of their slots
pub record IsNodeOf (old new : Seen) (slots : List (Option Slot)) (e : Expr) (n : ℕ) : Type 0 where
  pub added : IsAdded old new 0
  pub heap : new.heap ≡ old.heap
  pub argument : IsArgument new.store n
  pub value : (a w : Bits) →
      let p = point (view_of old.store).stands a w in
      node_bit new a w n ≡ expr_value p (variable_bits old.store.nodes.triples old.store.slots slots p) e

-- a compound of these cells was added
pub record IsCompoundOf (old new : Seen) (name : ℕ) (args : List Ref) (r : ℕ) : Type 0 where
  pub added : IsAdded old new 0
  pub nodes : new.store.nodes ≡ old.store.nodes
  pub at : IsCompoundAt new name (length args) r
  pub value : (t : Sorts) (a w : Bits) (g : Reading) → Reads t new a w g → g r ≡ Name name (grounds (map (λ q. g q.0) args))
  pub fits : (t : Sorts) → FitsTable t old → map (λ q. get_or old.heap.sorts q.0 sort.Bool) args ≡ get_or t name [] → FitsTable t new
  pub sort : slice_get new.heap.sorts r ≡ Some sort.Term

-- a tree was written, to cell r
pub record IsTreeOf (old new : Seen) (frame : List ℕ) (x : Tree) (r : ℕ) : Type 0 where
  pub added : IsAdded old new (bit_places x)
  pub there : r < length new.heap.cells
  pub compound : HasCompound new x r
  pub stands : (t : Sorts) (zs : List Sort) → FitsTable t old → IsSortedFrame old zs frame → variables_fit zs x ≡ true → arguments_fit t x ≡ true → HasTree t zs new frame x r

-- each cell has its tree
abbrev pub HaveTrees : Sorts → List Sort → Seen → List ℕ → List Tree → List Ref → Type 0
HaveTrees t zs s frame [] [] = Unit {0}
HaveTrees t zs s frame (x ∷ xs) (r ∷ rs) = HasTree t zs s frame x r.0 × HaveTrees t zs s frame xs rs
HaveTrees t zs s frame _ _ = ⊥

-- where a tree is a compound, so is what stands in its cell
abbrev pub HaveCompounds : Seen → List Tree → List Ref → Type 0
HaveCompounds s [] [] = Unit {0}
HaveCompounds s (x ∷ xs) (r ∷ rs) = HasCompound s x r.0 × HaveCompounds s xs rs
HaveCompounds s _ _ = ⊥

-- trees were written, each to its cell
pub record AreTreesOf (old new : Seen) (frame : List ℕ) (xs : List Tree) (rs : List Ref) : Type 0 where
  pub added : IsAdded old new (sum_by bit_places xs)
  pub there : Each (λ r. r.0 < length new.heap.cells) rs
  pub number : length rs ≡ length xs
  pub compounds : HaveCompounds new xs rs
  pub stand : (t : Sorts) (zs : List Sort) → FitsTable t old → IsSortedFrame old zs frame → all_of (map (variables_fit zs) xs) ≡ true → all_of (map (arguments_fit t) xs) ≡ true → FitsTable t new × HaveTrees t zs new frame xs rs
