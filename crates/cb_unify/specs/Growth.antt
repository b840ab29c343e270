-- What new variables and new cells do to the values of a state.
use Rattle.std.specs.Prelude.{◌≡◌, ℕ, ◌+◌, ◌<◌, ◌≤◌, List, [], ◌∷◌, ◌++◌, length, map, Some, Err, Result, slice_get}
use Rattle.cb_model.specs.declared.Sort.{Sort}
use Rattle.cb_model.specs.declared.Sort.TheVariants as sort
use Rattle.cb_model.specs.declared.Tree.{Tree}
use Rattle.cb_model.specs.Bits.{Bits}
use Rattle.cb_model.specs.Values.{Ground, Bit, Word, Sorts, Fits, Valuation, tree_value}
use Rattle.cb_model.specs.Program.{bools}
use Rattle.cb_boole.specs.View.{InRange}
use Rattle.cb_dd.specs.declared.Node.{Node}
use Rattle.cb_dd.specs.declared.Stop.{Stop}
use Rattle.cb_dd.specs.declared.Stop.TheVariants as stop
use Rattle.cb_ops.specs.Ops.{Grows}
use Rattle.cb_elim.specs.Unified.{HasCause}
use Rattle.cb_elim.specs.Store.{Seen as Booleans, IsArgument, slot_bits, view_of}
use Rattle.cb_heap.specs.declared.Cell.{Cell}
use Rattle.cb_heap.specs.declared.Cell.TheVariants as shown
use Rattle.cb_heap.specs.declared.Stored.{Stored}
use Rattle.cb_heap.specs.Heap.{IsAddable, sort_of, stored_as}
use Rattle.cb_heap.specs.Reading.{Reading, CellHolds, CellsHold}
use Rattle.cb_heap.specs.Finite.{CellSorted}
use Rattle.cb_join.specs.Joins.{Rising}
use Rattle.cb_unify.specs.State.{Seen, FitsTable, HasValue, IsState, Reads, node_bit, value_of}
use Rattle.cb_unify.specs.Moments.{KeepsMoments}

-- variables and cells were added, and values were ruled out: all else stays
pub record IsGrown (old new : Seen) : Type 0 where
  pub reads : (t : Sorts) (a w : Bits) (g : Reading) → Reads t new a w g → Reads t old a w g
  pub made : (more : List ℕ) × (new.made ≡ old.made ++ more)
  pub sorts : (more : List Sort) × (new.heap.sorts ≡ old.heap.sorts ++ more)

-- new variables of these sorts: each reading goes on with any values of them
pub record IsOpened (old new : Seen) (zs : List Sort) (frame : List ℕ) : Type 0 where
  pub grown : IsGrown old new
  pub made : new.made ≡ old.made ++ frame
  pub number : length frame ≡ length zs
  pub sorts : (k r : ℕ) (z : Sort) → slice_get zs k ≡ Some z → slice_get frame k ≡ Some r → slice_get new.heap.sorts r ≡ Some z
  pub any : (t : Sorts) (a w : Bits) (g : Reading) → Reads t old a w g → (u : ℕ → Ground) → ((k : ℕ) (z : Sort) → slice_get zs k ≡ Some z → Fits t z (u k)) →
      (w' : Bits) × (g' : Reading) × Reads t new a w' g' × ((r : ℕ) → r < length old.heap.sorts → g' r ≡ g r) × ((k r : ℕ) → slice_get frame k ≡ Some r → g' r ≡ u k)

-- Cells were added and no variable: where the terms fit the table, each reading goes on with the same bits and the same
-- values of the old cells.
pub record IsExtended (old new : Seen) : Type 0 where
  pub grown : IsGrown old new
  pub made : new.made ≡ old.made
  pub any : (t : Sorts) → FitsTable t new → (a w : Bits) (g : Reading) → Reads t old a w g → (g' : Reading) × Reads t new a w g' × ((r : ℕ) → r < length old.heap.sorts → g' r ≡ g r)

-- the frame's cells have these sorts
pub record IsSortedFrame (s : Seen) (zs : List Sort) (frame : List ℕ) : Type 0 where
  pub number : length frame ≡ length zs
  pub sorts : (k r : ℕ) (z : Sort) → slice_get zs k ≡ Some z → slice_get frame k ≡ Some r → slice_get s.heap.sorts r ≡ Some z

-- the valuation gives each variable of the frame the value of its cell
abbrev pub FrameGives : List Sort → List ℕ → Reading → Valuation → Type 0
FrameGives zs frame g v = (k r : ℕ) (z : Sort) → slice_get zs k ≡ Some z → slice_get frame k ≡ Some r → value_of v z k ≡ g r

-- the cell has the value of the tree over the frame's variables, whatever the frame is
abbrev pub IsBuilt : Seen → List Sort → List ℕ → Tree → ℕ → Type 0
IsBuilt new zs frame tree r = (t : Sorts) (a w : Bits) (g : Reading) (v : Valuation) → Reads t new a w g → FrameGives zs frame g v → g r ≡ tree_value a v tree

-- the slot is there, and the cell's value is its bit
pub record HasSlot (s : Seen) (r x : ℕ) : Type 0 where
  pub there : x < length s.store.slots
  pub bit : (w : Bits) (g : Reading) → CellsHold w s.heap.cells g → g r ≡ Bit (w x)

-- so many Boolean variables were added, each with a slot and a level
pub record AddsVariables (old new : Seen) (n : ℕ) : Type 0 where
  pub constants : new.store.constants ≡ old.store.constants
  pub budget : new.store.nodes.budget ≡ old.store.nodes.budget
  pub drawn : new.store.drawn ≡ old.store.drawn + n
  pub free : length new.store.free ≡ length old.store.free + n
  pub slots : length new.store.slots ≡ length old.store.slots + n

-- new variables of these sorts, with what is added to the store
pub record AreMade (old new : Seen) (zs : List Sort) (frame : List ℕ) : Type 0 where
  pub opened : IsOpened old new zs frame
  pub there : (k r : ℕ) → slice_get frame k ≡ Some r → r < length new.heap.sorts
  pub adds : AddsVariables old new (bools zs)
  pub fits : (t : Sorts) → FitsTable t old → FitsTable t new

-- What a store has for a new cell of which nothing is known but its sort. Whatever value of the sort the cell is to have,
-- each pair of the range goes on to one at which the cell can have it, and the old slots keep their bits.
pub record IsUnknown (old new : Booleans) (z : Sort) (c : Cell) : Type 0 where
  pub addable : (n : ℕ) → IsAddable n c
  pub sort : sort_of c ≡ z
  pub sorted : (t : Sorts) (ss : List Sort) (r : ℕ) → slice_get ss r ≡ Some z → CellSorted t ss r (stored_as c)
  pub rise : (k : ℕ) (cs : List Stored) → Rising (length old.slots) k cs → Rising (length new.slots) k (cs ++ stored_as c ∷ [])
  pub lose : (a w : Bits) → InRange (view_of new) a w → InRange (view_of old) a w × ((y : ℕ) → y < length old.slots → slot_bits (view_of new) a w y ≡ slot_bits (view_of old) a w y)
  pub gain : (t : Sorts) (a w : Bits) → InRange (view_of old) a w → (v : Ground) → Fits t z v →
      (w' : Bits) × InRange (view_of new) a w' × ((y : ℕ) → y < length old.slots → slot_bits (view_of new) a w' y ≡ slot_bits (view_of old) a w y)
      × ((g : Reading) (r : ℕ) → g r ≡ v → CellHolds (slot_bits (view_of new) a w') g r (stored_as c))
  pub constants : new.constants ≡ old.constants
  pub budget : new.nodes.budget ≡ old.nodes.budget
  pub drawn : new.drawn ≡ old.drawn + bools (z ∷ [])
  pub free : length new.free ≡ length old.free + bools (z ∷ [])
  pub slots : length new.slots ≡ length old.slots + bools (z ∷ [])

-- no variable was added, no more slots than so many, and perhaps nodes
pub record AddsSlots (old new : Seen) (most : ℕ) : Type 0 where
  pub constants : new.store.constants ≡ old.store.constants
  pub drawn : new.store.drawn ≡ old.store.drawn
  pub free : new.store.free ≡ old.store.free
  pub slots : length new.store.slots ≤ length old.store.slots + most
  pub nodes : Grows old.store.nodes new.store.nodes

-- Cells, slots that are no variable's and nodes were added, each behind those that were there.
pub record IsAdded (old new : Seen) (most : ℕ) : Type 0 where
  pub extended : IsExtended old new
  pub adds : AddsSlots old new most
  pub cells : (more : List Stored) × (new.heap.cells ≡ old.heap.cells ++ more)
  pub arguments : (n : ℕ) → IsArgument old.store n → IsArgument new.store n
  pub moments : KeepsMoments old new
  pub state : IsState new

-- a cell of a sort stands in place r, and fits a table that the terms fit
pub record IsPlaced (old new : Seen) (z : Sort) (r : ℕ) : Type 0 where
  pub sort : slice_get new.heap.sorts r ≡ Some z
  pub fits : (t : Sorts) → FitsTable t old → FitsTable t new

-- the cell is no leaf
abbrev pub IsNoLeaf : Cell → Type 0
IsNoLeaf (shown.Leaf x) = ⊥
IsNoLeaf _ = Unit {0}

-- a cell was added, in place r
pub record IsPut (old new : Seen) (c : Cell) (r : ℕ) : Type 0 where
  pub added : IsAdded old new 0
  pub nodes : new.store.nodes ≡ old.store.nodes
  pub cell : slice_get new.heap.cells r ≡ Some (stored_as c)
  pub sort : slice_get new.heap.sorts r ≡ Some (sort_of c)
  pub fits : (t : Sorts) → FitsTable t old → CellSorted t new.heap.sorts r (stored_as c) → FitsTable t new

-- the cell has the truth value of the node
pub record IsLeafOf (old new : Seen) (n r : ℕ) : Type 0 where
  pub added : IsAdded old new 1
  pub placed : IsPlaced old new sort.Bool r
  pub value : HasValue new r (λ a w. Bit (node_bit old a w n))

-- the cell is the bus of the nodes' truth values
pub record IsBusOf (old new : Seen) (ns : List Node) (r : ℕ) : Type 0 where
  pub added : IsAdded old new (length ns)
  pub placed : IsPlaced old new sort.Bus r
  pub nodes : new.store.nodes ≡ old.store.nodes
  pub value : HasValue new r (λ a w. Word (map (λ n. node_bit old a w n.0) ns))

-- ---- nodes

-- there are at most so many nodes more
abbrev pub AddsNodes : Booleans → Booleans → ℕ → Type 0
AddsNodes s u n = length u.nodes.triples ≤ length s.nodes.triples + n

-- where the answer is a stop for nodes, the budget is too small for so many more
abbrev pub StopsBy : {A : Type 0} → Result A Stop → Booleans → Booleans → ℕ → Type 0
StopsBy r s u n = r ≡ Err stop.Nodes → HasCause s u n
