-- What a heap without cycles means.
use Rattle.std.specs.Prelude.{◌≡◌, ◌≢◌, ℕ, ◌<◌, List, length, Some, None, slice_get}
use Rattle.cb_model.specs.declared.Sort.{Sort}
use Rattle.cb_model.specs.declared.Sort.TheVariants as sort
use Rattle.cb_model.specs.Bits.{Bits}
use Rattle.cb_model.specs.Values.{Sorts, Fits}
use Rattle.cb_model.specs.Derivation.{outermost}
use Rattle.cb_heap.specs.declared.Stored.{Stored}
use Rattle.cb_heap.specs.declared.Stored.TheVariants as cell
use Rattle.cb_heap.specs.Reading.{Reading, CellsHold, IsReading, IsUnbound}
use Rattle.cb_heap.specs.Finite.{AllFinite, IsSorted}
use Rattle.cb_heap.specs.Below.{IsBelow}
use Rattle.cb_heap.specs.Links.{link_of}
use Rattle.cb_heap.specs.Heap.{Terms, IsHeap}

-- the values of the unbound cells are these
abbrev pub AreUnbound : List Stored → Reading → Reading → Type 0
AreUnbound cs g u = (r : ℕ) (c : Stored) → slice_get cs r ≡ Some c → IsUnbound c → g r ≡ u r

-- whatever the bits of the slots and the values of the unbound cells, there are values
abbrev pub HasReading : Type 0
HasReading = (t : Sorts) (w : Bits) (u : Reading) (h : Terms) → AllFinite h.cells → IsSorted t h.sorts h.cells →
    ((r : ℕ) (s : Sort) → slice_get h.sorts r ≡ Some s → Fits t s (u r)) →
    (g : Reading) × IsReading t w h.sorts h.cells g × AreUnbound h.cells g u

-- the bits of the slots and the values of the unbound cells below it determine the value of a cell
abbrev pub OneBelow : Type 0
OneBelow = (w v : Bits) (g k : Reading) (h : Terms) → IsHeap h → AllFinite h.cells → CellsHold w h.cells g → CellsHold v h.cells k → (r : ℕ) → r < length h.cells →
    ((j : ℕ) (c : Stored) → IsBelow h.cells r j → slice_get h.cells j ≡ Some c → IsUnbound c → g j ≡ k j) →
    ((j s : ℕ) → IsBelow h.cells r j → slice_get h.cells j ≡ Some (cell.Leaf s) → w s ≡ v s) → g r ≡ k r

-- and a cell's value determines the value of each cell below it
abbrev pub BelowSame : Type 0
BelowSame = (w v : Bits) (g k : Reading) (h : Terms) → IsHeap h → CellsHold w h.cells g → CellsHold v h.cells k → (r j : ℕ) → IsBelow h.cells r j → g r ≡ k r → g j ≡ k j

-- an unbound cell has two values of different outermost forms, with the same values of the other unbound cells
abbrev pub TwoForms : Type 0
TwoForms = (t : Sorts) (w : Bits) (h : Terms) → AllFinite h.cells → IsSorted t h.sorts h.cells → (v : ℕ) (c : Stored) → slice_get h.cells v ≡ Some c → IsUnbound c →
    (z : Sort) → slice_get h.sorts v ≡ Some z → z ≢ sort.Bool →
    (g k : Reading) × IsReading t w h.sorts h.cells g × IsReading t w h.sorts h.cells k × (outermost (g v) ≢ outermost (k v)) ×
    ((r : ℕ) (d : Stored) → slice_get h.cells r ≡ Some d → IsUnbound d → r ≢ v → g r ≡ k r)

-- an unbound cell and another cell where no link stands have different values at some values
abbrev pub DifferSomewhere : Type 0
DifferSomewhere = (t : Sorts) (w : Bits) (h : Terms) → AllFinite h.cells → IsSorted t h.sorts h.cells → (v r : ℕ) (c d : Stored) → slice_get h.cells v ≡ Some c → IsUnbound c →
    (z : Sort) → slice_get h.sorts v ≡ Some z → z ≢ sort.Bool → r ≢ v → slice_get h.cells r ≡ Some d → link_of d ≡ None →
    ((g : Reading) → IsReading t w h.sorts h.cells g → g v ≡ g r) → ⊥
