-- Heaps whose cells have finite values: well sorted, and without cycles.
use Rattle.std.specs.Prelude.{◌≡◌, ◌⊎◌, ℕ, zero, suc, ◌+◌, ◌<◌, ◌≤◌, List, [], ◌∷◌, length, Some, slice_get, get_or, FitsSigned}
use Rattle.std.specs.Int.{w64}
use Rattle.cb_model.specs.declared.Sort.{Sort}
use Rattle.cb_model.specs.declared.Sort.TheVariants as sort
use Rattle.cb_model.specs.Values.{Sorts}
use Rattle.cb_heap.specs.declared.Stored.{Stored}
use Rattle.cb_heap.specs.declared.Stored.TheVariants as cell

-- the cells from r on have these sorts, and are so many
abbrev pub HaveSorts : List Sort → ℕ → ℕ → List Sort → Type 0
HaveSorts ss r zero [] = Unit {0}
HaveSorts ss r (suc k) (s ∷ ts) = (slice_get ss r ≡ Some s) × HaveSorts ss (suc r) k ts
HaveSorts ss r _ _ = ⊥

-- a cell and the cells that it names have the sorts that its form asks for
abbrev pub CellSorted : Sorts → List Sort → ℕ → Stored → Type 0
CellSorted t ss r (cell.Leaf s) = slice_get ss r ≡ Some sort.Bool
CellSorted t ss r cell.BusVar = slice_get ss r ≡ Some sort.Bus
CellSorted t ss r cell.BusNil = slice_get ss r ≡ Some sort.Bus
CellSorted t ss r (cell.BusCons h l) = (slice_get ss r ≡ Some sort.Bus) × (slice_get ss h.0 ≡ Some sort.Bool) × (slice_get ss l.0 ≡ Some sort.Bus)
CellSorted t ss r cell.TermVar = slice_get ss r ≡ Some sort.Term
CellSorted t ss r (cell.Int z) = (slice_get ss r ≡ Some sort.Term) × FitsSigned w64 z
CellSorted t ss r (cell.Node n k) = (slice_get ss r ≡ Some sort.Term) × HaveSorts ss (suc r) k (get_or t n [])
CellSorted t ss r (cell.Bound to) = (s : Sort) × (slice_get ss r ≡ Some s) × (slice_get ss to.0 ≡ Some s)
CellSorted t ss r (cell.Same to) = (s : Sort) × (slice_get ss r ≡ Some s) × (slice_get ss to.0 ≡ Some s)

-- every cell is sorted, by these sorts of the names' arguments
pub record IsSorted (t : Sorts) (ss : List Sort) (cs : List Stored) : Type 0 where
  pub number : length ss ≡ length cs
  pub cells : (r : ℕ) (c : Stored) → slice_get cs r ≡ Some c → CellSorted t ss r c

-- the cells that a cell names
abbrev pub Names : ℕ → Stored → ℕ → Type 0
Names r (cell.BusCons h l) j = (j ≡ h.0) ⊎ (j ≡ l.0)
Names r (cell.Node n k) j = (r < j) × (j ≤ r + k)
Names r (cell.Bound to) j = j ≡ to.0
Names r (cell.Same to) j = j ≡ to.0
Names r _ j = ⊥

-- cell r names cell j
abbrev pub IsChild : List Stored → ℕ → ℕ → Type 0
IsChild cs r j = (c : Stored) × (slice_get cs r ≡ Some c) × Names r c j

-- every way down from the cell ends
pub data IsFinite (cs : List Stored) : ℕ → Type 0 where
  ends : {r : ℕ} → ((j : ℕ) → IsChild cs r j → IsFinite cs j) → IsFinite cs r

-- every way down ends
abbrev pub AllFinite : List Stored → Type 0
AllFinite cs = (r : ℕ) → IsFinite cs r
