-- Values of the cells of a heap, by single assignments and ground values.
use Rattle.std.specs.Prelude.{◌≡◌, ℕ, zero, suc, Bool, List, [], ◌∷◌, map, Option, Some, None, slice_get}
use Rattle.cb_model.specs.Derivation.{Outermost, ABit, Empty, NotEmpty, AnInt, ANode}
use Rattle.cb_model.specs.declared.Sort.{Sort}
use Rattle.cb_model.specs.Bits.{Bits, Each, numbers_from}
use Rattle.cb_model.specs.Values.{Ground, Bit, Word, Int, Name, grounds, Sorts, Fits}
use Rattle.cb_heap.specs.declared.Stored.{Stored}
use Rattle.cb_heap.specs.declared.Stored.TheVariants as cell

-- a value for each cell
abbrev pub Reading : Type 0
Reading = ℕ → Ground

-- what a cell says of the values, where the slots have these bits; an unbound variable says nothing
abbrev pub CellHolds : Bits → Reading → ℕ → Stored → Type 0
CellHolds w g r (cell.Leaf s) = g r ≡ Bit (w s)
CellHolds w g r cell.BusVar = Unit {0}
CellHolds w g r cell.BusNil = g r ≡ Word []
CellHolds w g r (cell.BusCons h l) = (x : Bool) × (xs : List Bool) × (g h.0 ≡ Bit x) × (g l.0 ≡ Word xs) × (g r ≡ Word (x ∷ xs))
CellHolds w g r cell.TermVar = Unit {0}
CellHolds w g r (cell.Int z) = g r ≡ Int z
CellHolds w g r (cell.Node n k) = g r ≡ Name n (grounds (map g (numbers_from (suc r) k)))
CellHolds w g r (cell.Bound to) = g r ≡ g to.0
CellHolds w g r (cell.Same to) = g r ≡ g to.0

-- every cell holds
abbrev pub CellsHold : Bits → List Stored → Reading → Type 0
CellsHold w cs g = (r : ℕ) (c : Stored) → slice_get cs r ≡ Some c → CellHolds w g r c

-- Every cell has a value of its sort, and what it says holds. This is the only link between a heap and values.
pub record IsReading (t : Sorts) (w : Bits) (ss : List Sort) (cs : List Stored) (g : Reading) : Type 0 where
  pub fits : (r : ℕ) (s : Sort) → slice_get ss r ≡ Some s → Fits t s (g r)
  pub holds : CellsHold w cs g

-- the two cells of each pair have one value
abbrev pub Agree : Reading → List (ℕ × ℕ) → Type 0
Agree g ps = Each (λ p. g p.0 ≡ g p.1) ps

-- the two slots of each pair have one bit
abbrev pub AgreeBits : Bits → List (ℕ × ℕ) → Type 0
AgreeBits w ps = Each (λ p. w p.0 ≡ w p.1) ps

-- the cells from i on with those from j on, k of them
abbrev pub side_by_side : ℕ → ℕ → ℕ → List (ℕ × ℕ)
side_by_side i j zero = []
side_by_side i j (suc k) = (i, j) ∷ side_by_side (suc i) (suc j) k

-- an unbound variable
abbrev pub IsUnbound : Stored → Type 0
IsUnbound cell.BusVar = Unit {0}
IsUnbound cell.TermVar = Unit {0}
IsUnbound _ = ⊥

-- the outermost form that a cell gives its value, where it gives one
abbrev pub form_of : Stored → Option Outermost
form_of (cell.Leaf s) = Some ABit
form_of cell.BusNil = Some Empty
form_of (cell.BusCons h l) = Some NotEmpty
form_of (cell.Int z) = Some (AnInt z)
form_of (cell.Node n k) = Some (ANode n)
form_of _ = None
