-- Links between cells.
use Rattle.std.specs.Prelude.{◌≡◌, ◌⊎◌, ℕ, suc, ◌+◌, ◌<◌, List, length, Option, Some, None, slice_get}
use Rattle.std.specs.Option.{option_map_or}
use Rattle.cb_model.specs.Bits.{Bits}
use Rattle.cb_heap.specs.declared.Stored.{Stored}
use Rattle.cb_heap.specs.declared.Stored.TheVariants as cell
use Rattle.cb_heap.specs.declared.Ref.{Ref}
use Rattle.cb_heap.specs.Reading.{Reading, CellsHold}
use Rattle.cb_heap.specs.Finite.{IsChild, IsFinite}

-- where a cell leads, if it is a link
abbrev pub link_of : Stored → Option Ref
link_of (cell.Bound to) = Some to
link_of (cell.Same to) = Some to
link_of _ = None

-- what stands in the cell is no unbound variable, and no variable that was bound
abbrev pub IsSolid : Stored → Type 0
IsSolid cell.BusVar = ⊥
IsSolid cell.TermVar = ⊥
IsSolid (cell.Bound to) = ⊥
IsSolid _ = Unit {0}

abbrev pub IsSolidAt : List Stored → ℕ → Type 0
IsSolidAt cs r = (c : Stored) × (slice_get cs r ≡ Some c) × IsSolid c

-- a variable leads to an older cell, or to a solid one; a solid cell leads to an older solid one
abbrev pub LinkFalls : List Stored → ℕ → Stored → Type 0
LinkFalls cs r (cell.Bound to) = (to.0 < r) ⊎ IsSolidAt cs to.0
LinkFalls cs r (cell.Same to) = (to.0 < r) × IsSolidAt cs to.0
LinkFalls cs r _ = Unit {0}

-- every chain of links ends, and every cell that is named is there
pub record IsLinked (cs : List Stored) : Type 0 where
  pub falls : (r : ℕ) (c : Stored) → slice_get cs r ≡ Some c → LinkFalls cs r c
  pub within : (r j : ℕ) → IsChild cs r j → j < length cs

-- a measure of the chain from a cell
abbrev pub chain_step : ℕ → ℕ → Stored → ℕ
chain_step n r (cell.Bound to) = n + suc r
chain_step n r (cell.Same to) = suc r
chain_step n r _ = 0

abbrev pub chain : List Stored → ℕ → ℕ
chain cs r = option_map_or (chain_step (length cs) r) (slice_get cs r) 0

-- the links from the first cell lead to the second
pub data LeadsTo (cs : List Stored) : ℕ → ℕ → Type 0 where
  arrives : {r : ℕ} → LeadsTo cs r r
  goes : {r e : ℕ} (c : Stored) (to : Ref) → slice_get cs r ≡ Some c → link_of c ≡ Some to → LeadsTo cs to.0 e → LeadsTo cs r e

-- e is the end of the chain of links from r; so it has the value of r, whatever the values are
pub record IsLast (cs : List Stored) (r e : ℕ) : Type 0 where
  pub cell : Stored
  pub there : slice_get cs e ≡ Some cell
  pub no_link : link_of cell ≡ None
  pub leads : LeadsTo cs r e
  pub value : (w : Bits) (g : Reading) → CellsHold w cs g → g r ≡ g e
  pub finite : IsFinite cs e → IsFinite cs r
