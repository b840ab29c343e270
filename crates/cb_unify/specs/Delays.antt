-- What the words of a delay say of a cell.
use Rattle.std.specs.Prelude.{◌≡◌, ℕ, ◌<◌, Bool, List, Some, slice_get}
use Rattle.cb_model.specs.declared.When.{When}
use Rattle.cb_model.specs.declared.When.TheVariants as when
use Rattle.cb_model.specs.Bits.{Bits}
use Rattle.cb_model.specs.Values.{Ground, Sorts}
use Rattle.cb_model.specs.Derivation.{Outermost, outermost}
use Rattle.cb_boole.specs.Elimination.{Function, DependsOnly}
use Rattle.cb_elim.specs.Store.{Seen as Booleans, value_in}
use Rattle.cb_heap.specs.declared.Stored.{Stored}
use Rattle.cb_heap.specs.declared.Stored.TheVariants as cell
use Rattle.cb_heap.specs.Reading.{Reading}
use Rattle.cb_heap.specs.Below.{IsBelow}
use Rattle.cb_unify.specs.State.{Seen, Reads}

-- `known`: one value at each assignment; `const`: one value over all; `nonvar`: one outermost form over all
abbrev pub HoldsAt : Sorts → Seen → When → ℕ → Type 0
HoldsAt t s when.Any r = Unit {0}
HoldsAt t s when.Known r = (a w w' : Bits) (g g' : Reading) → Reads t s a w g → Reads t s a w' g' → g r ≡ g' r
HoldsAt t s when.Fixed r = (x : Ground) × ((a w : Bits) (g : Reading) → Reads t s a w g → g r ≡ x)
HoldsAt t s when.Nonvar r = (f : Outermost) × ((a w : Bits) (g : Reading) → Reads t s a w g → outermost (g r) ≡ f)

-- ---- parts

-- a truth value that is known, or is a constant
abbrev pub IsSettledBit : ℕ → When → Function → Type 0
IsSettledBit constants when.Known f = DependsOnly (λ l. l < constants) f
IsSettledBit constants when.Fixed f = (b : Bool) × ((p : Bits) → f p ≡ b)
IsSettledBit constants _ f = Unit {0}

-- what stands in the cell is no unbound variable, and settled if it is a truth value
abbrev pub Settles : Booleans → When → Stored → Type 0
Settles s d (cell.Leaf x) = IsSettledBit s.constants d (value_in s.nodes.triples s.slots x)
Settles s d cell.BusVar = ⊥
Settles s d cell.TermVar = ⊥
Settles s d _ = Unit {0}

-- every cell below this one settles, and it itself
abbrev pub AreSettled : Booleans → When → List Stored → ℕ → Type 0
AreSettled s d cs r = (j : ℕ) (c : Stored) → IsBelow cs r j → slice_get cs j ≡ Some c → Settles s d c
