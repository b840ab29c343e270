-- What contracts see of terms over a store of Boolean variables: which valuations belong to them.
use Rattle.std.specs.Prelude.{◌≡◌, ◌↔◌, ℕ, ◌<◌, ◌≤◌, Bool, List, [], length, Some, slice_get}
use Rattle.cb_model.specs.declared.Sort.{Sort}
use Rattle.cb_model.specs.declared.Sort.TheVariants as sort
use Rattle.cb_model.specs.Bits.{Bits, Each}
use Rattle.cb_model.specs.Values.{Ground, Bit, Word, Sorts, Valuation}
use Rattle.cb_boole.specs.View.{InRange, point}
use Rattle.cb_dd.specs.Diagram.{function_of}
use Rattle.cb_elim.specs.Store.{Seen as Booleans, IsStore, empty, slot_bits, view_of, with_fulls as store_fulls}
use Rattle.cb_heap.specs.Heap.{Terms, IsHeap, no_terms}
use Rattle.cb_heap.specs.Reading.{Reading, IsReading, Agree}
use Rattle.cb_heap.specs.Finite.{AllFinite, IsSorted}
use Rattle.cb_join.specs.Joins.{Rising}

-- the terms, the Boolean variables, and the variables that were made, in order, each by its cell
pub record Seen : Type 0 where
  pub heap : Terms
  pub store : Booleans
  pub made : List ℕ

-- no variables and no terms
abbrev pub no_state : ℕ → ℕ → Seen
no_state constants budget = record { heap = no_terms; store = empty constants budget; made = [] }

-- At an assignment, bits of the Boolean variables and values of the cells belong to the state.
pub record Reads (t : Sorts) (s : Seen) (a w : Bits) (g : Reading) : Type 0 where
  pub range : InRange (view_of s.store) a w
  pub reading : IsReading t (slot_bits (view_of s.store) a w) s.heap.sorts s.heap.cells g

-- the bit of a node where the Boolean variables have these bits
abbrev pub node_bit : Seen → Bits → Bits → ℕ → Bool
node_bit s a w n = function_of s.store.nodes.triples n (point (view_of s.store).stands a w)

-- the cell's value is this, at each assignment and whatever belongs to the state there
abbrev pub HasValue : Seen → ℕ → (Bits → Bits → Ground) → Type 0
HasValue s r f = (t : Sorts) (a w : Bits) (g : Reading) → Reads t s a w g → g r ≡ f a w

-- the value of a variable of a sort
abbrev pub value_of : Valuation → Sort → ℕ → Ground
value_of b sort.Bool n = Bit (b.bits n)
value_of b sort.Bus n = Word (b.words n)
value_of b sort.Term n = b.terms n

-- the valuation gives each variable the value of its cell
abbrev pub Gives : Seen → Reading → Valuation → Type 0
Gives s g b = (n r : ℕ) (z : Sort) → slice_get s.made n ≡ Some r → slice_get s.heap.sorts r ≡ Some z → value_of b z n ≡ g r

-- A valuation belongs to the state at an assignment: some bits of the Boolean variables and some values of the cells
-- belong to it and give each variable its value.
abbrev pub InVals : Sorts → Seen → Bits → Valuation → Type 0
InVals t s a b = (w : Bits) × (g : Reading) × Reads t s a w g × Gives s g b

-- what holds of a state at every call
pub record IsState (s : Seen) : Type 0 where
  pub store : IsStore s.store
  pub heap : IsHeap s.heap
  pub finite : AllFinite s.heap.cells
  pub rise : Rising (length s.store.slots) 0 s.heap.cells
  pub made : Each (λ r. r < length s.heap.cells) s.made

-- the names of all terms have the arguments that the table says
abbrev pub FitsTable : Sorts → Seen → Type 0
FitsTable t s = IsSorted t s.heap.sorts s.heap.cells

-- the state with another count of refusals for nodes
abbrev pub with_fulls : ℕ → Seen → Seen
with_fulls n s = record { heap = s.heap; store = store_fulls n s.store; made = s.made }

-- the state is as before, but for the count of refusals for nodes
pub record IsAsBefore (old new : Seen) : Type 0 where
  pub same : new ≡ with_fulls new.store.nodes.fulls old
  pub fulls : old.store.nodes.fulls ≤ new.store.nodes.fulls

-- What is left of the old values are those at which the pairs agree; and where the terms fit the table, something is
-- left at every assignment.
pub record IsSolved (old new : Seen) (ps : List (ℕ × ℕ)) : Type 0 where
  pub left : (t : Sorts) (a w : Bits) (g : Reading) → Reads t new a w g ↔ (Reads t old a w g × Agree g ps)
  pub some : (t : Sorts) → FitsTable t old → (a : Bits) → (w : Bits) × (g : Reading) × Reads t new a w g

-- at some assignment no values of the state make the pairs agree
pub record HasNone (s : Seen) (ps : List (ℕ × ℕ)) : Type 0 where
  pub at : Bits
  pub none : (t : Sorts) (w : Bits) (g : Reading) → Reads t s at w g → Agree g ps → ⊥
