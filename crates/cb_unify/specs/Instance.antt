-- Solutions in the algebra of what a state says, over any longer list of constants, and how they are instances of it.
use Rattle.std.specs.Prelude.{◌≡◌, ℕ, ◌<◌, length}
use Rattle.cb_model.specs.Bits.{Bits}
use Rattle.cb_model.specs.Equations.{Table, Substitution, valued}
use Rattle.cb_model.specs.Values.{Sorts}
use Rattle.cb_elim.specs.Store.{IsVariableOf, slot_bits, view_of}
use Rattle.cb_heap.specs.Reading.{Reading, CellsHold}
use Rattle.cb_heap.specs.Laws.{AreUnbound}
use Rattle.cb_unify.specs.State.{Seen, Reads, Gives, InVals, IsState}

-- the bits of the slots at each assignment, where each free level is given the table of its variable
abbrev pub instance_bits : Seen → (Bits → Bits) → (ℕ → Table) → Bits → Bits
instance_bits s short table a = slot_bits (view_of s.store) (short a) (λ y. table y a)

-- Tables of the Boolean variables and values of the cells, at each assignment of a longer list of constants, are those of
-- the slots and cells where each free level is given the table of its variable and each unbound cell its value: the slots
-- of the variables have these tables, and no other values of the cells say what the cells say.
pub record AreInstances (s : Seen) (short : Bits → Bits) (table : ℕ → Table) (values : Bits → Reading) : Type 0 where
  pub slots : (x : ℕ) → IsVariableOf s.store.free x → (a : Bits) → instance_bits s short table a x ≡ table x a
  pub cells : (a : Bits) (g : Reading) → CellsHold (instance_bits s short table a) s.heap.cells g → AreUnbound s.heap.cells g (values a) →
      (r : ℕ) → r < length s.heap.cells → g r ≡ values a r

-- whatever belongs to the state at every assignment of a longer list of constants is an instance of it
abbrev pub ValuesAreInstances : Type 0
ValuesAreInstances = (t : Sorts) (s : Seen) (short : Bits → Bits) (table : ℕ → Table) (values : Bits → Reading) → IsState s →
    ((a : Bits) → Reads t s (short a) (λ x. table x a) (values a)) → AreInstances s short table values

-- A substitution for the variables that were made is an instance: some tables and values of the cells are, and give each
-- variable the value that the substitution gives it.
pub record IsInstance (s : Seen) (short : Bits → Bits) (x : Substitution) : Type 0 where
  pub table : ℕ → Table
  pub values : Bits → Reading
  pub are : AreInstances s short table values
  pub gives : (a : Bits) → Gives s (values a) (valued x a)

-- every solution in the algebra, also over a longer list of constants, is an instance of the slots and cells
abbrev pub SolutionsAreInstances : Type 0
SolutionsAreInstances = (t : Sorts) (s : Seen) (short : Bits → Bits) (x : Substitution) → IsState s →
    ((a : Bits) → InVals t s (short a) (valued x a)) → IsInstance s short x
