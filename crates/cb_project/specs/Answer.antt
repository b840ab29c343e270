-- What the parametric form of the slots of a store says.
use Rattle.std.specs.Prelude.{◌≡◌, ℕ, ◌+◌, ◌<◌, List, [], map, length, slice_index_or}
use Rattle.cb_model.specs.Bits.{Bits, Each, numbers_from}
use Rattle.cb_model.specs.Answers.{Gen}
use Rattle.cb_dd.specs.declared.Node.{Node}
use Rattle.cb_ops.specs.Ops.{Grows}
use Rattle.cb_boole.specs.Elimination.{Function}
use Rattle.cb_boole.specs.Stages.{AreOwn}
use Rattle.cb_elim.specs.declared.Slot.{Slot}
use Rattle.cb_elim.specs.Store.{Seen, KeepsArguments, view_of, value_in}
use Rattle.cb_boole.specs.Parametric.{Allows, values_at}
use Rattle.cb_project.specs.Leaves.{functions_of, AllNodes, ParametricCause}

-- the slots are there
abbrev pub AreSlots : Seen → List Slot → Type 0
AreSlots s leaves = Each (λ l. l.0 < length s.slots) leaves

-- the nodes of the slots' values
abbrev pub slot_nodes : Seen → List Slot → List Node
slot_nodes s leaves = map (λ l. slice_index_or s.slots l.0 (record { 0 = 0 })) leaves

-- the functions of the slots' values
abbrev pub slot_values : Seen → List Slot → List Function
slot_values s leaves = map (λ l. value_in s.nodes.triples s.slots l.0) leaves

-- At each assignment and for all bits of the parameters, the functions give the leaf bits of the parametric form: leaf j
-- is its parameter where the pairs of the store's range allow that after the leaves before it, else the other bit.
abbrev pub IsAnswer : Seen → List Slot → ℕ → List Function → Type 0
IsAnswer s leaves first gens =
    (p : Bits) → Gen (Allows (view_of s) (slot_values s leaves) p) [] (map p (numbers_from first (length gens))) (values_at gens p)

-- The answer: a node for each leaf, the parametric form of the slots' values over the constants and the parameters, of which
-- the first has the next level; each node depends on the parameters up to its own alone.
pub record IsProjected (old new : Seen) (leaves : List Slot) (level : ℕ) (ns : List Node) : Type 0 where
  pub as_many : length ns ≡ length leaves
  pub first : level ≡ old.drawn
  pub nodes : AllNodes new.nodes.triples ns
  pub answer : IsAnswer old leaves level (functions_of new.nodes.triples ns)
  pub own : AreOwn old.constants level 0 (functions_of new.nodes.triples ns)

-- so many levels were drawn, nodes were added, and nothing else
pub record DrawsLevels (old new : Seen) (count : ℕ) : Type 0 where
  pub same : new ≡ record old { drawn = old.drawn + count; nodes = new.nodes }
  pub grows : Grows old.nodes new.nodes
  pub arguments : KeepsArguments old new

-- a stop for nodes has its cause, over the levels on which the slots' values depend
abbrev pub AnswerCause : Seen → Seen → List Slot → Type 0
AnswerCause old new leaves = ParametricCause (slot_nodes old leaves) old.nodes new.nodes
