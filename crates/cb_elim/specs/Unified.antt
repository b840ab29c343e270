-- What an equation makes of a store.
use Rattle.std.specs.Prelude.{◌≡◌, ◌↔◌, ℕ, ◌+◌, ◌*◌, ◌^◌, ◌<◌, false, List, ◌++◌, length}
use Rattle.cb_model.specs.Bits.{Bits, xor}
use Rattle.cb_model.specs.Equations.{Table}
use Rattle.cb_model.specs.Outside.{Rose}
use Rattle.cb_dd.specs.Diagram.{function_of}
use Rattle.cb_ops.specs.Ops.{Grows, DependsOn}
use Rattle.cb_boole.specs.Elimination.{Function, rest, solved}
use Rattle.cb_boole.specs.View.{View, InRange, point}
use Rattle.cb_elim.specs.declared.Change.{Change}
use Rattle.cb_elim.specs.Store.{Seen, view_of}
use Rattle.cb_elim.specs.Moments.{changes_from, undone}
use Rattle.cb_elim.specs.Equation.{DependEach, IsElimination}

-- The new range is what is left of the old one where the two functions agree, each free level having the bit of its
-- variable; and something is left at every assignment.
pub record IsSolved (S S' : View) (f g : Function) : Type 0 where
  pub left : (a b : Bits) → InRange S' a b ↔ (InRange S a b × (f (point S.stands a b) ≡ g (point S.stands a b)))
  pub some : (a : Bits) → (b : Bits) × InRange S' a b

-- The new values are the old ones at the solution of f = g for the levels on which the two differ, but for the constants:
-- the greatest is eliminated first, each level's own bit is its parameter, and elimination leaves nothing.
pub record IsSolutionOf (S S' : View) (f g : Function) : Type 0 where
  pub levels : List ℕ
  pub elimination : IsElimination S.constants (λ p. xor (f p) (g p)) levels
  pub none_left : (p : Bits) → rest levels (λ p. xor (f p) (g p)) p ≡ false
  pub values : (x : ℕ) (p : Bits) → S'.values x p ≡ S.values x (solved levels (λ p. xor (f p) (g p)) p)

-- At each pair that is left each slot's value is what it was, that of a slot that is no variable's too, each free level
-- having the bit of its variable.
abbrev pub HasSameValues : View → View → Type 0
HasSameValues S S' = (a b : Bits) → InRange S' a b → (x : ℕ) → S'.values x (point S'.stands a b) ≡ S.values x (point S.stands a b)

-- at some assignment no pair of the range makes the two functions agree
pub record HasNone (S : View) (f g : Function) : Type 0 where
  pub at : Bits
  pub none : (b : Bits) → InRange S at b → f (point S.stands at b) ≡ g (point S.stands at b) → ⊥

-- Values of slots were rewritten, nodes were added, and nothing else. The trail gains exactly the slots whose value is
-- another node now, in order of their numbers, each once and with the value that it had.
pub record OnlyValues (old new : Seen) : Type 0 where
  pub constants : new.constants ≡ old.constants
  pub drawn : new.drawn ≡ old.drawn
  pub free : new.free ≡ old.free
  pub number : length new.slots ≡ length old.slots
  pub changes : List Change
  pub trail : new.trail ≡ old.trail ++ changes
  pub listed : changes ≡ changes_from 0 old.slots new.slots
  pub slots : undone changes new.slots ≡ old.slots
  pub nodes : Grows old.nodes new.nodes

-- The equation of two nodes is solved: the range, the slots' values as the solution, what stays, and that at each pair of the
-- range each slot has the value that it had.
pub record IsUnified (old new : Seen) (f g : ℕ) : Type 0 where
  pub solved : IsSolved (view_of old) (view_of new) (function_of old.nodes.triples f) (function_of old.nodes.triples g)
  pub solution : IsSolutionOf (view_of old) (view_of new) (function_of old.nodes.triples f) (function_of old.nodes.triples g)
  pub values : OnlyValues old new
  pub slots : HasSameValues (view_of old) (view_of new)

-- at some assignment no pair of the range makes the two nodes agree
abbrev pub AreApart : Seen → ℕ → ℕ → Type 0
AreApart s f g = HasNone (view_of s) (function_of s.nodes.triples f) (function_of s.nodes.triples g)

-- A stop for nodes has its cause: the count of refusals rose, and the budget is below the nodes at the call and those
-- that the equation may add, for each list of levels that has those on which its sides and the slots' values depend.
pub record UnifyCause (old new : Seen) (f g : ℕ) : Type 0 where
  pub rose : Rose old.nodes.fulls new.nodes.fulls
  pub below : (ls : List ℕ) → DependsOn old.nodes.triples f ls → DependsOn old.nodes.triples g ls → DependEach old.nodes.triples old.slots ls →
      old.nodes.budget < length old.nodes.triples + 64 * (length old.slots + length ls + 1) * 4 ^ (length ls + 1)

-- the same of a call that adds so many nodes at most
pub record HasCause (old new : Seen) (most : ℕ) : Type 0 where
  pub rose : Rose old.nodes.fulls new.nodes.fulls
  pub below : old.nodes.budget < length old.nodes.triples + most

-- giving each free level the bit of its variable gives each pair of the range back: Boole's solution in its reproductive form
abbrev pub IsReproductive : View → Type 0
IsReproductive S = (a b : Bits) → InRange S a b → (x : ℕ) → S.IsVariable x → S.values x (point S.stands a b) ≡ b x

-- A solution in the algebra, over any longer list of constants, is an instance of the slots' values: each free level is
-- given the table of its variable.
abbrev pub IsMostGeneral : View → Type 0
IsMostGeneral S = (short : Bits → Bits) (table : ℕ → Table) → ((a : Bits) → InRange S (short a) (λ x. table x a)) →
    (x : ℕ) → S.IsVariable x → (a : Bits) → S.values x (point S.stands (short a) (λ y. table y a)) ≡ table x a
