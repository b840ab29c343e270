-- What contracts see of a store of Boolean variables.
use Rattle.std.specs.Prelude.{◌≡◌, ◌≢◌, ℕ, zero, suc, ◌+◌, ◌<◌, ◌≤◌, Bool, false, nat_eq, List, [], ◌∷◌, ◌++◌, length, Option, Some, None, ◌⊎◌, ◌↔◌, if◌then◌else◌}
use Rattle.cb_model.specs.Bits.{Bits, Each}
use Rattle.cb_dd.specs.declared.Triple.{Triple}
use Rattle.cb_dd.specs.declared.Node.{Node}
use Rattle.cb_dd.specs.Diagram.{Store, IsNode, function_of}
use Rattle.cb_ops.specs.Ops.{Grows}
use Rattle.cb_boole.specs.Elimination.{Function, DependsOnly}
use Rattle.cb_boole.specs.Form.{IsForm}
use Rattle.cb_boole.specs.View.{View, IsGood, IsFit, InRange, point}
use Rattle.cb_elim.specs.declared.Free.{Free}
use Rattle.cb_elim.specs.declared.Change.{Change}

-- the number of constants, the number of levels drawn, the free levels with their variables, the values of the slots,
-- the rewritten slots with the values that they had, and the store of nodes
pub record Seen : Type 0 where
  pub constants : ℕ
  pub drawn : ℕ
  pub free : List Free
  pub slots : List Node
  pub trail : List Change
  pub nodes : Store

-- a store without variables
abbrev pub empty : ℕ → ℕ → Seen
empty constants budget = record {
  constants = constants;
  drawn = constants;
  free = [];
  slots = [];
  trail = [];
  nodes = record { budget = budget; triples = []; fulls = 0 };
}

-- the variable for which a level stands
abbrev pub stands_in : List Free → ℕ → Option ℕ
stands_in [] l = None
stands_in (f ∷ fs) l = if nat_eq f.level l then Some f.slot else stands_in fs l

-- the slot is a variable's
abbrev pub IsVariableOf : List Free → ℕ → Type 0
IsVariableOf [] x = ⊥
IsVariableOf (f ∷ fs) x = (x ≡ f.slot) ⊎ IsVariableOf fs x

-- the function of a slot's value
abbrev pub value_in : List Triple → List Node → ℕ → Function
value_in ts [] x = λ p. false
value_in ts (n ∷ ns) zero = function_of ts n.0
value_in ts (n ∷ ns) (suc x) = value_in ts ns x

-- the store by functions
unfoldable pub view_of : Seen → View
view_of s = record {
  constants = s.constants;
  stands = stands_in s.free;
  IsVariable = IsVariableOf s.free;
  values = value_in s.nodes.triples s.slots;
}

-- they are nodes of the store
abbrev pub AreThere : List Triple → List Node → Type 0
AreThere ts ns = Each (λ n. IsNode ts n.0) ns

-- what holds of a store at every call
pub record IsStore (s : Seen) : Type 0 where
  pub good : IsGood (view_of s)
  pub form : IsForm (view_of s)
  pub slots : (x : ℕ) → IsVariableOf s.free x → x < length s.slots
  pub levels : (l x : ℕ) → stands_in s.free l ≡ Some x → l < s.drawn
  pub constants : s.constants ≤ s.drawn
  pub nodes : AreThere s.nodes.triples s.slots
  pub trail : Each (λ c. c.slot < length s.slots) s.trail
  pub changed : Each (λ c. IsNode s.nodes.triples c.value.0) s.trail

-- The condition on a node that is handed to the store. It depends on constants and free levels alone, and its value
-- stays the same where each free level gets the bit which the slot of its variable has.
pub record IsArgument (s : Seen) (n : ℕ) : Type 0 where
  pub node : IsNode s.nodes.triples n
  pub fit : IsFit (view_of s) (function_of s.nodes.triples n)

-- each node that may be handed to the old store may be handed to the new one
abbrev pub KeepsArguments : Seen → Seen → Type 0
KeepsArguments old new = (n : ℕ) → IsArgument old n → IsArgument new n

-- the node depends on constants alone
abbrev pub IsOfConstants : Seen → ℕ → Type 0
IsOfConstants s n = DependsOnly (λ l. l < s.constants) (function_of s.nodes.triples n)

-- nothing but nodes was added
pub record OnlyNodes (old new : Seen) : Type 0 where
  pub same : new ≡ record old { nodes = new.nodes }
  pub grows : Grows old.nodes new.nodes
  pub arguments : (n : ℕ) → IsArgument old n → IsArgument new n

-- the store with these nodes
abbrev pub with_nodes : Store → Seen → Seen
with_nodes t s = record s { nodes = t }

-- the store with this count of refusals for nodes
abbrev pub with_fulls : ℕ → Seen → Seen
with_fulls n s = record s { nodes = record { budget = s.nodes.budget; triples = s.nodes.triples; fulls = n } }

-- the store is as before, but for the count of refusals for nodes
pub record IsAsBefore (old new : Seen) : Type 0 where
  pub same : new ≡ with_fulls new.nodes.fulls old
  pub fulls : old.nodes.fulls ≤ new.nodes.fulls

-- the same pairs are in the range
abbrev pub HasSameRange : View → View → Type 0
HasSameRange S T = (a b : Bits) → InRange S a b ↔ InRange T a b

-- the bits of the slots where the variables have these bits: each free level has that of its variable
abbrev pub slot_bits : View → Bits → Bits → Bits
slot_bits S a w = λ x. S.values x (point S.stands a w)

-- Slot x was added. The slots before it keep their bits, whatever bit is given to x as a variable; its own is this.
pub record AddsSlot (S S' : View) (x : ℕ) (bit : Bits → Bits → Bool) : Type 0 where
  pub stays : (a w v : Bits) → ((y : ℕ) → y ≢ x → w y ≡ v y) → (y : ℕ) → y < x → slot_bits S' a v y ≡ slot_bits S a w y
  pub added : (a w : Bits) → slot_bits S' a w x ≡ bit a w

-- the slots have the same bits
abbrev pub HasSameBits : Seen → Seen → Type 0
HasSameBits s t = (a w : Bits) (x : ℕ) → slot_bits (view_of t) a w x ≡ slot_bits (view_of s) a w x

-- the node has one value at all bits of the levels that give one pair of the range
abbrev pub HasOneValue : Seen → ℕ → Type 0
HasOneValue s n =
    (a b : Bits) (r : InRange (view_of s) a b) → function_of s.nodes.triples n (point (view_of s).stands a b) ≡ function_of s.nodes.triples n r.at

-- the next slot was added, with this value
abbrev pub IsHeld : Seen → Seen → Node → ℕ → Type 0
IsHeld old new f x = (x ≡ length old.slots) × (new ≡ record old { slots = old.slots ++ f ∷ [] })

-- the slot that was added has the bit of this node
abbrev pub AddsNode : Seen → Seen → ℕ → Type 0
AddsNode old new f =
    AddsSlot (view_of old) (view_of new) (length old.slots) (λ a w. function_of old.nodes.triples f (point (view_of old).stands a w))

-- the slot that was added has the bit that it is given as a variable
abbrev pub AddsVariable : Seen → Seen → Type 0
AddsVariable old new = AddsSlot (view_of old) (view_of new) (length old.slots) (λ a w. w (length old.slots))

-- A variable was added: the next slot, whose value is the next level, which stands for it. The range is the same, the other
-- slots keep their bits, and the nodes that could be handed to the store still can.
pub record IsNewVariable (old new : Seen) (x : ℕ) : Type 0 where
  pub next : x ≡ length old.slots
  pub drawn : new.drawn ≡ old.drawn + 1
  pub free : new.free ≡ old.free ++ record { level = old.drawn; slot = x } ∷ []
  pub node : Node
  pub slots : new.slots ≡ old.slots ++ node ∷ []
  pub function : (p : Bits) → function_of new.nodes.triples node.0 p ≡ p old.drawn
  pub constants : new.constants ≡ old.constants
  pub trail : new.trail ≡ old.trail
  pub nodes : Grows old.nodes new.nodes
  pub range : HasSameRange (view_of old) (view_of new)
  pub stays : AddsVariable old new
  pub arguments : KeepsArguments old new
