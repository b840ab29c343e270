-- The list of calls of `ite` and `xor` that wait for the answers of their cofactors.
use Rattle.std.specs.Prelude.{◌≡◌, ℕ, ◌+◌, ◌-◌, ◌⊎◌, ◌<◌, ◌≤◌, ◌^◌, min, Bool, true, false, List, [], ◌∷◌, ◌++◌, length, if◌then◌else◌, Result, Ok, Err}
use Rattle.cb_model.specs.Bits.{Bits, put, xor}
use Rattle.cb_dd.specs.declared.Triple.{Triple}
use Rattle.cb_dd.specs.declared.Stop.{Stop}
use Rattle.cb_dd.specs.declared.Stop.TheVariants.{Nodes, Memory}
use Rattle.cb_dd.specs.Diagram.{Store, IsNode, IsChild, function_of, level_of}
use Rattle.cb_ops.specs.Ops.{IsCofactor, StandsFor}
use Rattle.cb_ops.specs.declared.calls.Choice.{Choice}
use Rattle.cb_ops.specs.declared.calls.Operation.{Operation}
use Rattle.cb_ops.specs.declared.calls.Operation.TheVariants.{Ite, Xor}
use Rattle.cb_ops.specs.declared.calls.Pending.{Pending}
use Rattle.cb_ops.specs.declared.calls.Left.{Left}
use Rattle.cb_ops.specs.declared.calls.Left.TheVariants as left
use Rattle.cb_ops.specs.declared.calls.Turn.{Turn}
use Rattle.cb_ops.specs.declared.calls.Turn.TheVariants as turn

-- the bit of a call from the bits of its nodes
abbrev pub combined : Operation → Bool → Bool → Bool → Bool
combined Ite x y z = if x then y else z
combined Xor x y z = xor x y

-- the value of a call
abbrev pub value_of : List Triple → Choice → Bits → Bool
value_of ts c a = combined c.operation (function_of ts c.f.0 a) (function_of ts c.g.0 a) (function_of ts c.h.0 a)

-- the node has the value that the call has in the old store
abbrev pub IsValue : List Triple → List Triple → Choice → ℕ → Type 0
IsValue old new c r = StandsFor new r (value_of old c)

-- the three are nodes
pub record AreCalled (ts : List Triple) (c : Choice) : Type 0 where
  pub f : IsNode ts c.f.0
  pub g : IsNode ts c.g.0
  pub h : IsNode ts c.h.0

-- the second call is the first with the bit at the level
pub record IsPart (ts : List Triple) (level : ℕ) (bit : Bool) (c d : Choice) : Type 0 where
  pub operation : d.operation ≡ c.operation
  pub f : IsCofactor ts c.f.0 level bit d.f.0
  pub g : IsCofactor ts c.g.0 level bit d.g.0
  pub h : IsCofactor ts c.h.0 level bit d.h.0

-- the node is a child at the level, and answers the call with the bit there
pub record IsHalf (ts : List Triple) (level : ℕ) (bit : Bool) (c : Choice) (r : ℕ) : Type 0 where
  pub child : IsChild ts level r
  pub at : (a : Bits) → function_of ts r a ≡ value_of ts c (put level bit a)

-- the bit of the cofactor that a waiting call waits for
abbrev pub bit_of : Left → Bool
bit_of (left.High d) = false
bit_of (left.Low r) = true

-- the call with the bit 1, or the answer with the bit 0
abbrev pub HasLeft : List Triple → ℕ → Choice → Left → Type 0
HasLeft ts level c (left.High d) = IsPart ts level true c d
HasLeft ts level c (left.Low r) = IsHalf ts level false c r.0

-- the least of the levels of a call's nodes
abbrev pub level_of_call : List Triple → Choice → ℕ
level_of_call ts c = min (min (level_of ts c.f.0) (level_of ts c.g.0)) (level_of ts c.h.0)

-- a call waits at the least of its levels
pub record Waits (ts : List Triple) (x : Pending) : Type 0 where
  pub call : AreCalled ts x.call
  pub small : x.level < 2 ^ 32
  pub least : x.level ≡ level_of_call ts x.call
  pub left : HasLeft ts x.level x.call x.left

-- the node answers the call
pub record IsAnswered (ts : List Triple) (c : Choice) (r : ℕ) : Type 0 where
  pub node : IsNode ts r
  pub value : (a : Bits) → function_of ts r a ≡ value_of ts c a

-- the call isn't plain: it depends on a level
abbrev pub IsOpen : Choice → Type 0
IsOpen c = (2 ≤ c.f.0) ⊎ (2 ≤ c.g.0)

-- the call was put last on the list, where it waits for its cofactor with the bit, which isn't plain
pub record IsPut (ts : List Triple) (old new : List Pending) (c : Choice) (bit : Bool) (d : Choice) : Type 0 where
  pub x : Pending
  pub items : new ≡ old ++ x ∷ []
  pub call : x.call ≡ c
  pub side : bit_of x.left ≡ bit
  pub waits : Waits ts x
  pub part : IsPart ts x.level bit c d
  pub opens : IsOpen d

-- the call was answered with at most one more node, and the list stayed
pub record IsClosed (old new : Store) (before after : List Pending) (c : Choice) (r : ℕ) : Type 0 where
  pub items : after ≡ before
  pub one : length new.triples ≤ length old.triples + 1
  pub answer : IsAnswered new.triples c r

-- the call waits for its cofactor with the bit 1, or it was answered
abbrev pub AskedHigh : Store → Store → List Pending → List Pending → Choice → Turn → Type 0
AskedHigh old new before after c (turn.Answer r) = IsClosed old new before after c r.0
AskedHigh old new before after c (turn.Ask d) = (new ≡ old) × IsPut new.triples before after c true d

-- the call waits for one of its cofactors, or it was answered
abbrev pub Asked : Store → Store → List Pending → List Pending → Choice → Turn → Type 0
Asked old new before after c (turn.Answer r) = IsClosed old new before after c r.0
Asked old new before after c (turn.Ask d) = (new ≡ old) × ((bit : Bool) × IsPut new.triples before after c bit d)

-- the waiting call had the answer with the bit 0, and waits for the other one; or it was answered
abbrev pub Resumed : Store → Store → List Pending → List Pending → Pending → Turn → Type 0
Resumed old new before after top (turn.Answer r) = IsClosed old new before after top.call r.0
Resumed old new before after top (turn.Ask d) = (bit_of top.left ≡ false) × AskedHigh old new before after top.call (turn.Ask d)

-- the number of refusals for nodes after a turn
abbrev pub fulls_after_turn : ℕ → Result Turn Stop → ℕ
fulls_after_turn fulls (Ok t) = fulls
fulls_after_turn fulls (Err Memory) = fulls
fulls_after_turn fulls (Err Nodes) = min (fulls + 1) (2 ^ 64 - 1)
