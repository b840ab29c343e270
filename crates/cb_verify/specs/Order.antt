-- An order in which the gates of a circuit can be evaluated.
use Rattle.std.specs.Prelude.{◌≡◌, ◌⊎◌, ℕ, ◌+◌, ◌-◌, ◌<◌, ◌^◌, Bool, true, nat_lt, if◌then◌else◌, List, [], ◌∷◌, ◌++◌, map, length, get_or, sum_by, Contains}
use Rattle.cb_model.specs.declared.GateKind.TheVariants as gate
use Rattle.cb_model.specs.declared.Gate.{Gate}
use Rattle.cb_model.specs.declared.Circuit.{Circuit}
use Rattle.cb_model.specs.Bits.{Each}
use Rattle.cb_model.specs.Circuits.{pins_of, Flat, circuit_of}
use Rattle.cb_model.specs.Carry.{IsCarrying}
use Rattle.cb_model.specs.Sound.{HasOneValuation}

-- The circuit is that of a flattened module whose gates carry bits; each gate has as many pins as its kind may have, and
-- the numbers of nets fit.
pub record IsFlattened (f : Flat) (c : Circuit) : Type 0 where
  pub is : c ≡ circuit_of f
  pub carries : IsCarrying f
  pub pins : Each (λ g. pins_of g.kind (length g.ins) ≡ true) c.gates
  pub small : c.nets < 2 ^ 32

-- the gate whose output the net is, where nets below a number are inputs
abbrev pub own_net : ℕ → ℕ → List ℕ
own_net n k = if nat_lt k n then [] else (k - n) ∷ []

-- the gates whose outputs are among the nets
abbrev pub own_nets : ℕ → List ℕ → List ℕ
own_nets n [] = []
own_nets n (k ∷ ks) = own_net n k ++ own_nets n ks

-- each gate needs those whose outputs it takes
abbrev pub gate_needs : Circuit → List (List ℕ)
gate_needs c = map (λ g. own_nets c.inputs g.ins) c.gates

-- the net is an input, or the output of one of these gates
abbrev pub IsKnown : Circuit → List ℕ → ℕ → Type 0
IsKnown c done n = (n < c.inputs) ⊎ ((k : ℕ) × ((n ≡ c.inputs + k) × (k < length c.gates) × Contains done k))

-- stands where there is no such gate
abbrev pub no_gate : Gate
no_gate = record { kind = gate.Zero; ins = []; out = 0 }

-- each gate is one of the circuit, and takes only inputs and outputs of those before it
abbrev pub InSequence : Circuit → List ℕ → List ℕ → Type 0
InSequence c done [] = Unit {0}
InSequence c done (k ∷ ks) = (k < length c.gates) × Each (IsKnown c done) (get_or c.gates k no_gate).ins × InSequence c (done ++ k ∷ []) ks

-- the circuit's gates can be evaluated in this order
pub record CanEvaluate (c : Circuit) (order : List ℕ) : Type 0 where
  pub nets : c.nets ≡ c.inputs + length c.gates
  pub outs : (k : ℕ) → k < length c.gates → (get_or c.gates k no_gate).out ≡ c.inputs + k
  pub pins : (k : ℕ) → k < length c.gates → pins_of (get_or c.gates k no_gate).kind (length (get_or c.gates k no_gate).ins) ≡ true
  pub sequence : InSequence c [] order
  pub all : (k : ℕ) → k < length c.gates → Contains order k
  pub one : (input : List Bool) → length input ≡ c.inputs → HasOneValuation c input

-- the pins of these gates, their outputs among them
abbrev pub pins_in : Circuit → List ℕ → ℕ
pins_in c ks = sum_by (λ k. length (get_or c.gates k no_gate).ins + 1) ks
