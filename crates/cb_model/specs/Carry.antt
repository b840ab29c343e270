-- The bits that the nets of a flattened module carry.
use Rattle.std.specs.Prelude.{◌≡◌, ℕ, ◌<◌, Bool, false, List, [], ◌∷◌, length, get_or, slice_get, Some}
use Rattle.cb_model.specs.declared.GateKind.{GateKind}
use Rattle.cb_model.specs.Bits.{Each}
use Rattle.cb_model.specs.Circuits.{gate_value, Net, In, Own, Flat}

-- at this input the net carries the bit: it is that input's, or the value of its gate from what the gate's pins carry
mutual
  pub data Carries (f : Flat) (xs : List Bool) : Net → Bool → Type 0 where
    input : {i : ℕ} {b : Bool} → i < length xs → b ≡ get_or xs i false → Carries f xs (In i) b
    gate : {k : ℕ} {b : Bool} (g : GateKind × List Net) (bs : List Bool) → slice_get f.gates k ≡ Some g → AllCarry f xs g.1 bs → b ≡ gate_value g.0 bs → Carries f xs (Own k) b

  -- the same of nets in order
  pub data AllCarry (f : Flat) (xs : List Bool) : List Net → List Bool → Type 0 where
    none : AllCarry f xs [] []
    more : {n : Net} {b : Bool} {ns : List Net} {bs : List Bool} → Carries f xs n b → AllCarry f xs ns bs → AllCarry f xs (n ∷ ns) (b ∷ bs)

-- each gate carries a bit at each input
abbrev pub IsTotal : Flat → Type 0
IsTotal f = (xs : List Bool) → length xs ≡ f.inputs → (k : ℕ) → k < length f.gates → (b : Bool) × Carries f xs (Own k) b

-- the net is an input of the flattened module, or the output of one of its gates
abbrev pub NetIn : Flat → Net → Type 0
NetIn f (In i) = i < f.inputs
NetIn f (Own k) = k < length f.gates

-- a flattened module whose gates all carry bits, and whose outputs are nets of its own
pub record IsCarrying (f : Flat) : Type 0 where
  pub total : IsTotal f
  pub outputs : Each (NetIn f) f.outputs
