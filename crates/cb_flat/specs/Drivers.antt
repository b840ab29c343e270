-- A module by numbers, and the flattened module of the definition.
use Rattle.std.specs.Prelude.{◌≡◌, ℕ, List, [], ◌∷◌, map, length, slice_get, flat_map, Some}
use Rattle.cb_model.specs.declared.GateKind.{GateKind}
use Rattle.cb_model.specs.Bits.{Each}
use Rattle.cb_model.specs.Text.{Text}
use Rattle.cb_model.specs.Circuits.{Net, Flat, Placed, gate_flat, net_number, own_gates}
use Rattle.cb_model.specs.Carry.{NetIn}
use Rattle.cb_flat.specs.Walk.{Numbered, Part, AGate, AModule, Filled, part_gates}

-- the gates of a flattened part with numbered pins
abbrev pub numbered_gates : Flat → List Numbered
numbered_gates f = map (λ g. (g.0, map (net_number f.inputs) g.1)) f.gates

-- the part by its kind, or by the number of its module
pub data IsPart (flats : ℕ → Flat) (p : Placed) : Part → Type 0 where
  a_gate : {kind : GateKind} → p.flat ≡ gate_flat kind (length p.instance.ins) → IsPart flats p (AGate kind)
  a_module : {q : ℕ} → p.flat ≡ flats q → IsPart flats p (AModule q)

-- the instance by numbers: its part, its first gate and what drives its input pins
pub record IsFilled (flats : ℕ → Flat) (inputs : ℕ) (driver : Text → Net) (p : Placed) (f : Filled) : Type 0 where
  pub part : IsPart flats p f.part
  pub first : f.first ≡ p.first
  pub ins : f.ins ≡ map (λ x. net_number inputs (driver x)) p.instance.ins
  pub as_many : p.flat.inputs ≡ length p.instance.ins
  pub nets : (k : ℕ) (g : GateKind × List Net) → slice_get p.flat.gates k ≡ Some g → Each (NetIn p.flat) g.1

-- the instances by numbers, in order
abbrev pub AreFilled : (ℕ → Flat) → ℕ → (Text → Net) → List Placed → List Filled → Type 0
AreFilled flats inputs driver [] [] = Unit {0}
AreFilled flats inputs driver (p ∷ ps) (f ∷ fs) = IsFilled flats inputs driver p f × AreFilled flats inputs driver ps fs
AreFilled flats inputs driver ps fs = ⊥

-- then the numbered gates of the module are those of its instances by numbers
abbrev pub NumbersAreRight : Type 0
NumbersAreRight = (flats : ℕ → Flat) (inputs : ℕ) (driver : Text → Net) (ps : List Placed) (fs : List Filled) → AreFilled flats inputs driver ps fs
    → map (λ g. (g.0, map (net_number inputs) g.1)) (flat_map (own_gates driver) ps) ≡ flat_map (part_gates (λ q. numbered_gates (flats q)) (λ q. (flats q).inputs) inputs) fs
