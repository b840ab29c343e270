-- When a module's instances can be flattened: the parts carry bits, and the instances come in an order.
use Rattle.std.specs.Prelude.{◌≡◌, ℕ, ◌<◌, ◌≤◌, Bool, List, [], ◌∷◌, ◌++◌, length, slice_get, Some, position, bytes_eq, Contains}
use Rattle.cb_model.specs.Bits.{Each}
use Rattle.cb_model.specs.Text.{Text}
use Rattle.cb_model.specs.Circuits.{Flat, Module, Placed, placed_from, part_of, pin_of, flat, circuit_of}
use Rattle.cb_model.specs.Sound.{HasOneValuation}
use Rattle.cb_model.specs.Carry.{IsCarrying}

-- the instances of a module with their flattened parts
abbrev pub placed_of : List Flat → Module → List Placed
placed_of earlier m = placed_from (part_of earlier) 0 m.instances

-- the net is an input, or an output of one of these instances
pub data Reaches (m : Module) (placed : List Placed) (done : List ℕ) (x : Text) : Type 0 where
  from_input : (i : ℕ) → position (λ y. bytes_eq x y) m.inputs ≡ Some i → Reaches m placed done x
  from_pin : (k : ℕ) (p : Placed) (j : ℕ) → Contains done k → slice_get placed k ≡ Some p → pin_of x placed ≡ Some (p, j) → j < length p.flat.outputs → Reaches m placed done x

-- each instance takes only inputs and outputs of those before it
abbrev pub InOrder : Module → List Placed → List ℕ → List ℕ → Type 0
InOrder m placed done [] = Unit {0}
InOrder m placed done (k ∷ ks) = ((p : Placed) × ((slice_get placed k ≡ Some p) × Each (Reaches m placed done) p.instance.ins)) × InOrder m placed (done ++ k ∷ []) ks

-- the module's instances in this order
pub record CanFlatten (earlier : List Flat) (m : Module) (order : List ℕ) : Type 0 where
  pub parts : (k : ℕ) (p : Placed) → slice_get (placed_of earlier m) k ≡ Some p → IsCarrying p.flat × (p.flat.inputs ≡ length p.instance.ins)
  pub in_order : InOrder m (placed_of earlier m) [] order
  pub count : length order ≤ length m.instances
  pub all : (k : ℕ) → k < length m.instances → Contains order k
  pub outputs : Each (Reaches m (placed_of earlier m) order) m.outputs

-- such a module carries bits too, so it has exactly one consistent valuation at each input
abbrev pub FlattenCarries : Type 0
FlattenCarries = (earlier : List Flat) (m : Module) (order : List ℕ) → CanFlatten earlier m order → IsCarrying (flat earlier m)

abbrev pub FlattenHasOne : Type 0
FlattenHasOne = (earlier : List Flat) (m : Module) (order : List ℕ) → CanFlatten earlier m order → (input : List Bool) → length input ≡ length m.inputs → HasOneValuation (circuit_of (flat earlier m)) input
