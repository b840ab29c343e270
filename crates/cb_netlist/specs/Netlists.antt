-- When netlists are those of flattened modules.
use Rattle.std.specs.Prelude.{◌≡◌, ℕ, ◌+◌, ◌<◌, ◌≤◌, List, map, length, take, get_or, flat_map}
use Rattle.cb_model.specs.Bits.{Each}
use Rattle.cb_model.specs.Circuits.{Flat, no_flat, net_number}
use Rattle.cb_flat.specs.Walk.{Part, AGate, AModule, Filled, part_gates}
use Rattle.cb_flat.specs.Drivers.{numbered_gates}
use Rattle.cb_netlist.specs.Wiring.{Wiring, wiring_at}

-- the flattened module of a number
abbrev pub flat_at : List Flat → ℕ → Flat
flat_at flats q = get_or flats q no_flat

-- how many gates a part has
abbrev pub gates_in : List Flat → Part → ℕ
gates_in flats (AGate kind) = 1
gates_in flats (AModule q) = length (flat_at flats q).gates

-- a part that is a module is one of these, and has as many inputs
abbrev pub TakesPins : List Flat → Part → ℕ → Type 0
TakesPins flats (AGate kind) pins = Unit {0}
TakesPins flats (AModule q) pins = (q < length flats) × (pins ≡ (flat_at flats q).inputs)

-- an instance has a pin for each input of its part, each pin is a net of the module, and its gates are gates of the module
pub record IsPlaced (earlier : List Flat) (n : Wiring) (f : Filled) : Type 0 where
  pub pins : TakesPins earlier f.part (length f.ins)
  pub nets : Each (λ x. x < n.inputs + n.gates) f.ins
  pub within : f.first + gates_in earlier f.part ≤ n.gates

-- the netlist is that of a flattened module, where the modules before it are these
pub record IsNetlist (earlier : List Flat) (f : Flat) (n : Wiring) : Type 0 where
  pub inputs : n.inputs ≡ f.inputs
  pub count : n.gates ≡ length f.gates
  pub gates : numbered_gates f ≡ flat_map (part_gates (λ q. numbered_gates (flat_at earlier q)) (λ q. (flat_at earlier q).inputs) f.inputs) n.filled
  pub parts : Each (IsPlaced earlier n) n.filled
  pub outputs : n.outputs ≡ map (net_number f.inputs) f.outputs

-- each netlist is that of the flattened module with its number
pub record AreNetlists (flats : List Flat) (ns : List Wiring) : Type 0 where
  pub as_many : length ns ≡ length flats
  pub each : (k : ℕ) → k < length ns → IsNetlist (take k flats) (flat_at flats k) (wiring_at ns k)
