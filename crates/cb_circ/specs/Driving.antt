-- What drives the nets of a module, by numbers.
use Rattle.std.specs.Prelude.{◌≡◌, ℕ, suc, ◌+◌, ◌<◌, ◌≤◌, ◌^◌, None, List, [], ◌∷◌, ◌++◌, map, length, get_or, slice_get, slice_set, Some, flat_map, position, bytes_eq, Contains}
use Rattle.cb_model.specs.Text.{Text}
use Rattle.cb_model.specs.Circuits.{Net, Flat, Module, Instance, gate_flat, no_flat, net_number, driver_within}
use Rattle.cb_model.specs.Bits.{Each}
use Rattle.cb_model.specs.Circuits.{flat}
use Rattle.cb_model.specs.Facts.{ModuleRefusal, nets}
use Rattle.cb_model.specs.Carry.{IsCarrying}
use Rattle.cb_flat.specs.Walk.{placed_net, part_gates}
use Rattle.cb_flat.specs.Drivers.{numbered_gates}
use Rattle.cb_flat.specs.Flatten.{placed_of}
use Rattle.cb_netlist.specs.Wiring.{Wiring}
use Rattle.cb_netlist.specs.Netlists.{flat_at, IsPlaced, IsNetlist}
use Rattle.cb_netlist.specs.declared.netlist.Part.{Part}
use Rattle.cb_netlist.specs.declared.netlist.Part.TheVariants as part
use Rattle.cb_circ.specs.declared.checks.Found.{Found}
use Rattle.cb_circ.specs.Parts.{AreNamed}

-- what drives a net of the module
abbrev pub driver_of : List Flat → Module → Text → Net
driver_of fs m = driver_within (suc (length m.instances)) m.inputs (placed_of fs m)

-- the net is an input, or an output of one of these instances
pub data IsDriven (m : Module) (done : List ℕ) (x : Text) : Type 0 where
  by_input : Contains m.inputs x → IsDriven m done x
  by_pin : (k : ℕ) (i : Instance) → Contains done k → slice_get m.instances k ≡ Some i → Contains i.outs x → IsDriven m done x

-- for each net that these instances drive, by number, the number of its driver
pub record AreDrivers (fs : List Flat) (m : Module) (ns : List Text) (done ds : List ℕ) : Type 0 where
  pub long : length ds ≡ length ns
  pub are : (x : Text) (n : ℕ) → IsDriven m done x → position (bytes_eq x) ns ≡ Some n → get_or ds n 0 ≡ net_number (length m.inputs) (driver_of fs m x)

-- what is kept under these numbers
abbrev pub values_at : List ℕ → List ℕ → List ℕ
values_at ds ks = map (λ k. get_or ds k 0) ks

-- values put under these numbers
abbrev pub set_all : List ℕ → List ℕ → List ℕ → List ℕ
set_all ds [] vs = ds
set_all ds (k ∷ ks) [] = ds
set_all ds (k ∷ ks) (v ∷ vs) = set_all (slice_set ds k v) ks vs

-- the flattened part with so many pins
abbrev pub part_flat : List Flat → Part → ℕ → Flat
part_flat fs (part.Gate kind) n = gate_flat kind n
part_flat fs (part.Module q) n = get_or fs q no_flat

-- what drives the outputs of an instance of the part in a module of so many inputs
abbrev pub placed_outs : Flat → ℕ → ℕ → List ℕ → List ℕ
placed_outs f inputs first pins = map (λ o. placed_net f.inputs inputs first pins (net_number f.inputs o)) f.outputs

-- for each net of the module, by number, the number of its driver
pub record IsTable (fs : List Flat) (m : Module) (ns : List Text) (ds : List ℕ) : Type 0 where
  pub long : length ds ≡ length ns
  pub are : (x : Text) (n : ℕ) → Contains (nets m) x → position (bytes_eq x) ns ≡ Some n → get_or ds n 0 ≡ net_number (length m.inputs) (driver_of fs m x)

-- the parts and the first gates of the instances of an accepted module, whose nets have numbers below 2 ^ 32
pub record ArePlaced (fs : List Flat) (m : Module) (r : Found) : Type 0 where
  pub carrying : Each IsCarrying fs
  pub accepted : ModuleRefusal fs m None
  pub named : AreNamed fs m.instances r.parts.items
  pub first : r.firsts.items ≡ map (λ p. p.first) (placed_of fs m)
  pub small : length m.inputs + length (flat fs m).gates < 2 ^ 32

-- more outputs
abbrev pub with_outputs : Wiring → List ℕ → Wiring
with_outputs n xs = record n { outputs = n.outputs ++ xs }

-- the fact is accepted, and the netlist is that of the flattened module
pub record IsChecked (fs : List Flat) (m : Module) (n : Wiring) : Type 0 where
  pub accepted : ModuleRefusal fs m None
  pub netlist : IsNetlist fs (flat fs m) n
  pub count : n.gates ≤ 1000000
  pub small : n.inputs + n.gates < 2 ^ 32

-- each instance of the module with gates has its place
pub record AreFilled (fs : List Flat) (m : Module) (old new : Wiring) : Type 0 where
  pub inputs : new.inputs ≡ old.inputs
  pub count : new.gates ≡ old.gates
  pub outputs : new.outputs ≡ old.outputs
  pub gates : numbered_gates (flat fs m) ≡ flat_map (part_gates (λ q. numbered_gates (flat_at fs q)) (λ q. (flat_at fs q).inputs) (length m.inputs)) new.filled
  pub places : Each (IsPlaced fs new) new.filled
