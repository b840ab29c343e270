-- Gates and flattened circuits, gate by gate.
use Rattle.std.specs.Prelude.{◌≡◌, ◌≢◌, ℕ, zero, suc, ◌+◌, ◌<◌, Bool, true, false, not, ◌&&◌, nat_le, ◌==◌, if◌then◌else◌, List, [], ◌∷◌, ◌++◌, map, length, get_or, take, Option, Some, None, position, bytes_eq, codes, flat_map}
use Rattle.cb_model.specs.declared.GateKind.{GateKind}
use Rattle.cb_model.specs.declared.GateKind.TheVariants as gate
use Rattle.cb_model.specs.declared.Gate.{Gate}
use Rattle.cb_model.specs.declared.Circuit.{Circuit}
use Rattle.cb_model.specs.declared.Expr.{Expr}
use Rattle.cb_model.specs.Bits.{all_of, some_of, odd_of, bits_of, numbers, weight, Each}
use Rattle.cb_model.specs.Values.{expr_value}
use Rattle.cb_model.specs.Text.{Text}

-- the numbers of inputs that a gate may have
abbrev pub pins_of : GateKind → ℕ → Bool
pins_of gate.Zero n = n == 0
pins_of gate.One n = n == 0
pins_of gate.Buf n = n == 1
pins_of gate.Not n = n == 1
pins_of gate.Mux n = n == 3
pins_of _ n = nat_le 2 n && nat_le n 8

-- the value of a gate
abbrev pub gate_value : GateKind → List Bool → Bool
gate_value gate.Zero xs = false
gate_value gate.One xs = true
gate_value gate.Buf xs = get_or xs 0 false
gate_value gate.Not xs = not (get_or xs 0 false)
gate_value gate.And xs = all_of xs
gate_value gate.Or xs = some_of xs
gate_value gate.Xor xs = odd_of xs
gate_value gate.Nand xs = not (all_of xs)
gate_value gate.Nor xs = not (some_of xs)
gate_value gate.Xnor xs = not (odd_of xs)
gate_value gate.Mux xs = if get_or xs 0 false then get_or xs 2 false else get_or xs 1 false

-- the bits of these nets
abbrev pub read_all : List Bool → List ℕ → List Bool
read_all v nets = map (λ n. get_or v n false) nets

-- the gate's output has the value of its function
abbrev pub GateHolds : List Bool → Gate → Type 0
GateHolds v g = get_or v g.out false ≡ gate_value g.kind (read_all v g.ins)

-- a bit for every net, where the inputs have these bits and each gate holds
pub record Consistent (c : Circuit) (input v : List Bool) : Type 0 where
  pub every_net : length v ≡ c.nets
  pub inputs : take c.inputs v ≡ input
  pub gates : Each (GateHolds v) c.gates

-- these outputs at this input
pub record Outputs (c : Circuit) (input output : List Bool) : Type 0 where
  pub v : List Bool
  pub consistent : Consistent c input v
  pub outputs : output ≡ read_all v c.outputs

-- ---- modules and their flattened circuits

-- an instance: its part, its input pins and its output pins
pub record Instance : Type 0 where
  pub part : Text
  pub ins : List Text
  pub outs : List Text

-- a module as its fact declares it
pub record Module : Type 0 where
  pub name : Text
  pub inputs : List Text
  pub outputs : List Text
  pub instances : List Instance

-- what drives a pin: an input of the module, or the output of one of its own flattened gates
pub data Net : Type 0 where
  In : ℕ → Net
  Own : ℕ → Net

-- a flattened part: its gates in order, each with what drives its pins, and what drives its outputs
pub record Flat : Type 0 where
  pub name : Text
  pub inputs : ℕ
  pub gates : List (GateKind × List Net)
  pub outputs : List Net

-- a gate as a part with one gate
abbrev pub gate_flat : GateKind → ℕ → Flat
gate_flat kind n = record { name = []; inputs = n; gates = (kind, map In (numbers n)) ∷ []; outputs = Own 0 ∷ [] }

-- an instance with its flattened part and the number of the part's first gate
pub record Placed : Type 0 where
  pub instance : Instance
  pub flat : Flat
  pub first : ℕ

-- the instances in order, each behind the gates of those before it
abbrev pub placed_from : (Text → ℕ → Flat) → ℕ → List Instance → List Placed
placed_from part at [] = []
placed_from part at (i ∷ is) =
    let f = part i.part (length i.ins) in
    record { instance = i; flat = f; first = at } ∷ placed_from part (at + length f.gates) is

-- the pin of an instance that is the net's driver, if one is
abbrev pub pin_of : Text → List Placed → Option (Placed × ℕ)
pin_of x [] = None
pin_of x (p ∷ ps) = pin_or p (position (λ y. bytes_eq x y) p.instance.outs) (pin_of x ps)
  where
    pin_or : Placed → Option ℕ → Option (Placed × ℕ) → Option (Placed × ℕ)
    pin_or p (Some j) r = Some (p, j)
    pin_or p None r = r

-- what drives a pin of a placed part, where the second drives the nets of the module
abbrev pub outward : Placed → (Text → Net) → Net → Net
outward p driver (Own g) = Own (p.first + g)
outward p driver (In i) = driver (get_or p.instance.ins i [])

-- what drives an output pin of an instance
abbrev pub drive_pin : (Text → Net) → Option (Placed × ℕ) → Net
drive_pin next None = In 0
drive_pin next (Some r) = outward r.0 next (get_or r.0.flat.outputs r.1 (In 0))

-- what drives a net: an input, or a pin
abbrev pub drive : (Text → Net) → Option ℕ → Option (Placed × ℕ) → Net
drive next (Some i) r = In i
drive next None r = drive_pin next r

-- what drives a net of a module, through at most so many instances without a gate on the way
abbrev pub driver_within : ℕ → List Text → List Placed → Text → Net
driver_within zero inputs placed x = In 0
driver_within (suc n) inputs placed x =
    drive (driver_within n inputs placed) (position (λ y. bytes_eq x y) inputs) (pin_of x placed)

-- the gates by name
abbrev pub gate_names : List (Text × GateKind)
gate_names =
    (codes "zero", gate.Zero) ∷ (codes "one", gate.One) ∷ (codes "buf", gate.Buf) ∷ (codes "not", gate.Not) ∷
    (codes "and", gate.And) ∷ (codes "or", gate.Or) ∷ (codes "xor", gate.Xor) ∷ (codes "nand", gate.Nand) ∷
    (codes "nor", gate.Nor) ∷ (codes "xnor", gate.Xnor) ∷ (codes "mux", gate.Mux) ∷ []

-- the gate of a name
abbrev pub kind_named : List (Text × GateKind) → Text → Option GateKind
kind_named [] x = None
kind_named (k ∷ ks) x = if bytes_eq k.0 x then Some k.1 else kind_named ks x

-- stands where there is no such part
abbrev pub no_flat : Flat
no_flat = record { name = []; inputs = 0; gates = []; outputs = [] }

-- the flattened module of a name
abbrev pub flat_named : List Flat → Text → Flat
flat_named [] x = no_flat
flat_named (f ∷ fs) x = if bytes_eq f.name x then f else flat_named fs x

-- a gate, or a module declared earlier
abbrev pub part_or : Option GateKind → List Flat → Text → ℕ → Flat
part_or (Some kind) earlier x n = gate_flat kind n
part_or None earlier x n = flat_named earlier x

-- a gate, or a module declared earlier, by name
abbrev pub part_of : List Flat → Text → ℕ → Flat
part_of earlier x n = part_or (kind_named gate_names x) earlier x n

-- the gates of a placed part, with what drives their pins in the module
abbrev pub own_gates : (Text → Net) → Placed → List (GateKind × List Net)
own_gates driver p = map (λ g. (g.0, map (outward p driver) g.1)) p.flat.gates

-- the flattened module, from its placed instances
abbrev pub flat_from : Module → List Placed → Flat
flat_from m placed =
    let driver = driver_within (suc (length m.instances)) m.inputs placed in
    record { name = m.name; inputs = length m.inputs; gates = flat_map (own_gates driver) placed; outputs = map driver m.outputs }

-- a module's gates in the order of its instances, each module instance replaced by that module's gates
abbrev pub flat : List Flat → Module → Flat
flat earlier m = flat_from m (placed_from (part_of earlier) 0 m.instances)

-- the modules of a text in order
abbrev pub flats : List Flat → List Module → List Flat
flats earlier [] = earlier
flats earlier (m ∷ ms) = flats (earlier ++ flat earlier m ∷ []) ms

-- inputs first, then the output of each gate
abbrev pub net_number : ℕ → Net → ℕ
net_number n (In i) = i
net_number n (Own g) = n + g

-- the gates with numbered nets, the first with this output
abbrev pub gates_from : ℕ → ℕ → List (GateKind × List Net) → List Gate
gates_from n at [] = []
gates_from n at (g ∷ gs) = record { kind = g.0; ins = map (net_number n) g.1; out = at } ∷ gates_from n (suc at) gs

-- the circuit of a flattened module
abbrev pub circuit_of : Flat → Circuit
circuit_of f = record { inputs = f.inputs; nets = f.inputs + length f.gates; outputs = map (net_number f.inputs) f.outputs; gates = gates_from f.inputs f.inputs f.gates }

-- ---- agreement

-- the values of a specification's expressions at an input
abbrev pub spec_values : List Expr → List Bool → List Bool
spec_values es input = map (expr_value (bits_of []) (bits_of input)) es

-- the outputs that a specification wants
abbrev pub BySpec : List Expr → List Bool → List Bool → Type 0
BySpec es input output = output ≡ spec_values es input

-- at every input the circuit's outputs are those that are wanted
abbrev pub Agrees : Circuit → (List Bool → List Bool → Type 0) → Type 0
Agrees c Wanted = (input xs ys : List Bool) → length input ≡ c.inputs → Outputs c input xs → Wanted input ys → xs ≡ ys

-- they differ at this input and output, and at no lesser input, and there at no lesser output, counted from 0
pub record LeastDifference (c : Circuit) (Wanted : List Bool → List Bool → Type 0) (input : List Bool) (at : ℕ) (got wanted : Bool) : Type 0 where
  pub xs : List Bool
  pub ys : List Bool
  pub width : length input ≡ c.inputs
  pub outputs : Outputs c input xs
  pub by_spec : Wanted input ys
  pub within : at < length xs
  pub has : got ≡ get_or xs at false
  pub wants : wanted ≡ get_or ys at false
  pub differ : got ≢ wanted
  pub least_output : take at xs ≡ take at ys
  pub least_input : (other us vs : List Bool) → length other ≡ c.inputs → weight other < weight input → Outputs c other us → Wanted other vs → us ≡ vs
