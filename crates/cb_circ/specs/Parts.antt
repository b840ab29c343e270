-- The parts of instances.
use Rattle.std.specs.Prelude.{◌≡◌, ◌≤◌, ℕ, ◌+◌, ◌<◌, Bool, true, ◌&&◌, ◌==◌, min, List, [], ◌∷◌, length, map, slice_index_or, Option, Some, None}
use Rattle.cb_model.specs.Text.{Text}
use Rattle.cb_model.specs.declared.GateKind.{GateKind}
use Rattle.cb_model.specs.Circuits.{Flat, Module, Instance, gate_names, kind_named, pins_of, no_flat, flat_named}
use Rattle.cb_model.specs.Facts.{FactRefusal, ModuleRefusal, is_part, instances_fault}
use Rattle.cb_model.specs.Facts as facts
use Rattle.cb_flat.specs.Flatten.{placed_of}
use Rattle.cb_netlist.specs.declared.netlist.Part.{Part}
use Rattle.cb_netlist.specs.declared.netlist.Part.TheVariants as part
use Rattle.cb_circ.specs.declared.checks.Found.{Found}
use Rattle.cb_circ.specs.declared.checks.Fault.{Fault}
use Rattle.cb_circ.specs.declared.checks.Fault.TheVariants as fault

-- the kind of refusal
abbrev pub fault_of : Fault → FactRefusal
fault_of fault.Twice = facts.Twice
fault_of fault.Pins = facts.Pins
fault_of fault.Driven = facts.Driven
fault_of fault.Cycle = facts.Cycle
fault_of fault.Part = facts.Part
fault_of fault.Large = facts.Large

-- the gate of a name, or the number of the first earlier module with it
abbrev pub IsNamed : List Flat → Text → Part → Type 0
IsNamed fs x (part.Gate kind) = kind_named gate_names x ≡ Some kind
IsNamed fs x (part.Module q) = (kind_named gate_names x ≡ None) × (q < length fs) × (flat_named fs x ≡ slice_index_or fs q no_flat) × (is_part fs x ≡ true)

-- whether the part of a name may have so many pins
abbrev pub fits_kind : List Flat → Option GateKind → Text → ℕ → ℕ → Bool
fits_kind fs (Some kind) x ins outs = pins_of kind ins && outs == 1
fits_kind fs None x ins outs = let f = flat_named fs x in ins == f.inputs && outs == length f.outputs

abbrev pub fits_counts : List Flat → Text → ℕ → ℕ → Bool
fits_counts fs x ins outs = fits_kind fs (kind_named gate_names x) x ins outs

-- how many gates the part of a name has
abbrev pub kind_gates : List Flat → Option GateKind → Text → ℕ
kind_gates fs (Some kind) x = 1
kind_gates fs None x = length (flat_named fs x).gates

abbrev pub gates_of : List Flat → Text → ℕ
gates_of fs x = kind_gates fs (kind_named gate_names x) x

-- how many gates instances have
abbrev pub all_gates : List Flat → List Instance → ℕ
all_gates fs [] = 0
all_gates fs (i ∷ is) = gates_of fs i.part + all_gates fs is

-- the parts of instances in order
abbrev pub AreNamed : List Flat → List Instance → List Part → Type 0
AreNamed fs [] [] = Unit {0}
AreNamed fs [] (p ∷ ps) = ⊥
AreNamed fs (i ∷ is) [] = ⊥
AreNamed fs (i ∷ is) (p ∷ ps) = IsNamed fs i.part p × AreNamed fs is ps

-- the instances have no fault, these parts, and so many gates, where they don't have too many
pub record AreParts (fs : List Flat) (m : Module) (r : Found) : Type 0 where
  pub faultless : instances_fault fs m.instances ≡ None
  pub named : AreNamed fs m.instances r.parts.items
  pub gates : r.gates ≡ min (all_gates fs m.instances) 1000001
  pub first : r.gates ≤ 1000000 → r.firsts.items ≡ map (λ p. p.first) (placed_of fs m)

-- the first fault of the instances
abbrev pub FaultsSo : List Flat → Module → Fault → Type 0
FaultsSo fs m e = instances_fault fs m.instances ≡ Some (fault_of e)

-- the refusal of the module
abbrev pub Refuses : List Flat → Module → Fault → Type 0
Refuses fs m e = ModuleRefusal fs m (Some (fault_of e))
