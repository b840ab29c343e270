-- Modules by number as the facts declare them.
use Rattle.std.specs.Prelude.{ℕ, List, [], ◌∷◌, map, take, slice_index_or}
use Rattle.cb_model.specs.Text.{Text}
use Rattle.cb_model.specs.Circuits.{Instance, Module, flats}
use Rattle.cb_model.specs.Facts.{Circuits}
use Rattle.cb_facts.specs.declared.modules.RawModule.{RawModule}
use Rattle.cb_facts.specs.Modules.{texts, IsModule}
use Rattle.cb_facts.specs.Ports.{spec_view}
use Rattle.cb_circ.specs.declared.circuits.Entry.{Entry}
use Rattle.cb_circ.specs.declared.circuits.SpecEntry.{SpecEntry}

-- the names under these numbers
abbrev pub names_of : List Text → List ℕ → List Text
names_of ns ks = map (λ k. slice_index_or ns k []) ks

-- instances by the names of their parts and the numbers of their pins
abbrev pub instances_view : List Text → List Text → List (List ℕ) → List (List ℕ) → List Instance
instances_view ns (p ∷ ps) (a ∷ as') (b ∷ bs) = record { part = p; ins = names_of ns a; outs = names_of ns b } ∷ instances_view ns ps as' bs
instances_view ns _ _ _ = []

-- the module
abbrev pub module_view : RawModule → Module
module_view r = record {
  name = r.name.now;
  inputs = take r.inputs r.nets;
  outputs = names_of r.nets r.outputs.items;
  instances = instances_view r.nets (texts r.parts.items) r.ins r.outs;
}

-- the numbers are those of a module
abbrev pub IsWell : RawModule → Type 0
IsWell r = IsModule r (module_view r)

-- the modules of entries
abbrev pub modules_of : List Entry → List Module
modules_of es = map (λ e. module_view e.raw) es

-- the circuits of entries
abbrev pub circuits_view : List Entry → List SpecEntry → Circuits
circuits_view es ss = record { modules = modules_of es; flats = flats [] (modules_of es); specs = map (λ s. spec_view s.raw) ss }
