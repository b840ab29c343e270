-- What is kept of modules and specifications.
use Rattle.std.specs.Prelude.{◌≡◌, ◌+◌, ◌<◌, ◌≤◌, ◌^◌, true, List, [], ◌∷◌, length, map}
use Rattle.cb_model.specs.Bits.{Each, all_of}
use Rattle.cb_model.specs.Values.{in_scope}
use Rattle.cb_model.specs.Text.{Text}
use Rattle.cb_model.specs.Circuits.{Flat, flats, pins_of}
use Rattle.cb_model.specs.Carry.{IsCarrying}
use Rattle.cb_netlist.specs.Wiring.{Wiring}
use Rattle.cb_netlist.specs.Netlists.{AreNetlists}
use Rattle.cb_circ.specs.declared.circuits.Entry.{Entry}
use Rattle.cb_circ.specs.declared.circuits.SpecEntry.{SpecEntry}
use Rattle.cb_circ.specs.View.{IsWell, modules_of}

-- a module with its flattened module
pub record IsEntry (f : Flat) (e : Entry) : Type 0 where
  pub well : IsWell e.raw
  pub ins : e.raw.inputs ≡ f.inputs
  pub outs : e.outputs ≡ length f.outputs
  pub outputs : e.outputs ≡ length e.raw.outputs.items
  pub gates : e.gates ≡ length f.gates
  pub small : e.gates ≤ 1000000

-- modules with their flattened modules
abbrev pub AreEntries : List Flat → List Entry → Type 0
AreEntries [] [] = Unit {0}
AreEntries [] (e ∷ es) = ⊥
AreEntries (f ∷ fs) [] = ⊥
AreEntries (f ∷ fs) (e ∷ es) = IsEntry f e × AreEntries fs es

-- a specification, whose expressions have only its inputs
pub record IsSpecEntry (s : SpecEntry) : Type 0 where
  pub inputs : s.inputs ≡ length s.raw.inputs
  pub scope : all_of (map (in_scope 0 (length s.raw.inputs)) s.raw.exprs) ≡ true

-- the names are those of the modules and of the specifications
pub record IsKept (es : List Entry) (names : List Text) (ss : List SpecEntry) (spec_names : List Text) : Type 0 where
  pub named : names ≡ map (λ e. e.raw.name.now) es
  pub specs_named : spec_names ≡ map (λ s. s.raw.name.now) ss
  pub entries : AreEntries (flats [] (modules_of es)) es
  pub scopes : Each IsSpecEntry ss
  pub few : length es < 2 ^ 32
  pub few_specs : length ss < 2 ^ 32

-- each gate has as many pins as its kind may have
abbrev pub HasPins : Flat → Type 0
HasPins f = Each (λ g. pins_of g.0 (length g.1) ≡ true) f.gates

-- the netlists are those of the flattened modules, which carry bits and are small enough
pub record AreWired (es : List Entry) (ns : List Wiring) : Type 0 where
  pub netlists : AreNetlists (flats [] (modules_of es)) ns
  pub carrying : Each IsCarrying (flats [] (modules_of es))
  pub pins : Each HasPins (flats [] (modules_of es))
  pub small : Each (λ n. n.inputs + n.gates < 2 ^ 32) ns

-- what is kept of a file
pub record AreCircuits (es : List Entry) (ns : List Wiring) (names : List Text) (ss : List SpecEntry) (spec_names : List Text) : Type 0 where
  pub kept : IsKept es names ss spec_names
  pub wired : AreWired es ns
