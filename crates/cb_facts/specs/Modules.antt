-- A module by numbers.
use Rattle.std.specs.Prelude.{◌≡◌, true, List, length, map, take, Some}
use Rattle.std.specs.Borrow.{Bor}
use Rattle.cb_model.specs.Text.{Text, all_different}
use Rattle.cb_model.specs.Grammar.{Form}
use Rattle.cb_model.specs.Sorts.{apart}
use Rattle.cb_model.specs.Circuits.{Module}
use Rattle.cb_model.specs.Facts.{module_of}
use Rattle.cb_facts.specs.Reads.{AreNumbers, AreInstances}
use Rattle.cb_facts.specs.declared.modules.RawModule.{RawModule}

-- the texts of names, wherever they lie in memory
abbrev pub texts : List (Bor Text) → List Text
texts xs = map (λ x. x.now) xs

-- the module with numbers in place of names: the nets are numbered, the inputs first
pub record IsModule (r : RawModule) (m : Module) : Type 0 where
  pub named : m.name ≡ r.name.now
  pub front : m.inputs ≡ take r.inputs r.nets
  pub count : r.inputs ≡ length m.inputs
  pub different : all_different m.inputs ≡ true
  pub drives : AreNumbers r.nets m.outputs r.outputs.items
  pub fit : AreInstances r.nets m.instances (texts r.parts.items) r.ins r.outs

-- a module was read from a form
pub record ReadsModule (f : Form) (r : RawModule) : Type 0 where
  pub m : Module
  pub is : module_of (apart f 0).0 ≡ Some m
  pub by_number : IsModule r m
