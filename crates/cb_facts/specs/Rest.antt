-- What stands behind the name of a module fact.
use Rattle.std.specs.Prelude.{◌≡◌, true, ℕ, List, length, take, Option, Some}
use Rattle.cb_model.specs.Text.{Text, all_different}
use Rattle.cb_model.specs.Grammar.{Form}
use Rattle.cb_model.specs.Sorts.{apart}
use Rattle.cb_model.specs.Circuits.{Instance, Module}
use Rattle.cb_model.specs.Facts.{net_names, instances_of, module_with}
use Rattle.cb_facts.specs.Reads.{AreNumbers, AreInstances}
use Rattle.cb_facts.specs.Modules.{texts}
use Rattle.cb_facts.specs.declared.nets.Nets.{Nets}
use Rattle.cb_facts.specs.declared.modules.Rest.{Rest}
use Rattle.cb_facts.specs.declared.modules.RawModule.{RawModule}

-- the module of these forms, in which each `_` has a name of its own from a number on
abbrev pub rest_of : Text → Form → Form → Form → ℕ → Option Module
rest_of name a b c k =
    let p = apart a k in
    let q = apart b p.1 in
    module_with name (net_names p.0) (net_names q.0) (instances_of (apart c q.1).0)

-- the inputs, outputs and instances were read
pub record ReadsRest (old new : Nets) (a b c : Form) (r : Rest) : Type 0 where
  pub inputs : List Text
  pub outputs : List Text
  pub instances : List Instance
  pub made : (name : Text) → rest_of name a b c old.own ≡ Some (record { name = name; inputs = inputs; outputs = outputs; instances = instances })
  pub front : inputs ≡ take r.inputs new.names
  pub count : r.inputs ≡ length inputs
  pub different : all_different inputs ≡ true
  pub drives : AreNumbers new.names outputs r.outputs.items
  pub fit : AreInstances new.names instances (texts r.instances.parts.items) r.instances.ins r.instances.outs

-- the module has these
pub record IsRest (m : RawModule) (r : Rest) : Type 0 where
  pub count : m.inputs ≡ r.inputs
  pub drives : m.outputs ≡ r.outputs
  pub parts : m.parts ≡ r.instances.parts
  pub ins : m.ins ≡ r.instances.ins
  pub outs : m.outs ≡ r.instances.outs
