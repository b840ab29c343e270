-- What stands behind the name of a specification fact.
use Rattle.std.specs.Prelude.{◌≡◌, true, ℕ, List, map, length, Option, Some}
use Rattle.cb_model.specs.declared.Expr.{Expr}
use Rattle.cb_model.specs.Bits.{all_of}
use Rattle.cb_model.specs.Values.{in_scope}
use Rattle.cb_model.specs.Text.{Text}
use Rattle.cb_model.specs.Grammar.{Form}
use Rattle.cb_model.specs.Sorts.{apart}
use Rattle.cb_model.specs.Facts.{Spec, net_names, spec_with, spec_of}
use Rattle.cb_facts.specs.declared.nets.Nets.{Nets}
use Rattle.cb_facts.specs.declared.expressions.RawSpec.{RawSpec}

-- the specification of these forms, in which each `_` has a name of its own from a number on
abbrev pub ports_of : Text → Form → Form → ℕ → Option Spec
ports_of name a b k = let p = apart a k in spec_with name (net_names p.0) (apart b p.1).0

-- the inputs and expressions were read
pub record ReadsPorts (old new : Nets) (a b : Form) (exprs : List Expr) : Type 0 where
  pub made : (name : Text) → ports_of name a b old.own ≡ Some (record { name = name; inputs = new.names; exprs = exprs })
  pub scope : all_of (map (in_scope 0 (length new.names)) exprs) ≡ true

-- the specification by its names
abbrev pub spec_view : RawSpec → Spec
spec_view r = record { name = r.name.now; inputs = r.inputs; exprs = r.exprs }

-- a specification was read from a form; its expressions have only its inputs
pub record ReadsSpec (f : Form) (r : RawSpec) : Type 0 where
  pub is : spec_of (apart f 0).0 ≡ Some (spec_view r)
  pub scope : all_of (map (in_scope 0 (length r.inputs)) r.exprs) ≡ true
