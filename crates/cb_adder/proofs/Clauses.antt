-- The clauses of the generated text, and what they are as facts.
use Rattle.std.specs.Prelude.{ℕ, zero, suc, false, List, [], ◌∷◌, ◌++◌, map, codes}
use Rattle.cb_model.specs.Bits.{numbers}
use Rattle.cb_model.specs.Text.{Text}
use Rattle.cb_model.specs.Grammar.{Form, Forms, Variable, Name, Closed, And, Xor, Or, Last, More, FormClause, Rule}
use Rattle.cb_model.specs.Circuits.{Module, Instance}
use Rattle.cb_model.specs.Facts.{Circuits}
use Rattle.cb_adder.proofs.Modules.{a_name, b_name, adder_inputs, adder_module, adder_flat, adder_spec, half, full, half_flat, full_flat}

-- a list of forms
abbrev pub forms_of : List Form → Forms
forms_of [] = Last
forms_of (f ∷ fs) = More f (forms_of fs)

-- a list of nets
abbrev pub list_form : List Text → Form
list_form xs = Closed (forms_of (map Variable xs))

-- an instance, and a module fact
abbrev pub instance_form : Instance → Form
instance_form i = Name i.part (forms_of (list_form i.ins ∷ list_form i.outs ∷ []))

abbrev pub module_form : Module → Form
module_form m = Name (codes "module") (forms_of (Name m.name Last ∷ list_form m.inputs ∷ list_form m.outputs ∷ Closed (forms_of (map instance_form m.instances)) ∷ []))

-- the carry into a bit, its sum, and the specification
abbrev pub carry_form : ℕ → Form
carry_form zero = Variable (codes "C0")
carry_form (suc i) =
    Or (forms_of (And (forms_of (Variable (a_name i) ∷ Variable (b_name i) ∷ [])) ∷ And (forms_of (Or (forms_of (Variable (a_name i) ∷ Variable (b_name i) ∷ [])) ∷ carry_form i ∷ [])) ∷ []))

abbrev pub sum_form : ℕ → Form
sum_form i = Xor (forms_of (Variable (a_name i) ∷ Variable (b_name i) ∷ carry_form i ∷ []))

abbrev pub expr_forms : ℕ → List Form
expr_forms n = map sum_form (numbers n) ++ carry_form n ∷ []

abbrev pub spec_form : ℕ → Form
spec_form n = Name (codes "spec") (forms_of (Name (codes "adder") Last ∷ list_form (adder_inputs n) ∷ Closed (forms_of (expr_forms n)) ∷ []))

-- the four clauses
abbrev pub adder_clauses : ℕ → List FormClause
adder_clauses n = Rule 1 (module_form half) false [] ∷ Rule 2 (module_form full) false [] ∷ Rule 3 (module_form (adder_module n)) false [] ∷ Rule 4 (spec_form n) false [] ∷ []

-- their modules and their specification
abbrev pub adder_circuits : ℕ → Circuits
adder_circuits n = record { modules = half ∷ full ∷ adder_module n ∷ []; flats = half_flat ∷ full_flat ∷ adder_flat n ∷ []; specs = adder_spec n ∷ [] }
