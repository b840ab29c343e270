-- Facts without `_` are what they are written as.
use Rattle.std.proofs.Common.{◌≡◌, ℕ, suc, Bool, true, false, List, [], ◌∷◌, map, Some, None, refl, ◌∙◌, ap, codes}
use Rattle.std.specs.Prelude.{bytes_eq, if◌then◌else◌}
use Rattle.cb_model.specs.Bits.{Each}
use Rattle.cb_model.specs.Text.{Text, all_different}
use Rattle.cb_model.specs.Grammar.{Form, Forms, Variable, Name, Closed, And, Xor, Or, Last, More}
use Rattle.cb_model.specs.Directives.{both}
use Rattle.cb_model.specs.Sorts.{apart, apart_all, own_name, then_more, then_forms}
use Rattle.cb_model.specs.Circuits.{Module, Instance}
use Rattle.cb_model.specs.Facts.{nets_of, net_names, instance_of, instance_with, instances_in, module_of, module_with}
use Rattle.cb_adder.proofs.Clauses.{forms_of, list_form, instance_form, module_form}

-- a name other than `_`
abbrev pub Plain : Text → Type 0
Plain x = bytes_eq x (codes "_") ≡ false

-- a form stays as it is
abbrev pub Keeps : Form → Type 0
Keeps f = (k : ℕ) → apart f k ≡ (f, k)

pub variable-keeps : (x : Text) → Plain x → Keeps (Variable x)
variable-keeps x e k = ap (λ (b : Bool). if b then (Variable (own_name k), suc k) else (Variable x, k)) e

pub all-keep : (fs : List Form) → Each Keeps fs → (k : ℕ) → apart_all (forms_of fs) k ≡ (forms_of fs, k)
all-keep [] h k = refl
all-keep (f ∷ fs) h k = ap (λ r. then_more r (apart_all (forms_of fs))) (h.0 k) ∙ ap (λ (r : Forms × ℕ). (More f r.0, r.1)) (all-keep fs h.1 k)

pub closed-keeps : (fs : List Form) → Each Keeps fs → Keeps (Closed (forms_of fs))
closed-keeps fs h k = ap (then_forms Closed) (all-keep fs h k)

pub name-keeps : (x : Text) (fs : List Form) → Each Keeps fs → Keeps (Name x (forms_of fs))
name-keeps x fs h k = ap (then_forms (Name x)) (all-keep fs h k)

pub and-keeps : (fs : List Form) → Each Keeps fs → Keeps (And (forms_of fs))
and-keeps fs h k = ap (then_forms And) (all-keep fs h k)

pub xor-keeps : (fs : List Form) → Each Keeps fs → Keeps (Xor (forms_of fs))
xor-keeps fs h k = ap (then_forms Xor) (all-keep fs h k)

pub or-keeps : (fs : List Form) → Each Keeps fs → Keeps (Or (forms_of fs))
or-keeps fs h k = ap (then_forms Or) (all-keep fs h k)

names-keep : (xs : List Text) → Each Plain xs → Each Keeps (map Variable xs)
names-keep [] h = tt
names-keep (x ∷ xs) h = (variable-keeps x h.0, names-keep xs h.1)

pub list-keeps : (xs : List Text) → Each Plain xs → Keeps (list_form xs)
list-keeps xs h = closed-keeps (map Variable xs) (names-keep xs h)

-- the pins of an instance
pub record PlainPins (i : Instance) : Type 0 where
  pub ins : Each Plain i.ins
  pub outs : Each Plain i.outs

pub instance-keeps : (i : Instance) → PlainPins i → Keeps (instance_form i)
instance-keeps i h = name-keeps i.part (list_form i.ins ∷ list_form i.outs ∷ []) (list-keeps i.ins h.ins, (list-keeps i.outs h.outs, tt))

instances-keep : (is : List Instance) → Each PlainPins is → Each Keeps (map instance_form is)
instances-keep [] h = tt
instances-keep (i ∷ is) h = (instance-keeps i h.0, instances-keep is h.1)

pub record PlainModule (m : Module) : Type 0 where
  pub ins : Each Plain m.inputs
  pub outs : Each Plain m.outputs
  pub pins : Each PlainPins m.instances

pub module-keeps : (m : Module) → PlainModule m → Keeps (module_form m)
module-keeps m h = name-keeps (codes "module") (Name m.name Last ∷ list_form m.inputs ∷ list_form m.outputs ∷ Closed (forms_of (map instance_form m.instances)) ∷ [])
    (λ k. refl, (list-keeps m.inputs h.ins, (list-keeps m.outputs h.outs, (closed-keeps (map instance_form m.instances) (instances-keep m.instances h.pins), tt))))

-- ---- the module of a fact

pub nets-are : (xs : List Text) → nets_of (forms_of (map Variable xs)) ≡ Some xs
nets-are [] = refl
nets-are (x ∷ xs) = ap (both (Some x)) (nets-are xs)

pub instance-is : (i : Instance) → instance_of (instance_form i) ≡ Some i
instance-is i = ap (λ o. instance_with i.part o (net_names (list_form i.outs))) (nets-are i.ins) ∙ ap (instance_with i.part (Some i.ins)) (nets-are i.outs)

instances-are : (is : List Instance) → instances_in (forms_of (map instance_form is)) ≡ Some is
instances-are [] = refl
instances-are (i ∷ is) = ap (λ o. both o (instances_in (forms_of (map instance_form is)))) (instance-is i) ∙ ap (both (Some i)) (instances-are is)

pub module-is : (m : Module) → all_different m.inputs ≡ true → module_of (module_form m) ≡ Some m
module-is m d =
    ap (λ o. module_with m.name o (net_names (list_form m.outputs)) (instances_in (forms_of (map instance_form m.instances)))) (nets-are m.inputs)
    ∙ ap (λ o. module_with m.name (Some m.inputs) o (instances_in (forms_of (map instance_form m.instances)))) (nets-are m.outputs)
    ∙ ap (module_with m.name (Some m.inputs) (Some m.outputs)) (instances-are m.instances)
    ∙ ap (λ (b : Bool). if b then Some m else None) d

pub module-read : (m : Module) → PlainModule m → all_different m.inputs ≡ true → module_of (apart (module_form m) 0).0 ≡ Some m
module-read m p d = ap (λ (r : Form × ℕ). module_of r.0) (module-keeps m p 0) ∙ module-is m d
