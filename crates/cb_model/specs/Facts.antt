-- The module and specification facts of a file, and their refusals in order.
use Rattle.std.specs.Prelude.{◌≡◌, ℕ, zero, suc, Bool, true, false, not, ◌&&◌, ◌||◌, ◌==◌, nat_lt, if◌then◌else◌, ◌⊎◌, List, [], ◌∷◌, ◌++◌, length, Option, Some, None, is_some, slice_get, bytes_eq, flat_map, count_by, Contains, MatchBool, pos}
use Rattle.std.specs.List.{list_any, list_all}
use Rattle.cb_model.specs.declared.Expr.{Expr}
use Rattle.cb_model.specs.declared.GateKind.{GateKind}
use Rattle.cb_model.specs.Text.{Text, all_different}
use Rattle.cb_model.specs.Grammar.{Form, Forms, Variable, Integer, Name, Closed, Not, And, Xor, Or, Last, More, FormClause, Rule}
use Rattle.cb_model.specs.Directives.{both}
use Rattle.cb_model.specs.Sorts.{as_exprs, apart}
use Rattle.cb_model.specs.Loading.{is_fact, sign_is, module_sign, spec_sign}
use Rattle.cb_model.specs.Circuits.{Module, Instance, Flat, flat, flat_named, gate_names, kind_named, pins_of}

-- the kinds of refusal of facts
pub data FactRefusal : Type 0 where
  Twice : FactRefusal
  Pins : FactRefusal
  Driven : FactRefusal
  Cycle : FactRefusal
  Part : FactRefusal
  Large : FactRefusal

-- a specification: its name, its inputs and its expressions over them
pub record Spec : Type 0 where
  pub name : Text
  pub inputs : List Text
  pub exprs : List Expr

-- ---- the forms of facts

-- the name of a net, where the form is a variable
abbrev pub net_of : Form → Option Text
net_of (Variable x) = Some x
net_of _ = None

-- the names of variables, where all are variables
abbrev pub nets_of : Forms → Option (List Text)
nets_of Last = Some []
nets_of (More f fs) = both (net_of f) (nets_of fs)

-- the same of a list without a tail
abbrev pub net_names : Form → Option (List Text)
net_names (Closed fs) = nets_of fs
net_names _ = None

-- an instance, where its pins are variables
abbrev pub instance_with : Text → Option (List Text) → Option (List Text) → Option Instance
instance_with part (Some ins) (Some outs) = Some (record { part = part; ins = ins; outs = outs })
instance_with part _ _ = None

-- an instance: a name with two lists
abbrev pub instance_of : Form → Option Instance
instance_of (Name part (More ins (More outs Last))) = instance_with part (net_names ins) (net_names outs)
instance_of _ = None

-- instances, where all are
abbrev pub instances_in : Forms → Option (List Instance)
instances_in Last = Some []
instances_in (More f fs) = both (instance_of f) (instances_in fs)

-- the same of a list without a tail
abbrev pub instances_of : Form → Option (List Instance)
instances_of (Closed fs) = instances_in fs
instances_of _ = None

-- a module, where no named input stands twice
abbrev pub module_with : Text → Option (List Text) → Option (List Text) → Option (List Instance) → Option Module
module_with name (Some ins) (Some outs) (Some is) =
    if all_different ins then Some (record { name = name; inputs = ins; outputs = outs; instances = is }) else None
module_with name _ _ _ = None

-- a module fact without a body, in its form; each `_` is a net of its own
abbrev pub module_of : Form → Option Module
module_of (Name x (More (Name name Last) (More ins (More outs (More is Last))))) = module_with name (net_names ins) (net_names outs) (instances_of is)
module_of _ = None

-- an expression over these inputs, 0, 1 and the operators
abbrev mutual
  pub is_spec : List Text → Form → Bool
  is_spec ins (Variable x) = list_any (bytes_eq x) ins
  is_spec ins (Integer (pos zero)) = true
  is_spec ins (Integer (pos (suc zero))) = true
  is_spec ins (Not f) = is_spec ins f
  is_spec ins (And fs) = are_spec ins fs
  is_spec ins (Xor fs) = are_spec ins fs
  is_spec ins (Or fs) = are_spec ins fs
  is_spec ins _ = false

  pub are_spec : List Text → Forms → Bool
  are_spec ins Last = true
  are_spec ins (More f fs) = is_spec ins f && are_spec ins fs

-- the expressions of a specification over its inputs
abbrev pub spec_exprs : List Text → Forms → List Expr
spec_exprs ins fs = as_exprs (record { variables = ins; constants = []; names = [] }) fs

-- a specification, where it is in its form
abbrev pub spec_with : Text → Option (List Text) → Form → Option Spec
spec_with name (Some ins) (Closed fs) =
    if all_different ins && are_spec ins fs then Some (record { name = name; inputs = ins; exprs = spec_exprs ins fs }) else None
spec_with name _ _ = None

-- a specification fact in its form
abbrev pub spec_of : Form → Option Spec
spec_of (Name x (More (Name name Last) (More ins (More exprs Last)))) = spec_with name (net_names ins) exprs
spec_of _ = None

-- ---- the checks of a module

-- the numbers of pins that a part has, if there is such a part
abbrev pub pins_fit : List Flat → Option GateKind → Instance → Bool
pins_fit earlier (Some kind) i = pins_of kind (length i.ins) && length i.outs == 1
pins_fit earlier None i =
    let f = flat_named earlier i.part in length i.ins == f.inputs && length i.outs == length f.outputs

-- whether the name is a gate or an earlier module
abbrev pub is_part : List Flat → Text → Bool
is_part earlier x = is_some (kind_named gate_names x) || list_any (λ f. bytes_eq f.name x) earlier

-- the first fault of the instances in order
abbrev pub instances_fault : List Flat → List Instance → Option FactRefusal
instances_fault earlier [] = None
instances_fault earlier (i ∷ is) =
    if not (is_part earlier i.part) then Some Part
    else (if not (pins_fit earlier (kind_named gate_names i.part) i) then Some Pins else instances_fault earlier is)

-- what drives nets: the inputs and the output pins; and all nets
abbrev pub drivers : Module → List Text
drivers m = m.inputs ++ flat_map (λ i. i.outs) m.instances

-- all nets of a module, as often as they stand there
abbrev pub nets : Module → List Text
nets m = drivers m ++ m.outputs ++ flat_map (λ i. i.ins) m.instances

-- whether each net is driven exactly once
abbrev pub all_driven_once : Module → Bool
all_driven_once m = list_all (λ x. count_by (bytes_eq x) (drivers m) == 1) (nets m)

-- instance j takes an output net of instance i
pub record Feeds (m : Module) (i j : ℕ) : Type 0 where
  pub from : Instance
  pub to : Instance
  pub net : Text
  pub from_is : slice_get m.instances i ≡ Some from
  pub to_is : slice_get m.instances j ≡ Some to
  pub given : Contains from.outs net
  pub taken : Contains to.ins net

-- instances each of which takes an output net of the one before
pub data Leads (m : Module) : ℕ → ℕ → Type 0 where
  feeds : {i j : ℕ} → Feeds m i j → Leads m i j
  leads_on : {i k : ℕ} (j : ℕ) → Feeds m i j → Leads m j k → Leads m i k

-- some instances feed one another round to the first
abbrev pub HasCycle : Module → Type 0
HasCycle m = (i : ℕ) × Leads m i i

-- what an accepted form of a module is refused with, if it is
abbrev pub ModuleRefusal : List Flat → Module → Option FactRefusal → Type 0
ModuleRefusal earlier m r =
    MatchBool (is_part earlier m.name) (r ≡ Some Twice)
    (MatchBool (is_some (instances_fault earlier m.instances)) (r ≡ instances_fault earlier m.instances)
    (MatchBool (all_driven_once m)
    ((HasCycle m × (r ≡ Some Cycle)) ⊎
    ((HasCycle m → ⊥) × (r ≡ (if nat_lt 1000000 (length (flat earlier m).gates) then Some Large else None))))
    (r ≡ Some Driven)))

-- ---- the facts of a file

-- the modules, flattened too, and the specifications of a file so far
pub record Circuits : Type 0 where
  pub modules : List Module
  pub flats : List Flat
  pub specs : List Spec

-- none yet
abbrev pub no_circuits : Circuits
no_circuits = record { modules = []; flats = []; specs = [] }

-- one module more
abbrev pub with_module : Circuits → Module → Circuits
with_module c m = record c { modules = c.modules ++ m ∷ []; flats = c.flats ++ flat c.flats m ∷ [] }

-- one specification more
abbrev pub with_spec : Circuits → Spec → Circuits
with_spec c s = record c { specs = c.specs ++ s ∷ [] }

-- a fact is refused, or it adds a module or a specification
pub data FactReads (c : Circuits) : FormClause → Option FactRefusal → Circuits → Type 0 where
  bodied : {n : ℕ} {f : Form} {b : Bool} {gs : List _} → b ≡ true → FactReads c (Rule n f b gs) (Some Pins) c
  bad_module : {n : ℕ} {f : Form} {b : Bool} {gs : List _} → b ≡ false → sign_is module_sign f ≡ true → module_of (apart f 0).0 ≡ None → FactReads c (Rule n f b gs) (Some Pins) c
  bad_spec : {n : ℕ} {f : Form} {b : Bool} {gs : List _} → b ≡ false → sign_is spec_sign f ≡ true → spec_of (apart f 0).0 ≡ None → FactReads c (Rule n f b gs) (Some Pins) c
  a_module : {n : ℕ} {f : Form} {b : Bool} {gs : List _} {c' : Circuits} (m : Module) → b ≡ false → module_of (apart f 0).0 ≡ Some m →
      ModuleRefusal c.flats m None → c' ≡ with_module c m → FactReads c (Rule n f b gs) None c'
  refused_module : {n : ℕ} {f : Form} {b : Bool} {gs : List _} {r : FactRefusal} (m : Module) → b ≡ false → module_of (apart f 0).0 ≡ Some m →
      ModuleRefusal c.flats m (Some r) → FactReads c (Rule n f b gs) (Some r) c
  a_spec : {n : ℕ} {f : Form} {b : Bool} {gs : List _} {c' : Circuits} (s : Spec) → b ≡ false → spec_of (apart f 0).0 ≡ Some s →
      list_any (λ t. bytes_eq t.name s.name) c.specs ≡ false → c' ≡ with_spec c s → FactReads c (Rule n f b gs) None c'
  second_spec : {n : ℕ} {f : Form} {b : Bool} {gs : List _} (s : Spec) → b ≡ false → spec_of (apart f 0).0 ≡ Some s →
      list_any (λ t. bytes_eq t.name s.name) c.specs ≡ true → FactReads c (Rule n f b gs) (Some Twice) c

-- the facts in the order of the text, up to the first refusal, with its line
pub data FactsRead : Circuits → List FormClause → Option (FactRefusal × ℕ) → Circuits → Type 0 where
  no_facts : {c : Circuits} → FactsRead c [] None c
  no_fact : {c c' : Circuits} {x : FormClause} {xs : List FormClause} {r : Option (FactRefusal × ℕ)} → is_fact x ≡ false → FactsRead c xs r c' → FactsRead c (x ∷ xs) r c'
  a_fact : {c c'' : Circuits} {x : FormClause} {xs : List FormClause} {r : Option (FactRefusal × ℕ)} (c' : Circuits) → is_fact x ≡ true →
      FactReads c x None c' → FactsRead c' xs r c'' → FactsRead c (x ∷ xs) r c''
  refused : {c : Circuits} {n : ℕ} {f : Form} {b : Bool} {gs : List _} {xs : List FormClause} {r : FactRefusal} → is_fact (Rule n f b gs) ≡ true →
      FactReads c (Rule n f b gs) (Some r) c → FactsRead c (Rule n f b gs ∷ xs) (Some (r, n)) c
