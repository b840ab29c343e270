-- What is read from the forms of nets, instances and modules.
use Rattle.std.specs.Prelude.{◌≡◌, ℕ, false, true, List, [], ◌∷◌, ◌++◌, length, map, take, Option, Some, position, bytes_eq}
use Rattle.cb_model.specs.Text.{Text, all_different}
use Rattle.cb_model.specs.Grammar.{Form, Forms}
use Rattle.cb_model.specs.Sorts.{apart, apart_all}
use Rattle.cb_model.specs.Loading.{add_name}
use Rattle.cb_model.specs.Circuits.{Instance, Module}
use Rattle.cb_model.specs.Facts.{net_of, nets_of, net_names, instance_of, instances_in, module_of}
use Rattle.cb_facts.specs.declared.nets.Nets.{Nets}

-- names at the end, each where it isn't there yet
abbrev pub add_names : List Text → List Text → List Text
add_names ns [] = ns
add_names ns (x ∷ xs) = add_names (add_name ns x) xs

-- the numbers of these names among others
abbrev pub AreNumbers : List Text → List Text → List ℕ → Type 0
AreNumbers ns [] [] = Unit {0}
AreNumbers ns [] (k ∷ ks) = ⊥
AreNumbers ns (x ∷ xs) [] = ⊥
AreNumbers ns (x ∷ xs) (k ∷ ks) = (position (bytes_eq x) ns ≡ Some k) × AreNumbers ns xs ks

-- a net was read
pub record ReadsNet (old new : Nets) (f : Form) (k : ℕ) : Type 0 where
  pub name : Text
  pub net : net_of (apart f old.own).0 ≡ Some name
  pub own : new.own ≡ (apart f old.own).1
  pub names : new.names ≡ add_name old.names name
  pub number : position (bytes_eq name) new.names ≡ Some k

-- these nets were read, if any: their names, their numbers, and the next `_`
pub record AreNets (old new : Nets) (named : Option (List Text)) (next : ℕ) (ks : List ℕ) : Type 0 where
  pub xs : List Text
  pub nets : named ≡ Some xs
  pub own : new.own ≡ next
  pub names : new.names ≡ add_names old.names xs
  pub numbers : AreNumbers new.names xs ks

-- nets were read
abbrev pub ReadsNets : Nets → Nets → Forms → List ℕ → Type 0
ReadsNets old new fs ks = AreNets old new (nets_of (apart_all fs old.own).0) (apart_all fs old.own).1 ks

-- a list of nets was read
abbrev pub ReadsList : Nets → Nets → Form → List ℕ → Type 0
ReadsList old new f ks = AreNets old new (net_names (apart f old.own).0) (apart f old.own).1 ks

-- the inputs of a fact were read: nothing was read before, and no named input stands twice
pub record ReadsInputs (old new : Nets) (f : Form) (n : ℕ) : Type 0 where
  pub xs : List Text
  pub nets : net_names (apart f old.own).0 ≡ Some xs
  pub different : all_different xs ≡ true
  pub own : new.own ≡ (apart f old.own).1
  pub names : new.names ≡ xs
  pub count : n ≡ length xs

-- the form is no list of nets, or a net stands twice in it
abbrev pub HasNoInputs : Form → Type 0
HasNoInputs f = (xs : List Text) → net_names f ≡ Some xs → all_different xs ≡ false

-- more names stand behind the others
abbrev pub Grows : List Text → List Text → Type 0
Grows old new = (zs : List Text) × (new ≡ old ++ zs)

-- an instance by its part and the numbers of its pins
pub record IsInstance (ns : List Text) (i : Instance) (part : Text) (ins outs : List ℕ) : Type 0 where
  pub named : i.part ≡ part
  pub takes : AreNumbers ns i.ins ins
  pub drives : AreNumbers ns i.outs outs

-- instances by their parts and the numbers of their pins
pub data AreInstances (ns : List Text) : List Instance → List Text → List (List ℕ) → List (List ℕ) → Type 0 where
  no_instances : AreInstances ns [] [] [] []
  an_instance : {i : Instance} {is : List Instance} {p : Text} {ps : List Text} {a b : List ℕ} {ins outs : List (List ℕ)} →
      IsInstance ns i p a b → AreInstances ns is ps ins outs → AreInstances ns (i ∷ is) (p ∷ ps) (a ∷ ins) (b ∷ outs)

-- an instance was read
pub record ReadsInstance (old new : Nets) (f : Form) (part : Text) (ins outs : List ℕ) : Type 0 where
  pub i : Instance
  pub is : instance_of (apart f old.own).0 ≡ Some i
  pub own : new.own ≡ (apart f old.own).1
  pub names : Grows old.names new.names
  pub fits : IsInstance new.names i part ins outs

-- instances were read
pub record ReadsInstances (old new : Nets) (fs : Forms) (parts : List Text) (ins outs : List (List ℕ)) : Type 0 where
  pub instances : List Instance
  pub are : instances_in (apart_all fs old.own).0 ≡ Some instances
  pub own : new.own ≡ (apart_all fs old.own).1
  pub names : Grows old.names new.names
  pub fit : AreInstances new.names instances parts ins outs
