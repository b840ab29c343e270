-- Names by number.
use Rattle.std.proofs.Common.{◌≡◌, ℕ, zero, suc, ◌+◌, ◌<◌, Bool, true, false, List, [], ◌∷◌, ◌++◌, length, get_or, flat_map, Option, Some, None, position, bytes_eq, refl, sym, ◌∙◌, ap, subst, arith}
use Rattle.std.proofs.lemmas.Option.{same_Some}
use Rattle.std.proofs.lemmas.List.Concat.{flat_map-cons}
use Rattle.cb_model.specs.Text.{Text}
use Rattle.cb_model.specs.Circuits.{Instance, Module}
use Rattle.cb_facts.specs.declared.modules.RawModule.{RawModule}
use Rattle.cb_facts.specs.Reads.{AreNumbers, IsInstance, AreInstances, no_instances, an_instance}
use Rattle.cb_facts.specs.Modules.{IsModule}
use Rattle.cb_flat.proofs.Places.{position-cons, here_or, bytes_eq-same}
use Rattle.cb_circ.specs.View.{names_of, instances_view, module_view, IsWell}
use Rattle.cb_circ.specs.Marks.{AreWithin}

pub name-at : (x : Text) (ns : List Text) (k : ℕ) → position (bytes_eq x) ns ≡ Some k → (k < length ns) × (get_or ns k [] ≡ x)
name-at x [] k e = absurd (cc)
name-at x (y ∷ ys) k e = step (bytes_eq x y) (position (bytes_eq x) ys) refl (name-at x ys) (sym (position-cons (bytes_eq x) y ys) ∙ e)
  where
    step : (b : Bool) (o : Option ℕ) → bytes_eq x y ≡ b → ((j : ℕ) → o ≡ Some j → (j < length ys) × (get_or ys j [] ≡ x)) → here_or b o ≡ Some k → (k < length (y ∷ ys)) × (get_or (y ∷ ys) k [] ≡ x)
    step true o q f e =
        let z : 0 ≡ k = same_Some 0 k e in
        subst (λ j. (j < suc (length ys)) × (get_or (y ∷ ys) j [] ≡ x)) z (omega arith, sym (bytes_eq-same x y q))
    step false None q f e = absurd (cc)
    step false (Some j) q f e =
        let z : 1 + j ≡ k = same_Some (1 + j) k e in
        let r = f j refl in
        let w : suc j ≡ k = omega (arith, z) in
        subst (λ i. (i < suc (length ys)) × (get_or (y ∷ ys) i [] ≡ x)) w (omega (arith, r.0), r.1)

pub one-name : (x y : Text) (ns : List Text) (k : ℕ) → position (bytes_eq x) ns ≡ Some k → position (bytes_eq y) ns ≡ Some k → x ≡ y
one-name x y ns k p q = sym (name-at x ns k p).1 ∙ (name-at y ns k q).1

pub names-back : (ns xs : List Text) (ks : List ℕ) → AreNumbers ns xs ks → names_of ns ks ≡ xs
names-back ns [] [] a = refl
names-back ns [] (k ∷ ks) a = absurd a
names-back ns (x ∷ xs) [] a = absurd a
names-back ns (x ∷ xs) (k ∷ ks) a = ap (λ (y : Text). y ∷ names_of ns ks) (name-at x ns k a.0).1 ∙ ap (λ (ys : List Text). x ∷ ys) (names-back ns xs ks a.1)

pub numbers-within : (ns xs : List Text) (ks : List ℕ) → AreNumbers ns xs ks → AreWithin (length ns) ks
numbers-within ns [] [] a = tt
numbers-within ns [] (k ∷ ks) a = absurd a
numbers-within ns (x ∷ xs) [] a = absurd a
numbers-within ns (x ∷ xs) (k ∷ ks) a = ((name-at x ns k a.0).0, numbers-within ns xs ks a.1)

pub numbers-append : (ns xs ys : List Text) (ks js : List ℕ) → AreNumbers ns xs ks → AreNumbers ns ys js → AreNumbers ns (xs ++ ys) (ks ++ js)
numbers-append ns [] ys [] js a b = b
numbers-append ns [] ys (k ∷ ks) js a b = absurd a
numbers-append ns (x ∷ xs) ys [] js a b = absurd a
numbers-append ns (x ∷ xs) ys (k ∷ ks) js a b = (a.0, numbers-append ns xs ys ks js a.1 b)

pub instances-back : (ns : List Text) {is : List Instance} {ps : List Text} {ins outs : List (List ℕ)} → AreInstances ns is ps ins outs → instances_view ns ps ins outs ≡ is
instances-back ns no_instances = refl
instances-back ns (an_instance {i = i} {is = is} {p = p} {ps = ps} {a = a} {b = b} {ins = ins} {outs = outs} r rs) =
    let o : Instance = record { part = p; ins = names_of ns a; outs = names_of ns b } in
    let e : o ≡ i = λ j. record { part = sym r.named j; ins = names-back ns i.ins a r.takes j; outs = names-back ns i.outs b r.drives j } in
    ap (λ (x : Instance). x ∷ instances_view ns ps ins outs) e ∙ ap (λ (xs : List Instance). i ∷ xs) (instances-back ns rs)

pub view-is : (r : RawModule) (m : Module) → IsModule r m → module_view r ≡ m
view-is r m v = λ j. record {
  name = sym v.named j;
  inputs = sym v.front j;
  outputs = names-back r.nets m.outputs r.outputs.items v.drives j;
  instances = instances-back r.nets v.fit j;
}

pub well-from : (r : RawModule) (m : Module) → IsModule r m → IsWell r
well-from r m v = subst (IsModule r) (sym (view-is r m v)) v

pub outs-flat : (ns : List Text) {is : List Instance} {ps : List Text} {ins outs : List (List ℕ)} → AreInstances ns is ps ins outs → AreNumbers ns (flat_map (λ (i : Instance). i.outs) is) (flat_map (λ (ks : List ℕ). ks) outs)
outs-flat ns no_instances = tt
outs-flat ns (an_instance {i = i} {is = is} {p = p} {ps = ps} {a = a} {b = b} {ins = ins} {outs = outs} r rs) =
    subst (λ (xs : List Text). AreNumbers ns xs (flat_map (λ (ks : List ℕ). ks) (b ∷ outs))) (sym (flat_map-cons (λ (i : Instance). i.outs) i is))
    (subst (AreNumbers ns (i.outs ++ flat_map (λ (i : Instance). i.outs) is)) (sym (flat_map-cons (λ (ks : List ℕ). ks) b outs))
    (numbers-append ns i.outs (flat_map (λ (i : Instance). i.outs) is) b (flat_map (λ (ks : List ℕ). ks) outs) r.drives (outs-flat ns rs)))

pub ins-flat : (ns : List Text) {is : List Instance} {ps : List Text} {ins outs : List (List ℕ)} → AreInstances ns is ps ins outs → AreNumbers ns (flat_map (λ (i : Instance). i.ins) is) (flat_map (λ (ks : List ℕ). ks) ins)
ins-flat ns no_instances = tt
ins-flat ns (an_instance {i = i} {is = is} {p = p} {ps = ps} {a = a} {b = b} {ins = ins} {outs = outs} r rs) =
    subst (λ (xs : List Text). AreNumbers ns xs (flat_map (λ (ks : List ℕ). ks) (a ∷ ins))) (sym (flat_map-cons (λ (i : Instance). i.ins) i is))
    (subst (AreNumbers ns (i.ins ++ flat_map (λ (i : Instance). i.ins) is)) (sym (flat_map-cons (λ (ks : List ℕ). ks) a ins))
    (numbers-append ns i.ins (flat_map (λ (i : Instance). i.ins) is) a (flat_map (λ (ks : List ℕ). ks) ins) r.takes (ins-flat ns rs)))

pub instances-long : (ns : List Text) {is : List Instance} {ps : List Text} {ins outs : List (List ℕ)} → AreInstances ns is ps ins outs → (length ps ≡ length is) × (length ins ≡ length is) × (length outs ≡ length is)
instances-long ns no_instances = (refl, refl, refl)
instances-long ns (an_instance r rs) = let h = instances-long ns rs in (ap suc h.0, ap suc h.1, ap suc h.2)

abbrev pub no_instance : Instance
no_instance = record { part = []; ins = []; outs = [] }

pub instance-at : (ns : List Text) {is : List Instance} {ps : List Text} {ins outs : List (List ℕ)} → AreInstances ns is ps ins outs → (k : ℕ) → k < length is → IsInstance ns (get_or is k no_instance) (get_or ps k []) (get_or ins k []) (get_or outs k [])
instance-at ns no_instances k l = absurd (omega (arith, l))
instance-at ns (an_instance r rs) zero l = r
instance-at ns (an_instance r rs) (suc k) l = instance-at ns rs k (omega (arith, l))
