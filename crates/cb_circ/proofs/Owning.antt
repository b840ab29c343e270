-- The owners of nets are the instances that drive them.
use Rattle.std.proofs.Common.{◌≡◌, ◌≢◌, inl, inr, ℕ, zero, suc, ◌+◌, ◌<◌, Bool, true, false, List, [], ◌∷◌, ◌++◌, map, length, get_or, slice_set, replicate, option_to_list, Contains, Option, Some, None, position, bytes_eq, refl, sym, ◌∙◌, ap, subst, arith}
use Rattle.std.proofs.lemmas.Bool.{true≢false}
use Rattle.std.proofs.lemmas.Option.{same_Some}
use Rattle.std.proofs.lemmas.List.{get_or-set_same, get_or-set_other, get_or-replicate, length-set, length-map, length-replicate}
use Rattle.std.proofs.lemmas.List.Elements.{Contains-append_cases}
use Rattle.cb_model.specs.Text.{Text}
use Rattle.cb_model.specs.Circuits.{Instance, Module}
use Rattle.std.specs.Prelude.{◌↔◌, Result, Ok, Err, IfOk, IfSome, MatchOption}
use Rattle.cb_model.specs.Facts as facts
use Rattle.cb_model.specs.Order.{needs_of, IsGraph, HasCycle, IsOrder}
use Rattle.cb_facts.specs.Reads.{AreNumbers, AreInstances, no_instances, an_instance}
use Rattle.cb_flat.specs.Acyclic.{index_or, index_in, wants, instance_graph}
use Rattle.cb_flat.proofs.Places.{position-cons, here_or, behind, bytes_eq-refl, bytes_eq-same}
use Rattle.cb_circ.specs.Owners.{owner_or, owned, owned_from, owned_all, wanted}
use Rattle.cb_circ.proofs.Names.{name-at, one-name}

-- the owner after some nets were given
abbrev picked : Option ℕ → Option ℕ → ℕ → Option ℕ
picked (Some j) o i = owner_or o i
picked None o i = o

owner-twice : (o : Option ℕ) (i : ℕ) → owner_or (owner_or o i) i ≡ owner_or o i
owner-twice None i = refl
owner-twice (Some k) i = refl

pub owned-long : (os : List (Option ℕ)) (ks : List ℕ) (i : ℕ) → length (owned os ks i) ≡ length os
owned-long os [] i = refl
owned-long os (k ∷ ks) i = owned-long (slice_set os k (owner_or (get_or os k None) i)) ks i ∙ length-set os k (owner_or (get_or os k None) i)

owned-at : (ns ys : List Text) (ks : List ℕ) (os : List (Option ℕ)) (i : ℕ) (x : Text) (n : ℕ) → AreNumbers ns ys ks → length os ≡ length ns → position (bytes_eq x) ns ≡ Some n
    → get_or (owned os ks i) n None ≡ picked (position (bytes_eq x) ys) (get_or os n None) i
owned-at ns [] [] os i x n a l p = refl
owned-at ns [] (k ∷ ks) os i x n a l p = absurd a
owned-at ns (y ∷ ys) [] os i x n a l p = absurd a
owned-at ns (y ∷ ys) (k ∷ ks) os i x n a l p =
    owned-at ns ys ks (slice_set os k (owner_or (get_or os k None) i)) i x n a.1 (length-set os k (owner_or (get_or os k None) i) ∙ l) p
    ∙ step (bytes_eq x y) refl ∙ sym (ap (λ o. picked o (get_or os n None) i) (position-cons (bytes_eq x) y ys))
  where
    w : n < length os
    w = let h = (name-at x ns n p).0 in omega (arith, h, l)

    step : (b : Bool) → bytes_eq x y ≡ b → picked (position (bytes_eq x) ys) (get_or (slice_set os k (owner_or (get_or os k None) i)) n None) i ≡ picked (here_or b (position (bytes_eq x) ys)) (get_or os n None) i
    step true q =
        let same : k ≡ n = same_Some k n (sym a.0 ∙ ap (λ t. position (bytes_eq t) ns) (sym (bytes_eq-same x y q)) ∙ p) in
        let now : get_or (slice_set os k (owner_or (get_or os k None) i)) n None ≡ owner_or (get_or os n None) i =
        ap (λ j. get_or (slice_set os j (owner_or (get_or os j None) i)) n None) same ∙ get_or-set_same os n (owner_or (get_or os n None) i) None w in
        ap (λ o. picked (position (bytes_eq x) ys) o i) now ∙ pick (position (bytes_eq x) ys)
      where
        pick : (o : Option ℕ) → picked o (owner_or (get_or os n None) i) i ≡ owner_or (get_or os n None) i
        pick None = refl
        pick (Some j) = owner-twice (get_or os n None) i
    step false q =
        let ne : n ≢ k = λ e. true≢false (sym (ap (λ t. bytes_eq x t) (sym (one-name x y ns n p (a.0 ∙ ap Some (sym e)))) ∙ bytes_eq-refl x) ∙ q) in
        ap (λ o. picked (position (bytes_eq x) ys) o i) (get_or-set_other os k n (owner_or (get_or os k None) i) None ne) ∙ pick (position (bytes_eq x) ys)
      where
        pick : (o : Option ℕ) → picked o (get_or os n None) i ≡ picked (behind 1 o) (get_or os n None) i
        pick None = refl
        pick (Some j) = refl

-- the owner, or these
abbrev or_these : Option ℕ → List ℕ → List ℕ
or_these (Some k) js = k ∷ []
or_these None js = js

abbrev shifted : ℕ → List ℕ → List ℕ
shifted at js = map (λ j. at + j) js

shift-suc : (at : ℕ) (js : List ℕ) → shifted (suc at) js ≡ shifted at (map suc js)
shift-suc at [] = refl
shift-suc at (j ∷ js) = ap (λ (k : ℕ). k ∷ map (λ j. suc at + j) js) (let z : suc at + j ≡ at + suc j = omega arith in z) ∙ ap (λ (ks : List ℕ). (at + suc j) ∷ ks) (shift-suc at js)

shift-none : (js : List ℕ) → shifted 0 js ≡ js
shift-none [] = refl
shift-none (j ∷ js) = ap (λ (k : ℕ). k ∷ map (λ j. 0 + j) js) (let z : 0 + j ≡ j = omega arith in z) ∙ ap (λ (ks : List ℕ). j ∷ ks) (shift-none js)

owners-at : (ns : List Text) {is : List Instance} {ps : List Text} {ins outs : List (List ℕ)} (os : List (Option ℕ)) (at : ℕ) (x : Text) (n : ℕ) → AreInstances ns is ps ins outs → length os ≡ length ns → position (bytes_eq x) ns ≡ Some n
    → option_to_list (get_or (owned_from os at outs) n None) ≡ or_these (get_or os n None) (shifted at (index_in x is))
owners-at ns os at x n no_instances l p = step (get_or os n None)
  where
    step : (o : Option ℕ) → option_to_list o ≡ or_these o []
    step None = refl
    step (Some k) = refl
owners-at ns os at x n (an_instance {i = i} {is = is} {b = b} r rs) l p =
    owners-at ns (owned os b at) (suc at) x n rs (owned-long os b at ∙ l) p
    ∙ ap (λ o. or_these o (shifted (suc at) (index_in x is))) (owned-at ns i.outs b os at x n r.drives l p)
    ∙ step (position (bytes_eq x) i.outs) (get_or os n None) (shift-suc at (index_in x is))
  where
    step : (w o : Option ℕ) → shifted (suc at) (index_in x is) ≡ shifted at (map suc (index_in x is)) → or_these (picked w o at) (shifted (suc at) (index_in x is)) ≡ or_these o (shifted at (index_or w (map suc (index_in x is))))
    step (Some j) (Some k) s = refl
    step (Some j) None s = ap (λ (k : ℕ). k ∷ []) (let z : at ≡ at + 0 = omega arith in z)
    step None (Some k) s = refl
    step None None s = s

owner-is : (ns : List Text) {is : List Instance} {ps : List Text} {ins outs : List (List ℕ)} (x : Text) (n : ℕ) → AreInstances ns is ps ins outs → position (bytes_eq x) ns ≡ Some n
    → option_to_list (get_or (owned_all (length ns) outs) n None) ≡ index_in x is
owner-is ns {is = is} x n a p =
    owners-at ns (replicate (length ns) None) 0 x n a (length-replicate (length ns) None) p
    ∙ ap (λ o. or_these o (shifted 0 (index_in x is))) (get_or-replicate (length ns) n None None (name-at x ns n p).0) ∙ shift-none (index_in x is)

wanted-is : (ns : List Text) {is : List Instance} {ps : List Text} {ins outs : List (List ℕ)} → AreInstances ns is ps ins outs → (xs : List Text) (ks : List ℕ) → AreNumbers ns xs ks → wanted (owned_all (length ns) outs) ks ≡ wants is xs
wanted-is ns a [] [] b = refl
wanted-is ns a [] (k ∷ ks) b = absurd b
wanted-is ns a (x ∷ xs) [] b = absurd b
wanted-is ns {is = is} {outs = outs} a (x ∷ xs) (k ∷ ks) b =
    ap (λ (l : List ℕ). l ++ wanted (owned_all (length ns) outs) ks) (owner-is ns x k a b.0) ∙ ap (λ (l : List ℕ). index_in x is ++ l) (wanted-is ns a xs ks b.1)

all-wanted : (ns : List Text) {is : List Instance} {ps : List Text} {ins outs : List (List ℕ)} → AreInstances ns is ps ins outs → {js : List Instance} {qs : List Text} {as' bs : List (List ℕ)} → AreInstances ns js qs as' bs
    → map (wanted (owned_all (length ns) outs)) as' ≡ map (λ (j : Instance). wants is j.ins) js
all-wanted ns a no_instances = refl
all-wanted ns {is = is} {outs = outs} a (an_instance {i = j} {is = js} {a = c} {ins = as'} r rs) =
    ap (λ (l : List ℕ). l ∷ map (wanted (owned_all (length ns) outs)) as') (wanted-is ns a j.ins c r.takes) ∙ ap (λ (l : List (List ℕ)). wants is j.ins ∷ l) (all-wanted ns a rs)

pub graph-is : (m : Module) (ns : List Text) {ps : List Text} {ins outs : List (List ℕ)} → AreInstances ns m.instances ps ins outs → map (wanted (owned_all (length ns) outs)) ins ≡ instance_graph m
graph-is m ns a = all-wanted ns a a

-- ---- each instance needs instances

mapped : (js : List ℕ) (k : ℕ) → Contains (map suc js) k → (j : ℕ) × ((k ≡ suc j) × Contains js j)
mapped [] k h = absurd (omega (arith, h.1))
mapped (j ∷ js) k (zero, l, e) = (j, (sym e, (0, omega arith, refl)))
mapped (j ∷ js) k (suc n, l, e) = let r = mapped js k (n, omega (arith, l), e) in (r.0, (r.1.0, (suc r.1.1.0, (let z = r.1.1.1 in omega (arith, z)), r.1.1.2)))

pub index-within : (x : Text) (is : List Instance) (k : ℕ) → Contains (index_in x is) k → k < length is
index-within x [] k h = absurd (omega (arith, h.1))
index-within x (i ∷ is) k h = step (position (bytes_eq x) i.outs) (index-within x is) h
  where
    first : (k : ℕ) → Contains (0 ∷ []) k → k ≡ 0
    first k (zero, l, e) = sym e
    first k (suc n, l, e) = absurd (omega (arith, l))

    step : (o : Option ℕ) → ((j : ℕ) → Contains (index_in x is) j → j < length is) → Contains (index_or o (map suc (index_in x is))) k → k < suc (length is)
    step (Some j) f h = let z = first k h in omega (arith, z)
    step None f h = let r = mapped (index_in x is) k h in let w = f r.0 r.1.1 in let e = r.1.0 in omega (arith, w, e)

wants-within : (is : List Instance) (xs : List Text) (k : ℕ) → Contains (wants is xs) k → k < length is
wants-within is [] k h = absurd (omega (arith, h.1))
wants-within is (x ∷ xs) k h = elim (Contains-append_cases (index_in x is) (wants is xs) k h) [
  | inl a ↦ index-within x is k a
  | inr b ↦ wants-within is xs k b
]

needs-in : (is js : List Instance) (i n : ℕ) → Contains (needs_of (map (λ (j : Instance). wants is j.ins) js) i) n → n < length is
needs-in is [] i n h = absurd (omega (arith, h.1))
needs-in is (j ∷ js) zero n h = wants-within is j.ins n h
needs-in is (j ∷ js) (suc i) n h = needs-in is js i n h

pub graph-of-items : (m : Module) → IsGraph (instance_graph m)
graph-of-items m i n h = let a = needs-in m.instances m.instances i n h in let e = length-map m.instances (λ (j : Instance). wants m.instances j.ins) in omega (arith, a, e)

pub graph-long : (m : Module) → length (instance_graph m) ≡ length m.instances
graph-long m = length-map m.instances (λ (j : Instance). wants m.instances j.ins)

owned-from-long : (os : List (Option ℕ)) (at : ℕ) (kss : List (List ℕ)) → length (owned_from os at kss) ≡ length os
owned-from-long os at [] = refl
owned-from-long os at (ks ∷ kss) = owned-from-long (owned os ks at) (suc at) kss ∙ owned-long os ks at

pub owned-all-long : (n : ℕ) (kss : List (List ℕ)) → length (owned_all n kss) ≡ n
owned-all-long n kss = owned-from-long (replicate n None) 0 kss ∙ length-replicate n None

-- ---- an order of the graph is one of the instances

pub order-known : {V E : Type 0} (r : Result (Option V) E) (items : V → List ℕ) (g : List (List ℕ)) (m : Module) → g ≡ instance_graph m → facts.HasCycle m ↔ HasCycle (instance_graph m)
    → IfOk r (λ o. MatchOption o (HasCycle g) (λ v. IsOrder g (items v))) → IfOk r (λ o. MatchOption o (facts.HasCycle m) (λ v. IsOrder (instance_graph m) (items v)))
order-known (Ok (Some v)) items g m e c h = subst (λ (g : List (List ℕ)). IsOrder g (items v)) e h
order-known (Ok None) items g m e c h = c.1 (subst HasCycle e h)
order-known (Err x) items g m e c h = tt

pub no-cycle-known : {V E : Type 0} (r : Result (Option V) E) (g : List (List ℕ)) (m : Module) → g ≡ instance_graph m → facts.HasCycle m ↔ HasCycle (instance_graph m)
    → IfOk r (λ o. IfSome o (λ v. HasCycle g → ⊥)) → IfOk r (λ o. IfSome o (λ v. facts.HasCycle m → ⊥))
no-cycle-known (Ok (Some v)) g m e c h = λ k. h (subst HasCycle (sym e) (c.0 k))
no-cycle-known (Ok None) g m e c h = tt
no-cycle-known (Err x) g m e c h = tt
