-- Modules by name and by number, and the room of their comparison.
use Rattle.std.proofs.Common.{◌≡◌, inl, inr, ℕ, suc, ◌+◌, ◌*◌, ◌^◌, ◌<◌, ◌≤◌, Bool, true, false, ◌||◌, List, [], ◌∷◌, ◌++◌, map, length, get_or, sum, sum_by, find, position, bytes_eq, Option, Some, None, Contains, if◌then◌else◌, refl, sym, ◌∙◌, ap, subst, arith, append_assoc, append-nil}
use Rattle.std.specs.List.{list_any}
use Rattle.std.proofs.Math.ListN.{get_or-map}
use Rattle.std.proofs.Math.Nat.{mul-le-mul_left, mul-le-mul_right, pow-le-pow_right}
use Rattle.std.proofs.lemmas.List.{length-map, map-append, get_or_default}
use Rattle.std.proofs.lemmas.List.Sums.{sum_by-cons, sum-map}
use Rattle.std.proofs.lemmas.List.Elements.{Contains-append_left, Contains-append_right}
use Rattle.std.proofs.lemmas.Option.{same_Some}
use Rattle.cb_model.specs.declared.Expr.{Expr}
use Rattle.cb_model.specs.declared.GateKind.{GateKind}
use Rattle.cb_model.specs.declared.Gate.{Gate}
use Rattle.cb_model.specs.Text.{Text}
use Rattle.cb_model.specs.Circuits.{Net, Flat, Module, no_flat, flat_named, flat, flats, net_number, gates_from, circuit_of}
use Rattle.cb_model.specs.Facts.{Circuits, Spec}
use Rattle.cb_model.specs.Room.{circuit_pins, expr_size, flat_pins, greatest, instance_pins, room_v}
use Rattle.cb_model.specs.Output.{module_named, used_from, used, room_of}
use Rattle.cb_order.proofs.Orders.{cons-cases, cons-later, cons-here, nothing}
use Rattle.cb_flat.proofs.Places.{position-cons, here_or, position-map}
use Rattle.cb_circ.specs.At.{no_module, module_at, flat_at}
use Rattle.cb_circ.proofs.Refusing.{named-at}

-- ---- the first item that passes

module _ {X : Type 0} (p : X → Bool) (d : X) where
  pub found : (xs : List X) (k : ℕ) → position p xs ≡ Some k → (k < length xs) × (find p xs ≡ Some (get_or xs k d)) × (p (get_or xs k d) ≡ true)
  found [] k e = absurd (cc)
  found (x ∷ xs) k e = step (p x) refl (position p xs) (found xs) (sym (position-cons p x xs) ∙ e)
    where
      step : (b : Bool) → p x ≡ b → (o : Option ℕ) → ((j : ℕ) → o ≡ Some j → (j < length xs) × (find p xs ≡ Some (get_or xs j d)) × (p (get_or xs j d) ≡ true)) → here_or b o ≡ Some k
          → (k < suc (length xs)) × (find p (x ∷ xs) ≡ Some (get_or (x ∷ xs) k d)) × (p (get_or (x ∷ xs) k d) ≡ true)
      step true t o g e =
          let z : 0 ≡ k = same_Some 0 k e in
          subst (λ j. (j < suc (length xs)) × (find p (x ∷ xs) ≡ Some (get_or (x ∷ xs) j d)) × (p (get_or (x ∷ xs) j d) ≡ true)) z (omega arith, rw t refl, t)
      step false t None g e = absurd (cc)
      step false t (Some j) g e =
          let r = g j refl in
          let y : 1 + j ≡ k = same_Some (1 + j) k e in
          let z : suc j ≡ k = omega (arith, y) in
          subst (λ i. (i < suc (length xs)) × (find p (x ∷ xs) ≡ Some (get_or (x ∷ xs) i d)) × (p (get_or (x ∷ xs) i d) ≡ true)) z (omega (arith, r.0), rw t r.1, r.2)

  pub lost : (xs : List X) → position p xs ≡ None → find p xs ≡ None
  lost [] e = refl
  lost (x ∷ xs) e = step (p x) refl (position p xs) (lost xs) (sym (position-cons p x xs) ∙ e)
    where
      step : (b : Bool) → p x ≡ b → (o : Option ℕ) → (o ≡ None → find p xs ≡ None) → here_or b o ≡ None → find p (x ∷ xs) ≡ None
      step true t o g e = absurd (cc)
      step false t None g e = rw t (g refl)
      step false t (Some j) g e = absurd (cc)

-- ---- flattened modules by number

flats-map : {B : Type 0} (g : Flat → B) (h : Module → B) → ((fs : List Flat) (m : Module) → g (flat fs m) ≡ h m) → (fs : List Flat) (ms : List Module) → map g (flats fs ms) ≡ map g fs ++ map h ms
flats-map g h same fs [] = sym (append-nil (map g fs))
flats-map g h same fs (m ∷ ms) =
    flats-map g h same (fs ++ flat fs m ∷ []) ms ∙ ap (λ l. l ++ map h ms) (map-append g fs (flat fs m ∷ [])) ∙ append_assoc (map g fs) (g (flat fs m) ∷ []) (map h ms)
    ∙ ap (λ x. map g fs ++ x ∷ map h ms) (same fs m)

module _ (c : Circuits) (is : c.flats ≡ flats [] c.modules) where
  maps-are : {B : Type 0} (g : Flat → B) (h : Module → B) → ((fs : List Flat) (m : Module) → g (flat fs m) ≡ h m) → map g c.flats ≡ map h c.modules
  maps-are g h same = ap (map g) is ∙ flats-map g h same [] c.modules

  pub flat-inputs : (k : ℕ) → (flat_at c k).inputs ≡ length (module_at c k).inputs
  flat-inputs k =
      let g : Flat → ℕ = λ f. f.inputs in
      let h : Module → ℕ = λ m. length m.inputs in
      sym (get_or-map g c.flats k no_flat) ∙ ap (λ l. get_or l k 0) (maps-are g h (λ fs m. refl)) ∙ get_or-map h c.modules k no_module

  pub flat-outputs : (k : ℕ) → length (flat_at c k).outputs ≡ length (module_at c k).outputs
  flat-outputs k =
      let g : Flat → ℕ = λ f. length f.outputs in
      let h : Module → ℕ = λ m. length m.outputs in
      sym (get_or-map g c.flats k no_flat) ∙ ap (λ l. get_or l k 0) (maps-are g h (λ fs m. length-map m.outputs _)) ∙ get_or-map h c.modules k no_module

  pub flat-place : (x : Text) → position (λ (f : Flat). bytes_eq f.name x) c.flats ≡ position (λ (m : Module). bytes_eq m.name x) c.modules
  flat-place x =
      let g : Flat → Text = λ f. f.name in
      let h : Module → Text = λ m. m.name in
      sym (position-map (λ y. bytes_eq y x) g c.flats) ∙ ap (position (λ y. bytes_eq y x)) (maps-are g h (λ fs m. refl)) ∙ position-map (λ y. bytes_eq y x) h c.modules

  pub named-flat : (x : Text) (k : ℕ) → position (λ (m : Module). bytes_eq m.name x) c.modules ≡ Some k → flat_named c.flats x ≡ flat_at c k
  named-flat x k e = (named-at c.flats x k (flat-place x ∙ e)).0

-- ---- pins

gates-pins : (n at : ℕ) (gs : List (GateKind × List Net)) → sum_by (λ (g : Gate). length g.ins + 1) (gates_from n at gs) ≡ sum_by (λ (g : GateKind × List Net). length g.1 + 1) gs
gates-pins n at [] = refl
gates-pins n at (g ∷ gs) =
    sum_by-cons (λ (g : Gate). length g.ins + 1) (record { kind = g.0; ins = map (net_number n) g.1; out = at }) (gates_from n (suc at) gs)
    ∙ ap (λ k. k + 1 + sum_by (λ (g : Gate). length g.ins + 1) (gates_from n (suc at) gs)) (length-map g.1 (net_number n))
    ∙ ap (λ k. length g.1 + 1 + k) (gates-pins n (suc at) gs) ∙ sym (sum_by-cons (λ (g : GateKind × List Net). length g.1 + 1) g gs)

pub flat-pins : (f : Flat) → circuit_pins (circuit_of f) ≡ flat_pins f
flat-pins f = gates-pins f.inputs f.inputs f.gates

-- ---- the modules that are used

any-more : {X : Type 0} (p : X → Bool) (xs ys : List X) → list_any p xs ≡ true → list_any p (xs ++ ys) ≡ true
any-more p [] ys e = absurd (cc)
any-more p (x ∷ xs) ys e = step (p x) (any-more p xs ys) e
  where
    step : (b : Bool) → (list_any p xs ≡ true → list_any p (xs ++ ys) ≡ true) → (b || list_any p xs) ≡ true → (b || list_any p (xs ++ ys)) ≡ true
    step true g e = refl
    step false g e = g e

used-step : (x : Module) (ms : List Module) (names : List Text) (m : Module) (b : Bool) → list_any (bytes_eq m.name) names ≡ true →
    ((ns : List Text) → list_any (bytes_eq m.name) ns ≡ true → Contains (used_from ms ns) m) → Contains (if b then x ∷ used_from ms (names ++ map (λ i. i.part) x.instances) else used_from ms names) m
used-step x ms names m true t rest =
    cons-later x (used_from ms (names ++ map (λ i. i.part) x.instances)) m (rest (names ++ map (λ i. i.part) x.instances) (any-more (bytes_eq m.name) names (map (λ i. i.part) x.instances) t))
used-step x ms names m false t rest = rest names t

used-from-has : (ms : List Module) (names : List Text) (m : Module) → Contains ms m → list_any (bytes_eq m.name) names ≡ true → Contains (used_from ms names) m
used-from-has [] names m h t = absurd (nothing m h)
used-from-has (x ∷ ms) names m h t = elim (cons-cases x ms m h) [
  | inl e ↦
      let q : list_any (bytes_eq x.name) names ≡ true = subst (λ (y : Module). list_any (bytes_eq y.name) names ≡ true) (sym e) t in
      subst (λ b. Contains (if b then x ∷ used_from ms (names ++ map (λ i. i.part) x.instances) else used_from ms names) m) (sym q)
      (subst (Contains (x ∷ used_from ms (names ++ map (λ i. i.part) x.instances))) e (cons-here x (used_from ms (names ++ map (λ i. i.part) x.instances))))
  | inr k ↦ used-step x ms names m (list_any (bytes_eq x.name) names) t (λ ns q. used-from-has ms ns m k q)
]

-- the modules from the last to the first
abbrev turned : List Module → List Module
turned [] = []
turned (m ∷ ms) = turned ms ++ m ∷ []

turned-has : (ms : List Module) (m : Module) → Contains ms m → Contains (turned ms) m
turned-has [] m h = absurd (nothing m h)
turned-has (x ∷ ms) m h = elim (cons-cases x ms m h) [
  | inl e ↦ Contains-append_right (turned ms) (x ∷ []) m (subst (Contains (x ∷ [])) e (cons-here x []))
  | inr k ↦ Contains-append_left (turned ms) (x ∷ []) m (turned-has ms m k)
]

used-has : (modules : List Module) (fs : List Flat) (specs : List Spec) (names : List Text) (m : Module) → Contains modules m → list_any (bytes_eq m.name) names ≡ true →
    Contains (used (record { modules = modules; flats = fs; specs = specs }) names) m
used-has modules fs specs names m h t = used-from-has (turned modules) names m (turned-has modules m h) t

greatest-has : (ns : List ℕ) (n : ℕ) → Contains ns n → n ≤ greatest ns
greatest-has [] n h = absurd (nothing n h)
greatest-has (k ∷ ns) n h = elim (cons-cases k ns n h) [ inl e ↦ omega (arith, e) | inr t ↦ let g = greatest-has ns n t in omega (arith, g) ]

map-has : {X Y : Type 0} (f : X → Y) (xs : List X) (x : X) → Contains xs x → Contains (map f xs) (f x)
map-has f [] x h = absurd (nothing x h)
map-has f (y ∷ xs) x h = elim (cons-cases y xs x h) [
  | inl e ↦ subst (λ z. Contains (f y ∷ map f xs) (f z)) e (cons-here (f y) (map f xs))
  | inr t ↦ cons-later (f y) (map f xs) (f x) (map-has f xs x t)
]

-- the inputs of a module are no more than the greatest number of those that are used
pub inputs-within : (c : Circuits) (names : List Text) (k : ℕ) → k < length c.modules → list_any (bytes_eq (module_at c k).name) names ≡ true →
    length (module_at c k).inputs ≤ greatest (map (λ m. length m.inputs) (used c names))
inputs-within c names k l t =
    greatest-has (map (λ (m : Module). length m.inputs) (used c names)) (length (module_at c k).inputs)
    (map-has (λ (m : Module). length m.inputs) (used c names) (module_at c k) (used-has c.modules c.flats c.specs names (module_at c k) (k, l, get_or_default c.modules k (module_at c k) no_module l) t))

-- ---- the room

no-less : (a b c : ℕ) → a ≤ b → b ≤ c → a ≤ c
no-less a b c e f = omega arith

below-more : (a b c : ℕ) → a < b → b ≤ c → a < c
below-more a b c e f = omega arith

room_v-more : (g s m n h u k : ℕ) → g + s ≤ h + u → n ≤ k → room_v g s m n ≤ room_v h u m k
room_v-more g s m n h u k e f =
    let a : 16 * (g + s + m + n + 2) ≤ 16 * (h + u + m + k + 2) = omega (arith, e, f) in
    let q : n + 1 ≤ k + 1 = omega (arith, f) in
    let b : 4 ^ (n + 1) ≤ 4 ^ (k + 1) = pow-le-pow_right {n = 4} (omega arith) q in
    no-less (room_v g s m n) (16 * (h + u + m + k + 2) * 4 ^ (n + 1)) (room_v h u m k) (mul-le-mul_right (4 ^ (n + 1)) a) (mul-le-mul_left (16 * (h + u + m + k + 2)) b)

name-any : (x y : Text) (names : List Text) → bytes_eq x y ≡ true → list_any (bytes_eq x) (y ∷ names) ≡ true
name-any x y names e = ap (λ b. b || list_any (bytes_eq x) names) e

module _ (c : Circuits) (is : c.flats ≡ flats [] c.modules) (name : Text) (k : ℕ) (at : position (λ (m : Module). bytes_eq m.name name) c.modules ≡ Some k) where
  one-found : (k < length c.modules) × (module_named c name ≡ Some (module_at c k)) × (bytes_eq (module_at c k).name name ≡ true)
  one-found = found (λ (m : Module). bytes_eq m.name name) no_module c.modules k at

  pub is-in : k < length c.modules
  is-in = one-found.0

  pub is-module : module_named c name ≡ Some (module_at c k)
  is-module = one-found.1

  pub verify-room : (es : List Expr) (budget : ℕ) →
      budget < room_v (circuit_pins (circuit_of (flat_at c k)) + sum (map expr_size es)) 0 (length (module_at c k).outputs) (length (module_at c k).inputs) →
      budget < room_of c (name ∷ []) (sum_by expr_size es)
  verify-room es budget l =
      let names : List Text = name ∷ [] in
      let f = flat_named c.flats name in
      let e : f ≡ flat_at c k = named-flat c is name k at in
      let pins : circuit_pins (circuit_of (flat_at c k)) ≡ flat_pins f = flat-pins (flat_at c k) ∙ ap flat_pins (sym e) in
      let total : sum_by (λ x. flat_pins (flat_named c.flats x)) names ≡ flat_pins f + 0 = sum_by-cons (λ x. flat_pins (flat_named c.flats x)) name [] in
      let size : sum (map expr_size es) ≡ sum_by expr_size es = sum-map expr_size es in
      let outs : length (module_at c k).outputs ≡ length f.outputs = sym (ap (λ (g : Flat). length g.outputs) e ∙ flat-outputs c is k) in
      let ins = inputs-within c names k is-in (name-any (module_at c k).name name [] one-found.2) in
      let more = room_v-more (circuit_pins (circuit_of (flat_at c k)) + sum (map expr_size es)) 0 (length (module_at c k).outputs) (length (module_at c k).inputs)
      (sum_by (λ x. flat_pins (flat_named c.flats x)) names + sum_by instance_pins (used c names)) (sum_by expr_size es) (greatest (map (λ m. length m.inputs) (used c names))) (omega (arith, pins, total, size)) ins in
      let here : budget < room_v (sum_by (λ x. flat_pins (flat_named c.flats x)) names + sum_by instance_pins (used c names)) (sum_by expr_size es) (length (module_at c k).outputs) (greatest (map (λ m. length m.inputs) (used c names))) = below-more budget _ _ l more in
      subst (λ o. budget < room_v (sum_by (λ x. flat_pins (flat_named c.flats x)) names + sum_by instance_pins (used c names)) (sum_by expr_size es) o (greatest (map (λ m. length m.inputs) (used c names)))) outs here

  module _ (two : Text) (n : ℕ) (at_two : position (λ (m : Module). bytes_eq m.name two) c.modules ≡ Some n) where
    pub same-room : (budget : ℕ) →
        budget < room_v (circuit_pins (circuit_of (flat_at c k)) + circuit_pins (circuit_of (flat_at c n))) 0 (length (module_at c k).outputs) (length (module_at c k).inputs) →
        budget < room_of c (name ∷ two ∷ []) 0
    same-room budget l =
        let names : List Text = name ∷ two ∷ [] in
        let f = flat_named c.flats name in
        let h = flat_named c.flats two in
        let e : f ≡ flat_at c k = named-flat c is name k at in
        let e2 : h ≡ flat_at c n = named-flat c is two n at_two in
        let pins : circuit_pins (circuit_of (flat_at c k)) ≡ flat_pins f = flat-pins (flat_at c k) ∙ ap flat_pins (sym e) in
        let pins2 : circuit_pins (circuit_of (flat_at c n)) ≡ flat_pins h = flat-pins (flat_at c n) ∙ ap flat_pins (sym e2) in
        let total : sum_by (λ x. flat_pins (flat_named c.flats x)) names ≡ flat_pins f + sum_by (λ x. flat_pins (flat_named c.flats x)) (two ∷ []) = sum_by-cons (λ x. flat_pins (flat_named c.flats x)) name (two ∷ []) in
        let total2 : sum_by (λ x. flat_pins (flat_named c.flats x)) (two ∷ []) ≡ flat_pins h + 0 = sum_by-cons (λ x. flat_pins (flat_named c.flats x)) two [] in
        let outs : length (module_at c k).outputs ≡ length f.outputs = sym (ap (λ (g : Flat). length g.outputs) e ∙ flat-outputs c is k) in
        let ins = inputs-within c names k is-in (name-any (module_at c k).name name (two ∷ []) one-found.2) in
        let more = room_v-more (circuit_pins (circuit_of (flat_at c k)) + circuit_pins (circuit_of (flat_at c n))) 0 (length (module_at c k).outputs) (length (module_at c k).inputs)
        (sum_by (λ x. flat_pins (flat_named c.flats x)) names + sum_by instance_pins (used c names)) 0 (greatest (map (λ m. length m.inputs) (used c names))) (omega (arith, pins, pins2, total, total2)) ins in
        let here : budget < room_v (sum_by (λ x. flat_pins (flat_named c.flats x)) names + sum_by instance_pins (used c names)) 0 (length (module_at c k).outputs) (greatest (map (λ m. length m.inputs) (used c names))) = below-more budget _ _ l more in
        subst (λ o. budget < room_v (sum_by (λ x. flat_pins (flat_named c.flats x)) names + sum_by instance_pins (used c names)) 0 o (greatest (map (λ m. length m.inputs) (used c names)))) outs here
