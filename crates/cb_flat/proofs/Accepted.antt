-- Accepted modules can be flattened.
use Rattle.std.proofs.Common.{◌≡◌, ◌≢◌, ◌⊎◌, inl, inr, ℕ, zero, suc, ◌+◌, ◌<◌, ◌≤◌, Bool, true, false, not, ◌==◌, cond, if◌then◌else◌, List, [], ◌∷◌, ◌++◌, map, length, get_or, slice_get, Option, Some, None, is_some, position, bytes_eq, flat_map, count_by, MatchBool, Contains, refl, sym, ap, subst, ◌∙◌, arith}
use Rattle.std.specs.List.{list_all}
use Rattle.std.proofs.lemmas.Bool.{cases_eq, cases_lt, and_parts, eqb-true}
use Rattle.std.proofs.lemmas.Option.{same_Some, slice_get_within, slice_get-get_or}
use Rattle.std.proofs.lemmas.List.{get_or_past}
use Rattle.std.proofs.lemmas.List.Concat.{flat_map-cons}
use Rattle.std.proofs.lemmas.List.Elements.{Contains-append_left, Contains-append_right, Contains-append_cases}
use Rattle.std.proofs.lemmas.List.Recursion.{is_count_by}
use Rattle.cb_model.specs.declared.GateKind.{GateKind}
use Rattle.cb_model.specs.Bits.{Each, numbers, numbers_from}
use Rattle.cb_model.specs.Text.{Text}
use Rattle.cb_model.specs.Grammar.{FormClause}
use Rattle.cb_model.specs.Circuits.{gate_value, pins_of, In, Own, Flat, Instance, Module, Placed, gate_flat, flat_named, part_or, part_of, placed_from, pin_of, kind_named, gate_names, flat}
use Rattle.cb_model.specs.Facts.{FactRefusal, Twice, Pins, Driven, Cycle, Part, Large, pins_fit, is_part, instances_fault, drivers, nets, all_driven_once, Feeds, HasCycle, ModuleRefusal, Circuits, FactReads, FactsRead, no_circuits, with_module, with_spec, a_module, a_spec, no_facts, no_fact, a_fact, refused}
use Rattle.cb_model.specs.Facts as facts
use Rattle.cb_model.specs.Order as order
use Rattle.cb_order.proofs.Orders.{cons-cases, cons-later, cons-here, nothing}
use Rattle.cb_model.specs.Carry.{Carries, input, gate, AllCarry, none, more, IsCarrying}
use Rattle.cb_flat.specs.Flatten.{placed_of, Reaches, from_input, from_pin, InOrder, CanFlatten}
use Rattle.cb_flat.specs.Accepted.{AcceptedCarries, FlatHasOne}
use Rattle.cb_flat.specs.Acyclic.{index_or, index_in, wants, instance_graph, SameCycles}
use Rattle.cb_flat.proofs.Carry.{total_has_one}
use Rattle.cb_flat.proofs.Flatten.{flatten_carries}
use Rattle.cb_flat.proofs.Places.{position-cons, position-append-lost, behind, here_or, bytes_eq-refl, bytes_eq-same, position-Some, position-Contains}
use Rattle.cb_flat.proofs.Ordering.{InSequence, Peeled, has-order, numbers-long}

-- ---- gates and earlier modules carry bits

pins-carry : (f : Flat) (xs : List Bool) (at n : ℕ) (ys : List Bool) → length ys ≡ n → ((k : ℕ) → k < n → (at + k < length xs) × (get_or ys k false ≡ get_or xs (at + k) false)) → AllCarry f xs (map In (numbers_from at n)) ys
pins-carry f xs at zero [] e h = none
pins-carry f xs at zero (y ∷ ys) e h = absurd (omega (arith, e))
pins-carry f xs at (suc n) [] e h = absurd (omega (arith, e))
pins-carry f xs at (suc n) (y ∷ ys) e h =
    let h0 = h zero (omega arith) in
    let same : y ≡ get_or xs at false = h0.1 ∙ ap (λ k. get_or xs k false) (omega arith) in
    more (input (omega (arith, h0.0)) same) (pins-carry f xs (suc at) n ys (omega (arith, e)) (λ k l.
    let r = h (suc k) (omega (arith, l)) in
    let z : at + suc k ≡ suc at + k = omega arith in
    (omega (arith, r.0), r.1 ∙ ap (λ j. get_or xs j false) z)))

pub gate_carries : (kind : GateKind) (n : ℕ) → IsCarrying (gate_flat kind n)
gate_carries kind n = record {
  total = λ xs wide k l.
      let z : k ≡ 0 = omega (arith, l) in (
        gate_value kind xs,
        subst (λ j. Carries (gate_flat kind n) xs (Own j) (gate_value kind xs)) (sym z)
            (gate (kind, map In (numbers n)) xs refl (pins-carry (gate_flat kind n) xs 0 n xs wide (λ k l. (omega (arith, l, wide), ap (λ j. get_or xs j false) (omega arith)))) refl),
      );
  outputs = (omega arith, tt);
}

pub named_carries : (earlier : List Flat) (x : Text) → Each IsCarrying earlier → IsCarrying (flat_named earlier x)
named_carries [] x h = record { total = λ xs wide k l. absurd (omega (arith, l)); outputs = tt }
named_carries (f ∷ fs) x h = elim (bytes_eq f.name x) as (λ b. IsCarrying (if b then f else flat_named fs x)) [ true ↦ h.0 | false ↦ named_carries fs x h.1 ]

-- a part that fits its instance
pub record FitsPart (earlier : List Flat) (i : Instance) : Type 0 where
  pub carries : IsCarrying (part_of earlier i.part (length i.ins))
  pub ins : (part_of earlier i.part (length i.ins)).inputs ≡ length i.ins
  pub outs : length (part_of earlier i.part (length i.ins)).outputs ≡ length i.outs

fits-part : (earlier : List Flat) (i : Instance) → Each IsCarrying earlier → pins_fit earlier (kind_named gate_names i.part) i ≡ true → FitsPart earlier i
fits-part earlier i h e = record { carries = (from (kind_named gate_names i.part) e).0; ins = (from (kind_named gate_names i.part) e).1; outs = (from (kind_named gate_names i.part) e).2 }
  where
    from : (o : Option GateKind) → pins_fit earlier o i ≡ true → IsCarrying (part_or o earlier i.part (length i.ins)) × ((part_or o earlier i.part (length i.ins)).inputs ≡ length i.ins) × (length (part_or o earlier i.part (length i.ins)).outputs ≡ length i.outs)
    from (Some kind) e = (gate_carries kind (length i.ins), refl, sym (eqb-true (length i.outs) 1 (and_parts (pins_of kind (length i.ins)) (length i.outs == 1) e).1))
    from None e =
        let p = and_parts (length i.ins == (flat_named earlier i.part).inputs) (length i.outs == length (flat_named earlier i.part).outputs) e in
        (named_carries earlier i.part h, sym (eqb-true (length i.ins) (flat_named earlier i.part).inputs p.0), sym (eqb-true (length i.outs) (length (flat_named earlier i.part).outputs) p.1))

pub fits-all : (earlier : List Flat) (is : List Instance) → Each IsCarrying earlier → instances_fault earlier is ≡ None → Each (FitsPart earlier) is
fits-all earlier [] h e = tt
fits-all earlier (i ∷ is) h e = from (is_part earlier i.part) (pins_fit earlier (kind_named gate_names i.part) i) refl e (fits-all earlier is h)
  where
    from : (a b : Bool) → pins_fit earlier (kind_named gate_names i.part) i ≡ b → (if not a then Some Part else (if not b then Some Pins else instances_fault earlier is)) ≡ None → (instances_fault earlier is ≡ None → Each (FitsPart earlier) is) → FitsPart earlier i × Each (FitsPart earlier) is
    from false b q e f = absurd (cc)
    from true false q e f = absurd (cc)
    from true true q e f = (fits-part earlier i h q, f e)

-- ---- the placed instances

module _ (part : Text → ℕ → Flat) where
  pub placed-instance : (at : ℕ) (is : List Instance) (k : ℕ) (p : Placed) → slice_get (placed_from part at is) k ≡ Some p → (slice_get is k ≡ Some p.instance) × (p.flat ≡ part p.instance.part (length p.instance.ins))
  placed-instance at [] k p e = absurd (let l : k < 0 = slice_get_within [] k p e in omega arith)
  placed-instance at (i ∷ is) zero p e =
      let o : Placed = record { instance = i; flat = part i.part (length i.ins); first = at } in
      let same : o ≡ p = same_Some o p e in
      (ap (λ (z : Placed). Some z.instance) same, subst (λ (z : Placed). z.flat ≡ part z.instance.part (length z.instance.ins)) same refl)
  placed-instance at (i ∷ is) (suc k) p e = placed-instance (at + length (part i.part (length i.ins)).gates) is k p e

  pub placed-there : (at : ℕ) (is : List Instance) (k : ℕ) → k < length is → (p : Placed) × (slice_get (placed_from part at is) k ≡ Some p)
  placed-there at [] k l = absurd (omega (arith, l))
  placed-there at (i ∷ is) zero l = (record { instance = i; flat = part i.part (length i.ins); first = at }, refl)
  placed-there at (i ∷ is) (suc k) l = placed-there (at + length (part i.part (length i.ins)).gates) is k (omega (arith, l))

  -- a net that stands among the output pins has a pin
  pin-some : (x : Text) (at : ℕ) (is : List Instance) (j : ℕ) → position (bytes_eq x) (flat_map (λ i. i.outs) is) ≡ Some j → (r : Placed × ℕ) × (pin_of x (placed_from part at is) ≡ Some r)
  pin-some x at [] j e = absurd (cc)
  pin-some x at (i ∷ is) j e = from (position (bytes_eq x) i.outs) refl (pin-some x (at + length (part i.part (length i.ins)).gates) is)
    where
      o : Placed
      o = record { instance = i; flat = part i.part (length i.ins); first = at }

      from : (r : Option ℕ) → position (bytes_eq x) i.outs ≡ r → ((j : ℕ) → position (bytes_eq x) (flat_map (λ i. i.outs) is) ≡ Some j → (r : Placed × ℕ) × (pin_of x (placed_from part (at + length (part i.part (length i.ins)).gates) is) ≡ Some r)) → (r : Placed × ℕ) × (pin_of x (placed_from part at (i ∷ is)) ≡ Some r)
      from (Some k) q f = ((o, k), rw q refl)
      from None q f =
          let lost = position-append-lost (bytes_eq x) i.outs (flat_map (λ i. i.outs) is) q in
          let there : position (bytes_eq x) (i.outs ++ flat_map (λ i. i.outs) is) ≡ Some j = sym (ap (position (bytes_eq x)) (flat_map-cons (λ (i : Instance). i.outs) i is)) ∙ e in
          let r = rest (position (bytes_eq x) (flat_map (λ i. i.outs) is)) refl (sym lost ∙ there) f in
          (r.0, rw q r.1)
        where
          rest : (s : Option ℕ) → position (bytes_eq x) (flat_map (λ i. i.outs) is) ≡ s → behind (length i.outs) s ≡ Some j → ((j : ℕ) → position (bytes_eq x) (flat_map (λ i. i.outs) is) ≡ Some j → (r : Placed × ℕ) × (pin_of x (placed_from part (at + length (part i.part (length i.ins)).gates) is) ≡ Some r)) → (r : Placed × ℕ) × (pin_of x (placed_from part (at + length (part i.part (length i.ins)).gates) is) ≡ Some r)
          rest None w b f = absurd (cc)
          rest (Some k) w b f = f k w

later : (xs : List ℕ) (k : ℕ) → Contains xs k → Contains (map suc xs) (suc k)
later [] k h = absurd (nothing k h)
later (x ∷ xs) k h = elim (cons-cases x xs k h) [ inl e ↦ subst (λ y. Contains (suc x ∷ map suc xs) (suc y)) e (cons-here (suc x) (map suc xs)) | inr t ↦ cons-later (suc x) (map suc xs) (suc k) (later xs k t) ]

earlier-one : (xs : List ℕ) (k : ℕ) → Contains (map suc xs) k → (j : ℕ) × ((k ≡ suc j) × Contains xs j)
earlier-one [] k h = absurd (nothing k h)
earlier-one (x ∷ xs) k h = elim (cons-cases (suc x) (map suc xs) k h) [ inl e ↦ (x, (sym e, cons-here x xs)) | inr t ↦ let r = earlier-one xs k t in (r.0, (r.1.0, cons-later x xs r.0 r.1.1)) ]

-- the pin of a net, and where its instance stands
pub record AtPin (x : Text) (ps : List Placed) (p : Placed) (j : ℕ) : Type 0 where
  pub k : ℕ
  pub index : Contains (index_in x (map (λ p. p.instance) ps)) k
  pub at : slice_get ps k ≡ Some p
  pub pin : position (bytes_eq x) p.instance.outs ≡ Some j

pub at-pin : (x : Text) (ps : List Placed) (p : Placed) (j : ℕ) → pin_of x ps ≡ Some (p, j) → AtPin x ps p j
at-pin x [] p j e = absurd (cc)
at-pin x (q ∷ qs) p j e = from (position (bytes_eq x) q.instance.outs) refl (at-pin x qs p j)
  where
    from : (r : Option ℕ) → position (bytes_eq x) q.instance.outs ≡ r → (pin_of x qs ≡ Some (p, j) → AtPin x qs p j) → AtPin x (q ∷ qs) p j
    from (Some i) w f =
        let same : Some (q, i) ≡ Some (p, j) = rw w at e in
        let s : (q, i) ≡ (p, j) = same_Some (q, i) (p, j) same in
        let qp : q ≡ p = ap (λ (z : Placed × ℕ). z.0) s in
        let ij : i ≡ j = ap (λ (z : Placed × ℕ). z.1) s in
        record {
          k = 0;
          index = subst (λ o. Contains (index_or o (map suc (index_in x (map (λ p. p.instance) qs)))) 0) (sym w) (cons-here 0 []);
          at = ap Some qp;
          pin = ap (λ (z : Placed). position (bytes_eq x) z.instance.outs) (sym qp) ∙ w ∙ ap Some ij;
        }
    from None w f =
        let r : AtPin x qs p j = f (rw w at e) in
        record {
          k = suc r.k;
          index = subst (λ o. Contains (index_or o (map suc (index_in x (map (λ p. p.instance) qs)))) (suc r.k)) (sym w) (later (index_in x (map (λ p. p.instance) qs)) r.k r.index);
          at = r.at;
          pin = r.pin;
        }

-- the instance of an index has the net among its output pins
index-feeds : (x : Text) (is : List Instance) (k : ℕ) → Contains (index_in x is) k → (i : Instance) × ((slice_get is k ≡ Some i) × Contains i.outs x)
index-feeds x [] k h = absurd (nothing k h)
index-feeds x (q ∷ qs) k h = from (position (bytes_eq x) q.outs) refl h (index-feeds x qs)
  where
    from : (r : Option ℕ) → position (bytes_eq x) q.outs ≡ r → Contains (index_or r (map suc (index_in x qs))) k → ((j : ℕ) → Contains (index_in x qs) j → (i : Instance) × ((slice_get qs j ≡ Some i) × Contains i.outs x)) → (i : Instance) × ((slice_get (q ∷ qs) k ≡ Some i) × Contains i.outs x)
    from (Some i) w h f = elim (cons-cases 0 [] k h) [
      | inl e ↦ (q, (subst (λ j. slice_get (q ∷ qs) j ≡ Some q) e refl, (position-Some x q.outs i w).1))
      | inr t ↦ absurd (nothing k t)
    ]
    from None w h f =
        let r = earlier-one (index_in x qs) k h in
        let s = f r.0 r.1.1 in
        (s.0, (subst (λ j. slice_get (q ∷ qs) j ≡ Some s.0) (sym r.1.0) s.1.0, s.1.1))

-- a net among output pins has an index
index-some : (x : Text) (is : List Instance) (k : ℕ) (i : Instance) → slice_get is k ≡ Some i → Contains i.outs x → (j : ℕ) × Contains (index_in x is) j
index-some x [] k i e h = absurd (let l : k < 0 = slice_get_within [] k i e in omega arith)
index-some x (q ∷ qs) zero i e h =
    let p = position-Contains x q.outs (subst (λ (z : Instance). Contains z.outs x) (sym (same_Some q i e)) h) in
    (0, subst (λ o. Contains (index_or o (map suc (index_in x qs))) 0) (sym p.1) (cons-here 0 []))
index-some x (q ∷ qs) (suc k) i e h = from (position (bytes_eq x) q.outs) (index-some x qs k i e h)
  where
    from : (r : Option ℕ) → (j : ℕ) × Contains (index_in x qs) j → (j : ℕ) × Contains (index_or r (map suc (index_in x qs))) j
    from (Some n) t = (0, cons-here 0 [])
    from None t = (suc t.0, later (index_in x qs) t.0 t.1)

-- ---- the graph of the instances

pub wants-has : (is : List Instance) (xs : List Text) (x : Text) (k : ℕ) → Contains xs x → Contains (index_in x is) k → Contains (wants is xs) k
wants-has is [] x k h i = absurd (nothing x h)
wants-has is (y ∷ ys) x k h i = elim (cons-cases y ys x h) [
  | inl e ↦ Contains-append_left (index_in y is) (wants is ys) k (subst (λ z. Contains (index_in z is) k) (sym e) i)
  | inr t ↦ Contains-append_right (index_in y is) (wants is ys) k (wants-has is ys x k t i)
]

wants-from : (is : List Instance) (xs : List Text) (k : ℕ) → Contains (wants is xs) k → (x : Text) × (Contains xs x × Contains (index_in x is) k)
wants-from is [] k h = absurd (nothing k h)
wants-from is (y ∷ ys) k h = elim (Contains-append_cases (index_in y is) (wants is ys) k h) [
  | inl i ↦ (y, (cons-here y ys, i))
  | inr t ↦ let r = wants-from is ys k t in (r.0, (cons-later y ys r.0 r.1.0, r.1.1))
]

pub graph-long : (all is : List Instance) → length (map (λ i. wants all i.ins) is) ≡ length is
graph-long all [] = refl
graph-long all (i ∷ is) = ap suc (graph-long all is)

pub graph-at : (all is : List Instance) (k : ℕ) (i : Instance) → slice_get is k ≡ Some i → order.needs_of (map (λ i. wants all i.ins) is) k ≡ wants all i.ins
graph-at all [] k i e = absurd (let l : k < 0 = slice_get_within [] k i e in omega arith)
graph-at all (x ∷ is) zero i e = ap (λ (z : Instance). wants all z.ins) (same_Some x i e)
graph-at all (x ∷ is) (suc k) i e = graph-at all is k i e

-- the instances of the placed parts are the module's
pub placed-are : (part : Text → ℕ → Flat) (at : ℕ) (is : List Instance) → map (λ (p : Placed). p.instance) (placed_from part at is) ≡ is
placed-are part at [] = refl
placed-are part at (i ∷ is) = ap (λ l. i ∷ l) (placed-are part (at + length (part i.part (length i.ins)).gates) is)

pub each-get : {X : Type 0} (P : X → Type 0) (xs : List X) (k : ℕ) (x : X) → Each P xs → slice_get xs k ≡ Some x → P x
each-get P [] k x h e = absurd (let l : k < 0 = slice_get_within [] k x e in omega arith)
each-get P (y ∷ ys) zero x h e = subst P (same_Some y x e) h.0
each-get P (y ∷ ys) (suc k) x h e = each-get P ys k x h.1 e

pub all-holds : {X : Type 0} (p : X → Bool) (xs : List X) → list_all p xs ≡ true → (x : X) → Contains xs x → p x ≡ true
all-holds p [] e x h = absurd (nothing x h)
all-holds p (y ∷ ys) e x h =
    let a = and_parts (p y) (list_all p ys) e in
    elim (cons-cases y ys x h) [ inl s ↦ ap p (sym s) ∙ a.0 | inr t ↦ all-holds p ys a.1 x t ]

pub counted : {X : Type 0} (p : X → Bool) → List X → ℕ
counted p [] = 0
counted p (x ∷ xs) = cond (p x) (1 + counted p xs) (counted p xs)

counted-place : {X : Type 0} (p : X → Bool) (xs : List X) → counted p xs ≡ 1 → (j : ℕ) × (position p xs ≡ Some j)
unfolding counted
counted-place p [] e = absurd (omega (arith, e))
counted-place {X = X} p (x ∷ xs) e = step (p x) refl e (counted-place p xs)
  where
    step : (b : Bool) → p x ≡ b → cond b (1 + counted p xs) (counted p xs) ≡ 1 → (counted p xs ≡ 1 → (j : ℕ) × (position p xs ≡ Some j)) → (j : ℕ) × (position p (x ∷ xs) ≡ Some j)
    step true q e f = (0, position-cons p x xs ∙ ap (λ b. here_or b (position p xs)) q)
    step false q e f =
        let r = f e in
        (1 + r.0, position-cons p x xs ∙ ap (λ b. here_or b (position p xs)) q ∙ ap (behind 1) r.1)

count-same : {X : Type 0} (p : X → Bool) (xs : List X) → counted p xs ≡ count_by p xs
unfolding counted
count-same p xs = is_count_by (counted p) p refl (λ y ys. refl) xs

-- what is counted once has a place
pub counted-found : {X : Type 0} (p : X → Bool) (xs : List X) → count_by p xs ≡ 1 → (j : ℕ) × (position p xs ≡ Some j)
unfolding counted
counted-found p xs e = counted-place p xs (is_count_by (counted p) p refl (λ y ys. refl) xs ∙ e)

module _ (earlier : List Flat) (m : Module) where
  abbrev placed : List Placed
  placed = placed_of earlier m

  abbrev graph : List (List ℕ)
  graph = instance_graph m

  -- what an instance needs by the graph feeds it
  graph-feeds : (i j : ℕ) → Contains (order.needs_of graph j) i → Feeds m i j
  graph-feeds i j h = elim (cases_lt j (length graph)) [
    | inr ge ↦ absurd (nothing i (subst (λ ns. Contains ns i) (get_or_past graph j [] ge) h))
    | inl lt ↦
        let l : j < length m.instances = (let e = graph-long m.instances m.instances in omega (arith, e, lt)) in
        let to : Instance = get_or m.instances j (record { part = []; ins = []; outs = [] }) in
        let to_is : slice_get m.instances j ≡ Some to = slice_get-get_or m.instances j (record { part = []; ins = []; outs = [] }) l in
        let w = wants-from m.instances to.ins i (subst (λ ns. Contains ns i) (graph-at m.instances m.instances j to to_is) h) in
        let f = index-feeds w.0 m.instances i w.1.1 in
        record { from = f.0; to = to; net = w.0; from_is = f.1.0; to_is = to_is; given = f.1.1; taken = w.1.0 }
  ]

  graph-leads : (i j : ℕ) → order.Leads graph i j → facts.Leads m i j
  graph-leads i j (order.feeds n) = facts.feeds (graph-feeds i j n)
  graph-leads i k (order.leads_on j n l) = facts.leads_on j (graph-feeds i j n) (graph-leads j k l)

  is-graph : order.IsGraph graph
  is-graph i n h =
      let f = graph-feeds n i h in
      let l : n < length m.instances = slice_get_within m.instances n f.from f.from_is in
      let e = graph-long m.instances m.instances in
      omega (arith, e, l)

  module _ (fit : Each (FitsPart earlier) m.instances) (driven : all_driven_once m ≡ true) (acyclic : HasCycle m → ⊥) where
    -- a placed part fits
    pub placed-fits : (k : ℕ) (p : Placed) → slice_get placed k ≡ Some p → IsCarrying p.flat × (p.flat.inputs ≡ length p.instance.ins) × (length p.flat.outputs ≡ length p.instance.outs)
    placed-fits k p at =
        let i = placed-instance (part_of earlier) 0 m.instances k p at in
        let f : FitsPart earlier p.instance = each-get (FitsPart earlier) m.instances k p.instance fit i.0 in
        (subst IsCarrying (sym i.1) f.carries, ap (λ (z : Flat). z.inputs) i.1 ∙ f.ins, ap (λ (z : Flat). length z.outputs) i.1 ∙ f.outs)

    -- a net of the module is an input, or has a pin
    pub net-driven : (x : Text) → Contains (nets m) x → ((i : ℕ) × (position (bytes_eq x) m.inputs ≡ Some i)) ⊎ ((r : Placed × ℕ) × (pin_of x placed ≡ Some r))
    net-driven x h =
        let one : (count_by (bytes_eq x) (drivers m) == 1) ≡ true = all-holds (λ y. count_by (bytes_eq y) (drivers m) == 1) (nets m) driven x h in
        let found = counted-found (bytes_eq x) (drivers m) (eqb-true (count_by (bytes_eq x) (drivers m)) 1 one) in
        from (position (bytes_eq x) m.inputs) refl found.0 found.1
      where
        from : (o : Option ℕ) → position (bytes_eq x) m.inputs ≡ o → (j : ℕ) → position (bytes_eq x) (drivers m) ≡ Some j → ((i : ℕ) × (o ≡ Some i)) ⊎ ((r : Placed × ℕ) × (pin_of x placed ≡ Some r))
        from (Some i) w j e = inl (i, refl)
        from None w j e =
            let lost = position-append-lost (bytes_eq x) m.inputs (flat_map (λ i. i.outs) m.instances) w in
            inr (rest (position (bytes_eq x) (flat_map (λ i. i.outs) m.instances)) refl (sym lost ∙ e))
          where
            rest : (s : Option ℕ) → position (bytes_eq x) (flat_map (λ i. i.outs) m.instances) ≡ s → behind (length m.inputs) s ≡ Some j → (r : Placed × ℕ) × (pin_of x placed ≡ Some r)
            rest None q b = absurd (cc)
            rest (Some k) q b = pin-some (part_of earlier) x 0 m.instances k q

    -- it is reached behind the instances of its index
    pub net-reached : (x : Text) (done : List ℕ) → Contains (nets m) x → ((k : ℕ) → Contains (index_in x m.instances) k → Contains done k) → Reaches m placed done x
    net-reached x done h f = elim (net-driven x h) [
      | inl i ↦ from_input i.0 i.1
      | inr r ↦
          let a : AtPin x placed r.0.0 r.0.1 = at-pin x placed r.0.0 r.0.1 r.1 in
          let l = (position-Some x r.0.0.instance.outs r.0.1 a.pin).0 in
          let w = (placed-fits a.k r.0.0 a.at).2 in
          from_pin a.k r.0.0 r.0.1 (f a.k (subst (λ is. Contains (index_in x is) a.k) (placed-are (part_of earlier) 0 m.instances) a.index)) a.at r.1 (omega (arith, l, w))
    ]

    ins-reached : (done : List ℕ) (xs : List Text) → ((x : Text) → Contains xs x → Contains (nets m) x) → ((k : ℕ) → Contains (wants m.instances xs) k → Contains done k) → Each (Reaches m placed done) xs
    ins-reached done [] n f = tt
    ins-reached done (x ∷ xs) n f = (
      net-reached x done (n x (cons-here x xs)) (λ k h. f k (Contains-append_left (index_in x m.instances) (wants m.instances xs) k h)),
      ins-reached done xs (λ y h. n y (cons-later x xs y h)) (λ k h. f k (Contains-append_right (index_in x m.instances) (wants m.instances xs) k h)),
    )

    pub pin-is-net : (k : ℕ) (i : Instance) → slice_get m.instances k ≡ Some i → (x : Text) → Contains i.ins x → Contains (nets m) x
    pin-is-net k i e x h = Contains-append_right (drivers m ++ m.outputs) (flat_map (λ i. i.ins) m.instances) x (flat-has m.instances k i e x h)
      where
        flat-has : (is : List Instance) (k : ℕ) (i : Instance) → slice_get is k ≡ Some i → (x : Text) → Contains i.ins x → Contains (flat_map (λ i. i.ins) is) x
        flat-has [] k i e x h = absurd (let l : k < 0 = slice_get_within [] k i e in omega arith)
        flat-has (y ∷ is) zero i e x h = subst (λ xs. Contains xs x) (sym (flat_map-cons (λ (i : Instance). i.ins) y is)) (Contains-append_left y.ins (flat_map (λ i. i.ins) is) x (subst (λ (z : Instance). Contains z.ins x) (sym (same_Some y i e)) h))
        flat-has (y ∷ is) (suc k) i e x h = subst (λ xs. Contains xs x) (sym (flat_map-cons (λ (i : Instance). i.ins) y is)) (Contains-append_right y.ins (flat_map (λ i. i.ins) is) x (flat-has is k i e x h))

    sequence-order : (done ks : List ℕ) → InSequence graph done ks → InOrder m placed done ks
    sequence-order done [] s = tt
    sequence-order done (k ∷ ks) s =
        let e = graph-long m.instances m.instances in
        let p = placed-there (part_of earlier) 0 m.instances k (omega (arith, e, s.0.0)) in
        let i = placed-instance (part_of earlier) 0 m.instances k p.0 p.1 in
        ((p.0, (p.1, ins-reached done p.0.instance.ins (pin-is-net k p.0.instance i.0) (λ n h. s.0.1 n (subst (λ ns. Contains ns n) (sym (graph-at m.instances m.instances k p.0.instance i.0)) h)))), sequence-order (done ++ k ∷ []) ks s.1)

    peeled : Peeled graph is-graph (λ c. acyclic (c.0, graph-leads c.0 c.0 c.1)) [] (numbers (length graph))
    peeled = has-order graph is-graph (λ c. acyclic (c.0, graph-leads c.0 c.0 c.1))

    can-flatten : CanFlatten earlier m peeled.is
    can-flatten = record {
      parts = λ k p at. let f = placed-fits k p at in (f.0, f.1);
      in_order = sequence-order [] peeled.is peeled.sequence;
      count = (let a = peeled.long in let b = numbers-long graph is-graph (λ c. acyclic (c.0, graph-leads c.0 c.0 c.1)) in let e = graph-long m.instances m.instances in omega (arith, a, b, e));
      all = λ k l. peeled.all k (let e = graph-long m.instances m.instances in omega (arith, e, l));
      outputs = ins-reached peeled.is m.outputs (λ x h. Contains-append_left (drivers m ++ m.outputs) (flat_map (λ i. i.ins) m.instances) x (Contains-append_right (drivers m) m.outputs x h))
          (λ k h. peeled.all k (wanted-within m.outputs k h));
    }
      where
        wanted-within : (xs : List Text) (k : ℕ) → Contains (wants m.instances xs) k → k < length graph
        wanted-within xs k h =
            let w = wants-from m.instances xs k h in
            let f = index-feeds w.0 m.instances k w.1.1 in
            let l : k < length m.instances = slice_get_within m.instances k f.0 f.1.0 in
            let e = graph-long m.instances m.instances in
            omega (arith, e, l)

-- ---- the graph's cycles are the module's

pub counted-append : {X : Type 0} (p : X → Bool) (xs ys : List X) → counted p (xs ++ ys) ≡ counted p xs + counted p ys
unfolding counted
counted-append p [] ys = let z : counted p ys ≡ 0 + counted p ys = omega arith in z
counted-append {X = X} p (x ∷ xs) ys = step (p x) (counted-append p xs ys)
  where
    step : (b : Bool) → counted p (xs ++ ys) ≡ counted p xs + counted p ys → cond b (1 + counted p (xs ++ ys)) (counted p (xs ++ ys)) ≡ cond b (1 + counted p xs) (counted p xs) + counted p ys
    step true e = omega (arith, e)
    step false e = e

pub counted-some : (x : Text) (xs : List Text) → Contains xs x → 1 ≤ counted (bytes_eq x) xs
unfolding counted
counted-some x [] h = absurd (nothing x h)
counted-some x (y ∷ ys) h = elim (cons-cases y ys x h) [
  | inl e ↦ let t : bytes_eq x y ≡ true = ap (bytes_eq x) e ∙ bytes_eq-refl x in subst (λ b. 1 ≤ cond b (1 + counted (bytes_eq x) ys) (counted (bytes_eq x) ys)) (sym t) (omega arith)
  | inr t ↦ step (bytes_eq x y) (counted-some x ys t)
]
  where
    step : (b : Bool) → 1 ≤ counted (bytes_eq x) ys → 1 ≤ cond b (1 + counted (bytes_eq x) ys) (counted (bytes_eq x) ys)
    step true l = omega (arith, l)
    step false l = l

pub counted-here : (x y : Text) (ys : List Text) → bytes_eq x y ≡ true → counted (bytes_eq x) (y ∷ ys) ≡ 1 + counted (bytes_eq x) ys
unfolding counted
counted-here x y ys q = ap (λ b. cond b (1 + counted (bytes_eq x) ys) (counted (bytes_eq x) ys)) q

pub counted-there : (x y : Text) (ys : List Text) → bytes_eq x y ≡ false → counted (bytes_eq x) (y ∷ ys) ≡ counted (bytes_eq x) ys
unfolding counted
counted-there x y ys q = ap (λ b. cond b (1 + counted (bytes_eq x) ys) (counted (bytes_eq x) ys)) q

pub counted-lost : (x : Text) (ys : List Text) → (Contains ys x → ⊥) → counted (bytes_eq x) ys ≡ 0
unfolding counted
counted-lost x [] f = refl
counted-lost x (y ∷ ys) f = step (bytes_eq x y) refl (counted-lost x ys (λ h. f (cons-later y ys x h)))
  where
    step : (b : Bool) → bytes_eq x y ≡ b → counted (bytes_eq x) ys ≡ 0 → counted (bytes_eq x) (y ∷ ys) ≡ 0
    step true q r = absurd (f (subst (λ z. Contains (z ∷ ys) x) (bytes_eq-same x y q) (cons-here x ys)))
    step false q r = counted-there x y ys q ∙ r

pub outs_in : List Instance → List Text
outs_in is = flat_map (λ i. i.outs) is

pub outs-cons : (i : Instance) (is : List Instance) (x : Text) → counted (bytes_eq x) (outs_in (i ∷ is)) ≡ counted (bytes_eq x) i.outs + counted (bytes_eq x) (outs_in is)
unfolding outs_in
outs-cons i is x = ap (counted (bytes_eq x)) (flat_map-cons (λ (i : Instance). i.outs) i is) ∙ counted-append (bytes_eq x) i.outs (flat_map (λ i. i.outs) is)

pub outs-one : (is : List Instance) (k : ℕ) (i : Instance) (x : Text) → slice_get is k ≡ Some i → Contains i.outs x → 1 ≤ counted (bytes_eq x) (outs_in is)
outs-one [] k i x e h = absurd (let l : k < 0 = slice_get_within [] k i e in omega arith)
outs-one (y ∷ is) zero i x e h = let a = outs-cons y is x in let b = counted-some x y.outs (subst (λ (z : Instance). Contains z.outs x) (sym (same_Some y i e)) h) in omega (arith, a, b)
outs-one (y ∷ is) (suc k) i x e h = let a = outs-cons y is x in let b = outs-one is k i x e h in omega (arith, a, b)

-- a net that is counted once is given by one instance
pub outs-two : (is : List Instance) (k j : ℕ) (a b : Instance) (x : Text) → slice_get is k ≡ Some a → slice_get is j ≡ Some b → Contains a.outs x → Contains b.outs x → k ≢ j → 2 ≤ counted (bytes_eq x) (outs_in is)
outs-two [] k j a b x e f h i ne = absurd (let l : k < 0 = slice_get_within [] k a e in omega arith)
outs-two (y ∷ is) zero zero a b x e f h i ne = absurd (ne refl)
outs-two (y ∷ is) zero (suc j) a b x e f h i ne =
    let p = outs-cons y is x in
    let q = counted-some x y.outs (subst (λ (z : Instance). Contains z.outs x) (sym (same_Some y a e)) h) in
    let r = outs-one is j b x f i in
    omega (arith, p, q, r)
outs-two (y ∷ is) (suc k) zero a b x e f h i ne =
    let p = outs-cons y is x in
    let q = counted-some x y.outs (subst (λ (z : Instance). Contains z.outs x) (sym (same_Some y b f)) i) in
    let r = outs-one is k a x e h in
    omega (arith, p, q, r)
outs-two (y ∷ is) (suc k) (suc j) a b x e f h i ne =
    let p = outs-cons y is x in
    let r = outs-two is k j a b x e f h i (λ q. ne (ap suc q)) in
    omega (arith, p, r)

module _ (m : Module) (driven : all_driven_once m ≡ true) where
  -- a net is counted once among the inputs and the output pins
  pub drivers-once : (x : Text) → Contains (nets m) x → counted (bytes_eq x) m.inputs + counted (bytes_eq x) (outs_in m.instances) ≡ 1
  unfolding outs_in
  drivers-once x h =
      let one : (count_by (bytes_eq x) (drivers m) == 1) ≡ true = all-holds (λ y. count_by (bytes_eq y) (drivers m) == 1) (nets m) driven x h in
      let n : counted (bytes_eq x) (drivers m) ≡ 1 = count-same (bytes_eq x) (drivers m) ∙ eqb-true (count_by (bytes_eq x) (drivers m)) 1 one in
      sym (counted-append (bytes_eq x) m.inputs (flat_map (λ i. i.outs) m.instances)) ∙ n

  pub given-once : (x : Text) → Contains (nets m) x → counted (bytes_eq x) (outs_in m.instances) ≤ 1
  given-once x h = let a = drivers-once x h in omega (arith, a)

  feeds-graph : (i j : ℕ) → Feeds m i j → Contains (order.needs_of (instance_graph m) j) i
  feeds-graph i j f =
      let s = index-some f.net m.instances i f.from f.from_is f.given in
      let g = index-feeds f.net m.instances s.0 s.1 in
      let net : Contains (nets m) f.net = Contains-append_left (drivers m ++ m.outputs) (flat_map (λ i. i.ins) m.instances) f.net (Contains-append_left (drivers m) m.outputs f.net (Contains-append_right m.inputs (flat_map (λ i. i.outs) m.instances) f.net (outs-has m.instances i f.from f.from_is f.net f.given))) in
      let same : s.0 ≡ i = elim (cases_eq s.0 i) [
        | inl e ↦ e
        | inr ne ↦ absurd (let a = outs-two m.instances s.0 i g.0 f.from f.net g.1.0 f.from_is g.1.1 f.given ne in let b = given-once f.net net in omega (arith, a, b))
      ] in
      subst (λ ns. Contains ns i) (sym (graph-at m.instances m.instances j f.to f.to_is)) (wants-has m.instances f.to.ins f.net i f.taken (subst (Contains (index_in f.net m.instances)) same s.1))
    where
      outs-has : (is : List Instance) (k : ℕ) (i : Instance) → slice_get is k ≡ Some i → (x : Text) → Contains i.outs x → Contains (flat_map (λ i. i.outs) is) x
      outs-has [] k i e x h = absurd (let l : k < 0 = slice_get_within [] k i e in omega arith)
      outs-has (y ∷ is) zero i e x h = subst (λ xs. Contains xs x) (sym (flat_map-cons (λ (i : Instance). i.outs) y is)) (Contains-append_left y.outs (flat_map (λ i. i.outs) is) x (subst (λ (z : Instance). Contains z.outs x) (sym (same_Some y i e)) h))
      outs-has (y ∷ is) (suc k) i e x h = subst (λ xs. Contains xs x) (sym (flat_map-cons (λ (i : Instance). i.outs) y is)) (Contains-append_right y.outs (flat_map (λ i. i.outs) is) x (outs-has is k i e x h))

  leads-graph : (i j : ℕ) → facts.Leads m i j → order.Leads (instance_graph m) i j
  leads-graph i j (facts.feeds f) = order.feeds (feeds-graph i j f)
  leads-graph i k (facts.leads_on j f l) = order.leads_on j (feeds-graph i j f) (leads-graph j k l)

pub same_cycles : SameCycles
same_cycles m driven = (λ c. (c.0, leads-graph m driven c.0 c.0 c.1), λ c. (c.0, graph-leads [] m c.0 c.0 c.1))

-- ---- what a module that isn't refused has

abbrev accepted : Option FactRefusal
accepted = None

not_twice : (b : Bool) (Q : Type 0) → MatchBool b (accepted ≡ Some Twice) Q → Q
not_twice true Q h = absurd (cc)
not_twice false Q h = h

no_fault : (f : Option FactRefusal) (Q : Type 0) → MatchBool (is_some f) (accepted ≡ f) Q → (f ≡ None) × Q
no_fault (Some y) Q h = absurd (cc)
no_fault None Q h = (refl, h)

is_driven : (b : Bool) (Q : Type 0) → MatchBool b Q (accepted ≡ Some Driven) → (b ≡ true) × Q
is_driven true Q h = (refl, h)
is_driven false Q h = absurd (cc)

-- what an accepted module has
pub record IsAccepted (earlier : List Flat) (m : Module) : Type 0 where
  pub faultless : instances_fault earlier m.instances ≡ None
  pub driven : all_driven_once m ≡ true
  pub acyclic : HasCycle m → ⊥
  pub fit : Each (FitsPart earlier) m.instances
  pub order : List ℕ
  pub can : CanFlatten earlier m order

pub accepted-has : (earlier : List Flat) (m : Module) → Each IsCarrying earlier → ModuleRefusal earlier m None → IsAccepted earlier m
accepted-has earlier m h r =
    let a = not_twice (is_part earlier m.name) _ r in
    let b = no_fault (instances_fault earlier m.instances) _ a in
    let c = is_driven (all_driven_once m) _ b.1 in
    let acyclic : HasCycle m → ⊥ = elim c.1 [ inl k ↦ absurd (cc (k.1)) | inr k ↦ k.0 ] in
    let fit : Each (FitsPart earlier) m.instances = fits-all earlier m.instances h b.0 in
    record { faultless = b.0; driven = c.0; acyclic = acyclic; fit = fit; order = (peeled earlier m fit c.0 acyclic).is; can = can-flatten earlier m fit c.0 acyclic }

pub accepted_carries : AcceptedCarries
accepted_carries earlier m h r = let a = accepted-has earlier m h r in flatten_carries earlier m a.order a.can

-- ---- facts in order

each-push : {X : Type 0} (P : X → Type 0) (xs : List X) (x : X) → Each P xs → P x → Each P (xs ++ x ∷ [])
each-push P [] x h p = (p, tt)
each-push P (y ∷ ys) x h p = (h.0, each-push P ys x h.1 p)

each-contains : {X : Type 0} (P : X → Type 0) (xs : List X) (x : X) → Each P xs → Contains xs x → P x
each-contains P [] x h c = absurd (nothing x c)
each-contains P (y ∷ ys) x h c = elim (cons-cases y ys x c) [ inl e ↦ subst P e h.0 | inr t ↦ each-contains P ys x h.1 t ]

fact-carries : (c d : Circuits) (x : FormClause) (r : Option FactRefusal) → r ≡ None → FactReads c x r d → Each IsCarrying c.flats → Each IsCarrying d.flats
fact-carries c d x r e (facts.bodied b) h = absurd (cc)
fact-carries c d x r e (facts.bad_module b s f) h = absurd (cc)
fact-carries c d x r e (facts.bad_spec b s f) h = absurd (cc)
fact-carries c d x r e (facts.a_module m b f k q) h = subst (λ (z : Circuits). Each IsCarrying z.flats) (sym q) (each-push IsCarrying c.flats (flat c.flats m) h (accepted_carries c.flats m h k))
fact-carries c d x r e (facts.refused_module m b f k) h = absurd (cc)
fact-carries c d x r e (facts.a_spec s b f k q) h = subst (λ (z : Circuits). Each IsCarrying z.flats) (sym q) h
fact-carries c d x r e (facts.second_spec s b f k) h = absurd (cc)

facts-carry : (c d : Circuits) (xs : List FormClause) (r : Option (FactRefusal × ℕ)) → FactsRead c xs r d → Each IsCarrying c.flats → Each IsCarrying d.flats
facts-carry c d [] r facts.no_facts h = h
facts-carry c d (x ∷ xs) r (facts.no_fact q f) h = facts-carry c d xs r f h
facts-carry c d (x ∷ xs) r (facts.a_fact e q k f) h = facts-carry e d xs r f (fact-carries c e x None refl k h)
facts-carry c d (x ∷ xs) r (facts.refused q k) h = h

pub flat_has_one : FlatHasOne
flat_has_one cs r c f bits read has wide =
    let k : IsCarrying f = each-contains IsCarrying c.flats f (facts-carry no_circuits c cs r read tt) has in
    total_has_one f k.total bits wide
