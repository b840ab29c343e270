-- The facts of a file are read, up to a first refusal.
use Rattle.std.proofs.Common.{◌≡◌, ◌⊎◌, inl, inr, ℕ, zero, suc, ◌+◌, ◌<◌, Bool, true, false, nat_lt, List, [], ◌∷◌, length, refl, sym, subst, arith, bytes_eq}
use Rattle.std.specs.Prelude.{Option, Some, None, is_some, slice_get, flat_map, Contains, MatchBool, if◌then◌else◌}
use Rattle.std.specs.List.{list_any}
use Rattle.std.proofs.lemmas.Bool.{cases_eq}
use Rattle.cb_model.specs.Bits.{numbers_from}
use Rattle.cb_model.specs.Text.{Text}
use Rattle.cb_model.specs.Grammar.{Form, FormGoal, FormClause, Directive, Rule}
use Rattle.cb_model.specs.Circuits.{Module, Instance, Flat, flat}
use Rattle.cb_model.specs.Sorts.{apart}
use Rattle.cb_model.specs.Loading.{is_fact, sign_is, module_sign, spec_sign}
use Rattle.cb_model.specs.Facts.{Circuits, Spec, FactRefusal, Twice, Pins, Driven, Cycle, Large, Feeds, Leads, feeds, leads_on, HasCycle, ModuleRefusal, is_part, instances_fault, all_driven_once, module_of, spec_of, with_module, with_spec, FactReads, bodied, bad_module, bad_spec, a_module, refused_module, a_spec, second_spec, FactsRead, no_facts, no_fact, a_fact, refused}
use Rattle.cb_laws.proofs.Search.{Decision, equal_to}
use Rattle.cb_laws.proofs.Listed.{or_cases}
use Rattle.cb_outputs.proofs.Closures.{one_some, slice_within, In, in_flat, flat_in, contained, containing, search_list, in_decided, Closure, closure}
use Rattle.cb_outputs.proofs.Marks.{text_same, given, given_in, in_given}

-- ---- cycles

in_numbers : (at n k : ℕ) → k < n → In (at + k) (numbers_from at n)
in_numbers at zero k l = absurd (omega (arith, l))
in_numbers at (suc n) zero l = inl (omega arith)
in_numbers at (suc n) (suc k) l = inr (subst (λ i. In i (numbers_from (suc at) n)) (next at k) (in_numbers (suc at) n k (omega (arith, l))))
  where
    next : (at k : ℕ) → suc at + k ≡ at + suc k
    next at k = omega arith

module _ (m : Module) where
  feeds_decided : (i j : ℕ) → Decision (Feeds m i j)
  feeds_decided i j = step (slice_get m.instances i) (slice_get m.instances j) refl refl
    where
      step : (p q : Option Instance) → slice_get m.instances i ≡ p → slice_get m.instances j ≡ q → Decision (Feeds m i j)
      step None q e f = inr (λ h. let k = h.from_is in absurd (cc))
      step (Some x) None e f = inr (λ h. let k = h.to_is in absurd (cc))
      step (Some x) (Some y) e f = equal_to (
        (λ h. (
          h.net,
          contained x.outs h.net (subst (λ (z : Instance). Contains z.outs h.net) (one_some _ h.from x h.from_is e) h.given),
          contained y.ins h.net (subst (λ (z : Instance). Contains z.ins h.net) (one_some _ h.to y h.to_is f) h.taken),
        )),
        λ h. record { from = x; to = y; net = h.0; from_is = e; to_is = f; given = containing x.outs h.0 h.1; taken = containing y.ins h.0 h.2 },
      ) (search_list (λ n. In n y.ins) (λ n. in_decided Text text_same n y.ins) x.outs)

  abbrev places : List ℕ
  places = numbers_from 0 (length m.instances)

  from_place : (i j : ℕ) → Feeds m i j → In i places
  from_place i j h = subst (λ k. In k places) (omega arith) (in_numbers 0 (length m.instances) i (slice_within m.instances i h.from h.from_is))

  to_place : (i j : ℕ) → Feeds m i j → In j places
  to_place i j h = subst (λ k. In k places) (omega arith) (in_numbers 0 (length m.instances) j (slice_within m.instances j h.to h.to_is))

  abbrev next_of : ℕ → List ℕ
  next_of i = flat_map (λ j. given (feeds_decided i j) (j ∷ [])) places

  abbrev all_arrows : List (ℕ × ℕ)
  all_arrows = flat_map (λ i. flat_map (λ j. given (feeds_decided i j) ((i, j) ∷ [])) places) places

  next_in : (i j : ℕ) → Feeds m i j → In j (next_of i)
  next_in i j h = in_flat (λ j. given (feeds_decided i j) (j ∷ [])) j j places (to_place i j h) (given_in (feeds_decided i j) j (j ∷ []) h (inl refl))

  in_next : (i j : ℕ) → In j (next_of i) → Feeds m i j
  in_next i j h =
      let r = flat_in (λ j. given (feeds_decided i j) (j ∷ [])) j places h in
      let g = in_given (feeds_decided i r.0) j (r.0 ∷ []) r.2 in
      subst (λ k. Feeds m i k) (sym (only g.1)) g.0
    where
      only : {k : ℕ} → In j (k ∷ []) → j ≡ k
      only (inl e) = e
      only (inr n) = absurd n

  arrow_in : (i j : ℕ) → Feeds m i j → In (i, j) all_arrows
  arrow_in i j h =
      in_flat (λ i. flat_map (λ j. given (feeds_decided i j) ((i, j) ∷ [])) places) i (i, j) places (from_place i j h)
      (in_flat (λ j. given (feeds_decided i j) ((i, j) ∷ [])) j (i, j) places (to_place i j h) (given_in (feeds_decided i j) (i, j) ((i, j) ∷ []) h (inl refl)))

  in_arrow : (e : ℕ × ℕ) → In e all_arrows → Feeds m e.0 e.1
  in_arrow e h =
      let r = flat_in (λ i. flat_map (λ j. given (feeds_decided i j) ((i, j) ∷ [])) places) e places h in
      let s = flat_in (λ j. given (feeds_decided r.0 j) ((r.0, j) ∷ [])) e places r.2 in
      let g = in_given (feeds_decided r.0 s.0) e ((r.0, s.0) ∷ []) s.2 in
      subst (λ (x : ℕ × ℕ). Feeds m x.0 x.1) (sym (only g.1)) g.0
    where
      only : {x : ℕ × ℕ} → In e (x ∷ []) → e ≡ x
      only (inl i) = i
      only (inr n) = absurd n

  reached : (i : ℕ) → Closure ℕ cases_eq (next_of i) all_arrows
  reached i = closure ℕ cases_eq (next_of i) all_arrows

  leads_then : (i j k : ℕ) → Leads m i j → Feeds m j k → Leads m i k
  leads_then i j k (feeds f) g = leads_on j f (feeds g)
  leads_then i j k (leads_on x f r) g = leads_on x f (leads_then x j k r g)

  in_leads : (i k : ℕ) → In k (reached i).members → Leads m i k
  in_leads i k h = (reached i).least (λ x. Leads m i x) (λ x s. feeds (in_next i x s)) (λ e a l. leads_then i e.0 e.1 l (in_arrow e a)) k h

  leads_in : (i y k : ℕ) → ((j : ℕ) → Feeds m y j → In j (reached i).members) → Leads m y k → In k (reached i).members
  leads_in i y k all (feeds f) = all k f
  leads_in i y k all (leads_on j f r) = leads_in i j k (λ x g. (reached i).closed (j, x) (arrow_in j x g) (all j f)) r

  leads_decided : (i k : ℕ) → Decision (Leads m i k)
  leads_decided i k = equal_to ((λ l. leads_in i i k (λ j f. (reached i).has j (next_in i j f)) l), λ h. in_leads i k h) (in_decided ℕ cases_eq k (reached i).members)

  leads_from : (i k : ℕ) → Leads m i k → In i places
  leads_from i k (feeds f) = from_place i k f
  leads_from i k (leads_on j f r) = from_place i j f

  pub cycle_decided : Decision (HasCycle m)
  cycle_decided = equal_to ((λ h. (h.0, leads_from h.0 h.0 h.1, h.1)), λ h. (h.0, h.2)) (search_list (λ i. Leads m i i) (λ i. leads_decided i i) places)

-- ---- refusals

pub module_refusal : (earlier : List Flat) (m : Module) → (r : Option FactRefusal) × ModuleRefusal earlier m r
module_refusal earlier m = step (is_part earlier m.name) (is_some (instances_fault earlier m.instances)) (all_driven_once m) (cycle_decided m)
  where
    step : (p q d : Bool) → Decision (HasCycle m) → (r : Option FactRefusal) ×
        MatchBool p (r ≡ Some Twice)
        (MatchBool q (r ≡ instances_fault earlier m.instances)
        (MatchBool d
        ((HasCycle m × (r ≡ Some Cycle)) ⊎
        ((HasCycle m → ⊥) × (r ≡ (if nat_lt 1000000 (length (flat earlier m).gates) then Some Large else None))))
        (r ≡ Some Driven)))
    step true q d c = (Some Twice, refl)
    step false true d c = (instances_fault earlier m.instances, refl)
    step false false false c = (Some Driven, refl)
    step false false true (inl c) = (Some Cycle, inl (c, refl))
    step false false true (inr n) = ((if nat_lt 1000000 (length (flat earlier m).gates) then Some Large else None), inr (n, refl))

-- a fact adds something or is refused
abbrev Read : Circuits → FormClause → Type 0
Read c x = ((c' : Circuits) × FactReads c x None c') ⊎ ((r : FactRefusal) × FactReads c x (Some r) c)

module _ (c : Circuits) (n : ℕ) (f : Form) (gs : List FormGoal) where
  module_reads : sign_is module_sign f ≡ true → Read c (Rule n f false gs)
  module_reads e = step (module_of (apart f 0).0) refl
    where
      known : (m : Module) → module_of (apart f 0).0 ≡ Some m → (r : Option FactRefusal) × ModuleRefusal c.flats m r → Read c (Rule n f false gs)
      known m h (None, r) = inl (with_module c m, a_module m refl h r refl)
      known m h (Some x, r) = inr (x, refused_module m refl h r)

      step : (o : Option Module) → module_of (apart f 0).0 ≡ o → Read c (Rule n f false gs)
      step None h = inr (Pins, bad_module refl e h)
      step (Some m) h = known m h (module_refusal c.flats m)

  spec_reads : sign_is spec_sign f ≡ true → Read c (Rule n f false gs)
  spec_reads e = step (spec_of (apart f 0).0) refl
    where
      known : (s : Spec) → spec_of (apart f 0).0 ≡ Some s → (x : Bool) → list_any (λ t. bytes_eq t.name s.name) c.specs ≡ x → Read c (Rule n f false gs)
      known s h true k = inr (Twice, second_spec s refl h k)
      known s h false k = inl (with_spec c s, a_spec s refl h k refl)

      step : (o : Option Spec) → spec_of (apart f 0).0 ≡ o → Read c (Rule n f false gs)
      step None h = inr (Pins, bad_spec refl e h)
      step (Some s) h = known s h (list_any (λ t. bytes_eq t.name s.name) c.specs) refl

  fact_reads : (b : Bool) → is_fact (Rule n f b gs) ≡ true → Read c (Rule n f b gs)
  fact_reads true h = inr (Pins, bodied refl)
  fact_reads false h = elim (or_cases (sign_is module_sign f) (sign_is spec_sign f) h) [ inl e ↦ module_reads e | inr e ↦ spec_reads e ]

-- the facts of a file
pub facts_read : (cs : List FormClause) (c : Circuits) → (r : Option (FactRefusal × ℕ)) × (c' : Circuits) × FactsRead c cs r c'
facts_read [] c = (None, c, no_facts)
facts_read (Directive n x fs ∷ cs) c = let r = facts_read cs c in (r.0, r.1, no_fact refl r.2)
facts_read (Rule n f b gs ∷ cs) c = step (is_fact (Rule n f b gs)) refl (λ d. facts_read cs d)
  where
    read : is_fact (Rule n f b gs) ≡ true → Read c (Rule n f b gs) → ((d : Circuits) → (r : Option (FactRefusal × ℕ)) × (c' : Circuits) × FactsRead d cs r c') →
        (r : Option (FactRefusal × ℕ)) × (c' : Circuits) × FactsRead c (Rule n f b gs ∷ cs) r c'
    read e (inl k) go = let r = go k.0 in (r.0, r.1, a_fact k.0 e k.1 r.2)
    read e (inr k) go = (Some (k.0, n), c, refused e k.1)

    step : (x : Bool) → is_fact (Rule n f b gs) ≡ x → ((d : Circuits) → (r : Option (FactRefusal × ℕ)) × (c' : Circuits) × FactsRead d cs r c') →
        (r : Option (FactRefusal × ℕ)) × (c' : Circuits) × FactsRead c (Rule n f b gs ∷ cs) r c'
    step true e go = read e (fact_reads c n f gs b e) go
    step false e go = let r = go c in (r.0, r.1, no_fact e r.2)
