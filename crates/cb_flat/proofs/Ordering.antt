-- A graph without a cycle has an order.
use Rattle.std.proofs.Common.{◌≡◌, ◌≢◌, ◌⊎◌, inl, inr, ℕ, zero, suc, ◌+◌, ◌<◌, ◌≤◌, Bool, true, false, List, [], ◌∷◌, ◌++◌, length, nat_eq, if◌then◌else◌, Contains, refl, sym, ap, subst, ◌∙◌, arith, append-nil, append_assoc}
use Rattle.std.proofs.lemmas.Bool.{cases_eq, cases_Bool, eqb-true, eq-eqb, true≢false}
use Rattle.std.proofs.lemmas.List.Elements.{Contains-append_left, Contains-push}
use Rattle.cb_model.specs.Bits.{numbers, numbers_from}
use Rattle.cb_model.specs.Order.{needs_of, IsGraph, feeds, HasCycle}
use Rattle.cb_order.proofs.Orders.{cons-cases, cons-later, cons-here, nothing, some-cycle}

contains-dec : (xs : List ℕ) (n : ℕ) → Contains xs n ⊎ (Contains xs n → ⊥)
contains-dec [] n = inr (nothing n)
contains-dec (x ∷ xs) n = elim (cases_eq x n) [
  | inl e ↦ inl (subst (Contains (x ∷ xs)) e (cons-here x xs))
  | inr ne ↦ elim (contains-dec xs n) [
    | inl h ↦ inl (cons-later x xs n h)
    | inr lost ↦ inr (λ h. elim (cons-cases x xs n h) [ inl e ↦ ne e | inr t ↦ lost t ])
  ]
]

-- whether all of these are among those
all-in : (done ns : List ℕ) → ((n : ℕ) → Contains ns n → Contains done n) ⊎ ((n : ℕ) × (Contains ns n × (Contains done n → ⊥)))
all-in done [] = inl (λ n h. absurd (nothing n h))
all-in done (x ∷ xs) = elim (contains-dec done x) [
  | inr lost ↦ inr (x, (cons-here x xs, lost))
  | inl here ↦ elim (all-in done xs) [
    | inl f ↦ inl (λ n h. elim (cons-cases x xs n h) [ inl e ↦ subst (Contains done) e here | inr t ↦ f n t ])
    | inr r ↦ inr (r.0, (cons-later x xs r.0 r.1.0, r.1.1))
  ]
]

abbrev without : ℕ → List ℕ → List ℕ
without k [] = []
without k (x ∷ xs) = if nat_eq x k then without k xs else x ∷ without k xs

without-le : (k : ℕ) (xs : List ℕ) → length (without k xs) ≤ length xs
without-le k [] = omega arith
without-le k (x ∷ xs) = elim (nat_eq x k) as (λ c. length (if c then without k xs else x ∷ without k xs) ≤ length (x ∷ xs)) [
  | true ↦ omega (arith, without-le k xs)
  | false ↦ omega (arith, without-le k xs)
]

without-lt : (k : ℕ) (xs : List ℕ) → Contains xs k → length (without k xs) < length xs
without-lt k [] h = absurd (nothing k h)
without-lt k (x ∷ xs) h = elim (cases_Bool (nat_eq x k)) [
  | inl same ↦ subst (λ c. length (if c then without k xs else x ∷ without k xs) < length (x ∷ xs)) (sym same) (omega (arith, without-le k xs))
  | inr other ↦ elim (cons-cases x xs k h) [
    | inl e ↦ absurd (true≢false (sym (eq-eqb x k e) ∙ other))
    | inr t ↦ subst (λ c. length (if c then without k xs else x ∷ without k xs) < length (x ∷ xs)) (sym other) (omega (arith, without-lt k xs t))
  ]
]

without-has : (k : ℕ) (xs : List ℕ) (j : ℕ) → Contains xs j → j ≢ k → Contains (without k xs) j
without-has k [] j h ne = absurd (nothing j h)
without-has k (x ∷ xs) j h ne = elim (cases_Bool (nat_eq x k)) [
  | inl same ↦ elim (cons-cases x xs j h) [
    | inl e ↦ absurd (ne (sym e ∙ eqb-true x k same))
    | inr t ↦ subst (λ c. Contains (if c then without k xs else x ∷ without k xs) j) (sym same) (without-has k xs j t ne)
  ]
  | inr other ↦ subst (λ c. Contains (if c then without k xs else x ∷ without k xs) j) (sym other) (elim (cons-cases x xs j h) [
    | inl e ↦ subst (Contains (x ∷ without k xs)) e (cons-here x (without k xs))
    | inr t ↦ cons-later x (without k xs) j (without-has k xs j t ne)
  ])
]

without-from : (k : ℕ) (xs : List ℕ) (j : ℕ) → Contains (without k xs) j → Contains xs j
without-from k [] j h = h
without-from k (x ∷ xs) j h = split (nat_eq x k) (without-from k xs j) h
  where
    split : (c : Bool) → (Contains (without k xs) j → Contains xs j) → Contains (if c then without k xs else x ∷ without k xs) j → Contains (x ∷ xs) j
    split true f h = cons-later x xs j (f h)
    split false f h = elim (cons-cases x (without k xs) j h) [ inl e ↦ subst (Contains (x ∷ xs)) e (cons-here x xs) | inr t ↦ cons-later x xs j (f t) ]

module _ (g : List (List ℕ)) where
  -- each item is one of the graph, and needs only those before it
  abbrev pub InSequence : List ℕ → List ℕ → Type 0
  InSequence done [] = Unit {0}
  InSequence done (i ∷ is) = ((i < length g) × ((n : ℕ) → Contains (needs_of g i) n → Contains done n)) × InSequence (done ++ i ∷ []) is

  -- an item whose needs are among these, or each lacks one
  ready-in : (done rest : List ℕ) → ((i : ℕ) × (Contains rest i × ((n : ℕ) → Contains (needs_of g i) n → Contains done n))) ⊎ ((i : ℕ) → Contains rest i → (n : ℕ) × (Contains (needs_of g i) n × (Contains done n → ⊥)))
  ready-in done [] = inr (λ i h. absurd (nothing i h))
  ready-in done (x ∷ xs) = elim (all-in done (needs_of g x)) [
    | inl f ↦ inl (x, (cons-here x xs, f))
    | inr lacks ↦ elim (ready-in done xs) [
      | inl r ↦ inl (r.0, (cons-later x xs r.0 r.1.0, r.1.1))
      | inr f ↦ inr (λ i h. elim (cons-cases x xs i h) [ inl e ↦ subst (λ j. (n : ℕ) × (Contains (needs_of g j) n × (Contains done n → ⊥))) e lacks | inr t ↦ f i t ])
    ]
  ]

  module _ (graph : IsGraph g) (acyclic : HasCycle g → ⊥) where
    -- the rest in an order behind those that are done
    pub record Peeled (done rest : List ℕ) : Type 0 where
      pub is : List ℕ
      pub sequence : InSequence done is
      pub all : (k : ℕ) → k < length g → Contains (done ++ is) k
      pub long : length is ≤ length rest

    pub peel : (fuel : ℕ) (done rest : List ℕ) → length rest ≤ fuel → ((k : ℕ) → Contains rest k → k < length g) → ((k : ℕ) → k < length g → Contains done k ⊎ Contains rest k) → Peeled done rest
    peel fuel done [] l w f = record { is = []; sequence = tt; all = λ k h. subst (λ xs. Contains xs k) (sym (append-nil done)) (elim (f k h) [ inl d ↦ d | inr r ↦ absurd (nothing k r) ]); long = omega arith }
    peel zero done (x ∷ xs) l w f = absurd (omega (arith, l))
    peel (suc fuel) done (x ∷ xs) l w f = elim (ready-in done (x ∷ xs)) [
      | inl r ↦
          let i : ℕ = r.0 in
          let less : length (without i (x ∷ xs)) < length (x ∷ xs) = without-lt i (x ∷ xs) r.1.0 in
          let p : Peeled (done ++ i ∷ []) (without i (x ∷ xs)) = peel fuel (done ++ i ∷ []) (without i (x ∷ xs)) (omega (arith, less, l)) (λ k h. w k (without-from i (x ∷ xs) k h))
          (λ k h. elim (f k h) [
            | inl d ↦ inl (Contains-append_left done (i ∷ []) k d)
            | inr t ↦ elim (cases_eq k i) [ inl e ↦ inl (subst (Contains (done ++ i ∷ [])) (sym e) (Contains-push done i)) | inr ne ↦ inr (without-has i (x ∷ xs) k t ne) ]
          ]) in
          record {
            is = i ∷ p.is;
            sequence = ((w i r.1.0, r.1.1), p.sequence);
            all = λ k h. subst (λ ys. Contains ys k) (append_assoc done (i ∷ []) p.is) (p.all k h);
            long = omega (arith, p.long, less);
          }
      | inr lacks ↦ absurd (acyclic (some-cycle g (x ∷ xs) (λ i h.
          let r = lacks i h in
          elim (f r.0 (graph i r.0 r.1.0)) [ inl d ↦ absurd (r.1.1 d) | inr t ↦ (r.0, (t, feeds r.1.0)) ]) x (cons-here x xs)))
    ]

    from-has : (at n k : ℕ) → k < n → Contains (numbers_from at n) (at + k)
    from-has at zero k l = absurd (omega (arith, l))
    from-has at (suc n) zero l = subst (Contains (at ∷ numbers_from (suc at) n)) (omega arith) (cons-here at (numbers_from (suc at) n))
    from-has at (suc n) (suc k) l = cons-later at (numbers_from (suc at) n) (at + suc k) (subst (Contains (numbers_from (suc at) n)) (omega arith) (from-has (suc at) n k (omega (arith, l))))

    from-within : (at n k : ℕ) → Contains (numbers_from at n) k → k < at + n
    from-within at zero k h = absurd (nothing k h)
    from-within at (suc n) k h = elim (cons-cases at (numbers_from (suc at) n) k h) [ inl e ↦ omega (arith, e) | inr t ↦ let r = from-within (suc at) n k t in omega (arith, r) ]

    from-long : (at n : ℕ) → length (numbers_from at n) ≡ n
    from-long at zero = refl
    from-long at (suc n) = ap suc (from-long (suc at) n)

    -- all items in an order
    pub has-order : Peeled [] (numbers (length g))
    has-order = peel (length g) [] (numbers (length g)) (let e = from-long 0 (length g) in omega (arith, e)) (λ k h. let r = from-within 0 (length g) k h in omega (arith, r))
        (λ k h. inr (subst (Contains (numbers (length g))) (let z : 0 + k ≡ k = omega arith in z) (from-has 0 (length g) k h)))

    pub numbers-long : length (numbers (length g)) ≡ length g
    numbers-long = from-long 0 (length g)
