-- Orders and cycles.
use Rattle.std.proofs.Common.{◌≡◌, ◌⊎◌, inl, inr, ℕ, zero, suc, ◌<◌, List, [], ◌∷◌, ◌++◌, length, slice_index_or, Contains, refl, sym, subst, arith, append-nil, append_assoc}
use Rattle.std.proofs.lemmas.List.Elements.{Contains-append_left, Contains-push_cases}
use Rattle.cb_model.specs.Order.{needs_of, CanCome, Follows, IsOrder, Leads, feeds, leads_on, HasCycle}

pub cons-cases : {X : Type 0} (y : X) (ys : List X) (x : X) → Contains (y ∷ ys) x → (y ≡ x) ⊎ Contains ys x
cons-cases y ys x h = here h.0 h.1 h.2
  where
    here : (k : ℕ) → k < length (y ∷ ys) → slice_index_or (y ∷ ys) k x ≡ x → (y ≡ x) ⊎ Contains ys x
    here zero lt e = inl e
    here (suc k) lt e = inr (k, omega arith, e)

pub cons-later : {X : Type 0} (y : X) (ys : List X) (x : X) → Contains ys x → Contains (y ∷ ys) x
cons-later y ys x h = (suc h.0, omega (arith, h.1), h.2)

pub cons-here : {X : Type 0} (y : X) (ys : List X) → Contains (y ∷ ys) y
cons-here y ys = (0, omega arith, refl)

pub nothing : {X : Type 0} (x : X) → Contains [] x → ⊥
nothing x h = omega (arith, h.1)

module _ (g : List (List ℕ)) where
  -- one item more
  pub follows-push : (done is : List ℕ) (x : ℕ) → Follows g done is → CanCome g (done ++ is) x → ((j : ℕ) → j < x → CanCome g (done ++ is) j → ⊥) → Follows g done (is ++ x ∷ [])
  follows-push done [] x f c l =
      (subst (λ d. CanCome g d x) (append-nil done) c, (λ j lt k. l j lt (subst (λ d. CanCome g d j) (sym (append-nil done)) k)), tt)
  follows-push done (i ∷ is) x f c l = (
    f.0,
    f.1,
    follows-push (done ++ i ∷ []) is x f.2 (subst (λ d. CanCome g d x) (sym (append_assoc done (i ∷ []) is)) c)
        (λ j lt k. l j lt (subst (λ d. CanCome g d j) (append_assoc done (i ∷ []) is) k)),
  )

  pub leads-then : (i j k : ℕ) → Leads g i j → Leads g j k → Leads g i k
  leads-then i j k (feeds h) l = leads_on j h l
  leads-then i j k (leads_on m h r) l = leads_on m h (leads-then m j k r l)

  -- what leads to these items is one of them, and none leads to itself
  pub record Settled (done : List ℕ) : Type 0 where
    pub closed : (i j : ℕ) → Contains done j → Contains (needs_of g j) i → Contains done i
    pub acyclic : (i : ℕ) → Contains done i → Leads g i i → ⊥

  settled-leads : (done : List ℕ) → Settled done → (i j : ℕ) → Contains done j → Leads g i j → Contains done i
  settled-leads done s i j h (feeds n) = s.closed i j h n
  settled-leads done s i j h (leads_on k n l) = s.closed i k (settled-leads done s k j h l) n

  settled-push : (done : List ℕ) (x : ℕ) → Settled done → CanCome g done x → Settled (done ++ x ∷ [])
  settled-push done x s c = record {
    closed = λ i j h n. elim (Contains-push_cases done x j h) [
      | inl old ↦ Contains-append_left done (x ∷ []) i (s.closed i j old n)
      | inr e ↦ Contains-append_left done (x ∷ []) i (c.needs i (subst (λ y. Contains (needs_of g y) i) (sym e) n))
    ];
    acyclic = λ i h l. elim (Contains-push_cases done x i h) [
      | inl old ↦ s.acyclic i old l
      | inr e ↦ c.new (from x (subst (λ y. Leads g y y) (sym e) l))
    ];
  }
    where
      -- what leads to x was placed before
      from : (i : ℕ) → Leads g i x → Contains done i
      from i (feeds n) = c.needs i n
      from i (leads_on k n l) = s.closed i k (from k l) n

  settled-follows : (done is : List ℕ) → Settled done → Follows g done is → Settled (done ++ is)
  settled-follows done [] s f = subst Settled (sym (append-nil done)) s
  settled-follows done (i ∷ is) s f = subst Settled (append_assoc done (i ∷ []) is) (settled-follows (done ++ i ∷ []) is (settled-push done i s f.0) f.2)

  -- where there is an order, there is no cycle
  pub order-acyclic : (is : List ℕ) → ((i n : ℕ) → Contains (needs_of g i) n → n < length g) → IsOrder g is → HasCycle g → ⊥
  order-acyclic is w o h =
      let s : Settled is = settled-follows [] is (record { closed = λ i j c n. absurd (nothing j c); acyclic = λ i c l. nothing i c }) o.follows in
      s.acyclic h.0 (o.all h.0 (within h.0 h.0 h.1)) h.1
    where
      within : (i j : ℕ) → Leads g i j → i < length g
      within i j (feeds n) = w j i n
      within i j (leads_on k n l) = w k i n

  -- where each of some items is led to by one of them, there is a cycle
  pub some-cycle : (is : List ℕ) → ((i : ℕ) → Contains is i → (j : ℕ) × (Contains is j × Leads g j i)) → (i : ℕ) → Contains is i → HasCycle g
  some-cycle [] f i h = absurd (nothing i h)
  some-cycle (x ∷ xs) f i h =
      let p : (j : ℕ) × (Contains (x ∷ xs) j × Leads g j x) = f x (cons-here x xs) in
      elim (cons-cases x xs p.0 p.1.0) [
        | inl e ↦ (x, subst (λ y. Leads g y x) (sym e) p.1.1)
        | inr there ↦ some-cycle xs (others p.0 there p.1.1) p.0 there
      ]
    where
      -- what x leads to, what leads to x leads to
      others : (j : ℕ) → Contains xs j → Leads g j x → (k : ℕ) → Contains xs k → (m : ℕ) × (Contains xs m × Leads g m k)
      others j there l k h =
          let q : (m : ℕ) × (Contains (x ∷ xs) m × Leads g m k) = f k (cons-later x xs k h) in
          elim (cons-cases x xs q.0 q.1.0) [
            | inl e ↦ (j, (there, leads-then j x k l (subst (λ y. Leads g y k) (sym e) q.1.1)))
            | inr in_xs ↦ (q.0, (in_xs, q.1.1))
          ]
