-- The steps of the whole sorting.
use Rattle.std.proofs.Common.{◌≡◌, ◌≢◌, inl, inr, ℕ, zero, suc, ◌+◌, ◌<◌, Bool, true, false, List, [], ◌∷◌, ◌++◌, length, slice_get, slice_index_or, slice_set, Some, Contains, replicate, sum_by, if◌then◌else◌, refl, sym, ap, subst, ◌∙◌, arith}
use Rattle.std.proofs.lemmas.Bool.{cases_eq, cases_Bool, true≢false}
use Rattle.std.proofs.lemmas.Option.{slice_get_within, slice_get-get_or, get_or_from_slice_get}
use Rattle.std.proofs.lemmas.List.Sums.{sum_by-cons}
use Rattle.std.proofs.lemmas.List.{length-replicate, length-set, get_or-set_same, get_or-set_other}
use Rattle.std.proofs.lemmas.List.Elements.{Contains-append_left, Contains-push, Contains-push_cases}
use Rattle.cb_order.specs.declared.Wait.{Wait}
use Rattle.cb_model.specs.Order.{needs_of, IsGraph, CanCome, Follows, IsOrder, Leads, feeds, HasCycle}
use Rattle.cb_order.specs.Sorting.{State, is_placed, HasWait, IsWait, IsHeld, ready, waits, is_late, IsSorting, IsNext, item_wait}
use Rattle.cb_order.proofs.Orders.{cons-cases, cons-later, cons-here, nothing, follows-push, some-cycle}

-- ---- an item is placed

module _ (g : List (List ℕ)) (graph : IsGraph g) (seen item : ℕ) (s : State) (next : IsNext g seen item s) where
  abbrev woken : List Wait
  woken = slice_index_or s.waits item []

  abbrev after : State
  after = record { order = s.order ++ item ∷ []; placed = slice_set s.placed item true; waits = slice_set s.waits item []; ready = s.ready }

  pub old : IsSorting g seen (item_wait g item ∷ []) s
  old = next.sorting

  own : IsWait g seen s.placed (item_wait g item)
  own = old.are_late (item_wait g item) (cons-here (item_wait g item) [])

  pub within : item < length g
  within = let a = own.was_seen in let b = old.within in omega (arith, a, b)

  pub in_placed : item < length s.placed
  in_placed = let a = within in let b = old.shape.placed in omega (arith, a, b)

  now_placed : is_placed (slice_set s.placed item true) item ≡ true
  now_placed = get_or-set_same s.placed item true false in_placed

  still_placed : (i : ℕ) → is_placed s.placed i ≡ true → is_placed (slice_set s.placed item true) i ≡ true
  still_placed i p = elim (cases_eq i item) [
    | inl e ↦ ap (is_placed (slice_set s.placed item true)) e ∙ now_placed
    | inr ne ↦ get_or-set_other s.placed item i true false ne ∙ p
  ]

  was_unplaced : (i : ℕ) → is_placed (slice_set s.placed item true) i ≡ false → (i ≢ item) × (is_placed s.placed i ≡ false)
  was_unplaced i u = elim (cases_eq i item) [
    | inl e ↦ absurd (true≢false (sym now_placed ∙ ap (is_placed (slice_set s.placed item true)) (sym e) ∙ u))
    | inr ne ↦ (ne, sym (get_or-set_other s.placed item i true false ne) ∙ u)
  ]

  kept_wait : (m : ℕ) (x : Wait) → HasWait (slice_set s.waits item []) m x → HasWait s.waits m x
  kept_wait m x h = elim (cases_eq m item) [
    | inl e ↦
        let l : item < length s.waits = (let a = within in let b = old.shape.waiting in omega (arith, a, b)) in
        absurd (nothing x (subst (λ (zs : List Wait). Contains zs x) (get_or-set_same s.waits item [] [] l) (subst (λ k. HasWait (slice_set s.waits item []) k x) e h)))
    | inr ne ↦ subst (λ (zs : List Wait). Contains zs x) (get_or-set_other s.waits item m [] [] ne) h
  ]

  -- all needs of the item are placed
  needs_placed : (n : ℕ) → Contains (needs_of g item) n → is_placed s.placed n ≡ true
  needs_placed n c = own.before c.0 n c.1 (slice_get-get_or (needs_of g item) c.0 n c.1 ∙ ap Some c.2)

  comes : CanCome g s.order item
  comes = record {
    within = within;
    new = λ h. true≢false (sym (old.marked item h) ∙ next.unplaced);
    needs = λ n c. old.placed n (needs_placed n c);
  }

  least : (j : ℕ) → j < item → CanCome g s.order j → ⊥
  least j lt c = elim (cases_Bool (is_placed s.placed j)) [
    | inl p ↦ c.new (old.placed j p)
    | inr u ↦ from (old.held j (let a = own.was_seen in omega (arith, a, lt)) u)
  ]
    where
      from : IsHeld g (item_wait g item ∷ []) s j → ⊥
      from (ready h) = let a = next.least j h in omega (arith, a, lt)
      from (waits n x e h u w) = true≢false (sym (old.marked n (c.needs n h)) ∙ u)
      from (is_late x e h) = elim (cons-cases (item_wait g item) [] x h) [
        | inl same ↦ let q : item ≡ j = ap (λ (z : Wait). z.item) same ∙ e in omega (arith, q, lt)
        | inr none ↦ nothing x none
      ]

  held_after : (i : ℕ) → i < seen → is_placed (slice_set s.placed item true) i ≡ false → IsHeld g woken after i
  held_after i l u = from (old.held i l (was_unplaced i u).1)
    where
      from : IsHeld g (item_wait g item ∷ []) s i → IsHeld g woken after i
      from (ready h) = ready h
      from (waits n x e h v w) = elim (cases_eq n item) [
        | inl same ↦ is_late x e (subst (λ k. HasWait s.waits k x) same w)
        | inr ne ↦ waits n x e h (get_or-set_other s.placed item n true false ne ∙ v) (subst (λ (zs : List Wait). Contains zs x) (sym (get_or-set_other s.waits item n [] [] ne)) w)
      ]
      from (is_late x e h) = elim (cons-cases (item_wait g item) [] x h) [
        | inl same ↦ absurd ((was_unplaced i u).0 (sym (ap (λ (z : Wait). z.item) same ∙ e)))
        | inr none ↦ absurd (nothing x none)
      ]

  grown_wait : (x : Wait) → IsWait g seen s.placed x → IsWait g seen (slice_set s.placed item true) x
  grown_wait x w = record { was_seen = w.was_seen; before = λ k n l e. still_placed n (w.before k n l e) }

  pub placed_next : IsSorting g seen woken after
  placed_next = record {
    shape = record {
      placed = length-set s.placed item true ∙ old.shape.placed;
      waiting = length-set s.waits item [] ∙ old.shape.waiting;
      items = λ n w h. old.shape.items n w (kept_wait n w h);
    };
    within = old.within;
    follows = follows-push g [] s.order item old.follows comes least;
    placed = λ i p. elim (cases_eq i item) [
      | inl e ↦ subst (Contains (s.order ++ item ∷ [])) (sym e) (Contains-push s.order item)
      | inr ne ↦ Contains-append_left s.order (item ∷ []) i (old.placed i (sym (get_or-set_other s.placed item i true false ne) ∙ p))
    ];
    marked = λ i h. elim (Contains-push_cases s.order item i h) [
      | inl o ↦ still_placed i (old.marked i o)
      | inr e ↦ subst (λ k. is_placed (slice_set s.placed item true) k ≡ true) e now_placed
    ];
    ready = λ i h.
        let r = old.ready i h in
        let a = next.least i h in
        let ne : i ≢ item = omega (arith, a) in
        (r.0, get_or-set_other s.placed item i true false ne ∙ r.1, λ n c. still_placed n (r.2 n c));
    waits = λ n w h. grown_wait w (old.waits n w (kept_wait n w h));
    are_late = λ w h. grown_wait w (old.waits item w h);
    held = held_after;
  }

-- ---- the least of the ready items comes next

pub popped : (g : List (List ℕ)) (seen item : ℕ) (ks : List ℕ) (s : State) → IsSorting g seen [] s → s.ready ≡ item ∷ ks → ((i : ℕ) → Contains ks i → item < i)
    → IsNext g seen item (record { order = s.order; placed = s.placed; waits = s.waits; ready = ks })
popped g seen item ks s old e least = record {
  sorting = record {
    shape = record { placed = old.shape.placed; waiting = old.shape.waiting; items = old.shape.items };
    within = old.within;
    follows = old.follows;
    placed = old.placed;
    marked = old.marked;
    ready = λ i h. old.ready i (subst (λ zs. Contains zs i) (sym e) (cons-later item ks i h));
    waits = old.waits;
    are_late = λ w h. elim (cons-cases (item_wait g item) [] w h) [
      | inl same ↦ subst (IsWait g seen s.placed) same (record { was_seen = first.0; before = λ k n l f. first.2 n (k, slice_get_within (needs_of g item) k n f, at k n f) })
      | inr none ↦ absurd (nothing w none)
    ];
    held = λ i l u. from i (old.held i l u);
  };
  unplaced = first.1;
  least = least;
}
  where
    first : (item < seen) × (is_placed s.placed item ≡ false) × ((n : ℕ) → Contains (needs_of g item) n → is_placed s.placed n ≡ true)
    first = old.ready item (subst (λ zs. Contains zs item) (sym e) (cons-here item ks))

    at : (k n : ℕ) → slice_get (needs_of g item) k ≡ Some n → slice_index_or (needs_of g item) k n ≡ n
    at k n f = get_or_from_slice_get (needs_of g item) k n n f

    from : (i : ℕ) → IsHeld g [] s i → IsHeld g (item_wait g item ∷ []) (record { order = s.order; placed = s.placed; waits = s.waits; ready = ks }) i
    from i (ready h) = elim (cons-cases item ks i (subst (λ zs. Contains zs i) e h)) [
      | inl same ↦ is_late (item_wait g item) same (cons-here (item_wait g item) [])
      | inr there ↦ ready there
    ]
    from i (waits n x q h v w) = waits n x q h v w
    from i (is_late x q h) = absurd (nothing x h)

-- ---- one more item is seen

pub seen-more : (g : List (List ℕ)) (seen : ℕ) (s : State) → IsSorting g seen [] s → seen < length g → IsSorting g (seen + 1) ((record { item = seen; at = 0 }) ∷ []) s
seen-more g seen s old l = record {
  shape = old.shape;
  within = omega (arith, l);
  follows = old.follows;
  placed = old.placed;
  marked = old.marked;
  ready = λ i h. let r = old.ready i h in (omega (arith, r.0), r.1, r.2);
  waits = λ n w h. let r = old.waits n w h in record { was_seen = omega (arith, r.was_seen); before = r.before };
  are_late = λ w h. elim (cons-cases (record { item = seen; at = 0 }) [] w h) [
    | inl same ↦ subst (IsWait g (seen + 1) s.placed) same (record { was_seen = omega arith; before = λ k n lt e. absurd (omega (arith, lt)) })
    | inr none ↦ absurd (nothing w none)
  ];
  held = λ i lt u. elim (cases_eq i seen) [
    | inl e ↦ is_late (record { item = seen; at = 0 }) (sym e) (cons-here (record { item = seen; at = 0 }) [])
    | inr ne ↦ from i (old.held i (omega (arith, lt, ne)) u)
  ];
}
  where
    from : (i : ℕ) → IsHeld g [] s i → IsHeld g ((record { item = seen; at = 0 }) ∷ []) s i
    from i (ready h) = ready h
    from i (waits n x q h v w) = waits n x q h v w
    from i (is_late x q h) = absurd (nothing x h)

-- ---- the end

-- the places that aren't marked
gaps : ℕ → List Bool → List ℕ
gaps at [] = []
gaps at (true ∷ bs) = gaps (suc at) bs
gaps at (false ∷ bs) = at ∷ gaps (suc at) bs

gap-in : (at : ℕ) (bs : List Bool) (k : ℕ) → k < length bs → slice_index_or bs k false ≡ false → Contains (gaps at bs) (at + k)
unfolding gaps
gap-in at [] k l u = absurd (omega (arith, l))
gap-in at (true ∷ bs) zero l u = absurd (true≢false u)
gap-in at (true ∷ bs) (suc k) l u = subst (Contains (gaps (suc at) bs)) (omega arith) (gap-in (suc at) bs k (omega (arith, l)) u)
gap-in at (false ∷ bs) zero l u = subst (Contains (at ∷ gaps (suc at) bs)) (omega arith) (cons-here at (gaps (suc at) bs))
gap-in at (false ∷ bs) (suc k) l u = cons-later at (gaps (suc at) bs) (at + suc k) (subst (Contains (gaps (suc at) bs)) (omega arith) (gap-in (suc at) bs k (omega (arith, l)) u))

gap-out : (at : ℕ) (bs : List Bool) (i : ℕ) → Contains (gaps at bs) i → (k : ℕ) × ((at + k ≡ i) × (k < length bs) × (slice_index_or bs k false ≡ false))
unfolding gaps
gap-out at [] i h = absurd (nothing i h)
gap-out at (true ∷ bs) i h = let r = gap-out (suc at) bs i h in (suc r.0, (omega (arith, r.1.0), omega (arith, r.1.1), r.1.2))
gap-out at (false ∷ bs) i h = elim (cons-cases at (gaps (suc at) bs) i h) [
  | inl e ↦ (0, (omega (arith, e), omega arith, refl))
  | inr there ↦ let r = gap-out (suc at) bs i there in (suc r.0, (omega (arith, r.1.0), omega (arith, r.1.1), r.1.2))
]

-- an item that isn't placed at the end is on a cycle or behind one
pub ends-in-cycle : (g : List (List ℕ)) (s : State) → IsGraph g → IsSorting g (length g) [] s → s.ready ≡ [] → (i : ℕ) → i < length g → is_placed s.placed i ≡ false → HasCycle g
ends-in-cycle g s graph old none i l u = some-cycle g (gaps 0 s.placed) back i (found i l u)
  where
    found : (i : ℕ) → i < length g → is_placed s.placed i ≡ false → Contains (gaps 0 s.placed) i
    found i l u = let p = old.shape.placed in subst (Contains (gaps 0 s.placed)) (omega arith) (gap-in 0 s.placed i (omega (arith, l, p)) u)

    back : (i : ℕ) → Contains (gaps 0 s.placed) i → (j : ℕ) × (Contains (gaps 0 s.placed) j × Leads g j i)
    back i h =
        let r = gap-out 0 s.placed i h in
        let p = old.shape.placed in
        let e : r.0 ≡ i = omega (arith, r.1.0) in
        let u : is_placed s.placed i ≡ false = ap (is_placed s.placed) (sym e) ∙ r.1.2 in
        from i (old.held i (omega (arith, e, r.1.1, p)) u)
      where
        from : (i : ℕ) → IsHeld g [] s i → (j : ℕ) × (Contains (gaps 0 s.placed) j × Leads g j i)
        from i (ready h) = absurd (nothing i (subst (λ zs. Contains zs i) none h))
        from i (waits n x q h v w) = (n, (found n (graph i n h) v, feeds h))
        from i (is_late x q h) = absurd (nothing x h)

pub ends-in-order : (g : List (List ℕ)) (s : State) → IsSorting g (length g) [] s → ((i : ℕ) → i < length g → is_placed s.placed i ≡ true) → IsOrder g s.order
ends-in-order g s old all = record { follows = old.follows; all = λ i l. old.placed i (all i l) }

-- one mark less to set
pub marks-left : (bs : List Bool) (i : ℕ) → i < length bs → slice_index_or bs i false ≡ false → sum_by (λ b. if b then 0 else 1) (slice_set bs i true) < sum_by (λ b. if b then 0 else 1) bs
marks-left [] i l u = absurd (omega (arith, l))
marks-left (true ∷ bs) zero l u = absurd (true≢false u)
marks-left (false ∷ bs) zero l u = let p = sum_by-cons (λ b. if b then 0 else 1) false bs in let q = sum_by-cons (λ b. if b then 0 else 1) true bs in omega (arith, p, q)
marks-left (b ∷ bs) (suc i) l u = let r = marks-left bs i (omega (arith, l)) u in let p = sum_by-cons (λ b. if b then 0 else 1) b bs in let q = sum_by-cons (λ b. if b then 0 else 1) b (slice_set bs i true) in omega (arith, r, p, q)

abbrev none_waiting : List Wait
none_waiting = []

-- nothing is seen yet
pub none-seen : (g : List (List ℕ)) (n : ℕ) (s : State) → length g ≡ n → s.order ≡ [] → s.placed ≡ replicate n false → s.waits ≡ replicate n [] → s.ready ≡ [] → IsSorting g 0 [] s
none-seen g n s long order placed waiting none = record {
  shape = record {
    placed = ap length placed ∙ length-replicate n false ∙ sym long;
    waiting = ap length waiting ∙ length-replicate n [] ∙ sym long;
    items = λ m w h. absurd (no_wait m w h);
  };
  within = omega arith;
  follows = subst (Follows g []) (sym order) tt;
  placed = λ i p. absurd (true≢false (sym p ∙ ap (λ ps. is_placed ps i) placed ∙ unmarked n i));
  marked = λ i h. absurd (nothing i (subst (λ zs. Contains zs i) order h));
  ready = λ i h. absurd (nothing i (subst (λ zs. Contains zs i) none h));
  waits = λ m w h. absurd (no_wait m w h);
  are_late = λ w h. absurd (nothing w h);
  held = λ i l u. absurd (omega (arith, l));
}
  where
    unmarked : (n i : ℕ) → slice_index_or (replicate n false) i false ≡ false
    unmarked zero i = refl
    unmarked (suc n) zero = refl
    unmarked (suc n) (suc i) = unmarked n i

    empty : (n m : ℕ) → slice_index_or (replicate n none_waiting) m [] ≡ []
    empty zero m = refl
    empty (suc n) zero = refl
    empty (suc n) (suc m) = empty n m

    no_wait : (m : ℕ) (w : Wait) → HasWait s.waits m w → ⊥
    no_wait m w h = nothing w (subst (λ (zs : List Wait). Contains zs w) (ap (λ ws. slice_index_or ws m []) waiting ∙ empty n m) h)

-- the state after an item is placed, by what its parts are
pub placed-parts : (g : List (List ℕ)) → IsGraph g → (seen item : ℕ) (s : State) → IsNext g seen item s → (order : List ℕ) (ws : List (List Wait)) (late : List Wait) → order ≡ s.order ++ item ∷ [] → ws ≡ slice_set s.waits item [] → late ≡ slice_index_or s.waits item []
    → IsSorting g seen late (record { order = order; placed = slice_set s.placed item true; waits = ws; ready = s.ready })
placed-parts g graph seen item s n order ws late a b c =
    subst (λ l. IsSorting g seen l (record { order = order; placed = slice_set s.placed item true; waits = ws; ready = s.ready })) (sym c)
    (subst (λ o. IsSorting g seen (slice_index_or s.waits item []) (record { order = o; placed = slice_set s.placed item true; waits = ws; ready = s.ready })) (sym a)
    (subst (λ vs. IsSorting g seen (slice_index_or s.waits item []) (record { order = s.order ++ item ∷ []; placed = slice_set s.placed item true; waits = vs; ready = s.ready })) (sym b) (placed_next g graph seen item s n)))
