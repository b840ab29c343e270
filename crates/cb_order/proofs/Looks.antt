-- The steps of the sorting.
use Rattle.std.proofs.Common.{◌≡◌, ◌⊎◌, inl, inr, ℕ, zero, suc, ◌<◌, ◌≤◌, Bool, true, false, List, [], ◌∷◌, ◌++◌, map, length, slice_get, slice_index_or, slice_set, get_or, Some, Ordering, Less, Equal, Greater, Contains, refl, sym, ap, subst, ◌∙◌, arith, rules}
use Rattle.std.specs.Ordering.{nat_cmp, match_ordering}
use Rattle.std.specs.BTreeSet.{insert_key}
use Rattle.std.specs.Cmp.{nat_cmp_is}
use Rattle.std.proofs.lemmas.Bool.{cases_eq, cases_lt, true≢false}
use Rattle.std.proofs.lemmas.Option.{slice_get_within, slice_get-get_or, get_or_from_slice_get}
use Rattle.std.proofs.lemmas.List.{length-set, get_or-set_same, get_or-set_other, get_or_default, get_or_past}
use Rattle.std.proofs.lemmas.List.Elements.{Contains-append_left, Contains-push, Contains-push_cases}
use Rattle.cb_order.specs.declared.Wait.{Wait}
use Rattle.cb_model.specs.Order.{needs_of}
use Rattle.cb_order.specs.Sorting.{State, is_placed, HasWait, IsShaped, IsWait, IsHeld, ready, waits, is_late, IsSorting}
use Rattle.cb_order.proofs.Orders.{cons-cases, cons-later, cons-here, nothing}

-- ---- keys in order

same-key : (k x : ℕ) → nat_cmp k x ≡ Equal → k ≡ x
same-key k x e = elim (cases_lt k x) [
  | inl lt ↦ absurd (search (rules, nat_cmp_is k x Less lt ∙ e))
  | inr ge ↦ elim (cases_lt x k) [ inl gt ↦ absurd (search (rules, nat_cmp_is k x Greater gt ∙ e)) | inr le ↦ omega (arith, ge, le) ]
]

pub insert-cases : (ks : List ℕ) (k j : ℕ) → Contains (insert_key nat_cmp ks k) j → (k ≡ j) ⊎ Contains ks j
insert-cases [] k j h = cons-cases k [] j h
insert-cases (x ∷ xs) k j h = split (insert-cases xs k j) (nat_cmp k x) h
  where
    split : (Contains (insert_key nat_cmp xs k) j → (k ≡ j) ⊎ Contains xs j) → (o : Ordering) → Contains (match_ordering o (k ∷ x ∷ xs) (x ∷ xs) (x ∷ insert_key nat_cmp xs k)) j → (k ≡ j) ⊎ Contains (x ∷ xs) j
    split f Less h = cons-cases k (x ∷ xs) j h
    split f Equal h = inr h
    split f Greater h = elim (cons-cases x (insert_key nat_cmp xs k) j h) [
      | inl e ↦ inr (subst (Contains (x ∷ xs)) e (cons-here x xs))
      | inr r ↦ elim (f r) [ inl e ↦ inl e | inr t ↦ inr (cons-later x xs j t) ]
    ]

pub insert-has : (ks : List ℕ) (k : ℕ) → Contains (insert_key nat_cmp ks k) k
insert-has [] k = cons-here k []
insert-has (x ∷ xs) k = split (insert-has xs k) (nat_cmp k x) refl
  where
    split : Contains (insert_key nat_cmp xs k) k → (o : Ordering) → nat_cmp k x ≡ o → Contains (match_ordering o (k ∷ x ∷ xs) (x ∷ xs) (x ∷ insert_key nat_cmp xs k)) k
    split f Less e = cons-here k (x ∷ xs)
    split f Equal e = subst (Contains (x ∷ xs)) (sym (same-key k x e)) (cons-here x xs)
    split f Greater e = cons-later x (insert_key nat_cmp xs k) k f

pub insert-keeps : (ks : List ℕ) (k j : ℕ) → Contains ks j → Contains (insert_key nat_cmp ks k) j
insert-keeps [] k j h = absurd (nothing j h)
insert-keeps (x ∷ xs) k j h = split (insert-keeps xs k j) (nat_cmp k x)
  where
    split : (Contains xs j → Contains (insert_key nat_cmp xs k) j) → (o : Ordering) → Contains (match_ordering o (k ∷ x ∷ xs) (x ∷ xs) (x ∷ insert_key nat_cmp xs k)) j
    split f Less = cons-later k (x ∷ xs) j h
    split f Equal = h
    split f Greater = elim (cons-cases x xs j h) [
      | inl e ↦ subst (Contains (x ∷ insert_key nat_cmp xs k)) e (cons-here x (insert_key nat_cmp xs k))
      | inr t ↦ cons-later x (insert_key nat_cmp xs k) j (f t)
    ]

-- ---- lists of waiting items

pub wait-push : (ws : List (List Wait)) (n : ℕ) (w : Wait) (m : ℕ) (x : Wait) → HasWait ws m x → HasWait (slice_set ws n (slice_index_or ws n [] ++ w ∷ [])) m x
wait-push ws n w m x h = elim (cases_eq m n) [
  | inl e ↦
      let l : m < length ws = elim (cases_lt m (length ws)) [ inl lt ↦ lt | inr ge ↦ absurd (nothing x (subst (λ (zs : List Wait). Contains zs x) (get_or_past ws m [] ge) h)) ] in
      subst (λ k. HasWait (slice_set ws n (slice_index_or ws n [] ++ w ∷ [])) k x) (sym e)
      (subst (λ (zs : List Wait). Contains zs x) (sym (get_or-set_same ws n (slice_index_or ws n [] ++ w ∷ []) [] (omega (arith, l, e)))) (Contains-append_left (slice_index_or ws n []) (w ∷ []) x (subst (λ k. HasWait ws k x) e h)))
  | inr ne ↦ subst (λ (zs : List Wait). Contains zs x) (sym (get_or-set_other ws n m (slice_index_or ws n [] ++ w ∷ []) [] ne)) h
]

pub wait-pushed : (ws : List (List Wait)) (n : ℕ) (w : Wait) → n < length ws → HasWait (slice_set ws n (slice_index_or ws n [] ++ w ∷ [])) n w
wait-pushed ws n w l = subst (λ (zs : List Wait). Contains zs w) (sym (get_or-set_same ws n (slice_index_or ws n [] ++ w ∷ []) [] l)) (Contains-push (slice_index_or ws n []) w)

pub wait-cases : (ws : List (List Wait)) (n : ℕ) (w : Wait) → n < length ws → (m : ℕ) (x : Wait) → HasWait (slice_set ws n (slice_index_or ws n [] ++ w ∷ [])) m x → HasWait ws m x ⊎ (w ≡ x)
wait-cases ws n w l m x h = elim (cases_eq m n) [
  | inl e ↦
      let here : Contains (slice_index_or ws n [] ++ w ∷ []) x = subst (λ (zs : List Wait). Contains zs x) (get_or-set_same ws n (slice_index_or ws n [] ++ w ∷ []) [] l) (subst (λ k. HasWait (slice_set ws n (slice_index_or ws n [] ++ w ∷ [])) k x) e h) in
      elim (Contains-push_cases (slice_index_or ws n []) w x here) [ inl old ↦ inl (subst (λ k. HasWait ws k x) (sym e) old) | inr new ↦ inr new ]
  | inr ne ↦ inl (subst (λ (zs : List Wait). Contains zs x) (get_or-set_other ws n m (slice_index_or ws n [] ++ w ∷ []) [] ne) h)
]

-- ---- a look

module _ (g : List (List ℕ)) (seen : ℕ) (w : Wait) (late : List Wait) (s : State) (old : IsSorting g seen (w ∷ late) s) where
  -- an item that is held in the state is held after the look, where the item of the look is held
  keeps : (t : State) → ((i : ℕ) → Contains s.ready i → Contains t.ready i) → ((m : ℕ) (x : Wait) → HasWait s.waits m x → HasWait t.waits m x) → t.placed ≡ s.placed → (is_placed s.placed w.item ≡ false → IsHeld g late t w.item)
      → (i : ℕ) → i < seen → is_placed s.placed i ≡ false → IsHeld g late t i
  keeps t r h p f i l u = from (old.held i l u)
    where
      from : IsHeld g (w ∷ late) s i → IsHeld g late t i
      from (ready c) = ready (r i c)
      from (waits n x e c v k) = waits n x e c (ap (λ ps. is_placed ps n) p ∙ v) (h n x k)
      from (is_late x e c) = elim (cons-cases w late x c) [
        | inl same ↦
            let q : w.item ≡ i = ap (λ (z : Wait). z.item) same ∙ e in
            subst (IsHeld g late t) q (f (ap (is_placed s.placed) q ∙ u))
        | inr there ↦ is_late x e there
      ]

  -- the item is placed already
  pub look-passed : is_placed s.placed w.item ≡ true → IsSorting g seen late s
  look-passed p = record {
    shape = old.shape;
    within = old.within;
    follows = old.follows;
    placed = old.placed;
    marked = old.marked;
    ready = old.ready;
    waits = old.waits;
    are_late = λ x c. old.are_late x (cons-later w late x c);
    held = keeps s (λ i c. c) (λ m x h. h) refl (λ u. absurd (true≢false (sym p ∙ u)));
  }

  -- the item waits for a need that isn't placed
  pub look-waits : (at n : ℕ) (ws : List (List Wait)) → ws ≡ slice_set s.waits n (slice_index_or s.waits n [] ++ (record { item = w.item; at = at }) ∷ []) → slice_get (needs_of g w.item) at ≡ Some n → n < length g → is_placed s.placed n ≡ false
      → ((k m : ℕ) → k < at → slice_get (needs_of g w.item) k ≡ Some m → is_placed s.placed m ≡ true) → length ws ≡ length s.waits → IsSorting g seen late (record { order = s.order; placed = s.placed; waits = ws; ready = s.ready })
  look-waits at n ws e has in_g u before long =
      let x : Wait = record { item = w.item; at = at } in
      let l : n < length s.waits = omega (arith, in_g, old.shape.waiting) in
      let seen_w : w.item < seen = (old.are_late w (cons-here w late)).was_seen in
      let cases : (m : ℕ) (y : Wait) → HasWait ws m y → HasWait s.waits m y ⊎ (x ≡ y) = λ m y h. wait-cases s.waits n x l m y (subst (λ vs. HasWait vs m y) e h) in
      record {
        shape = record {
          placed = old.shape.placed;
          waiting = long ∙ old.shape.waiting;
          items = λ m y h. elim (cases m y h) [ inl o ↦ old.shape.items m y o | inr q ↦ subst (λ (z : Wait). z.item < length g) q (let v = old.within in omega (arith, seen_w, v)) ];
        };
        within = old.within;
        follows = old.follows;
        placed = old.placed;
        marked = old.marked;
        ready = old.ready;
        waits = λ m y h. elim (cases m y h) [ inl o ↦ old.waits m y o | inr q ↦ subst (IsWait g seen s.placed) q (record { was_seen = seen_w; before = before }) ];
        are_late = λ y c. old.are_late y (cons-later w late y c);
        held = keeps (record { order = s.order; placed = s.placed; waits = ws; ready = s.ready }) (λ i c. c) (λ m y h. subst (λ vs. HasWait vs m y) (sym e) (wait-push s.waits n x m y h)) refl
            (λ v. waits n x refl (at, slice_get_within (needs_of g w.item) at n has, get_or_from_slice_get (needs_of g w.item) at n n has) u (subst (λ vs. HasWait vs n x) (sym e) (wait-pushed s.waits n x l)));
      }

  -- the item is ready
  pub look-ready : (ks : List ℕ) → ks ≡ insert_key nat_cmp s.ready w.item → is_placed s.placed w.item ≡ false → ((n : ℕ) → Contains (needs_of g w.item) n → is_placed s.placed n ≡ true) → IsSorting g seen late (record { order = s.order; placed = s.placed; waits = s.waits; ready = ks })
  look-ready ks e u all = record {
    shape = record { placed = old.shape.placed; waiting = old.shape.waiting; items = old.shape.items };
    within = old.within;
    follows = old.follows;
    placed = old.placed;
    marked = old.marked;
    ready = λ i c. elim (insert-cases s.ready w.item i (subst (λ vs. Contains vs i) e c)) [
      | inl q ↦ subst (λ z. (z < seen) × (is_placed s.placed z ≡ false) × ((n : ℕ) → Contains (needs_of g z) n → is_placed s.placed n ≡ true)) q ((old.are_late w (cons-here w late)).was_seen, u, all)
      | inr o ↦ old.ready i o
    ];
    waits = old.waits;
    are_late = λ y c. old.are_late y (cons-later w late y c);
    held = keeps (record { order = s.order; placed = s.placed; waits = s.waits; ready = ks }) (λ i c. subst (λ vs. Contains vs i) (sym e) (insert-keeps s.ready w.item i c)) (λ m y h. h) refl (λ v. ready (subst (λ vs. Contains vs w.item) (sym e) (insert-has s.ready w.item)));
  }

-- what is placed before a place and from it on, is placed
pub all-placed : (placed : List Bool) (ns : List ℕ) (from n : ℕ) → ((k m : ℕ) → k < from → slice_get ns k ≡ Some m → is_placed placed m ≡ true) → ((k m : ℕ) → from ≤ k → slice_get ns k ≡ Some m → is_placed placed m ≡ true) → Contains ns n → is_placed placed n ≡ true
all-placed placed ns from n f h c =
    let at : slice_get ns c.0 ≡ Some n = slice_get-get_or ns c.0 n c.1 ∙ ap Some c.2 in
    elim (cases_lt c.0 from) [ inl lt ↦ f c.0 n lt at | inr ge ↦ h c.0 n ge at ]

-- what an index into the marks gives
pub mark-at : (placed : List Bool) (i : ℕ) (r : Bool) → i < length placed → r ≡ get_or placed i r → is_placed placed i ≡ r
mark-at placed i r l e = get_or_default placed i false r l ∙ sym e

-- the lists of waiting items after a push
pub waits-set : {A B : Type 0} (f : A → B) (vs : List A) (n : ℕ) (v : A) → map f (slice_set vs n v) ≡ slice_set (map f vs) n (f v)
waits-set f [] n v = refl
waits-set f (x ∷ xs) zero v = refl
waits-set f (x ∷ xs) (suc n) v = ap (λ l. f x ∷ l) (waits-set f xs n v)

pub look-shape : (g : List (List ℕ)) (s : State) (w : Wait) (ws : List (List Wait)) (n at : ℕ) → IsShaped g s → w.item < length g → n < length g → ws ≡ slice_set s.waits n (slice_index_or s.waits n [] ++ (record { item = w.item; at = at }) ∷ []) → length ws ≡ length s.waits
    → IsShaped g (record { order = s.order; placed = s.placed; waits = ws; ready = s.ready })
look-shape g s w ws n at h i l e long =
    let p = h.waiting in
    record {
      placed = h.placed;
      waiting = long ∙ h.waiting;
      items = λ m y k. elim (wait-cases s.waits n (record { item = w.item; at = at }) (omega (arith, l, p)) m y (subst (λ vs. HasWait vs m y) e k)) [ inl o ↦ h.items m y o | inr q ↦ subst (λ (z : Wait). z.item < length g) q i ];
    }

pub waits-long : {A B : Type 0} (f : A → B) (vs : List A) → length (map f vs) ≡ length vs
waits-long f [] = refl
waits-long f (x ∷ xs) = ap suc (waits-long f xs)

pub waits-get : {A B : Type 0} (f : A → B) (vs : List A) (n : ℕ) (d : A) (e : B) → n < length vs → get_or (map f vs) n e ≡ f (get_or vs n d)
waits-get f [] n d e l = absurd (omega arith)
waits-get f (x ∷ xs) zero d e l = refl
waits-get f (x ∷ xs) (suc n) d e l = waits-get f xs n d e (omega arith)

pub pushed-waits : {A B : Type 0} (f : A → List B) (vs : List A) (n : ℕ) (r new : A) (w : B) → n < length vs → r ≡ get_or vs n r → f new ≡ f r ++ w ∷ [] → map f (slice_set vs n new) ≡ slice_set (map f vs) n (slice_index_or (map f vs) n [] ++ w ∷ [])
pushed-waits f vs n r new w l e p =
    waits-set f vs n new ∙ ap (slice_set (map f vs) n) (p ∙ ap (λ zs. zs ++ w ∷ []) (ap f e ∙ sym (waits-get f vs n r [] l)))

pub pushed-long : {A B : Type 0} (f : A → B) (vs : List A) (n : ℕ) (new : A) → length (map f (slice_set vs n new)) ≡ length (map f vs)
pushed-long f vs n new = waits-long f (slice_set vs n new) ∙ length-set vs n new ∙ sym (waits-long f vs)

pub less-key : (k x : ℕ) → nat_cmp k x ≡ Less → k < x
less-key k x e = elim (cases_lt k x) [
  | inl lt ↦ lt
  | inr ge ↦ elim (cases_eq k x) [
    | inl same ↦ absurd (search (rules, nat_cmp_is k x Equal same ∙ e))
    | inr ne ↦ let gt : x < k = omega (arith, ge, ne) in absurd (search (rules, nat_cmp_is k x Greater gt ∙ e))
  ]
]
