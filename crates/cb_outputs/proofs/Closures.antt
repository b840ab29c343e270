-- What is reached from some things along some arrows is a list.
use Rattle.std.proofs.Common.{◌≡◌, ◌⊎◌, inl, inr, ℕ, zero, suc, ◌<◌, List, [], ◌∷◌, ◌++◌, length, refl, sym, ap, subst, arith}
use Rattle.std.specs.Prelude.{Option, Some, slice_get, flat_map, Contains}
use Rattle.cb_laws.proofs.Search.{Decision}

-- ---- options and places

pub one_some : {A : Type 0} (o : Option A) (x y : A) → o ≡ Some x → o ≡ Some y → x ≡ y
one_some o x y e f = cc

pub slice_within : {A : Type 0} (xs : List A) (k : ℕ) (x : A) → slice_get xs k ≡ Some x → k < length xs
slice_within [] k x h = absurd (cc)
slice_within (y ∷ xs) zero x h = omega arith
slice_within (y ∷ xs) (suc k) x h = let r = slice_within xs k x h in omega (arith, r)

-- ---- members

abbrev pub In : {A : Type 0} → A → List A → Type 0
In x [] = ⊥
In x (y ∷ ys) = (x ≡ y) ⊎ In x ys

pub in_front : {A : Type 0} (x : A) (xs ys : List A) → In x xs → In x (xs ++ ys)
in_front x [] ys h = absurd h
in_front x (z ∷ xs) ys (inl e) = inl e
in_front x (z ∷ xs) ys (inr h) = inr (in_front x xs ys h)

pub in_behind : {A : Type 0} (x : A) (xs ys : List A) → In x ys → In x (xs ++ ys)
in_behind x [] ys h = h
in_behind x (z ∷ xs) ys h = inr (in_behind x xs ys h)

pub in_either : {A : Type 0} (x : A) (xs ys : List A) → In x (xs ++ ys) → In x xs ⊎ In x ys
in_either x [] ys h = inr h
in_either x (z ∷ xs) ys (inl e) = inl (inl e)
in_either x (z ∷ xs) ys (inr h) = step (in_either x xs ys h)
  where
    step : In x xs ⊎ In x ys → In x (z ∷ xs) ⊎ In x ys
    step (inl k) = inl (inr k)
    step (inr k) = inr k

pub in_flat : {A B : Type 0} (g : A → List B) (x : A) (y : B) (xs : List A) → In x xs → In y (g x) → In y (flat_map g xs)
in_flat g x y [] h k = absurd h
in_flat g x y (z ∷ xs) (inl e) k = in_front y (g z) (flat_map g xs) (subst (λ w. In y (g w)) e k)
in_flat g x y (z ∷ xs) (inr h) k = in_behind y (g z) (flat_map g xs) (in_flat g x y xs h k)

pub flat_in : {A B : Type 0} (g : A → List B) (y : B) (xs : List A) → In y (flat_map g xs) → (x : A) × In x xs × In y (g x)
flat_in g y [] h = absurd h
flat_in g y (z ∷ xs) h = step (in_either y (g z) (flat_map g xs) h) (λ k. flat_in g y xs k)
  where
    step : In y (g z) ⊎ In y (flat_map g xs) → (In y (flat_map g xs) → (x : _) × In x xs × In y (g x)) → (x : _) × In x (z ∷ xs) × In y (g x)
    step (inl k) go = (z, inl refl, k)
    step (inr k) go = let r = go k in (r.0, inr r.1, r.2)

pub contained : {A : Type 0} (xs : List A) (x : A) → Contains xs x → In x xs
contained [] x c = absurd (let l = c.1 in omega (arith, l))
contained (y ∷ xs) x (zero, l, e) = inl (sym e)
contained (y ∷ xs) x (suc k, l, e) = inr (contained xs x (k, omega (arith, l), e))

pub containing : {A : Type 0} (xs : List A) (x : A) → In x xs → Contains xs x
containing [] x h = absurd h
containing (y ∷ xs) x (inl e) = (0, omega arith, sym e)
containing (y ∷ xs) x (inr h) = let r = containing xs x h in (suc r.0, (let l = r.1 in omega (arith, l)), r.2)

-- ---- members that have a property

pub search_list : {A : Type 0} (P : A → Type 0) → ((x : A) → Decision (P x)) → (xs : List A) → Decision ((x : A) × In x xs × P x)
search_list P d [] = inr (λ h. h.1)
search_list P d (y ∷ ys) = step (d y) (search_list P d ys)
  where
    step : Decision (P y) → Decision ((x : _) × In x ys × P x) → Decision ((x : _) × In x (y ∷ ys) × P x)
    step (inl p) r = inl (y, inl refl, p)
    step (inr n) (inl r) = inl (r.0, inr r.1, r.2)
    step (inr n) (inr m) = inr (λ h. never h.0 h.1 h.2)
      where
        never : (x : _) → In x (y ∷ ys) → P x → ⊥
        never x (inl e) p = n (subst P e p)
        never x (inr k) p = m (x, k, p)

-- ---- closures

module _ (A : Type 0) (same : (x y : A) → Decision (x ≡ y)) where
  pub in_decided : (x : A) (xs : List A) → Decision (In x xs)
  in_decided x [] = inr (λ h. h)
  in_decided x (y ∷ ys) = step (same x y) (in_decided x ys)
    where
      step : Decision (x ≡ y) → Decision (In x ys) → Decision (In x (y ∷ ys))
      step (inl e) d = inl (inl e)
      step (inr n) (inl h) = inl (inr h)
      step (inr n) (inr m) = inr (λ h. never h)
        where
          never : In x (y ∷ ys) → ⊥
          never (inl e) = n e
          never (inr k) = m k

  abbrev Arrow : Type 0
  Arrow = A × A

  -- the arrow stands in the first list, and the second is the rest
  data Picked (e : Arrow) : List Arrow → List Arrow → Type 0 where
    first : {es : List Arrow} → Picked e (e ∷ es) es
    behind : {x : Arrow} {es rs : List Arrow} → Picked e es rs → Picked e (x ∷ es) (x ∷ rs)

  picked_length : {e : Arrow} {es rs : List Arrow} → Picked e es rs → length es ≡ suc (length rs)
  picked_length first = refl
  picked_length (behind p) = ap suc (picked_length p)

  picked_in : {e : Arrow} {es rs : List Arrow} → Picked e es rs → In e es
  picked_in first = inl refl
  picked_in (behind p) = inr (picked_in p)

  picked_more : (e x : Arrow) (es rs : List Arrow) → Picked e es rs → In x rs → In x es
  picked_more e x [] rs p h = elim p [ ]
  picked_more e x (y ∷ es) rs first h = inr h
  picked_more e x (y ∷ es) (z ∷ rs) (behind p) (inl i) = inl i
  picked_more e x (y ∷ es) (z ∷ rs) (behind p) (inr h) = inr (picked_more e x es rs p h)

  one_more : (e x y : Arrow) (rs : List Arrow) → (x ≡ e) ⊎ In x rs → (x ≡ e) ⊎ In x (y ∷ rs)
  one_more e x y rs (inl i) = inl i
  one_more e x y rs (inr k) = inr (inr k)

  picked_less : (e x : Arrow) (es rs : List Arrow) → Picked e es rs → In x es → (x ≡ e) ⊎ In x rs
  picked_less e x [] rs p h = elim p [ ]
  picked_less e x (y ∷ es) rs first (inl i) = inl i
  picked_less e x (y ∷ es) rs first (inr h) = inr h
  picked_less e x (y ∷ es) (z ∷ rs) (behind p) (inl i) = inr (inl i)
  picked_less e x (y ∷ es) (z ∷ rs) (behind p) (inr h) = one_more e x z rs (picked_less e x es rs p h)

  -- an arrow from something seen, or there is none
  find : (seen : List A) (es : List Arrow) → ((e : Arrow) × (rs : List Arrow) × Picked e es rs × In e.0 seen) ⊎ ((e : Arrow) → In e es → In e.0 seen → ⊥)
  find seen [] = inr (λ e h k. h)
  find seen (x ∷ es) = step (in_decided x.0 seen) (find seen es)
    where
      step : Decision (In x.0 seen) → ((e : Arrow) × (rs : List Arrow) × Picked e es rs × In e.0 seen) ⊎ ((e : Arrow) → In e es → In e.0 seen → ⊥) →
          ((e : Arrow) × (rs : List Arrow) × Picked e (x ∷ es) rs × In e.0 seen) ⊎ ((e : Arrow) → In e (x ∷ es) → In e.0 seen → ⊥)
      step (inl h) r = inl (x, es, first, h)
      step (inr n) (inl r) = inl (r.0, x ∷ r.1, behind r.2, r.3)
      step (inr n) (inr m) = inr (λ e h k. never e h k)
        where
          never : (e : Arrow) → In e (x ∷ es) → In e.0 seen → ⊥
          never e (inl i) k = n (subst (λ (y : Arrow). In y.0 seen) i k)
          never e (inr h) k = m e h k

  -- a list that has what is seen, is closed under the arrows and is the least such
  pub record Closure (seen : List A) (es : List Arrow) : Type 1 where
    pub members : List A
    pub has : (x : A) → In x seen → In x members
    pub closed : (e : Arrow) → In e es → In e.0 members → In e.1 members
    pub least : (P : A → Type 0) → ((x : A) → In x seen → P x) → ((e : Arrow) → In e es → P e.0 → P e.1) → (x : A) → In x members → P x

  closure_of : (n : ℕ) (seen : List A) (es : List Arrow) → length es ≡ n → Closure seen es
  closure_of zero seen [] l = record { members = seen; has = λ x h. h; closed = λ e h k. absurd h; least = λ P f g x h. f x h }
  closure_of zero seen (e ∷ es) l = absurd (omega (arith, l))
  closure_of (suc n) seen es l = step (find seen es) (λ seen' rs k. closure_of n seen' rs k)
    where
      step : ((e : Arrow) × (rs : List Arrow) × Picked e es rs × In e.0 seen) ⊎ ((e : Arrow) → In e es → In e.0 seen → ⊥) →
          ((seen' : List A) (rs : List Arrow) → length rs ≡ n → Closure seen' rs) → Closure seen es
      step (inr none) go = record { members = seen; has = λ x h. h; closed = λ e h k. absurd (none e h k); least = λ P f g x h. f x h }
      step (inl r) go =
          let e : Arrow = r.0 in
          let p : Picked e es r.1 = r.2 in
          let c : Closure (e.1 ∷ seen) r.1 = go (e.1 ∷ seen) r.1 (let k = picked_length p in omega (arith, l, k)) in
          record {
            members = c.members;
            has = λ x h. c.has x (inr h);
            closed = λ d h k. along d c (picked_less e d es r.1 p h) k;
            least = λ P f g x h. c.least P (starts P f (g e (picked_in p) (f e.0 r.3))) (λ d i. g d (picked_more e d es r.1 p i)) x h;
          }
        where
          along : (d : Arrow) (c : Closure (r.0.1 ∷ seen) r.1) → (d ≡ r.0) ⊎ In d r.1 → In d.0 c.members → In d.1 c.members
          along d c (inl i) k = subst (λ (y : Arrow). In y.1 c.members) (sym i) (c.has r.0.1 (inl refl))
          along d c (inr h) k = c.closed d h k

          starts : (P : A → Type 0) → ((x : A) → In x seen → P x) → P r.0.1 → (x : A) → In x (r.0.1 ∷ seen) → P x
          starts P f q x (inl i) = subst P (sym i) q
          starts P f q x (inr h) = f x h

  pub closure : (seen : List A) (es : List Arrow) → Closure seen es
  closure seen es = closure_of (length es) seen es refl
