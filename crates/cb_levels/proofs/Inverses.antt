-- Lists in which each number below a number stands once.
use Rattle.std.proofs.Common.{◌≡◌, ◌≢◌, ℕ, zero, suc, ◌+◌, ◌<◌, List, length, get_or, slice_set, AllPairs, Contains, inl, inr, nat_eq, refl, sym, ap, subst, ◌∙◌, arith, get_or-set_other, get_or-set_same}
use Rattle.std.specs.List.Sorted.{IsPermutation}
use Rattle.std.proofs.lemmas.Bool.{cases_lt}
use Rattle.std.proofs.lemmas.Bool.Decides.{Decides-eqb, nat_tests}
use Rattle.std.proofs.lemmas.Map.Made.{IsDistinct-from_AllPairs, AllPairs-from_IsDistinct}
use Rattle.std.proofs.lemmas.Map.Keys.{IsDistinct-IsPermutation}
use Rattle.std.proofs.lemmas.List.{get_or_default}
use Rattle.std.proofs.lemmas.List.Sorted.{length_permutation, Contains-permutation, IsPermutation-sym}
use Rattle.cb_model.specs.Bits.{numbers, numbers_from}
use Rattle.cb_levels.specs.Inverse.{IsInverse}

numbers-long : (a n : ℕ) → length (numbers_from a n) ≡ n
numbers-long a zero = refl
numbers-long a (suc n) = ap suc (numbers-long (suc a) n)

numbers-get : (a n k d : ℕ) → k < n → get_or (numbers_from a n) k d ≡ a + k
numbers-get a zero k d l = absurd (omega (arith, l))
numbers-get a (suc n) zero d l = omega arith
numbers-get a (suc n) (suc k) d l = numbers-get (suc a) n k d (omega (arith, l)) ∙ omega arith

numbers-differ : (n : ℕ) → AllPairs (λ x y. x ≢ y) (numbers n)
numbers-differ n i j d before l e =
    let long = numbers-long 0 n in
    let x = numbers-get 0 n i d (omega (arith, l, long, before)) in
    let y = numbers-get 0 n j d (omega (arith, l, long)) in
    omega (arith, x, y, e, before)

eqb-flips : (x y : ℕ) → nat_eq x y ≡ nat_eq y x
eqb-flips x y = grind (arith, nat_tests)

module _ (order : List ℕ) (n : ℕ) (p : IsPermutation (numbers n) order) where
  pub order-long : length order ≡ n
  order-long = length_permutation (numbers n) order p ∙ numbers-long 0 n

  order-differ : AllPairs (λ x y. x ≢ y) order
  order-differ = AllPairs-from_IsDistinct Decides-eqb order (IsDistinct-IsPermutation nat_eq eqb-flips (numbers n) order p (IsDistinct-from_AllPairs Decides-eqb (numbers n) (numbers-differ n)))

  pub order-once : (i j : ℕ) → i < j → j < length order → get_or order i 0 ≢ get_or order j 0
  order-once i j before l = order-differ i j 0 before l

  -- each number below n stands there
  pub order-has : (i : ℕ) → i < n → (k : ℕ) × ((k < length order) × (get_or order k 0 ≡ i))
  order-has i l =
      let e : 0 + i ≡ i = omega arith in
      let h : Contains (numbers n) i = (i, omega (arith, l, numbers-long 0 n), numbers-get 0 n i i l ∙ e) in
      let c = Contains-permutation (numbers n) order i p h in
      (c.0, (c.1, get_or_default order c.0 0 i c.1 ∙ c.2))

  -- and no other
  pub order-low : (k : ℕ) → k < length order → get_or order k 0 < n
  order-low k l =
      let c = Contains-permutation order (numbers n) (get_or order k 0) (IsPermutation-sym (numbers n) order p) (k, l, get_or_default order k (get_or order k 0) 0 l) in
      let long = numbers-long 0 n in
      let at = numbers-get 0 n c.0 (get_or order k 0) (omega (arith, c.1, long)) in
      omega (arith, at, c.1, c.2, long)

  -- the levels, where each place has its number
  pub inverse-is : (levels : List ℕ) → length levels ≡ length order → ((k : ℕ) → k < length order → get_or levels (get_or order k 0) 0 ≡ k) → IsInverse order levels
  inverse-is levels long at = record {
    as_many = long;
    to_input = λ k l. (omega (arith, order-low k l, order-long), at k l);
    to_level = λ i l.
        let h = order-has i (omega (arith, l, order-long)) in
        let e : get_or levels i 0 ≡ h.0 = ap (λ x. get_or levels x 0) (sym h.1.1) ∙ at h.0 h.1.0 in
        (omega (arith, e, h.1.0), ap (λ x. get_or order x 0) e ∙ h.1.1);
  }

  -- one level more
  pub inverse-next : (levels : List ℕ) (m : ℕ) → length levels ≡ length order → m < length order → ((k : ℕ) → k < m → get_or levels (get_or order k 0) 0 ≡ k)
      → (k : ℕ) → k < m + 1 → get_or (slice_set levels (get_or order m 0) m) (get_or order k 0) 0 ≡ k
  inverse-next levels m long l old k lt = elim (cases_lt k m) [
    | inl before ↦ get_or-set_other levels (get_or order m 0) (get_or order k 0) m 0 (order-once k m before l) ∙ old k before
    | inr ge ↦
        let e : m ≡ k = omega (arith, ge, lt) in
        let w : get_or order m 0 < length levels = omega (arith, long, order-low m l, order-long) in
        subst (λ x. get_or (slice_set levels (get_or order m 0) m) (get_or order x 0) 0 ≡ x) e (get_or-set_same levels (get_or order m 0) m 0 w)
  ]
