-- Levels from the greatest to the least.
use Rattle.std.proofs.Common.{◌≡◌, ◌⊎◌, inl, inr, ℕ, suc, ◌+◌, ◌<◌, ◌||◌, List, [], ◌∷◌, ◌++◌, reverse, nat_eq, get_or, sym, ap, subst, ◌∙◌, arith}
use Rattle.std.proofs.lemmas.Bool.{cases_Bool, true≢false}
use Rattle.std.proofs.lemmas.List.Folds.{list_any-append}
use Rattle.std.proofs.lemmas.Grind.{reverse_onto}
use Rattle.std.specs.List.{list_any}
use Rattle.std.specs.List.Sorted.{IsStrictlyIncreasing}
use Rattle.cb_ops.specs.Support.{IsListed}
use Rattle.cb_solution.specs.Solution.{IsFalling}
use Rattle.cb_solution.proofs.Solved.{listed-here, listed-there, listed-cases}

pub listed-either : (xs ys : List ℕ) (k : ℕ) → IsListed (xs ++ ys) k → IsListed xs k ⊎ IsListed ys k
listed-either xs ys k h = elim (cases_Bool (list_any (nat_eq k) xs)) [
  | inl there ↦ inl there
  | inr other ↦ inr (sym (ap (λ b. b || list_any (nat_eq k) ys) other) ∙ sym (list_any-append (nat_eq k) xs ys) ∙ h)
]

pub listed-left : (xs ys : List ℕ) (k : ℕ) → IsListed xs k → IsListed (xs ++ ys) k
listed-left xs ys k h = list_any-append (nat_eq k) xs ys ∙ ap (λ b. b || list_any (nat_eq k) ys) h

pub listed-right : (xs ys : List ℕ) (k : ℕ) → IsListed ys k → IsListed (xs ++ ys) k
listed-right [] ys k h = h
listed-right (x ∷ xs) ys k h = listed-there x k (xs ++ ys) (listed-right xs ys k h)

pub listed-one : (x k : ℕ) → IsListed (x ∷ []) k → k ≡ x
listed-one x k h = elim (listed-cases x k [] h) [ inl same ↦ same | inr none ↦ absurd (true≢false (sym none)) ]

reversed : (x : ℕ) (xs : List ℕ) → reverse (x ∷ xs) ≡ reverse xs ++ x ∷ []
reversed x xs = reverse_onto xs x []

listed-back : (xs : List ℕ) (k : ℕ) → IsListed (reverse xs) k → IsListed xs k
listed-back [] k h = h
listed-back (x ∷ xs) k h = elim (listed-either (reverse xs) (x ∷ []) k (subst (λ (ys : List ℕ). IsListed ys k) (reversed x xs) h)) [
  | inl there ↦ listed-there x k xs (listed-back xs k there)
  | inr here ↦ subst (λ j. IsListed (x ∷ xs) j) (sym (listed-one x k here)) (listed-here x xs)
]

pub listed-reverse : (xs : List ℕ) (k : ℕ) → IsListed xs k → IsListed (reverse xs) k
listed-reverse [] k h = h
listed-reverse (x ∷ xs) k h = subst (λ (ys : List ℕ). IsListed ys k) (sym (reversed x xs)) (elim (listed-cases x k xs h) [
  | inl same ↦ listed-right (reverse xs) (x ∷ []) k (subst (λ j. IsListed (x ∷ []) j) (sym same) (listed-here x []))
  | inr there ↦ listed-left (reverse xs) (x ∷ []) k (listed-reverse xs k there)
])

pub rising-tail : (x : ℕ) (xs : List ℕ) → IsStrictlyIncreasing (x ∷ xs) → IsStrictlyIncreasing xs
rising-tail x xs rise k h =
    let r : get_or (x ∷ xs) (suc k) 0 < get_or (x ∷ xs) (suc k + 1) 0 = rise (suc k) (omega arith) in
    let e : suc k + 1 ≡ suc (k + 1) = omega arith in
    subst (λ j. get_or xs k 0 < get_or (x ∷ xs) j 0) e r

rising-head : (x : ℕ) (xs : List ℕ) → IsStrictlyIncreasing (x ∷ xs) → (k : ℕ) → IsListed xs k → x < k
rising-head x [] rise k h = absurd (true≢false (sym h))
rising-head x (y ∷ ys) rise k h =
    let first : x < y = rise 0 (omega arith) in
    elim (listed-cases y k ys h) [
      | inl same ↦ omega arith
      | inr there ↦ let second : y < k = rising-head y ys (rising-tail x (y ∷ ys) rise) k there in omega arith
    ]

falling-end : (ys : List ℕ) (x : ℕ) → IsFalling ys → ((k : ℕ) → IsListed ys k → x < k) → IsFalling (ys ++ x ∷ [])
falling-end [] x f below = ((λ k h. absurd (true≢false (sym h))), tt)
falling-end (y ∷ ys) x f below = (
  (λ k h. elim (listed-either ys (x ∷ []) k h) [
    | inl there ↦ f.0 k there
    | inr here ↦ let e : k ≡ x = listed-one x k here in let w : x < y = below y (listed-here y ys) in omega arith
  ]),
  falling-end ys x f.1 (λ k there. below k (listed-there y k ys there)),
)

pub falling-reverse : (xs : List ℕ) → IsStrictlyIncreasing xs → IsFalling (reverse xs)
falling-reverse [] rise = tt
falling-reverse (x ∷ xs) rise = subst IsFalling (sym (reversed x xs))
    (falling-end (reverse xs) x (falling-reverse xs (rising-tail x xs rise)) (λ k there. rising-head x xs rise k (listed-back xs k there)))

pub from-reverse : (xs : List ℕ) (k : ℕ) → IsListed (reverse xs) k → IsListed xs k
from-reverse xs k h = listed-back xs k h
