-- The place of a name in two lists, one behind the other.
use Rattle.std.specs.Prelude.{IfOk, unwrap_or}
use Rattle.std.proofs.Common.{◌≡◌, ℕ, suc, ◌+◌, Bool, true, false, cond, List, [], ◌∷◌, ◌++◌, length, Option, Some, None, Result, Ok, Err, position, refl, sym, ◌∙◌, ap, arith}
use Rattle.std.proofs.lemmas.Bool.Decides.{nat_tests}
use Rattle.cb_model.specs.Directives.{Sign, same_sign}
use Rattle.cb_model.specs.Sorts.{sign_number}

abbrev behind : Option ℕ → Option ℕ
behind None = None
behind (Some k) = Some (1 + k)

-- a place, or one behind so many
abbrev or_from : Option ℕ → ℕ → Option ℕ → Option ℕ
or_from (Some k) n r = Some k
or_from None n None = None
or_from None n (Some k) = Some (n + k)

module _ {X : Type 0} (p : X → Bool) where
  position-cons : (x : X) (xs : List X) → position p (x ∷ xs) ≡ cond (p x) (Some 0) (behind (position p xs))
  position-cons x xs = grind (arith, nat_tests)

  position-append : (xs ys : List X) → position p (xs ++ ys) ≡ or_from (position p xs) (length xs) (position p ys)
  position-append [] ys = none (position p ys)
    where
      none : (r : Option ℕ) → r ≡ or_from None 0 r
      none None = refl
      none (Some k) = let z : k ≡ 0 + k = omega arith in ap Some z
  position-append (x ∷ xs) ys =
      position-cons x (xs ++ ys) ∙ ap (λ (o : Option ℕ). cond (p x) (Some 0) (behind o)) (position-append xs ys)
      ∙ step (p x) (position p xs) (position p ys) ∙ ap (λ (o : Option ℕ). or_from o (suc (length xs)) (position p ys)) (sym (position-cons x xs))
    where
      step : (b : Bool) (q r : Option ℕ) → cond b (Some 0) (behind (or_from q (length xs) r)) ≡ or_from (cond b (Some 0) (behind q)) (suc (length xs)) r
      step true q r = refl
      step false (Some k) r = refl
      step false None None = refl
      step false None (Some k) = let z : 1 + (length xs + k) ≡ suc (length xs) + k = omega arith in ap Some z

module _ (xs ys : List Sign) (a : Sign) where
  pub sign_first : {E : Type 0} (q : Result ℕ E) (n : ℕ) → Some n ≡ position (same_sign a) xs → IfOk q (λ k. k ≡ n) → IfOk q (λ k. k ≡ sign_number (xs ++ ys) a)
  sign_first (Ok k) n e h =
      h ∙ sym (ap (λ (o : Option ℕ). unwrap_or o 0) (position-append (same_sign a) xs ys ∙ ap (λ (o : Option ℕ). or_from o (length xs) (position (same_sign a) ys)) (sym e)))
  sign_first (Err x) n e h = tt

  pub sign_second : {E : Type 0} (q : Result ℕ E) (n m l : ℕ) → None ≡ position (same_sign a) xs → Some n ≡ position (same_sign a) ys → l ≡ length xs → m ≡ l + n → IfOk q (λ k. k ≡ m) →
      IfOk q (λ k. k ≡ sign_number (xs ++ ys) a)
  sign_second (Ok k) n m l e f s g h =
      h ∙ g ∙ ap (λ (i : ℕ). i + n) s
      ∙ sym (ap (λ (o : Option ℕ). unwrap_or o 0) (position-append (same_sign a) xs ys ∙ (λ j. or_from (sym e j) (length xs) (sym f j))))
  sign_second (Err x) n m l e f s g h = tt

  pub sign_none : None ≡ position (same_sign a) xs → None ≡ position (same_sign a) ys → 0 ≡ sign_number (xs ++ ys) a
  sign_none e f = sym (ap (λ (o : Option ℕ). unwrap_or o 0) (position-append (same_sign a) xs ys ∙ (λ j. or_from (sym e j) (length xs) (sym f j))))
