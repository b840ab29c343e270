-- Decimal numbers up to a limit.
use Rattle.std.proofs.Common.{◌≡◌, ℕ, suc, ◌+◌, ◌-◌, ◌*◌, ◌<◌, ◌≤◌, ◌≢◌, Bool, true, false, not, ◌&&◌, nat_le, if◌then◌else◌, [], ◌∷◌, length, drop, get_or, Option, Some, None, option_and_then, refl, sym, ap, ◌∙◌, arith, ◌⊎◌, inl, inr}
use Rattle.std.specs.List.{list_all}
use Rattle.std.proofs.lemmas.Bool.{cases_Bool, and_parts}
use Rattle.std.proofs.Math.Seq.{drop-cons}
use Rattle.std.proofs.lemmas.List.{drop_all}
use Rattle.std.proofs.lemmas.Grind.{common_steps}
use Rattle.cb_model.specs.Text.{Text, is_digit}
use Rattle.cb_model.specs.Tokens.{digits_value}
use Rattle.cb_model.specs.Commands.{number_upto, leads_zero}
use Rattle.cb_lines.specs.Words.{digit_upto, digits_upto}

-- digits only make a number greater
pub digits_value-grows : (v : ℕ) (xs : Text) → v ≤ digits_value v xs
digits_value-grows v [] = omega arith
digits_value-grows v (x ∷ xs) = omega (arith, digits_value-grows (10 * v + (x - 48)) xs)

-- the number of digits, where it is within the limit
abbrev pub whole : ℕ → ℕ → Text → Option ℕ
whole limit v xs = if list_all is_digit xs && nat_le (digits_value v xs) limit then Some (digits_value v xs) else None

le-yes : (m n : ℕ) → m ≤ n → nat_le m n ≡ true
le-yes m n h = grind arith

le-no : (m n : ℕ) → n < m → nat_le m n ≡ false
le-no m n h = grind arith

pub digits_upto-whole : (limit v : ℕ) (xs : Text) → v ≤ limit → digits_upto limit v xs ≡ whole limit v xs
digits_upto-whole limit v [] h = sym (ap (λ b. if b then Some v else None) (le-yes v limit h))
digits_upto-whole limit v (x ∷ xs) h =
    let more = 10 * v + (x - 48) in
    elim (cases_Bool (is_digit x)) [
      | inl is_one ↦ elim (cases_Bool (nat_le more limit)) [
        | inl fits ↦
            let e : digit_upto limit v x ≡ Some more = ap (λ b. if b then (if nat_le more limit then Some more else None) else None) is_one ∙ ap (λ b. if b then Some more else None) fits in
            let within : more ≤ limit = grind (arith, fits) in
            ap (option_and_then (λ m. digits_upto limit m xs)) e ∙ digits_upto-whole limit more xs within
            ∙ sym (ap (λ b. if (b && list_all is_digit xs) && nat_le (digits_value more xs) limit then Some (digits_value more xs) else None) is_one)
        | inr past ↦
            let e : digit_upto limit v x ≡ None = ap (λ b. if b then (if nat_le more limit then Some more else None) else None) is_one ∙ ap (λ b. if b then Some more else None) past in
            let beyond : limit < more = grind (arith, past) in
            let far : nat_le (digits_value more xs) limit ≡ false = le-no (digits_value more xs) limit (omega (arith, digits_value-grows more xs)) in
            ap (option_and_then (λ m. digits_upto limit m xs)) e ∙ sym (none-past (is_digit x && list_all is_digit xs) (nat_le (digits_value more xs) limit) (digits_value more xs) far)
      ]
      | inr no_digit ↦
          let e : digit_upto limit v x ≡ None = ap (λ b. if b then (if nat_le more limit then Some more else None) else None) no_digit in
          ap (option_and_then (λ m. digits_upto limit m xs)) e ∙ sym (ap (λ b. if (b && list_all is_digit xs) && nat_le (digits_value more xs) limit then Some (digits_value more xs) else None) no_digit)
    ]
  where
    none-past : (a b : Bool) (n : ℕ) → b ≡ false → (if a && b then Some n else None) ≡ None
    none-past true b n e = ap (λ c. if c then Some n else None) e
    none-past false b n e = refl

pick : (all zeros one fits : Bool) (n : ℕ) → zeros ≡ false → (all ≡ true → one ≡ true) →
    (if all && not zeros && one && fits then Some n else None) ≡ (if all && fits then Some n else None)
pick true zeros one fits n z o = ap (λ b. if (true && not b) && one && fits then Some n else None) z ∙ ap (λ b. if b && fits then Some n else None) (o refl)
pick false zeros one fits n z o = refl

no_zero : (x : ℕ) (xs : Text) → x ≢ 48 → leads_zero (x ∷ xs) ≡ false
no_zero x [] h = refl
no_zero x (y ∷ ys) h = grind (arith, common_steps)

at_least_one : (x : ℕ) (xs : Text) → x ≢ 48 → list_all is_digit (x ∷ xs) ≡ true → nat_le 1 (digits_value 0 (x ∷ xs)) ≡ true
at_least_one x xs h all =
    let p = and_parts (is_digit x) (list_all is_digit xs) all in
    let q = and_parts (nat_le 48 x) (nat_le x 57) p.0 in
    let low : 48 ≤ x = grind (arith, q.0) in
    le-yes 1 (digits_value 0 (x ∷ xs)) (omega (arith, digits_value-grows (10 * 0 + (x - 48)) xs))

-- a number is read digit by digit, unless it begins with 0
pub number_upto-digits : (limit : ℕ) (w : Text) → 0 < length w → get_or w 0 0 ≢ 48 → number_upto limit w ≡ digits_upto limit 0 w
number_upto-digits limit [] l h = absurd (omega arith)
number_upto-digits limit (x ∷ xs) l h =
    pick (list_all is_digit (x ∷ xs)) (leads_zero (x ∷ xs)) (nat_le 1 (digits_value 0 (x ∷ xs))) (nat_le (digits_value 0 (x ∷ xs)) limit) (digits_value 0 (x ∷ xs))
    (no_zero x xs h) (at_least_one x xs h)
    ∙ sym (digits_upto-whole limit 0 (x ∷ xs) (omega arith))

none_zero : (all one fits : Bool) (n : ℕ) → (if all && false && one && fits then Some n else None) ≡ None
none_zero true one fits n = refl
none_zero false one fits n = refl

zero_first : (x : ℕ) (xs : Text) (limit : ℕ) → x ≡ 48 → number_upto limit (x ∷ xs) ≡ None
zero_first x xs limit e = ap (λ y. number_upto limit (y ∷ xs)) e ∙ zero_is limit xs
  where
    zero_is : (limit : ℕ) (xs : Text) → number_upto limit (48 ∷ xs) ≡ None
    zero_is limit [] = refl
    zero_is limit (y ∷ ys) = none_zero (list_all is_digit (48 ∷ y ∷ ys)) (nat_le 1 (digits_value 0 (48 ∷ y ∷ ys))) (nat_le (digits_value 0 (48 ∷ y ∷ ys)) limit) (digits_value 0 (48 ∷ y ∷ ys))

-- a number that begins with 0 is none
pub number_upto-zero : (limit : ℕ) (w : Text) → (length w ≡ 0) ⊎ (get_or w 0 0 ≡ 48) → number_upto limit w ≡ None
number_upto-zero limit [] h = refl
number_upto-zero limit (x ∷ xs) (inl e) = absurd (omega arith)
number_upto-zero limit (x ∷ xs) (inr e) = zero_first x xs limit e

-- the digit that ends the reading
pub digits_upto-stop : (limit v i : ℕ) (w : Text) → i < length w → digit_upto limit v (get_or w i 0) ≡ None → digits_upto limit v (drop i w) ≡ None
digits_upto-stop limit v i w h e = ap (digits_upto limit v) (drop-cons w i 0 h) ∙ ap (option_and_then (λ m. digits_upto limit m (drop (suc i) w))) e

pub digits_upto-end : (limit v i : ℕ) (w : Text) → length w ≤ i → digits_upto limit v (drop i w) ≡ Some v
digits_upto-end limit v i w h = ap (digits_upto limit v) (drop_all i w h)
