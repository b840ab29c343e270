-- The number that digits write, digit by digit.
use Rattle.std.specs.Prelude.{MatchOption}
use Rattle.std.specs.Option.{SomeIff}
use Rattle.std.proofs.lemmas.List.{take_more}
use Rattle.std.proofs.Common.{◌≡◌, ℕ, ◌+◌, ◌-◌, ◌*◌, ◌^◌, ◌<◌, ◌≤◌, [], ◌∷◌, ◌++◌, length, get_or, take, Option, Some, None, refl, ◌∙◌, ap, arith}
use Rattle.cb_model.specs.Text.{Text}
use Rattle.cb_model.specs.Tokens.{digits_value}
use Rattle.cb_lex.specs.Digits.{Writes}

one_more : (m : ℕ) (xs : Text) (x : ℕ) → digits_value m (xs ++ x ∷ []) ≡ 10 * digits_value m xs + (x - 48)
one_more m [] x = refl
one_more m (y ∷ ys) x = one_more (10 * m + (y - 48)) ys x

more : (s : Text) (n : ℕ) → n < length s → digits_value 0 (take (n + 1) s) ≡ 10 * digits_value 0 (take n s) + (get_or s n 0 - 48)
more s n lt = ap (digits_value 0) (take_more s n 0 lt) ∙ one_more 0 (take n s) (get_or s n 0)

pub writes_more : (s : Text) (n : ℕ) (value result : Option ℕ) → n < length s → Writes (take n s) value →
    MatchOption value (result ≡ None) (λ v. SomeIff result (10 * v + (get_or s n 0 - 48) < 2 ^ 64) (10 * v + (get_or s n 0 - 48))) → Writes (take (n + 1) s) result
writes_more s n None None lt w e = let g = more s n lt in omega arith
writes_more s n None (Some r) lt w e = absurd (cc)
writes_more s n (Some v) None lt w e = let g = more s n lt in let h : 2 ^ 64 ≤ 10 * v + (get_or s n 0 - 48) = omega (arith, e) in omega arith
writes_more s n (Some v) (Some r) lt w e = let g = more s n lt in omega arith
