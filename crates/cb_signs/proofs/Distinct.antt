-- Names without repeats stay so when names are added.
use Rattle.std.specs.Prelude.{AllPairs}
use Rattle.std.specs.Bool.{if◌then◌else◌}
use Rattle.std.proofs.Common.{◌≡◌, ℕ, ◌<◌, Bool, true, false, ◌&&◌, List, [], ◌∷◌, ◌++◌, length, get_or, bytes_eq, nat_eq, refl, sym, ◌∙◌, arith}
use Rattle.std.proofs.lemmas.Bool.{and_parts, false≢true}
use Rattle.std.proofs.lemmas.Bool.Decides.{nat_tests}
use Rattle.std.proofs.lemmas.List.Folds.{list_any_at}
use Rattle.std.proofs.lemmas.List.Quantifiers.{all_pairs_push}
use Rattle.std.proofs.lemmas.Slice.Eq.{bytes_eq-Decides}
use Rattle.cb_model.specs.Directives.{Sign, same_sign, has_sign}
use Rattle.cb_names.specs.Keys.{add_sign}
use Rattle.cb_signs.specs.Wanted.{add_signs}

-- the same number, the other way round
number_turned : (m n : ℕ) → nat_eq m n ≡ true → nat_eq n m ≡ true
number_turned m n h = grind (arith, nat_tests)

same_turned : (a b : Sign) → same_sign a b ≡ true → same_sign b a ≡ true
same_turned a b h =
    let parts = and_parts (bytes_eq a.0 b.0) (nat_eq a.1 b.1) h in
    let x : bytes_eq b.0 a.0 ≡ true = (bytes_eq-Decides b.0 a.0).1 (sym ((bytes_eq-Decides a.0 b.0).0 parts.0)) in
    let y : nat_eq b.1 a.1 ≡ true = number_turned a.1 b.1 parts.1 in λ j. x j && y j

-- a name that is not there is none of those that are
new_name : (xs : List Sign) (a : Sign) → has_sign xs a ≡ false → (k : ℕ) (d : Sign) → k < length xs → same_sign (get_or xs k d) a ≡ false
new_name xs a h k d low = step (same_sign (get_or xs k d) a) refl
  where
    step : (b : Bool) → same_sign (get_or xs k d) a ≡ b → b ≡ false
    step false e = refl
    step true e = absurd (false≢true (sym h ∙ list_any_at (same_sign a) xs k d low (same_turned (get_or xs k d) a e)))

abbrev pub Distinct : List Sign → Type 0
Distinct xs = AllPairs (λ a b. same_sign a b ≡ false) xs

distinct_one : (xs : List Sign) (a : Sign) → Distinct xs → Distinct (add_sign xs a)
distinct_one xs a p = step (has_sign xs a) refl
  where
    step : (b : Bool) → has_sign xs a ≡ b → Distinct (if b then xs else (xs ++ a ∷ []))
    step true e = p
    step false e = all_pairs_push (λ a b. same_sign a b ≡ false) xs a p (new_name xs a e)

pub distinct_added : (xs as' : List Sign) → Distinct xs → Distinct (add_signs xs as')
distinct_added xs [] p = p
distinct_added xs (a ∷ as') p = distinct_added (add_sign xs a) as' (distinct_one xs a p)
