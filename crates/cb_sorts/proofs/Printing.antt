-- The printed variables, one after another.
use Rattle.std.proofs.Common.{◌≡◌, ℕ, suc, ◌+◌, Bool, true, false, List, [], ◌∷◌, ◌++◌, map, take, drop, Some, Result, Ok, Err, Bor, slice_get, refl, sym, ◌∙◌, ap, arith, drop-cons}
use Rattle.std.specs.Bool.{if◌then◌else◌}
use Rattle.std.specs.Prelude.{OnOk}
use Rattle.std.proofs.lemmas.List.{append-nil, append_assoc, map-append, drop-drop}
use Rattle.std.proofs.lemmas.Option.{slice_get_within, get_or_from_slice_get}
use Rattle.cb_model.specs.Text.{Text}
use Rattle.cb_model.specs.Output.{starts_low, printed_from}
use Rattle.cb_sorts.specs.Asked.{numbered_name}

-- the first variable, and then the others
pub printed_then : (n : ℕ) (xs : List Text) → printed_from n xs ≡ printed_from n (take 1 xs) ++ printed_from (suc n) (drop 1 xs)
printed_then n [] = refl
printed_then n (x ∷ xs) = step (starts_low x)
  where
    step : (b : Bool) → (if b then printed_from (suc n) xs else ((n, x) ∷ printed_from (suc n) xs)) ≡ (if b then [] else ((n, x) ∷ [])) ++ printed_from (suc n) xs
    step true = refl
    step false = refl

pub printed_more : (n : ℕ) (xs : List Text) (before after whole : List (ℕ × Text)) → after ≡ before ++ printed_from n (take 1 (drop n xs)) → before ++ printed_from n (drop n xs) ≡ whole →
    after ++ printed_from (n + 1) (drop (n + 1) xs) ≡ whole
printed_more n xs before after whole e h =
    ap (λ (l : List (ℕ × Text)). l ++ printed_from (n + 1) (drop (n + 1) xs)) e
    ∙ append_assoc before (printed_from n (take 1 (drop n xs))) (printed_from (n + 1) (drop (n + 1) xs))
    ∙ ap (λ (l : List (ℕ × Text)). before ++ l) (sym (printed_then n (drop n xs) ∙ ap (λ (l : List (ℕ × Text)). printed_from n (take 1 (drop n xs)) ++ l) behind)) ∙ h
  where
    behind : printed_from (suc n) (drop 1 (drop n xs)) ≡ printed_from (n + 1) (drop (n + 1) xs)
    behind =
        let on : suc n ≡ n + 1 = omega arith in
        ap (λ k. printed_from k (drop 1 (drop n xs))) on ∙ ap (printed_from (n + 1)) (drop-drop 1 n xs)

-- ---- one variable

module _ (n : ℕ) (xs : List Text) (x : Text) (is : slice_get xs n ≡ Some x) where
  one_at : take 1 (drop n xs) ≡ x ∷ []
  one_at = ap (take 1) (drop-cons xs n x (slice_get_within xs n x is) ∙ ap (λ y. y ∷ drop (suc n) xs) (get_or_from_slice_get xs n x x is))

  pub prints_none : starts_low x ≡ true → (ys : List (ℕ × Text)) → ys ≡ ys ++ printed_from n (take 1 (drop n xs))
  prints_none low ys =
      sym (append-nil ys)
      ∙ ap (λ (l : List (ℕ × Text)). ys ++ l) (sym (ap (printed_from n) one_at ∙ ap (λ (b : Bool). if b then [] else ((n, x) ∷ [])) low))

  pub prints_one : starts_low x ≡ false → printed_from n (take 1 (drop n xs)) ≡ (n, x) ∷ []
  prints_one high = ap (printed_from n) one_at ∙ ap (λ (b : Bool). if b then [] else ((n, x) ∷ [])) high

  pub pushes_one : {E : Type 0} (r : Result Unit E) (m : ℕ) (name : Bor Text) (all new : List (ℕ × Bor Text)) → m ≡ n → name.now ≡ x → starts_low x ≡ false →
      OnOk r (new ≡ all ++ (m, name) ∷ []) → OnOk r (map numbered_name new ≡ map numbered_name all ++ printed_from n (take 1 (drop n xs)))
  pushes_one (Err e) m name all new a b high h = tt
  pushes_one (Ok u) m name all new a b high h =
      ap (map numbered_name) h
      ∙ map-append numbered_name all ((m, name) ∷ [])
      ∙ ap (λ (v : ℕ × Text). map numbered_name all ++ v ∷ []) (ap (λ k. (k, name.now)) a ∙ ap (λ (t : Text). (n, t)) b)
      ∙ ap (λ (l : List (ℕ × Text)). map numbered_name all ++ l) (sym (prints_one high))
