-- Names that are put at the end of others, each where it isn't there yet.
use Rattle.std.proofs.Common.{◌≡◌, ℕ, suc, ◌+◌, ◌<◌, ◌≤◌, Bool, true, false, not, ◌&&◌, ◌||◌, List, [], ◌∷◌, ◌++◌, length, take, Option, Some, None, bytes_eq, refl, sym, ◌∙◌, ap, subst, arith, append_assoc, append-nil, length-append}
use Rattle.std.specs.Bool.{if◌then◌else◌}
use Rattle.std.specs.List.{list_any, list_all}
use Rattle.std.proofs.lemmas.Bool.{true≢false}
use Rattle.std.proofs.Math.Seq.{take-length}
use Rattle.std.proofs.lemmas.Slice.Eq.{bytes_eq-Decides}
use Rattle.cb_model.specs.Text.{Text, all_different}
use Rattle.cb_model.specs.Loading.{add_name}
use Rattle.cb_facts.specs.Reads.{add_names}

-- each of these is new behind the others
fresh : List Text → List Text → Bool
fresh ns [] = true
fresh ns (x ∷ xs) = not (list_any (bytes_eq x) ns) && fresh (ns ++ x ∷ []) xs

-- none of these is among the others
outside : List Text → List Text → Bool
outside ns xs = list_all (λ y. not (list_any (bytes_eq y) ns)) xs

pub eq-turned : (x y : Text) → bytes_eq x y ≡ bytes_eq y x
eq-turned x y = step (bytes_eq x y) (bytes_eq y x) refl refl
  where
    step : (a b : Bool) → bytes_eq x y ≡ a → bytes_eq y x ≡ b → a ≡ b
    step true true p q = refl
    step false false p q = refl
    step true false p q = absurd (true≢false (sym ((bytes_eq-Decides y x).1 (sym ((bytes_eq-Decides x y).0 p))) ∙ q))
    step false true p q = absurd (true≢false (sym ((bytes_eq-Decides x y).1 (sym ((bytes_eq-Decides y x).0 q))) ∙ p))

any-push : (y : Text) (ns : List Text) (x : Text) → list_any (bytes_eq y) (ns ++ x ∷ []) ≡ (list_any (bytes_eq y) ns || bytes_eq y x)
any-push y [] x = step (bytes_eq y x)
  where
    step : (b : Bool) → (b || false) ≡ b
    step true = refl
    step false = refl
any-push y (n ∷ ns) x = step (bytes_eq y n) (list_any (bytes_eq y) ns) (any-push y ns x)
  where
    step : (a b : Bool) → list_any (bytes_eq y) (ns ++ x ∷ []) ≡ (b || bytes_eq y x) → (a || list_any (bytes_eq y) (ns ++ x ∷ [])) ≡ ((a || b) || bytes_eq y x)
    step true b e = refl
    step false b e = e

outside-push : (ns : List Text) (x : Text) (xs : List Text) → outside (ns ++ x ∷ []) xs ≡ (outside ns xs && not (list_any (bytes_eq x) xs))
unfolding outside
outside-push ns x [] = refl
outside-push ns x (y ∷ ys) =
    ap (λ b. not b && outside (ns ++ x ∷ []) ys) (any-push y ns x ∙ ap (λ b. list_any (bytes_eq y) ns || b) (eq-turned y x))
    ∙ ap (λ b. not (list_any (bytes_eq y) ns || bytes_eq x y) && b) (outside-push ns x ys)
    ∙ step (list_any (bytes_eq y) ns) (bytes_eq x y) (outside ns ys) (list_any (bytes_eq x) ys)
  where
    step : (a b c d : Bool) → (not (a || b) && (c && not d)) ≡ ((not a && c) && not (b || d))
    step true b c d = refl
    step false true true d = refl
    step false true false d = refl
    step false false c d = refl

fresh-is : (ns xs : List Text) → fresh ns xs ≡ (outside ns xs && all_different xs)
unfolding fresh outside
fresh-is ns [] = refl
fresh-is ns (x ∷ xs) =
    ap (λ b. not (list_any (bytes_eq x) ns) && b) (fresh-is (ns ++ x ∷ []) xs ∙ ap (λ b. b && all_different xs) (outside-push ns x xs))
    ∙ step (not (list_any (bytes_eq x) ns)) (outside ns xs) (not (list_any (bytes_eq x) xs)) (all_different xs)
  where
    step : (a b c d : Bool) → (a && ((b && c) && d)) ≡ ((a && b) && (c && d))
    step false b c d = refl
    step true false c d = refl
    step true true c d = refl

outside-none : (xs : List Text) → outside [] xs ≡ true
unfolding outside
outside-none [] = refl
outside-none (x ∷ xs) = outside-none xs

fresh-different : (xs : List Text) → fresh [] xs ≡ all_different xs
fresh-different xs = fresh-is [] xs ∙ ap (λ b. b && all_different xs) (outside-none xs)

add-fresh : (ns xs : List Text) → fresh ns xs ≡ true → add_names ns xs ≡ ns ++ xs
unfolding fresh
add-fresh ns [] f = sym (append-nil ns)
add-fresh ns (x ∷ xs) f = step (add-fresh (ns ++ x ∷ []) xs) (list_any (bytes_eq x) ns) f
  where
    step : (fresh (ns ++ x ∷ []) xs ≡ true → add_names (ns ++ x ∷ []) xs ≡ (ns ++ x ∷ []) ++ xs) → (b : Bool) → (not b && fresh (ns ++ x ∷ []) xs) ≡ true → add_names (if b then ns else ns ++ x ∷ []) xs ≡ ns ++ x ∷ xs
    step h true f = absurd (true≢false (sym f))
    step h false f = h f ∙ append_assoc ns (x ∷ []) xs

add-few : (ns xs : List Text) → length (add_names ns xs) ≤ length ns + length xs
add-few ns [] = omega arith
add-few ns (x ∷ xs) = step (add-few ns xs) (add-few (ns ++ x ∷ []) xs) (list_any (bytes_eq x) ns)
  where
    step : length (add_names ns xs) ≤ length ns + length xs → length (add_names (ns ++ x ∷ []) xs) ≤ length (ns ++ x ∷ []) + length xs → (b : Bool) → length (add_names (if b then ns else ns ++ x ∷ []) xs) ≤ length ns + suc (length xs)
    step h g true = omega (arith, h)
    step h g false = omega (arith, g, length-append ns (x ∷ []))

add-short : (ns xs : List Text) → fresh ns xs ≡ false → length (add_names ns xs) < length ns + length xs
unfolding fresh
add-short ns [] f = absurd (true≢false f)
add-short ns (x ∷ xs) f = step (add-few ns xs) (add-short (ns ++ x ∷ []) xs) (list_any (bytes_eq x) ns) f
  where
    step : length (add_names ns xs) ≤ length ns + length xs → (fresh (ns ++ x ∷ []) xs ≡ false → length (add_names (ns ++ x ∷ []) xs) < length (ns ++ x ∷ []) + length xs) → (b : Bool) → (not b && fresh (ns ++ x ∷ []) xs) ≡ false
        → length (add_names (if b then ns else ns ++ x ∷ []) xs) < length ns + suc (length xs)
    step h g true f = omega (arith, h)
    step h g false f = let k = g f in omega (arith, k, length-append ns (x ∷ []))

-- names that are all put at the end are different, and those that aren't are not
pub all-put : (xs : List Text) → length (add_names [] xs) ≡ length xs → (all_different xs ≡ true) × (add_names [] xs ≡ xs)
all-put xs e = step (fresh [] xs) refl
  where
    step : (b : Bool) → fresh [] xs ≡ b → (all_different xs ≡ true) × (add_names [] xs ≡ xs)
    step true f = (sym (fresh-different xs) ∙ f, add-fresh [] xs f)
    step false f = absurd (let h = add-short [] xs f in omega (arith, h, e))

pub not-all-put : (xs : List Text) → (length (add_names [] xs) ≡ length xs → ⊥) → all_different xs ≡ false
not-all-put xs e = step (fresh [] xs) refl
  where
    step : (b : Bool) → fresh [] xs ≡ b → all_different xs ≡ false
    step true f = absurd (e (ap length (add-fresh [] xs f)))
    step false f = sym (fresh-different xs) ∙ f
