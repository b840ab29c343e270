-- Names and constants by their numbers.
use Rattle.std.proofs.Common.{◌≡◌, ℕ, zero, suc, ◌+◌, ◌-◌, ◌<◌, ◌≤◌, List, [], ◌∷◌, ◌++◌, map, length, get_or, Option, None, Some, slice_get, refl, sym, ◌∙◌, ap, arith}
use Rattle.std.specs.Option.{option_map}
use Rattle.std.specs.Borrow.{Bor}
use Rattle.std.proofs.lemmas.List.{get_or_past, get_or_append_left, get_or-append-add, length-map, map-append}
use Rattle.std.proofs.lemmas.Option.{get_or_from_slice_get, slice_get-map}
use Rattle.cb_model.specs.Text.{Text}
use Rattle.cb_model.specs.Directives.{Sign}

abbrev names_of : List Sign → List Text
names_of xs = map (λ n. n.0) xs

at : (xs : List Sign) (n : ℕ) (x : Text) → option_map (λ (a : Sign). a.0) (slice_get xs n) ≡ Some x → get_or (names_of xs) n [] ≡ x
at xs n x e = get_or_from_slice_get (names_of xs) n x [] (slice_get-map (λ (a : Sign). a.0) xs n ∙ e)

-- one of the first names
pub first-name : (xs ys : List Sign) (n : ℕ) (x : Text) → n < length xs → option_map (λ (a : Sign). a.0) (slice_get xs n) ≡ Some x → x ≡ get_or (names_of (xs ++ ys)) n []
first-name xs ys n x lt e =
    let within : n < length (names_of xs) = omega (arith, lt, length-map xs (λ (a : Sign). a.0)) in
    sym (ap (λ (l : List Text). get_or l n []) (map-append (λ (a : Sign). a.0) xs ys) ∙ get_or_append_left (names_of xs) (names_of ys) [] n within ∙ at xs n x e)

behind : (xs ys : List Sign) (n : ℕ) → length xs ≤ n → get_or (names_of (xs ++ ys)) n [] ≡ get_or (names_of ys) (n - length xs) []
behind xs ys n le =
    let e : n ≡ length (names_of xs) + (n - length xs) = omega (arith, le, length-map xs (λ (a : Sign). a.0)) in
    ap (λ (l : List Text). get_or l n []) (map-append (λ (a : Sign). a.0) xs ys) ∙ ap (λ k. get_or (names_of xs ++ names_of ys) k []) e
    ∙ get_or-append-add (names_of xs) (names_of ys) (n - length xs) []

-- one of the names behind them
pub own-name : (xs ys : List Sign) (n before : ℕ) (o : Option (Bor Text)) (x : Bor Text) → o ≡ Some x → before ≡ length xs → length xs ≤ n →
    ((k : ℕ) → n ≡ before + k → option_map (λ (b : Bor Text). b.now) o ≡ option_map (λ (a : Sign). a.0) (slice_get ys k)) → x.now ≡ get_or (names_of (xs ++ ys)) n []
own-name xs ys n before o x is e le own =
    sym (behind xs ys n le ∙ at ys (n - length xs) x.now (sym (own (n - length xs) (omega (arith, e, le))) ∙ ap (option_map (λ (b : Bor Text). b.now)) is))

none-at : (ys : List Sign) (k : ℕ) → None ≡ option_map (λ (a : Sign). a.0) (slice_get ys k) → get_or (names_of ys) k [] ≡ []
none-at [] k e = refl
none-at (y ∷ ys) zero e = absurd (cc)
none-at (y ∷ ys) (suc k) e = none-at ys k e

-- past the last name
pub no-name : (xs ys : List Sign) (n before : ℕ) (o : Option (Bor Text)) → o ≡ None → before ≡ length xs → length xs ≤ n →
    ((k : ℕ) → n ≡ before + k → option_map (λ (b : Bor Text). b.now) o ≡ option_map (λ (a : Sign). a.0) (slice_get ys k)) → [] ≡ get_or (names_of (xs ++ ys)) n []
no-name xs ys n before o is e le own =
    sym (behind xs ys n le ∙ none-at ys (n - length xs) (sym (ap (option_map (λ (b : Bor Text). b.now)) is) ∙ own (n - length xs) (omega (arith, e, le))))

-- a constant
pub constant-at : (cs : List Text) (k : ℕ) (x : Text) → slice_get cs k ≡ Some x → x ≡ get_or cs k []
constant-at cs k x e = sym (get_or_from_slice_get cs k x [] e)

-- past the last constant
pub no-constant : (cs : List Text) (k count : ℕ) → count ≡ length cs → count ≤ k → [] ≡ get_or cs k []
no-constant cs k count e le = sym (get_or_past cs k [] (omega (arith, e, le)))
