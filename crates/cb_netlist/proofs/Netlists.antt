-- Netlists of flattened modules, one more at a time.
use Rattle.std.proofs.Common.{◌≡◌, ℕ, zero, suc, ◌<◌, List, [], ◌∷◌, ◌++◌, length, take, get_or, refl, sym, subst, ◌∙◌, inl, inr, arith, length-append}
use Rattle.std.proofs.lemmas.Bool.{cases_lt}
use Rattle.std.proofs.lemmas.List.{take-append-le, take_all}
use Rattle.cb_model.specs.Circuits.{Flat, no_flat}
use Rattle.cb_netlist.specs.Wiring.{Wiring, no_wiring}
use Rattle.cb_netlist.specs.Netlists.{flat_at, IsNetlist, AreNetlists}

pub are-none : AreNetlists [] []
are-none = record { as_many = refl; each = λ k l. absurd (omega (arith, l)) }

get-before : {A : Type 0} (xs : List A) (y d : A) (k : ℕ) → k < length xs → get_or (xs ++ y ∷ []) k d ≡ get_or xs k d
get-before [] y d k l = absurd (omega (arith, l))
get-before (x ∷ xs) y d zero l = refl
get-before (x ∷ xs) y d (suc k) l = get-before xs y d k (omega (arith, l))

get-last : {A : Type 0} (xs : List A) (y d : A) → get_or (xs ++ y ∷ []) (length xs) d ≡ y
get-last [] y d = refl
get-last (x ∷ xs) y d = get-last xs y d

-- the netlists stay those of their modules where one more comes behind them
pub are-pushed : (flats : List Flat) (ns : List Wiring) (f : Flat) (n : Wiring) → AreNetlists flats ns → IsNetlist flats f n → AreNetlists (flats ++ f ∷ []) (ns ++ n ∷ [])
are-pushed flats ns f n are new = record {
  as_many = omega (arith, length-append flats (f ∷ []), length-append ns (n ∷ []), are.as_many);
  each = λ k l. elim (cases_lt k (length ns)) [
    | inl lt ↦
        subst (λ e. IsNetlist e (flat_at (flats ++ f ∷ []) k) (get_or (ns ++ n ∷ []) k no_wiring)) (sym (take-append-le k flats (f ∷ []) (omega (arith, lt, are.as_many))))
        (subst (λ g. IsNetlist (take k flats) g (get_or (ns ++ n ∷ []) k no_wiring)) (sym (get-before flats f no_flat k (omega (arith, lt, are.as_many))))
        (subst (IsNetlist (take k flats) (flat_at flats k)) (sym (get-before ns n no_wiring k lt)) (are.each k lt)))
    | inr ge ↦
        let here : length ns ≡ k = omega (arith, l, ge, length-append ns (n ∷ [])) in
        subst (λ i. IsNetlist (take i (flats ++ f ∷ [])) (flat_at (flats ++ f ∷ []) i) (get_or (ns ++ n ∷ []) i no_wiring)) here
        (subst (λ i. IsNetlist (take i (flats ++ f ∷ [])) (flat_at (flats ++ f ∷ []) i) (get_or (ns ++ n ∷ []) (length ns) no_wiring)) (sym are.as_many)
        (subst (λ e. IsNetlist e (flat_at (flats ++ f ∷ []) (length flats)) (get_or (ns ++ n ∷ []) (length ns) no_wiring)) (sym (take-append-le (length flats) flats (f ∷ []) (omega arith) ∙ take_all (length flats) flats (omega arith)))
        (subst (λ g. IsNetlist flats g (get_or (ns ++ n ∷ []) (length ns) no_wiring)) (sym (get-last flats f no_flat))
        (subst (IsNetlist flats f) (sym (get-last ns n no_wiring)) new))))
  ];
}
