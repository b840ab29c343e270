-- Lists that stand in one, one behind another.
use Rattle.std.proofs.Common.{◌≡◌, ℕ, zero, suc, ◌+◌, ◌-◌, ◌<◌, ◌≤◌, List, [], ◌∷◌, ◌++◌, length, take, drop, get_or, slice_index_or, flat_map, refl, sym, ap, ◌∙◌, arith, length-drop}
use Rattle.std.proofs.lemmas.List.Concat.{flat_map-cons}
use Rattle.std.proofs.lemmas.List.{take-append-drop, take-append-le, drop-append-le, take_all, drop_all}
use Rattle.cb_lists.specs.Slices.{slices, Rises, start_of}

pub slices-long : (ns : List ℕ) (from : ℕ) (es : List ℕ) → length (slices ns from es) ≡ length es
slices-long ns from [] = refl
slices-long ns from (e ∷ es) = ap suc (slices-long ns e es)

pub start-suc : (from : ℕ) (es : List ℕ) (k : ℕ) → suc k < length es → start_of from es (suc k) ≡ get_or es k 0
start-suc from [] k l = omega arith
start-suc from (e ∷ []) k l = omega arith
start-suc from (e ∷ d ∷ es) zero l = refl
start-suc from (e ∷ d ∷ es) (suc k) l = start-suc e (d ∷ es) k (omega (arith, l))

pub ends-high : (from : ℕ) (es : List ℕ) (last k : ℕ) → Rises from es last → k < length es → get_or es k 0 ≤ last
ends-high from [] last k r l = absurd (omega (arith, l))
ends-high from (e ∷ es) last zero r l = low e es last r.1
  where
    low : (from : ℕ) (es : List ℕ) (last : ℕ) → Rises from es last → from ≤ last
    low from [] last r = omega (arith, r)
    low from (e ∷ es) last r = let h = low e es last r.1 in omega (arith, h, r.0)
ends-high from (e ∷ es) last (suc k) r l = ends-high e es last k r.1 (omega (arith, l))

pub start-low : (from : ℕ) (es : List ℕ) (last k : ℕ) → Rises from es last → k < length es → start_of from es k ≤ get_or es k 0
start-low from [] last k r l = absurd (omega (arith, l))
start-low from (e ∷ es) last zero r l = r.0
start-low from (e ∷ es) last (suc k) r l = start-low e es last k r.1 (omega (arith, l))

pub slices-at : (ns : List ℕ) (from : ℕ) (es : List ℕ) (k : ℕ) → k < length es → slice_index_or (slices ns from es) k [] ≡ take (get_or es k 0 - start_of from es k) (drop (start_of from es k) ns)
slices-at ns from [] k l = absurd (omega (arith, l))
slices-at ns from (e ∷ es) zero l = refl
slices-at ns from (e ∷ es) (suc k) l = slices-at ns e es k (omega (arith, l))

-- one list more
pub rises-push : (from : ℕ) (es : List ℕ) (last more : ℕ) → Rises from es last → last ≤ more → Rises from (es ++ more ∷ []) more
rises-push from [] last more r l = (omega (arith, r, l), refl)
rises-push from (e ∷ es) last more r l = (r.0, rises-push e es last more r.1 l)

high : (from : ℕ) (es : List ℕ) (last : ℕ) → Rises from es last → from ≤ last
high from [] last r = omega (arith, r)
high from (e ∷ es) last r = let h = high e es last r.1 in omega (arith, h, r.0)

pub slices-push : (ns xs : List ℕ) (from : ℕ) (es : List ℕ) (last more : ℕ) → Rises from es last → last ≡ length ns → more ≡ length ns + length xs → slices (ns ++ xs) from (es ++ more ∷ []) ≡ slices ns from es ++ xs ∷ []
slices-push ns xs from [] last more r here there =
    let at : from ≡ length ns = omega (arith, r, here) in
    let cut : more - from ≡ length xs = omega (arith, at, there) in
    ap (λ ys. ys ∷ []) (ap (λ n. take n (drop from (ns ++ xs))) cut ∙ ap (take (length xs)) (drop-append-le from ns xs (omega (arith, at)) ∙ ap (λ ys. ys ++ xs) (drop_all from ns (omega (arith, at)))) ∙ take_all (length xs) xs (omega arith))
slices-push ns xs from (e ∷ es) last more r here there =
    let f = high e es last r.1 in
    let cut : drop from (ns ++ xs) ≡ drop from ns ++ xs = drop-append-le from ns xs (omega (arith, f, r.0, here)) in
    let front : take (e - from) (drop from ns ++ xs) ≡ take (e - from) (drop from ns) = take-append-le (e - from) (drop from ns) xs (omega (arith, f, r.0, here, length-drop from ns)) in
    ap (λ ys. ys ∷ slices (ns ++ xs) e (es ++ more ∷ [])) (ap (take (e - from)) cut ∙ front) ∙ ap (λ ys. take (e - from) (drop from ns) ∷ ys) (slices-push ns xs e es last more r.1 here there)

pub start-zero : (from : ℕ) (es : List ℕ) → from ≡ start_of from es 0
start-zero from [] = refl
start-zero from (e ∷ es) = refl

-- what is left after two cuts
drop-twice : (ns : List ℕ) (from n : ℕ) → drop n (drop from ns) ≡ drop (from + n) ns
drop-twice ns zero n = ap (λ k. drop k ns) (omega arith)
drop-twice [] (suc from) n = drop_all n [] (omega arith) ∙ sym (drop_all (suc from + n) [] (omega arith))
drop-twice (x ∷ ns) (suc from) n = drop-twice ns from n ∙ ap (λ k. drop k (x ∷ ns)) (let z : suc (from + n) ≡ suc from + n = omega arith in z)

-- all lists are what stands from the first place on
pub slices-flat : (ns : List ℕ) (from : ℕ) (es : List ℕ) (last : ℕ) → Rises from es last → last ≡ length ns → flat_map (λ (xs : List ℕ). xs) (slices ns from es) ≡ drop from ns
slices-flat ns from [] last r e = sym (drop_all from ns (omega (arith, r, e)))
slices-flat ns from (d ∷ es) last r e =
    let f = high d es last r.1 in
    flat_map-cons (λ (xs : List ℕ). xs) (take (d - from) (drop from ns)) (slices ns d es)
    ∙ ap (λ ys. take (d - from) (drop from ns) ++ ys) (slices-flat ns d es last r.1 e)
    ∙ ap (λ k. take (d - from) (drop from ns) ++ drop k ns) (let z : d ≡ from + (d - from) = omega (arith, r.0) in z)
    ∙ ap (λ ys. take (d - from) (drop from ns) ++ ys) (sym (drop-twice ns from (d - from)))
    ∙ take-append-drop (d - from) (drop from ns)
