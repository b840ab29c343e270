-- Open places by the numbers of their cells.
use Rattle.std.proofs.Common.{eq-eqb, ◌≡◌, ℕ, suc, ◌+◌, Bool, true, false, not, ◌||◌, ◌&&◌, cond, nat_eq, List, [], ◌∷◌, ◌++◌, Some, refl, sym, ap, subst, ◌∙◌, arith, append_assoc}
use Rattle.std.specs.Prelude.{slice_get}
use Rattle.std.specs.List.{list_any, position_or_len}
use Rattle.std.proofs.lemmas.List.{map-append}
use Rattle.std.proofs.lemmas.Bool.{eqb-true, true≢false}
use Rattle.indexmap.specs.IndexSet.{insert_key}
use Rattle.cb_model.specs.declared.Sort.TheVariants as sort
use Rattle.cb_laws.proofs.OpenTrees.{Place}
use Rattle.cb_heap.specs.declared.Stored.{Stored}
use Rattle.cb_heap.specs.declared.Stored.TheVariants as cell
use Rattle.cb_shape.specs.Shapes.{same_sort, same_place, place_from, has_place, firsts}
use Rattle.cb_shape.specs.Walk.{open_sort, place_in, seen}
use Rattle.cb_shape.proofs.Places.{place_same}

and-no : (b : Bool) → b && false ≡ false
and-no true = refl
and-no false = refl

-- the places of two cells are one exactly where the cells are
pub same-cell : (cs : List Stored) (y c : ℕ) → same_place (place_in cs y) (place_in cs c) ≡ nat_eq c y
same-cell cs y c = step (nat_eq c y) refl
  where
    other : (b : Bool) → nat_eq y c ≡ b → nat_eq c y ≡ false → nat_eq y c ≡ false
    other false e n = e
    other true e n = absurd (true≢false (sym (eq-eqb c y (sym (eqb-true y c e))) ∙ n))

    step : (b : Bool) → nat_eq c y ≡ b → same_place (place_in cs y) (place_in cs c) ≡ b
    step true e = let same : c ≡ y = eqb-true c y e in subst (λ x. same_place (place_in cs y) (place_in cs x) ≡ true) (sym same) (place_same (place_in cs y))
    step false e = ap (λ b. same_sort (place_in cs y).0 (place_in cs c).0 && b) (other (nat_eq y c) refl e) ∙ and-no (same_sort (place_in cs y).0 (place_in cs c).0)

-- whether a place has a number
pub place-seen : (cs : List Stored) (keys : List ℕ) (c : ℕ) → has_place (seen cs keys) (place_in cs c) ≡ list_any (nat_eq c) keys
unfolding has_place
place-seen cs [] c = refl
place-seen cs (y ∷ keys) c = ap (λ b. cond b true (has_place (seen cs keys) (place_in cs c))) (same-cell cs y c) ∙ rest (nat_eq c y) (place-seen cs keys c)
  where
    rest : (b : Bool) {x z : Bool} → x ≡ z → cond b true x ≡ (b || z)
    rest true e = refl
    rest false e = e

-- the number of a cell's place in a list that has it, and in one that goes on with it
pub place-old : (cs : List Stored) (k : ℕ) (keys : List ℕ) (c : ℕ) (more : List Place) → list_any (nat_eq c) keys ≡ true →
    place_from k (seen cs keys ++ more) (place_in cs c) ≡ k + position_or_len (nat_eq c) keys
unfolding place_from
place-old cs k [] c more h = absurd (true≢false (sym h))
place-old cs k (y ∷ keys) c more h =
    ap (λ b. cond b k (place_from (suc k) (seen cs keys ++ more) (place_in cs c))) (same-cell cs y c) ∙ step (nat_eq c y) (λ e. place-old cs (suc k) keys c more e) h
  where
    step : (b : Bool) → (list_any (nat_eq c) keys ≡ true → place_from (suc k) (seen cs keys ++ more) (place_in cs c) ≡ suc k + position_or_len (nat_eq c) keys) →
        (b || list_any (nat_eq c) keys) ≡ true → cond b k (place_from (suc k) (seen cs keys ++ more) (place_in cs c)) ≡ k + cond (not b) (1 + position_or_len (nat_eq c) keys) 0
    step true ih e = omega arith
    step false ih e = ih e ∙ omega arith

pub place-next : (cs : List Stored) (k : ℕ) (keys : List ℕ) (c : ℕ) (more : List Place) →
    place_from k (seen cs keys ++ place_in cs c ∷ more) (place_in cs c) ≡ k + position_or_len (nat_eq c) keys
unfolding place_from
place-next cs k [] c more = ap (λ b. cond b k (place_from (suc k) more (place_in cs c))) (place_same (place_in cs c)) ∙ omega arith
place-next cs k (y ∷ keys) c more =
    ap (λ b. cond b k (place_from (suc k) (seen cs keys ++ place_in cs c ∷ more) (place_in cs c))) (same-cell cs y c) ∙ step (nat_eq c y) (place-next cs (suc k) keys c more)
  where
    step : (b : Bool) → place_from (suc k) (seen cs keys ++ place_in cs c ∷ more) (place_in cs c) ≡ suc k + position_or_len (nat_eq c) keys →
        cond b k (place_from (suc k) (seen cs keys ++ place_in cs c ∷ more) (place_in cs c)) ≡ k + cond (not b) (1 + position_or_len (nat_eq c) keys) 0
    step true ih = omega arith
    step false ih = ih ∙ omega arith

-- the number that the set of cells gives is that of the place, however the list goes on
pub open-number : (cs : List Stored) (keys : List ℕ) (c : ℕ) (more : List Place) →
    place_from 0 (seen cs (insert_key nat_eq keys c) ++ more) (place_in cs c) ≡ position_or_len (nat_eq c) keys
open-number cs keys c more = step (list_any (nat_eq c) keys) refl
  where
    step : (b : Bool) → list_any (nat_eq c) keys ≡ b → place_from 0 (seen cs (cond b keys (keys ++ c ∷ [])) ++ more) (place_in cs c) ≡ position_or_len (nat_eq c) keys
    step true e = place-old cs 0 keys c more e ∙ omega arith
    step false e =
        ap (λ xs. place_from 0 (xs ++ more) (place_in cs c)) (map-append (place_in cs) keys (c ∷ []))
        ∙ ap (λ xs. place_from 0 xs (place_in cs c)) (append_assoc (seen cs keys) (place_in cs c ∷ []) more)
        ∙ place-next cs 0 keys c more ∙ omega arith

-- it is the first appearance of the place, or the place was seen
pub open-seen : (cs : List Stored) (keys : List ℕ) (c : ℕ) → seen cs (insert_key nat_eq keys c) ≡ firsts (seen cs keys) (place_in cs c ∷ [])
unfolding firsts
open-seen cs keys c = step (list_any (nat_eq c) keys) ∙ ap (λ b. cond b (seen cs keys) (seen cs keys ++ place_in cs c ∷ [])) (sym (place-seen cs keys c))
  where
    step : (b : Bool) → seen cs (cond b keys (keys ++ c ∷ [])) ≡ cond b (seen cs keys) (seen cs keys ++ place_in cs c ∷ [])
    step true = refl
    step false = map-append (place_in cs) keys (c ∷ [])

pub firsts-none : (xs : List Place) → firsts xs [] ≡ xs
unfolding firsts
firsts-none xs = refl

-- first appearances of two lists, one behind the other
pub firsts-append : (xs ys zs : List Place) → firsts xs (ys ++ zs) ≡ firsts (firsts xs ys) zs
unfolding firsts
firsts-append xs [] zs = refl
firsts-append xs (y ∷ ys) zs = step (has_place xs y) (firsts-append xs ys zs) (firsts-append (xs ++ y ∷ []) ys zs)
  where
    step : (b : Bool) → firsts xs (ys ++ zs) ≡ firsts (firsts xs ys) zs → firsts (xs ++ y ∷ []) (ys ++ zs) ≡ firsts (firsts (xs ++ y ∷ []) ys) zs → cond b (firsts xs (ys ++ zs)) (firsts (xs ++ y ∷ []) (ys ++ zs)) ≡ firsts (cond b (firsts xs ys) (firsts (xs ++ y ∷ []) ys)) zs
    step true i j = i
    step false i j = j

-- the open place of an unbound cell
pub bus-place : (cs : List Stored) (c : ℕ) → slice_get cs c ≡ Some cell.BusVar → place_in cs c ≡ (sort.Bus, c)
bus-place cs c e = ap (λ o. (open_sort o, c)) e

pub term-place : (cs : List Stored) (c : ℕ) → slice_get cs c ≡ Some cell.TermVar → place_in cs c ≡ (sort.Term, c)
term-place cs c e = ap (λ o. (open_sort o, c)) e
