-- Places in order of first appearance.
use Rattle.std.specs.Prelude.{option_map}
use Rattle.std.proofs.lemmas.Option.{slice_get-map}
use Rattle.std.proofs.lemmas.List.{length-map, map-append}
use Rattle.cb_laws.proofs.Decided.{and_true}
use Rattle.std.proofs.Common.{eq-eqb, ◌≡◌, ℕ, suc, ◌+◌, inl, inr, Bool, true, false, cond, nat_eq, List, [], ◌∷◌, ◌++◌, map, length, Option, Some, refl, sym, ap, subst, ◌∙◌, arith, append_assoc}
use Rattle.std.specs.Prelude.{slice_get}
use Rattle.std.proofs.lemmas.List.{append-nil}
use Rattle.std.proofs.lemmas.Bool.{eqb-true}
use Rattle.cb_model.specs.declared.Sort.{Sort}
use Rattle.cb_model.specs.declared.Sort.TheVariants as sort
use Rattle.cb_model.specs.Bits.{Each}
use Rattle.cb_model.specs.Answers.{InOrder}
use Rattle.cb_laws.proofs.OpenTrees.{Place}
use Rattle.cb_shape.specs.Shapes.{same_sort, same_place, place_from, has_place, firsts}

sort_same : (s : Sort) → same_sort s s ≡ true
sort_same sort.Bool = refl
sort_same sort.Bus = refl
sort_same sort.Term = refl

sort_is : (s t : Sort) → same_sort s t ≡ true → s ≡ t
sort_is sort.Bool sort.Bool h = refl
sort_is sort.Bool sort.Bus h = absurd (cc)
sort_is sort.Bool sort.Term h = absurd (cc)
sort_is sort.Bus sort.Bool h = absurd (cc)
sort_is sort.Bus sort.Bus h = refl
sort_is sort.Bus sort.Term h = absurd (cc)
sort_is sort.Term sort.Bool h = absurd (cc)
sort_is sort.Term sort.Bus h = absurd (cc)
sort_is sort.Term sort.Term h = refl

pub place_same : (x : Place) → same_place x x ≡ true
place_same x = rw (sort_same x.0) (eq-eqb x.1 x.1 refl)

pub place_is : (x y : Place) → same_place x y ≡ true → x ≡ y
place_is x y h =
    let a = and_true (same_sort x.0 y.0) (nat_eq x.1 y.1) h in
    let s = sort_is x.0 y.0 a.0 in
    let n : x.1 ≡ y.1 = eqb-true x.1 y.1 a.1 in
    λ i. (s i, n i)

-- ---- places in a list that goes on

cond_on : {A : Type 0} (b : Bool) (x y : A) → b ≡ true → cond b x y ≡ x
cond_on true x y e = refl
cond_on false x y e = absurd (cc)

cond_off : {A : Type 0} (b : Bool) (x y : A) → b ≡ false → cond b x y ≡ y
cond_off false x y e = refl
cond_off true x y e = absurd (cc)

pub place_in : (k : ℕ) (ys more : List Place) (x : Place) → has_place ys x ≡ true → place_from k (ys ++ more) x ≡ place_from k ys x
unfolding has_place place_from
place_in k [] more x h = absurd (cc)
place_in k (y ∷ ys) more x h = step (same_place y x) (λ e. place_in (suc k) ys more x e) h
  where
    step : (b : Bool) → (has_place ys x ≡ true → place_from (suc k) (ys ++ more) x ≡ place_from (suc k) ys x) → (cond b true (has_place ys x)) ≡ true → cond b k (place_from (suc k) (ys ++ more) x) ≡ cond b k (place_from (suc k) ys x)
    step true ih h = refl
    step false ih h = ih h

pub place_new : (k : ℕ) (ys more : List Place) (x : Place) → has_place ys x ≡ false → place_from k (ys ++ x ∷ more) x ≡ k + length ys
unfolding has_place place_from
place_new k [] more x h = cond_on (same_place x x) k (place_from (suc k) more x) (place_same x) ∙ omega arith
place_new k (y ∷ ys) more x h = step (same_place y x) (λ e. place_new (suc k) ys more x e) h
  where
    step : (b : Bool) → (has_place ys x ≡ false → place_from (suc k) (ys ++ x ∷ more) x ≡ suc k + length ys) → (cond b true (has_place ys x)) ≡ false → cond b k (place_from (suc k) (ys ++ x ∷ more) x) ≡ k + suc (length ys)
    step true ih h = absurd (cc)
    step false ih h = ih h ∙ omega arith

-- the number of a place that is there is its place
pub record At (k : ℕ) (ys : List Place) (x : Place) : Type 0 where
  pub i : ℕ
  pub number : place_from k ys x ≡ k + i
  pub there : slice_get ys i ≡ Some x

pub place_at : (k : ℕ) (ys : List Place) (x : Place) → has_place ys x ≡ true → At k ys x
unfolding has_place place_from
place_at k [] x h = absurd (cc)
place_at k (y ∷ ys) x h = step (same_place y x) (λ e. place_at (suc k) ys x e) refl h
  where
    step : (b : Bool) → (has_place ys x ≡ true → At (suc k) ys x) → same_place y x ≡ b → (cond b true (has_place ys x)) ≡ true → At k (y ∷ ys) x
    step true ih e h = record { i = 0; number = cond_on (same_place y x) k (place_from (suc k) ys x) e ∙ omega arith; there = ap (λ (z : Place). Some z) (place_is y x e) }
    step false ih e h =
        let r = ih h in
        record { i = suc r.i; number = cond_off (same_place y x) k (place_from (suc k) ys x) e ∙ r.number ∙ omega arith; there = r.there }

-- ---- first appearance

pub firsts_go_on : (seen xs : List Place) → (more : List Place) × (firsts seen xs ≡ seen ++ more)
unfolding firsts
firsts_go_on seen [] = ([], sym (append-nil seen))
firsts_go_on seen (x ∷ xs) = step (has_place seen x) (firsts_go_on seen xs) (firsts_go_on (seen ++ x ∷ []) xs)
  where
    step : (b : Bool) → (more : List Place) × (firsts seen xs ≡ seen ++ more) → (more : List Place) × (firsts (seen ++ x ∷ []) xs ≡ (seen ++ x ∷ []) ++ more) → (more : List Place) × (cond b (firsts seen xs) (firsts (seen ++ x ∷ []) xs) ≡ seen ++ more)
    step true i j = i
    step false i j = let r = j in (x ∷ r.0, r.1 ∙ append_assoc seen (x ∷ []) r.0)

abbrev pub renamed : List Place → List Place → List Place
renamed os xs = map (λ x. (x.0, place_from 0 os x)) xs

sorts_of : List Place → List Sort
sorts_of xs = map (λ x. x.0) xs

get_sort : (ys : List Place) (i : ℕ) (x : Place) → slice_get ys i ≡ Some x → slice_get (map (λ y. y.0) ys) i ≡ Some x.0
get_sort ys i x h = slice_get-map (λ (y : Place). y.0) ys i ∙ ap (λ (o : Option Place). option_map (λ y. y.0) o) h

pub in_order : (seen xs : List Place) → InOrder (map (λ y. y.0) seen) (renamed (firsts seen xs) xs)
unfolding firsts
in_order seen [] = tt
in_order seen (x ∷ xs) = step (has_place seen x) (in_order seen xs) (in_order (seen ++ x ∷ []) xs) refl
  where
    step : (b : Bool) → InOrder (map (λ y. y.0) seen) (renamed (firsts seen xs) xs) → InOrder (map (λ y. y.0) (seen ++ x ∷ [])) (renamed (firsts (seen ++ x ∷ []) xs) xs) → has_place seen x ≡ b → InOrder (map (λ y. y.0) seen) (renamed (cond b (firsts seen xs) (firsts (seen ++ x ∷ []) xs)) (x ∷ xs))
    step true i j e =
        let g = firsts_go_on seen xs in
        let r = place_at 0 seen x e in
        let n : place_from 0 (firsts seen xs) x ≡ r.i = ap (λ (os : List Place). place_from 0 os x) g.1 ∙ place_in 0 seen g.0 x e ∙ r.number ∙ omega arith in
        inl (subst (λ (k : ℕ). slice_get (map (λ y. y.0) seen) k ≡ Some x.0) (sym n) (get_sort seen r.i x r.there), i)
    step false i j e =
        let g = firsts_go_on (seen ++ x ∷ []) xs in
        let n : place_from 0 (firsts (seen ++ x ∷ []) xs) x ≡ length seen =
        ap (λ (os : List Place). place_from 0 os x) (g.1 ∙ append_assoc seen (x ∷ []) g.0) ∙ place_new 0 seen g.0 x e ∙ omega arith in
        inr (
          n ∙ sym (length-map seen (λ (y : Place). y.0)),
          subst (λ (ss : List Sort). InOrder ss (renamed (firsts (seen ++ x ∷ []) xs) xs)) (map-append (λ (y : Place). y.0) seen (x ∷ [])) j,
        )

-- ---- each place is among the first appearances

has_more : (ys more : List Place) (x : Place) → has_place ys x ≡ true → has_place (ys ++ more) x ≡ true
unfolding has_place
has_more [] more x h = absurd (cc)
has_more (y ∷ ys) more x h = step (same_place y x) (λ e. has_more ys more x e) h
  where
    step : (b : Bool) → (has_place ys x ≡ true → has_place (ys ++ more) x ≡ true) → (cond b true (has_place ys x)) ≡ true → (cond b true (has_place (ys ++ more) x)) ≡ true
    step true ih h = refl
    step false ih h = ih h

has_last : (ys : List Place) (x : Place) → has_place (ys ++ x ∷ []) x ≡ true
unfolding has_place
has_last [] x = cond_on (same_place x x) true false (place_same x)
has_last (y ∷ ys) x = step (same_place y x) (has_last ys x)
  where
    step : (b : Bool) → has_place (ys ++ x ∷ []) x ≡ true → (cond b true (has_place (ys ++ x ∷ []) x)) ≡ true
    step true ih = refl
    step false ih = ih

seen_there : (seen xs : List Place) (x : Place) → has_place seen x ≡ true → has_place (firsts seen xs) x ≡ true
seen_there seen xs x h = let g = firsts_go_on seen xs in subst (λ (os : List Place). has_place os x ≡ true) (sym g.1) (has_more seen g.0 x h)

there_from : (seen xs : List Place) → Each (λ x. has_place (firsts seen xs) x ≡ true) xs
unfolding firsts
there_from seen [] = tt
there_from seen (x ∷ xs) = step (has_place seen x) refl (there_from seen xs) (there_from (seen ++ x ∷ []) xs)
  where
    step : (b : Bool) → has_place seen x ≡ b → Each (λ y. has_place (firsts seen xs) y ≡ true) xs → Each (λ y. has_place (firsts (seen ++ x ∷ []) xs) y ≡ true) xs →
        Each (λ y. has_place (cond b (firsts seen xs) (firsts (seen ++ x ∷ []) xs)) y ≡ true) (x ∷ xs)
    step true e i j = (seen_there seen xs x e, i)
    step false e i j = (seen_there (seen ++ x ∷ []) xs x (has_last seen x), j)

pub all_there : (xs : List Place) → Each (λ x. has_place (firsts [] xs) x ≡ true) xs
all_there xs = there_from [] xs
