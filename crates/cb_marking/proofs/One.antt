-- The one sort of a thing.
use Rattle.std.proofs.Common.{◌≡◌, ℕ, ◌+◌, ◌<◌, ◌≤◌, Bool, true, false, List, [], ◌∷◌, ◌++◌, length, get_or, Some, None, refl, sym, ◌∙◌, subst, arith, inl, inr, length-append}
use Rattle.std.specs.Prelude.{◌⊎◌}
use Rattle.std.proofs.lemmas.List.{get_or_append_left, get_or_push}
use Rattle.std.proofs.lemmas.Bool.{false≢true, cases_lt}
use Rattle.cb_model.specs.declared.Sort.{Sort}
use Rattle.cb_model.specs.declared.Sort.TheVariants as sort
use Rattle.cb_marking.specs.declared.links.Links.{Links}
use Rattle.cb_marking.specs.declared.links.Stop.TheVariants as stop
use Rattle.cb_marking.specs.Marks.{HasSort, HasOneSort, AreSorts, Stops}
use Rattle.cb_marking.specs.Search.{Reaches, one_of}

module _ (m : Links) (x : ℕ) where
  -- a mark tells whether the thing has the sort
  pub record Tells (s : Sort) (b : Bool) : Type 0 where
    pub sound : b ≡ true → HasSort m x s
    pub whole : HasSort m x s → b ≡ true

  none_of : (s : Sort) → Tells s false → HasSort m x s → ⊥
  none_of s t h = false≢true (t.whole h)

  only_bool : Tells sort.Bus false → Tells sort.Term false → (t : Sort) → HasSort m x t → t ≡ sort.Bool
  only_bool u t sort.Bool h = refl
  only_bool u t sort.Bus h = absurd (none_of sort.Bus u h)
  only_bool u t sort.Term h = absurd (none_of sort.Term t h)

  only_bus : Tells sort.Bool false → Tells sort.Term false → (t : Sort) → HasSort m x t → t ≡ sort.Bus
  only_bus b t sort.Bool h = absurd (none_of sort.Bool b h)
  only_bus b t sort.Bus h = refl
  only_bus b t sort.Term h = absurd (none_of sort.Term t h)

  only_term : Tells sort.Bool false → Tells sort.Bus false → (t : Sort) → HasSort m x t → t ≡ sort.Term
  only_term b u sort.Bool h = absurd (none_of sort.Bool b h)
  only_term b u sort.Bus h = absurd (none_of sort.Bus u h)
  only_term b u sort.Term h = refl

  no_sort : Tells sort.Bool false → Tells sort.Bus false → Tells sort.Term false → (t : Sort) → HasSort m x t → ⊥
  no_sort b u t sort.Bool h = none_of sort.Bool b h
  no_sort b u t sort.Bus h = none_of sort.Bus u h
  no_sort b u t sort.Term h = none_of sort.Term t h

  pub one_found : (p q r : Bool) → Tells sort.Bool p → Tells sort.Bus q → Tells sort.Term r → (s : Sort) → one_of p q r ≡ Some s → HasOneSort m x s
  one_found true false false b u t s e =
      let f : sort.Bool ≡ s = cc in
      subst (HasOneSort m x) f (record { known = inl (b.sound refl); only = only_bool u t })
  one_found false true false b u t s e =
      let f : sort.Bus ≡ s = cc in
      subst (HasOneSort m x) f (record { known = inl (u.sound refl); only = only_bus b t })
  one_found false false true b u t s e =
      let f : sort.Term ≡ s = cc in
      subst (HasOneSort m x) f (record { known = inl (t.sound refl); only = only_term b u })
  one_found false false false b u t s e =
      let f : sort.Term ≡ s = cc in
      subst (HasOneSort m x) f (record { known = inr (no_sort b u t, refl); only = only_term b u })
  one_found true true r b u t s e = absurd (cc)
  one_found true false true b u t s e = absurd (cc)
  one_found false true true b u t s e = absurd (cc)

  pub two_found : (p q r : Bool) → Tells sort.Bool p → Tells sort.Bus q → Tells sort.Term r → None ≡ one_of p q r → Stops m stop.Clash
  two_found true true r b u t e = (x, sort.Bool, sort.Bus, b.sound refl, u.sound refl, λ h. absurd (cc))
  two_found true false true b u t e = (x, sort.Bool, sort.Term, b.sound refl, t.sound refl, λ h. absurd (cc))
  two_found false true true b u t e = (x, sort.Bus, sort.Term, u.sound refl, t.sound refl, λ h. absurd (cc))
  two_found true false false b u t e = absurd (cc)
  two_found false true false b u t e = absurd (cc)
  two_found false false true b u t e = absurd (cc)
  two_found false false false b u t e = absurd (cc)

pub tells : (m : Links) (s : Sort) (n : ℕ) (seen : List Bool) → Reaches m s n seen → (x : ℕ) → Tells m x s (get_or seen x false)
tells m s n seen r x = record { sound = r.sound x; whole = r.whole x }

-- one thing more
pub sorted_more : (m : Links) (n : ℕ) (ss more : List Sort) (s : Sort) → AreSorts m n ss → HasOneSort m n s → more ≡ ss ++ s ∷ [] → AreSorts m (n + 1) more
sorted_more m n ss more s a h e = subst (AreSorts m (n + 1)) (sym e) (record { len = omega (arith, length-append ss (s ∷ []), a.len); sorts = λ x l. at x (cases_lt x n) l })
  where
    at : (x : ℕ) → (x < n) ⊎ (n ≤ x) → x < n + 1 → HasOneSort m x (get_or (ss ++ s ∷ []) x sort.Term)
    at x (inl l) k = subst (HasOneSort m x) (sym (get_or_append_left ss (s ∷ []) sort.Term x (omega (arith, a.len)))) (a.sorts x l)
    at x (inr l) k =
        let same : n ≡ x = omega arith in
        let len : length ss ≡ x = a.len ∙ same in
        subst (HasOneSort m x) (sym (get_or_push ss s sort.Term x len)) (subst (λ y. HasOneSort m y s) same h)

pub sorted_none : (m : Links) → AreSorts m 0 []
sorted_none m = record { len = refl; sorts = λ x l. absurd (omega arith) }
