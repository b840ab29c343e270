-- Things that are let be seen.
use Rattle.std.proofs.Common.{◌≡◌, ℕ, zero, suc, ◌+◌, ◌<◌, Bool, true, false, List, [], ◌∷◌, ◌++◌, length, get_or, set, refl, sym, ◌∙◌, subst, arith, inl, inr, length-append}
use Rattle.std.specs.Prelude.{◌⊎◌, Contains}
use Rattle.std.proofs.Math.ListN.{length-set}
use Rattle.std.proofs.lemmas.List.{get_or-set_other}
use Rattle.std.proofs.lemmas.List.Elements.{Contains-push, Contains-push_cases, Contains-append_left, Contains-append_right, Contains-append_cases}
use Rattle.std.proofs.lemmas.Bool.{cases_eq}
use Rattle.cb_marking.specs.Search.{IsSeen, unseen, Visited}
use Rattle.cb_marking.proofs.Lists.{none_in, one_in, at_place}

-- a thing that is seen is one of the things
pub seen_within : (seen : List Bool) (x : ℕ) → IsSeen seen x → x < length seen
seen_within [] zero h = absurd (cc)
seen_within [] (suc x) h = absurd (cc)
seen_within (b ∷ bs) zero h = omega arith
seen_within (b ∷ bs) (suc x) h = let r = seen_within bs x h in omega arith

unseen_set : (seen : List Bool) (x : ℕ) → x < length seen → get_or seen x false ≡ false → unseen (set seen x true) + 1 ≡ unseen seen
unseen_set [] x h e = absurd (omega arith)
unseen_set (true ∷ bs) zero h e = absurd (cc)
unseen_set (false ∷ bs) zero h e = omega arith
unseen_set (b ∷ bs) (suc x) h e = let r = unseen_set bs x (omega arith) e in omega arith

pub Visited-nil : (seen : List Bool) (waiting : List ℕ) → Visited [] seen waiting seen waiting
Visited-nil seen waiting = record {
  len = refl;
  still = λ x h. h;
  all = λ x h. absurd (none_in x h);
  only = λ x h. inl h;
  waits = λ x h. h;
  seen_waits = λ x h. inl h;
  count = refl;
}

module _ (xs ys : List ℕ) (a : List Bool) (b : List ℕ) (c : List Bool) (d : List ℕ) (e : List Bool) (f : List ℕ) (p : Visited xs a b c d) (q : Visited ys c d e f) where
  both_all : (x : ℕ) → Contains xs x ⊎ Contains ys x → IsSeen e x
  both_all x (inl h) = q.still x (p.all x h)
  both_all x (inr h) = q.all x h

  first_only : (x : ℕ) → IsSeen a x ⊎ (Contains xs x × Contains d x) → IsSeen a x ⊎ (Contains (xs ++ ys) x × Contains f x)
  first_only x (inl h) = inl h
  first_only x (inr h) = inr (Contains-append_left xs ys x h.0, q.waits x h.1)

  both_only : (x : ℕ) → IsSeen c x ⊎ (Contains ys x × Contains f x) → IsSeen a x ⊎ (Contains (xs ++ ys) x × Contains f x)
  both_only x (inl h) = first_only x (p.only x h)
  both_only x (inr h) = inr (Contains-append_right xs ys x h.0, h.1)

  first_waits : (x : ℕ) → Contains b x ⊎ IsSeen c x → Contains b x ⊎ IsSeen e x
  first_waits x (inl h) = inl h
  first_waits x (inr h) = inr (q.still x h)

  both_waits : (x : ℕ) → Contains d x ⊎ IsSeen e x → Contains b x ⊎ IsSeen e x
  both_waits x (inl h) = first_waits x (p.seen_waits x h)
  both_waits x (inr h) = inr h

  pub Visited-append : Visited (xs ++ ys) a b e f
  Visited-append = record {
    len = q.len ∙ p.len;
    still = λ x h. q.still x (p.still x h);
    all = λ x h. both_all x (Contains-append_cases xs ys x h);
    only = λ x h. both_only x (q.only x h);
    waits = λ x h. q.waits x (p.waits x h);
    seen_waits = λ x h. both_waits x (q.seen_waits x h);
    count = q.count ∙ p.count;
  }

module _ (seen : List Bool) (waiting : List ℕ) (x : ℕ) where
  -- one that is seen already
  pub Visited-seen : IsSeen seen x → Visited (x ∷ []) seen waiting seen waiting
  Visited-seen s = record {
    len = refl;
    still = λ y h. h;
    all = λ y h. subst (IsSeen seen) (one_in x y h) s;
    only = λ y h. inl h;
    waits = λ y h. h;
    seen_waits = λ y h. inl h;
    count = refl;
  }

  module _ (within : x < length seen) (new : get_or seen x false ≡ false) where
    here : (y : ℕ) → x ≡ y → IsSeen (set seen x true) y
    here y e = at_place seen x y true false within (sym e)

    still_seen : (y : ℕ) → (y ≡ x) ⊎ (y ≡ x → ⊥) → IsSeen seen y → IsSeen (set seen x true) y
    still_seen y (inl e) h = here y (sym e)
    still_seen y (inr n) h = get_or-set_other seen x y true false n ∙ h

    only_new : (y : ℕ) → (y ≡ x) ⊎ (y ≡ x → ⊥) → IsSeen (set seen x true) y → IsSeen seen y ⊎ (Contains (x ∷ []) y × Contains (waiting ++ x ∷ []) y)
    only_new y (inl e) h = inr (subst (Contains (x ∷ [])) (sym e) (Contains-push [] x), subst (Contains (waiting ++ x ∷ [])) (sym e) (Contains-push waiting x))
    only_new y (inr n) h = inl (sym (get_or-set_other seen x y true false n) ∙ h)

    waits_new : (y : ℕ) → Contains waiting y ⊎ (x ≡ y) → Contains waiting y ⊎ IsSeen (set seen x true) y
    waits_new y (inl h) = inl h
    waits_new y (inr e) = inr (here y e)

    -- one that is seen first now
    pub Visited-new : Visited (x ∷ []) seen waiting (set seen x true) (waiting ++ x ∷ [])
    Visited-new = record {
      len = length-set seen x true;
      still = λ y h. still_seen y (cases_eq y x) h;
      all = λ y h. here y (one_in x y h);
      only = λ y h. only_new y (cases_eq y x) h;
      waits = λ y h. Contains-append_left waiting (x ∷ []) y h;
      seen_waits = λ y h. waits_new y (Contains-push_cases waiting x y h);
      count = omega (arith, unseen_set seen x within new, length-append waiting (x ∷ []));
    }

    pub Visited-now : (now : List Bool) (more : List ℕ) → now ≡ set seen x true → more ≡ waiting ++ x ∷ [] → Visited (x ∷ []) seen waiting now more
    Visited-now now more e f =
        subst (λ (l : List Bool). Visited (x ∷ []) seen waiting l more) (sym e) (subst (λ (l : List ℕ). Visited (x ∷ []) seen waiting (set seen x true) l) (sym f) Visited-new)
