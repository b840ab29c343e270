-- The end of a walk.
use Rattle.std.specs.Prelude.{◌⊎◌, Contains}
use Rattle.std.proofs.Common.{◌≡◌, ℕ, zero, suc, ◌+◌, ◌<◌, ◌≤◌, List, [], ◌∷◌, ◌++◌, length, take, drop, get_or, refl, sym, ◌∙◌, ap, subst, arith, inl, inr}
use Rattle.std.proofs.lemmas.List.{take_more, get_or-take, get_or_default}
use Rattle.std.proofs.lemmas.List.Elements.{Contains-get_or, Contains-push_cases}
use Rattle.cb_model.specs.declared.Sort.{Sort}
use Rattle.cb_model.specs.declared.Sort.TheVariants as sort
use Rattle.cb_marking.specs.Marks.{HasSort, AreSorts, HasOneSort}
use Rattle.cb_marking.specs.declared.walk.Walk.{Walk}
use Rattle.cb_marking.specs.Kept.{IsKept, Decides}

module _ (sorts : List Sort) (equations : List ℕ) where
  abbrev NoBus : List ℕ → Type 0
  NoBus ks = (k : ℕ) → Contains ks k → get_or sorts k sort.Term ≡ sort.Bus → ⊥

  take_end : (xs : List ℕ) (i : ℕ) → length xs ≤ i → take i xs ≡ xs
  take_end [] zero h = refl
  take_end [] (suc i) h = refl
  take_end (x ∷ xs) zero h = absurd (omega arith)
  take_end (x ∷ xs) (suc i) h = ap (λ (l : List ℕ). x ∷ l) (take_end xs i (omega arith))

  module _ (i : ℕ) (at : i < length equations) (d : Sort) (within : (k : ℕ) → Contains equations k → k < length sorts) where
    abbrev here : ℕ
    here = get_or equations i 0

    pub here_within : here < length sorts
    here_within = within (get_or equations i 0) (Contains-get_or equations i 0 at)

    as_term : get_or sorts (get_or equations i 0) sort.Term ≡ get_or sorts (get_or equations i 0) d
    as_term = get_or_default sorts (get_or equations i 0) sort.Term d here_within

    pub bus_found : get_or sorts (get_or equations i 0) d ≡ sort.Bus → (k : ℕ) × Contains equations k × (get_or sorts k sort.Term ≡ sort.Bus)
    bus_found e = (get_or equations i 0, Contains-get_or equations i 0 at, as_term ∙ e)

    pub bus_none : NoBus (take i equations) → (get_or sorts (get_or equations i 0) d ≡ sort.Bus → ⊥) → NoBus (take (i + 1) equations)
    bus_none h n k c e = step (Contains-push_cases (take i equations) (get_or equations i 0) k (subst (λ (l : List ℕ). Contains l k) (take_more equations i 0 at) c))
      where
        step : Contains (take i equations) k ⊎ (get_or equations i 0 ≡ k) → ⊥
        step (inl m) = h k m e
        step (inr m) = n (sym as_term ∙ ap (λ x. get_or sorts x sort.Term) m ∙ e)

  pub bus_end : (i : ℕ) → length equations ≤ i → NoBus (take i equations) → NoBus equations
  bus_end i h = subst NoBus (take_end equations i h)

split_at : {A : Type 0} (n : ℕ) (xs : List A) → take n xs ++ drop n xs ≡ xs
split_at zero xs = refl
split_at (suc n) [] = refl
split_at {A} (suc n) (x ∷ xs) = ap (λ (l : List A). x ∷ l) (split_at n xs)

len_take : {A : Type 0} (n : ℕ) (xs : List A) → n ≤ length xs → length (take n xs) ≡ n
len_take zero xs h = refl
len_take (suc n) [] h = absurd (omega arith)
len_take (suc n) (x ∷ xs) h = ap suc (len_take n xs (omega arith))

module _ (w : Walk) (things count : ℕ) (ss slice : List Sort) (bits : List ℕ) (kept : IsKept w) (all : things ≡ w.goals + count) (len : count ≡ length w.variables) (sorts : AreSorts w.links things ss) (lent : slice ≡ ss) (listed : bits ≡ w.bits) where
  same_things : things ≡ w.goals + length w.variables
  same_things = all ∙ ap (λ n. w.goals + n) len

  bit_goal : (k : ℕ) → Contains bits k → k < w.goals
  bit_goal k c = kept.bits k (subst (λ (l : List ℕ). Contains l k) listed c)

  pub bits_within : (k : ℕ) → Contains bits k → k < length slice
  bits_within k c = let l = bit_goal k c in omega (arith, l, ap length lent, sorts.len, same_things)

  pub bus_undecided : (k : ℕ) × Contains bits k × (get_or slice k sort.Term ≡ sort.Bus) → (k : ℕ) × Contains w.bits k × HasSort w.links k sort.Bus
  bus_undecided r = (r.0, subst (λ (l : List ℕ). Contains l r.0) listed r.1, step o.known)
    where
      is_bus : get_or ss r.0 sort.Term ≡ sort.Bus
      is_bus = sym (ap (λ (l : List Sort). get_or l r.0 sort.Term) lent) ∙ r.2

      o : HasOneSort w.links r.0 (get_or ss r.0 sort.Term)
      o = let l = bit_goal r.0 r.1 in sorts.sorts r.0 (omega (arith, l, same_things))

      step : HasSort w.links r.0 (get_or ss r.0 sort.Term) ⊎ (((t : Sort) → HasSort w.links r.0 t → ⊥) × (get_or ss r.0 sort.Term ≡ sort.Term)) → HasSort w.links r.0 sort.Bus
      step (inl h) = subst (HasSort w.links r.0) is_bus h
      step (inr h) = absurd (let e : sort.Bus ≡ sort.Term = sym is_bus ∙ h.1 in distinct e)
        where
          distinct : sort.Bus ≡ sort.Term → ⊥
          distinct e = cc

  pub goals_within : w.goals ≤ length ss
  goals_within = omega (arith, sorts.len, same_things)

  pub decided : ((k : ℕ) → Contains bits k → get_or slice k sort.Term ≡ sort.Bus → ⊥) → Decides w (record { variables = w.variables; sorts = drop w.goals ss; goals = take w.goals ss })
  decided none = record {
    variables = refl;
    goals = len_take w.goals ss (omega (arith, sorts.len, same_things));
    sorts = subst (λ n. AreSorts w.links n (take w.goals ss ++ drop w.goals ss)) same_things (subst (AreSorts w.links things) (sym (split_at w.goals ss)) sorts);
    bits = λ k c e.
        let l = kept.bits k c in
        none k (subst (λ (l : List ℕ). Contains l k) (sym listed) c) (ap (λ (l : List Sort). get_or l k sort.Term) lent ∙ sym (get_or-take w.goals ss k sort.Term l) ∙ e);
  }
