-- What a walk over a written term says of the same term with each `_` renamed.
use Rattle.std.proofs.Common.{◌≡◌, ℕ, suc, Bool, true, false, ◌&&◌, List, [], ◌∷◌, ◌++◌, length, refl, sym, ◌∙◌, ap, subst, arith, codes, bytes_eq, eqb}
use Rattle.std.specs.Bool.{if◌then◌else◌}
use Rattle.std.proofs.lemmas.Bool.{and_parts, and_from, eqb-true, false≢true}
use Rattle.cb_model.specs.Text.{Text}
use Rattle.cb_model.specs.declared.Sort.{Sort}
use Rattle.cb_model.specs.declared.Sort.TheVariants as sort
use Rattle.cb_model.specs.Grammar.{Form, Forms, Variable, Integer, Name, Closed, Open, Not, And, Xor, Or, Last, More}
use Rattle.cb_model.specs.Directives.{Sign, Declared, same_sign, count_of, sorts_of}
use Rattle.cb_model.specs.Sorts.{Place, renamed, apart, apart_all, below, operand_places, argument_places, call_places, circuit_sign}
use Rattle.cb_model.specs.Loading.{variables_of, variables_in}
use Rattle.cb_model.specs.Written.{is_name}
use Rattle.cb_marking.specs.declared.walk.Walk.{Walk}
use Rattle.cb_marking.specs.Places.{place_fits}
use Rattle.cb_marking.specs.Walk.{name_at, own_after, at, walked, all_fit}
use Rattle.cb_marking.proofs.Left.{walked-append, all_fit-append}
use Rattle.cb_marking.proofs.Follows.{Follows, Follows-none, Follows-same, Follows-then, Follows-at, renamed_is, is_there, all_there, numbered, numbered-append, given_at}

abbrev pub is_var : Form → Bool
is_var (Variable x) = true
is_var _ = false

-- a walk over written places is one over the renamed ones
pub record Renames (d : Declared) (w : Walk) (raw : List Place) (k : ℕ) (xs : List Text) (ps : List Place) : Type 0 where
  pub follows : Follows w (walked w raw) k xs (λ ys. numbered w.goals ys ps) (λ _. []) [] ps
  pub fits : all_fit d raw ≡ all_fit d ps

module _ (d : Declared) where
  Renames-none : (w : Walk) (k : ℕ) (xs : List Text) → w.own ≡ k → w.variables ≡ xs → Renames d w [] k xs []
  Renames-none w k xs a b = record { follows = Follows-none w k xs a b; fits = refl }

  Renames-then : (w : Walk) (raw more : List Place) (k l : ℕ) (xs zs : List Text) (ps qs : List Place) → Renames d w raw k xs ps → Renames d (walked w raw) more l zs qs → Renames d w (raw ++ more) l zs (ps ++ qs)
  Renames-then w raw more k l xs zs ps qs p q =
      let v = walked w raw in
      let f : Follows w (walked v more) l zs (λ ys. numbered w.goals ys ps ++ numbered v.goals ys qs) (λ _. []) [] (ps ++ qs) =
      Follows-then w v (walked v more) k l xs zs (λ ys. numbered w.goals ys ps) (λ ys. numbered v.goals ys qs) (λ _. []) (λ _. []) [] [] ps qs p.follows q.follows in
      let g : Follows w (walked v more) l zs (λ ys. numbered w.goals ys (ps ++ qs)) (λ _. []) [] (ps ++ qs) =
      Follows-same w (walked v more) l zs (λ ys. numbered w.goals ys ps ++ numbered v.goals ys qs) (λ ys. numbered w.goals ys (ps ++ qs)) (λ _. []) (λ _. []) [] [] (ps ++ qs) f
      (λ ys. ap (λ c. numbered w.goals ys ps ++ numbered c ys qs) p.follows.goals ∙ sym (numbered-append w.goals ys ps qs)) (λ ys. refl) refl in
      record {
        follows = subst (λ (u : Walk). Follows w u l zs (λ ys. numbered w.goals ys (ps ++ qs)) (λ _. []) [] (ps ++ qs)) (sym (walked-append w raw more)) g;
        fits = all_fit-append d raw more ∙ (λ i. p.fits i && q.fits i) ∙ sym (all_fit-append d ps qs);
      }

  one_variable : (w : Walk) (s : Sort) (x : Text) → Renames d w ((s, Variable x) ∷ []) (own_after w.own x) (variables_of w.variables (Variable (name_at w.own x))) ((s, Variable (name_at w.own x)) ∷ [])
  one_variable w s x = record { follows = Follows-at w x s; fits = refl }

  variable_place : (x : Text) (s : Sort) (w : Walk) (k : ℕ) (xs : List Text) → w.own ≡ k → w.variables ≡ xs →
      Renames d w ((s, Variable x) ∷ []) (renamed k x).1 (variables_of xs (renamed k x).0) ((s, (renamed k x).0) ∷ below d (renamed k x).0)
  variable_place x s w k xs a b =
      subst (λ (r : Form × ℕ). Renames d w ((s, Variable x) ∷ []) r.1 (variables_of xs r.0) ((s, r.0) ∷ below d r.0)) (sym (renamed_is k x))
      (subst (λ (l : List Text). Renames d w ((s, Variable x) ∷ []) (own_after k x) (variables_of l (Variable (name_at k x))) ((s, Variable (name_at k x)) ∷ [])) b
      (subst (λ j. Renames d w ((s, Variable x) ∷ []) (own_after j x) (variables_of w.variables (Variable (name_at j x))) ((s, Variable (name_at j x)) ∷ [])) a (one_variable w s x)))

  -- a term that is no variable, at its place
  plain_place : (s : Sort) (f g : Form) (w : Walk) (raw : List Place) (k : ℕ) (xs : List Text) (ps : List Place) → at w s f ≡ w → ((ys : List Text) → (given_at w.goals ys s g ≡ []) × (is_there ys g ≡ true)) → place_fits d (s, f) ≡ place_fits d (s, g) →
      Renames d w raw k xs ps → Renames d w ((s, f) ∷ raw) k xs ((s, g) ∷ ps)
  plain_place s f g w raw k xs ps stays none same r = record {
    follows = let base : Follows w (walked (at w s f) raw) k xs (λ ys. numbered w.goals ys ps) (λ _. []) [] ps = subst (λ (v : Walk). Follows w (walked v raw) k xs (λ ys. numbered w.goals ys ps) (λ _. []) [] ps) (sym stays) r.follows in
        record {
          own = base.own;
          variables = base.variables;
          goals = base.goals;
          grows = base.grows;
          given = λ ys e. base.given ys e ∙ ap (λ (l : List (ℕ × Sort)). w.links.given ++ (l ++ numbered w.goals ys ps)) (sym (none ys).0);
          edges = base.edges;
          bits = base.bits;
          distinct = base.distinct;
          there = λ ys e. and_from (is_there ys g) (all_there ys ps) (none ys).1 (base.there ys e);
        };
    fits = λ i. same i && r.fits i;
  }

  name_fits : (s : Sort) (n : Text) (fs : Forms) (k : ℕ) → place_fits d (s, Name n fs) ≡ place_fits d (s, Name n (apart_all fs k).0)
  name_fits s n Last k = refl
  name_fits s n (More f fs) k = refl

  abbrev BelowOf : Form → Walk → ℕ → List Text → Type 0
  BelowOf f w k xs = Renames d w (below d f) (apart f k).1 (variables_of xs (apart f k).0) (below d (apart f k).0)

  place_of : (f : Form) (s : Sort) (w : Walk) (k : ℕ) (xs : List Text) → w.own ≡ k → w.variables ≡ xs → (is_var f ≡ false → BelowOf f w k xs) →
      Renames d w ((s, f) ∷ below d f) (apart f k).1 (variables_of xs (apart f k).0) ((s, (apart f k).0) ∷ below d (apart f k).0)
  place_of (Variable x) s w k xs a b h = variable_place x s w k xs a b
  place_of (Integer z) s w k xs a b h = plain_place s (Integer z) (Integer z) w [] k xs [] refl (λ ys. (refl, refl)) refl (h refl)
  place_of (Name n fs) s w k xs a b h =
      plain_place s (Name n fs) (Name n (apart_all fs k).0) w (below d (Name n fs)) (apart_all fs k).1 (variables_in xs (apart_all fs k).0) (below d (Name n (apart_all fs k).0)) refl (λ ys. (refl, refl)) (name_fits s n fs k) (h refl)
  place_of (Closed fs) s w k xs a b h =
      plain_place s (Closed fs) (Closed (apart_all fs k).0) w (below d (Closed fs)) (apart_all fs k).1 (variables_in xs (apart_all fs k).0) (below d (Closed (apart_all fs k).0)) refl (λ ys. (refl, refl)) refl (h refl)
  place_of (Open fs f) s w k xs a b h =
      plain_place s (Open fs f) (apart (Open fs f) k).0 w (below d (Open fs f)) (apart (Open fs f) k).1 (variables_of xs (apart (Open fs f) k).0) (below d (apart (Open fs f) k).0) refl (λ ys. (refl, refl)) refl (h refl)
  place_of (Not f) s w k xs a b h =
      plain_place s (Not f) (Not (apart f k).0) w (below d (Not f)) (apart f k).1 (variables_of xs (apart f k).0) (below d (Not (apart f k).0)) refl (λ ys. (refl, refl)) refl (h refl)
  place_of (And fs) s w k xs a b h =
      plain_place s (And fs) (And (apart_all fs k).0) w (below d (And fs)) (apart_all fs k).1 (variables_in xs (apart_all fs k).0) (below d (And (apart_all fs k).0)) refl (λ ys. (refl, refl)) refl (h refl)
  place_of (Xor fs) s w k xs a b h =
      plain_place s (Xor fs) (Xor (apart_all fs k).0) w (below d (Xor fs)) (apart_all fs k).1 (variables_in xs (apart_all fs k).0) (below d (Xor (apart_all fs k).0)) refl (λ ys. (refl, refl)) refl (h refl)
  place_of (Or fs) s w k xs a b h =
      plain_place s (Or fs) (Or (apart_all fs k).0) w (below d (Or fs)) (apart_all fs k).1 (variables_in xs (apart_all fs k).0) (below d (Or (apart_all fs k).0)) refl (λ ys. (refl, refl)) refl (h refl)

  pub count_apart : (fs : Forms) (k : ℕ) → count_of (apart_all fs k).0 ≡ count_of fs
  count_apart Last k = refl
  count_apart (More f fs) k = ap suc (count_apart fs (apart f k).1)

  module _ (counted : (a : Sign) → length (sorts_of d a) ≡ a.1) where
    mutual
      pub below_renames : (f : Form) → is_var f ≡ false → (w : Walk) (k : ℕ) (xs : List Text) → w.own ≡ k → w.variables ≡ xs → BelowOf f w k xs
      below_renames (Variable x) h w k xs a b = absurd (false≢true (sym h))
      below_renames (Integer z) h w k xs a b = Renames-none w k xs a b
      below_renames (Name n fs) h w k xs a b =
          subst (λ m. Renames d w (argument_places d (sorts_of d (n, count_of fs)) fs) (apart_all fs k).1 (variables_in xs (apart_all fs k).0) (argument_places d (sorts_of d (n, m)) (apart_all fs k).0)) (sym (count_apart fs k))
          (arguments_renames fs (sorts_of d (n, count_of fs)) (counted (n, count_of fs)) w k xs a b)
      below_renames (Closed fs) h w k xs a b = operands_renames fs w k xs a b
      below_renames (Open fs f) h w k xs a b =
          let p = operands_renames fs w k xs a b in
          let v = walked w (operand_places d fs) in
          let j = (apart_all fs k).1 in
          let zs = variables_in xs (apart_all fs k).0 in
          let q = place_of f sort.Bus v j zs p.follows.own p.follows.variables (λ no. below_renames f no v j zs p.follows.own p.follows.variables) in
          Renames-then w (operand_places d fs) ((sort.Bus, f) ∷ below d f) j (apart f j).1 zs (variables_of zs (apart f j).0) (operand_places d (apart_all fs k).0) ((sort.Bus, (apart f j).0) ∷ below d (apart f j).0) p q
      below_renames (Not f) h w k xs a b = place_of f sort.Bool w k xs a b (λ no. below_renames f no w k xs a b)
      below_renames (And fs) h w k xs a b = operands_renames fs w k xs a b
      below_renames (Xor fs) h w k xs a b = operands_renames fs w k xs a b
      below_renames (Or fs) h w k xs a b = operands_renames fs w k xs a b

      operands_renames : (fs : Forms) (w : Walk) (k : ℕ) (xs : List Text) → w.own ≡ k → w.variables ≡ xs →
          Renames d w (operand_places d fs) (apart_all fs k).1 (variables_in xs (apart_all fs k).0) (operand_places d (apart_all fs k).0)
      operands_renames Last w k xs a b = Renames-none w k xs a b
      operands_renames (More f fs) w k xs a b =
          let p = place_of f sort.Bool w k xs a b (λ no. below_renames f no w k xs a b) in
          let v = walked w ((sort.Bool, f) ∷ below d f) in
          let j = (apart f k).1 in
          let zs = variables_of xs (apart f k).0 in
          Renames-then w ((sort.Bool, f) ∷ below d f) (operand_places d fs) j (apart_all fs j).1 zs (variables_in zs (apart_all fs j).0) ((sort.Bool, (apart f k).0) ∷ below d (apart f k).0) (operand_places d (apart_all fs j).0) p
          (operands_renames fs v j zs p.follows.own p.follows.variables)

      arguments_renames : (fs : Forms) (ss : List Sort) → length ss ≡ count_of fs → (w : Walk) (k : ℕ) (xs : List Text) → w.own ≡ k → w.variables ≡ xs →
          Renames d w (argument_places d ss fs) (apart_all fs k).1 (variables_in xs (apart_all fs k).0) (argument_places d ss (apart_all fs k).0)
      arguments_renames Last [] n w k xs a b = Renames-none w k xs a b
      arguments_renames Last (s ∷ ss) n w k xs a b = Renames-none w k xs a b
      arguments_renames (More f fs) [] n w k xs a b = absurd (omega (arith, n))
      arguments_renames (More f fs) (s ∷ ss) n w k xs a b =
          let p = place_of f s w k xs a b (λ no. below_renames f no w k xs a b) in
          let v = walked w ((s, f) ∷ below d f) in
          let j = (apart f k).1 in
          let zs = variables_of xs (apart f k).0 in
          let m : length ss ≡ count_of fs = omega (arith, n) in
          Renames-then w ((s, f) ∷ below d f) (argument_places d ss fs) j (apart_all fs j).1 zs (variables_in zs (apart_all fs j).0) ((s, (apart f k).0) ∷ below d (apart f k).0) (argument_places d ss (apart_all fs j).0) p
          (arguments_renames fs ss m v j zs p.follows.own p.follows.variables)

    -- ---- a head or call

    call_sorts : Text → ℕ → List Sort
    call_sorts n m = if same_sign (n, m) circuit_sign then (sort.Term ∷ sort.Bus ∷ sort.Bus ∷ []) else sorts_of d (n, m)

    call_is : (n : Text) (fs : Forms) → call_places d (Name n fs) ≡ argument_places d (call_sorts n (count_of fs)) fs
    unfolding call_sorts
    call_is n fs = step (same_sign (n, count_of fs) circuit_sign)
      where
        step : (b : Bool) → (if b then argument_places d (sort.Term ∷ sort.Bus ∷ sort.Bus ∷ []) fs else argument_places d (sorts_of d (n, count_of fs)) fs) ≡
            argument_places d (if b then (sort.Term ∷ sort.Bus ∷ sort.Bus ∷ []) else sorts_of d (n, count_of fs)) fs
        step true = refl
        step false = refl

    call_counted : (n : Text) (m : ℕ) → length (call_sorts n m) ≡ m
    unfolding call_sorts
    call_counted n m = step (same_sign (n, m) circuit_sign) refl
      where
        step : (b : Bool) → same_sign (n, m) circuit_sign ≡ b → length (if b then (sort.Term ∷ sort.Bus ∷ sort.Bus ∷ []) else sorts_of d (n, m)) ≡ m
        step true e = sym (eqb-true m 3 (and_parts (bytes_eq n (codes "circuit")) (eqb m 3) e).1)
        step false e = counted (n, m)

    pub call_renames : (f : Form) → is_name f ≡ true → (w : Walk) (k : ℕ) (xs : List Text) → w.own ≡ k → w.variables ≡ xs →
        Renames d w (call_places d f) (apart f k).1 (variables_of xs (apart f k).0) (call_places d (apart f k).0)
    call_renames (Name n fs) h w k xs a b =
        let gs = (apart_all fs k).0 in
        let same : argument_places d (call_sorts n (count_of fs)) gs ≡ call_places d (Name n gs) = ap (λ m. argument_places d (call_sorts n m) gs) (sym (count_apart fs k)) ∙ sym (call_is n gs) in
        subst (λ (ps : List Place). Renames d w ps (apart_all fs k).1 (variables_in xs gs) (call_places d (Name n gs))) (sym (call_is n fs))
        (subst (Renames d w (argument_places d (call_sorts n (count_of fs)) fs) (apart_all fs k).1 (variables_in xs gs)) same (arguments_renames fs (call_sorts n (count_of fs)) (call_counted n (count_of fs)) w k xs a b))
    call_renames (Variable x) h w k xs a b = absurd (false≢true h)
    call_renames (Integer z) h w k xs a b = absurd (false≢true h)
    call_renames (Closed fs) h w k xs a b = absurd (false≢true h)
    call_renames (Open fs f) h w k xs a b = absurd (false≢true h)
    call_renames (Not f) h w k xs a b = absurd (false≢true h)
    call_renames (And fs) h w k xs a b = absurd (false≢true h)
    call_renames (Xor fs) h w k xs a b = absurd (false≢true h)
    call_renames (Or fs) h w k xs a b = absurd (false≢true h)
