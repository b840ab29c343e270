-- The levels that an equation eliminates.
use Rattle.std.proofs.Common.{◌≡◌, ◌⊎◌, inl, inr, ℕ, ◌<◌, ◌≤◌, Bool, true, false, cond, List, [], ◌∷◌, reverse, nat_eq, refl, sym, ap, subst, ◌∙◌}
use Rattle.std.specs.Prelude.{nat_le, Contains}
use Rattle.std.proofs.lemmas.Bool.{cases_lt, eqb-true, leb-true, le-leb, true≢false}
use Rattle.std.proofs.lemmas.Map.Views.{Contains-from_any}
use Rattle.std.specs.List.{filter}
use Rattle.std.specs.List.Sorted.{IsStrictlyIncreasing}
use Rattle.cb_dd.specs.declared.Triple.{Triple}
use Rattle.cb_dd.specs.Diagram.{function_of}
use Rattle.cb_ops.specs.Ops.{DependsOn, IsFree}
use Rattle.cb_ops.specs.Support.{IsListed}
use Rattle.cb_solution.specs.Solution.{IsFalling}
use Rattle.cb_solution.proofs.Solved.{listed-here, listed-there, listed-cases, only-from}
use Rattle.cb_elim.specs.Equation.{IsElimination}
use Rattle.cb_elim.proofs.Falling.{listed-reverse, from-reverse, falling-reverse}

module _ (test : ℕ → Bool) where
  filtered-cases : (x : ℕ) (xs : List ℕ) (b : Bool) → test x ≡ b → (k : ℕ) → IsListed (cond b (x ∷ filter test xs) (filter test xs)) k →
      (IsListed (filter test xs) k → IsListed xs k × (test k ≡ true)) → IsListed (x ∷ xs) k × (test k ≡ true)
  filtered-cases x xs true e k h rec = elim (listed-cases x k (filter test xs) h) [
    | inl same ↦ (subst (λ j. IsListed (x ∷ xs) j) (sym same) (listed-here x xs), ap test same ∙ e)
    | inr there ↦ (listed-there x k xs (rec there).0, (rec there).1)
  ]
  filtered-cases x xs false e k h rec = (listed-there x k xs (rec h).0, (rec h).1)

  pub filtered : (xs : List ℕ) (k : ℕ) → IsListed (filter test xs) k → IsListed xs k × (test k ≡ true)
  filtered [] k h = absurd (true≢false (sym h))
  filtered (x ∷ xs) k h = filtered-cases x xs (test x) refl k h (λ there. filtered xs k there)

  into-cases : (x : ℕ) (xs : List ℕ) (b : Bool) → test x ≡ b → (k : ℕ) → test k ≡ true → (k ≡ x) ⊎ IsListed xs k →
      (IsListed xs k → IsListed (filter test xs) k) → IsListed (cond b (x ∷ filter test xs) (filter test xs)) k
  into-cases x xs true e k t (inl same) rec = subst (λ j. IsListed (x ∷ filter test xs) j) (sym same) (listed-here x (filter test xs))
  into-cases x xs true e k t (inr there) rec = listed-there x k (filter test xs) (rec there)
  into-cases x xs false e k t (inl same) rec = absurd (true≢false (sym t ∙ ap test same ∙ e))
  into-cases x xs false e k t (inr there) rec = rec there

  pub into-filtered : (xs : List ℕ) (k : ℕ) → IsListed xs k → test k ≡ true → IsListed (filter test xs) k
  into-filtered [] k h t = absurd (true≢false (sym h))
  into-filtered (x ∷ xs) k h t = into-cases x xs (test x) refl k t (listed-cases x k xs h) (λ there. into-filtered xs k there t)

  falling-cases : (x : ℕ) (xs : List ℕ) (b : Bool) → IsFalling (x ∷ xs) → IsFalling (filter test xs) → IsFalling (cond b (x ∷ filter test xs) (filter test xs))
  falling-cases x xs true f rec = ((λ k h. f.0 k (filtered xs k h).0), rec)
  falling-cases x xs false f rec = rec

  pub falling-filtered : (xs : List ℕ) → IsFalling xs → IsFalling (filter test xs)
  falling-filtered [] f = tt
  falling-filtered (x ∷ xs) f = falling-cases x xs (test x) f (falling-filtered xs f.1)

at-least : (c k : ℕ) → nat_le c k ≡ true → c ≤ k
at-least c k h = leb-true c k h

below-or : (c k : ℕ) → (k < c) ⊎ (nat_le c k ≡ true)
below-or c k = elim (cases_lt k c) [ inl less ↦ inl less | inr more ↦ inr (le-leb c k more) ]

pub eliminated : (ts : List Triple) (f constants : ℕ) (support levels : List ℕ) → levels ≡ filter (λ l. nat_le constants l) (reverse support) →
    IsStrictlyIncreasing support → DependsOn ts f support → ((l : ℕ) → Contains support l → IsFree ts f l → ⊥) → IsElimination constants (function_of ts f) levels
eliminated ts f constants support levels e rise enough needed = subst (λ (ls : List ℕ). IsElimination constants (function_of ts f) ls) (sym e) (record {
  falls = falling-filtered (λ l. nat_le constants l) (reverse support) (falling-reverse support rise);
  free = λ l h. at-least constants l (filtered (λ l. nat_le constants l) (reverse support) l h).1;
  needed = λ l h same. needed l
      (Contains-from_any {eq = nat_eq} (λ x y d. eqb-true x y d) l support (from-reverse support l (filtered (λ l. nat_le constants l) (reverse support) l h).0))
      (λ a b. same a b);
  whole = λ p q alike. only-from ts f support enough p q (λ l there. elim (below-or constants l) [
    | inl less ↦ alike l (inl less)
    | inr more ↦ alike l (inr (into-filtered (λ l. nat_le constants l) (reverse support) l (listed-reverse support l there) more))
  ]);
})
