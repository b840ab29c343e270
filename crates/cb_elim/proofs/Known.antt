-- Which nodes are known, and which are constant.
use Rattle.std.proofs.Common.{◌≡◌, inl, inr, ◌↔◌, ℕ, ◌<◌, ◌≤◌, Bool, true, false, List, length, get_or, nat_eq, Some, None, sym, ap, subst, ◌∙◌, arith, not-le_of_lt}
use Rattle.std.specs.Prelude.{Contains}
use Rattle.std.proofs.lemmas.Bool.{cases_lt, eqb-true}
use Rattle.std.proofs.lemmas.Option.{same_Some, slice_get-get_or}
use Rattle.std.proofs.lemmas.Map.Views.{Contains-from_any}
use Rattle.cb_model.specs.Bits.{Bits, put}
use Rattle.cb_dd.specs.declared.Triple.{Triple}
use Rattle.cb_dd.specs.Diagram.{IsNode, IsCanonical, function_of}
use Rattle.cb_dd.proofs.Diagrams.{function_of-zero, function_of-one}
use Rattle.cb_ops.specs.Ops.{DependsOn, IsFree}
use Rattle.cb_boole.specs.Elimination.{DependsOnly}
use Rattle.cb_boole.proofs.Point.{put_other}
use Rattle.cb_solution.proofs.Solved.{only-from}

-- an item within a list doesn't hang on the default
same-item : (xs : List ℕ) (k d e : ℕ) → k < length xs → get_or xs k d ≡ get_or xs k e
same-item xs k d e h = let a = slice_get-get_or xs k d h in let b = slice_get-get_or xs k e h in cc (a, b)

module _ (ts : List Triple) (f c : ℕ) (support : List ℕ) (enough : DependsOn ts f support) (needed : (l : ℕ) → Contains support l → IsFree ts f l → ⊥) where
  pub known-below : ((k : ℕ) → k < length support → get_or support k 0 < c) → DependsOnly (λ l. l < c) (function_of ts f)
  known-below all p q alike = only-from ts f support enough p q (λ l there.
      let w = Contains-from_any {eq = nat_eq} (λ x y d. eqb-true x y d) l support there in
      let below : get_or support w.0 0 < c = all w.0 w.1 in
      let e : get_or support w.0 0 ≡ l = same-item support w.0 0 l w.1 ∙ w.2 in
      alike l (subst (λ j. j < c) e below))

  pub below-known : DependsOnly (λ l. l < c) (function_of ts f) → (k : ℕ) → k < length support → get_or support k 0 < c
  below-known only k h = elim (cases_lt (get_or support k 0) c) [
    | inl less ↦ less
    | inr more ↦ absurd (needed (get_or support k 0) (k, h, same-item support k (get_or support k 0) 0 h)
        (λ a b. only (put (get_or support k 0) b a) a (λ j w. put_other a (get_or support k 0) b j (λ e. not-le_of_lt w (subst (λ i. c ≤ i) (sym e) more)))))
  ]

module _ (ts : List Triple) (f : ℕ) where
  pub zero-const : f ≡ 0 → (b : Bool) → (Some false ≡ Some b) ↔ ((p : Bits) → function_of ts f p ≡ b)
  zero-const e b = (
    (λ s p. ap (λ n. function_of ts n p) e ∙ function_of-zero ts p ∙ same_Some false b s),
    (λ h. ap (λ (x : Bool). Some x) (sym (function_of-zero ts (λ l. false)) ∙ ap (λ n. function_of ts n (λ l. false)) (sym e) ∙ h (λ l. false))),
  )

  pub one-const : f ≡ 1 → (b : Bool) → (Some true ≡ Some b) ↔ ((p : Bits) → function_of ts f p ≡ b)
  one-const e b = (
    (λ s p. ap (λ n. function_of ts n p) e ∙ function_of-one ts p ∙ same_Some true b s),
    (λ h. ap (λ (x : Bool). Some x) (sym (function_of-one ts (λ l. false)) ∙ ap (λ n. function_of ts n (λ l. false)) (sym e) ∙ h (λ l. false))),
  )

  no-const : IsCanonical ts → IsNode ts f → 2 ≤ f → (b : Bool) → ((p : Bits) → function_of ts f p ≡ b) → ⊥
  no-const canonical w h false all = let e : f ≡ 0 = (canonical f 0 w (omega arith)).1 (λ p. all p ∙ sym (function_of-zero ts p)) in omega arith
  no-const canonical w h true all = let e : f ≡ 1 = (canonical f 1 w (omega arith)).1 (λ p. all p ∙ sym (function_of-one ts p)) in omega arith

  pub none-const : IsCanonical ts → IsNode ts f → 2 ≤ f → (b : Bool) → (None ≡ Some b) ↔ ((p : Bits) → function_of ts f p ≡ b)
  none-const canonical w h b = ((λ s. absurd (clash b s)), (λ all. absurd (no-const canonical w h b all)))
    where
      clash : (b : Bool) → None ≡ Some b → ⊥
      clash b s = cc
