-- One leaf: its parametric function picks the parameter's bit where that is allowed.
use Rattle.std.proofs.Common.{◌≡◌, ◌⊎◌, inl, inr, ℕ, Bool, true, false, not, List, [], ◌∷◌, ◌++◌, if◌then◌else◌, refl, sym, ap, ◌∙◌}
use Rattle.std.proofs.lemmas.Bool.{cases_Bool, true≢false}
use Rattle.std.proofs.Math.Path.{fun_ext}
use Rattle.cb_model.specs.Bits.{Bits}
use Rattle.cb_model.specs.Answers.{Picks}
use Rattle.cb_boole.specs.Elimination.{Function, rest, solved, IsAway, DependsOnly}
use Rattle.cb_boole.proofs.Chain.{solved_sound, solved_off, rest_false, rest_true}
use Rattle.cb_boole.proofs.Only.{rest_drops, weaker}
use Rattle.cb_boole.specs.Parametric.{parametric}
use Rattle.cb_boole.specs.Laws.{CanBe, LeafIsPicked}

abbrev pub negated : Function → Function
negated f q = not (f q)

not_false : (b : Bool) → not b ≡ false → b ≡ true
not_false true h = refl
not_false false h = cc

not_true : (b : Bool) → not b ≡ true → b ≡ false
not_true true h = cc
not_true false h = refl

-- what is left depends on the levels that stay
pub rest_settled : (H : ℕ → Type 0) (ls : List ℕ) (f : Function) → DependsOnly (λ k. H k ⊎ (IsAway k ls → ⊥)) f → DependsOnly H (rest ls f)
rest_settled H ls f only =
    weaker (λ k. (H k ⊎ (IsAway k ls → ⊥)) × IsAway k ls) H (rest ls f) (rest_drops (λ k. H k ⊎ (IsAway k ls → ⊥)) ls f only) (λ k h. stays k h.0 h.1)
  where
    stays : (k : ℕ) → H k ⊎ (IsAway k ls → ⊥) → IsAway k ls → H k
    stays k (inl w) away = w
    stays k (inr there) away = absurd (there away)

pub negated_only : (P : ℕ → Type 0) (f : Function) → DependsOnly P f → DependsOnly P (negated f)
negated_only P f only p q h = ap not (only p q h)

pub parametric_only : (H H' : ℕ → Type 0) (ls : List ℕ) (u : ℕ) (f : Function) → DependsOnly (λ k. H k ⊎ (IsAway k ls → ⊥)) f →
    ((k : ℕ) → H k → H' k) → H' u → DependsOnly H' (parametric ls u f)
unfolding parametric
parametric_only H H' ls u f only more own p q h =
    ap (λ b. if b then not (rest ls (negated f) p) else rest ls f p) (h u own) ∙
    ap (λ v. if q u then not v else rest ls f p) (rest_settled H ls (negated f) (negated_only (λ k. H k ⊎ (IsAway k ls → ⊥)) f only) p q (λ k w. h k (more k w))) ∙
    ap (λ v. if q u then not (rest ls (negated f) q) else v) (rest_settled H ls f only p q (λ k w. h k (more k w)))

-- where nothing is left, some bits of the levels make the function 0
pub made_false : (ls : List ℕ) (f : Function) (p : Bits) → rest ls f p ≡ false → (q : Bits) × ((k : ℕ) → IsAway k ls → q k ≡ p k) × (f q ≡ false)
made_false ls f p h = (solved ls f p, solved_off ls f p, solved_sound ls f p h)

pub made_true : (ls : List ℕ) (f : Function) (p : Bits) → rest ls (negated f) p ≡ false → (q : Bits) × ((k : ℕ) → IsAway k ls → q k ≡ p k) × (f q ≡ true)
made_true ls f p h = let w = made_false ls (negated f) p h in (w.0, w.1, not_false (f w.0) w.2)

-- and some bits of the levels always make it what the parametric function is
pub made : (ls : List ℕ) (u : ℕ) (f : Function) (p : Bits) → (q : Bits) × ((k : ℕ) → IsAway k ls → q k ≡ p k) × (f q ≡ parametric ls u f p)
unfolding parametric
made ls u f p = at (p u) (cases_Bool (p u)) (rest ls (negated f) p) refl (rest ls f p) refl
  where
    at : (y : Bool) → (y ≡ true) ⊎ (y ≡ false) → (s : Bool) → rest ls (negated f) p ≡ s → (t : Bool) → rest ls f p ≡ t →
        (q : Bits) × ((k : ℕ) → IsAway k ls → q k ≡ p k) × (f q ≡ (if y then not s else t))
    at true d false e t e' = made_true ls f p e
    at true d true e t e' = (p, (λ k w. refl), not_true (f p) (rest_true ls (negated f) p e))
    at false d s e false e' = made_false ls f p e'
    at false d s e true e' = (p, (λ k w. refl), rest_true ls f p e')

-- what the pick is, where a relation allows a bit exactly where the function can have it
pub picks : (R : List Bool → Type 0) (prefix : List Bool) (ls : List ℕ) (u : ℕ) (f : Function) (p : Bits) →
    ((y : Bool) → (q : Bits) → ((k : ℕ) → IsAway k ls → q k ≡ p k) → f q ≡ y → R (prefix ++ y ∷ [])) →
    (R (prefix ++ true ∷ []) → rest ls (negated f) p ≡ false) →
    (R (prefix ++ false ∷ []) → rest ls f p ≡ false) →
    Picks R prefix (p u) (parametric ls u f p)
unfolding parametric
picks R prefix ls u f p can one zero = at (p u) (rest ls (negated f) p) refl (rest ls f p) refl
  where
    at : (y : Bool) → (s : Bool) → rest ls (negated f) p ≡ s → (t : Bool) → rest ls f p ≡ t → Picks R prefix y (if y then not s else t)
    at true false e t e' = let w = made_true ls f p e in inl (can true w.0 w.1 w.2, refl)
    at true true e t e' = inr ((λ r. true≢false (sym e ∙ one r)), refl)
    at false s e false e' = let w = made_false ls f p e' in inl (can false w.0 w.1 w.2, refl)
    at false s e true e' = inr ((λ r. true≢false (sym e' ∙ zero r)), refl)

-- what is left is the same for all bits of the levels
rest_same : (ls : List ℕ) (f : Function) (p q : Bits) → ((k : ℕ) → IsAway k ls → q k ≡ p k) → rest ls f q ≡ rest ls f p
rest_same ls f p q same = rest_drops (λ k. Unit {0}) ls f (λ a b h. ap f (fun_ext (λ k. h k tt))) q p (λ k h. same k h.1)

one_head : (x y : Bool) → x ∷ [] ≡ y ∷ [] → y ≡ x
one_head x y h = cc

pub leaf_is_picked : LeafIsPicked
leaf_is_picked ls u f p = picks (CanBe ls f p) [] ls u f p
    (λ y q same e. record { at = q; same = same; bit = ap (λ b. b ∷ []) (sym e) })
    (λ r. sym (rest_same ls (negated f) p r.at r.same) ∙ rest_false ls (negated f) r.at (ap not (one_head true (f r.at) r.bit)))
    (λ r. sym (rest_same ls f p r.at r.same) ∙ rest_false ls f r.at (one_head false (f r.at) r.bit))
