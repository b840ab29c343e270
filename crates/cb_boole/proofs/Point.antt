-- A point with a bit put in.
use Rattle.std.proofs.Common.{◌≡◌, ◌≢◌, ◌⊎◌, inl, inr, ℕ, Bool, refl, sym, ◌∙◌, subst, eq-eqb}
use Rattle.std.proofs.lemmas.Bool.{ne_eqb, cases_eq}
use Rattle.std.proofs.Math.Path.{fun_ext}
use Rattle.cb_model.specs.Bits.{Bits, put}

pub put_same : (p : Bits) (l : ℕ) (b : Bool) → put l b p l ≡ b
put_same p l b = rw (eq-eqb l l refl)

pub put_other : (p : Bits) (l : ℕ) (b : Bool) (k : ℕ) → k ≢ l → put l b p k ≡ p k
put_other p l b k h = rw (ne_eqb k l h)

put_ext_at : (p q : Bits) (l : ℕ) (b : Bool) → b ≡ q l → ((k : ℕ) → k ≢ l → p k ≡ q k) → (k : ℕ) → (k ≡ l) ⊎ (k ≡ l → ⊥) → put l b p k ≡ q k
put_ext_at p q l b here away k (inl e) = subst (λ j. put l b p j ≡ q j) (sym e) (put_same p l b ∙ here)
put_ext_at p q l b here away k (inr ne) = put_other p l b k ne ∙ away k ne

-- by cases: what stands at the level, and what stands elsewhere
pub put_ext : (p q : Bits) (l : ℕ) (b : Bool) → b ≡ q l → ((k : ℕ) → k ≢ l → p k ≡ q k) → put l b p ≡ q
put_ext p q l b here away = fun_ext (λ k. put_ext_at p q l b here away k (cases_eq k l))

pub put_own : (p : Bits) (l : ℕ) → put l (p l) p ≡ p
put_own p l = put_ext p p l (p l) refl (λ k h. refl)
