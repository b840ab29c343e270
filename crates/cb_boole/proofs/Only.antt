-- On which levels a function depends.
use Rattle.std.proofs.Common.{◌≡◌, ◌≢◌, ◌⊎◌, inl, inr, ℕ, ◌<◌, Bool, true, false, ◌&&◌, List, [], ◌∷◌, refl, sym, ap₂, ◌∙◌, subst}
use Rattle.std.proofs.lemmas.Bool.{cases_eq}
use Rattle.cb_model.specs.Bits.{Bits, put, xor}
use Rattle.cb_boole.specs.Elimination.{Function, both, mended, rest, solved, DependsOnly, AreAlike}
use Rattle.cb_boole.proofs.Point.{put_same, put_other}
use Rattle.cb_boole.specs.Elimination.{IsAway}

put_alike_at : (P : ℕ → Type 0) (p q : Bits) (l : ℕ) (b c : Bool) → AreAlike P p q → (P l → b ≡ c) →
    (k : ℕ) → P k → (k ≡ l) ⊎ (k ≡ l → ⊥) → put l b p k ≡ put l c q k
put_alike_at P p q l b c h e k w (inl same) =
    subst (λ j. put l b p j ≡ put l c q j) (sym same) (put_same p l b ∙ e (subst P same w) ∙ sym (put_same q l c))
put_alike_at P p q l b c h e k w (inr ne) = put_other p l b k ne ∙ h k w ∙ sym (put_other q l c k ne)

pub put_alike : (P : ℕ → Type 0) (p q : Bits) (l : ℕ) (b c : Bool) → AreAlike P p q → (P l → b ≡ c) → AreAlike P (put l b p) (put l c q)
put_alike P p q l b c h e k w = put_alike_at P p q l b c h e k w (cases_eq k l)

pub both_only : (P : ℕ → Type 0) (l : ℕ) (f : Function) → DependsOnly P f → DependsOnly P (both l f)
unfolding both
both_only P l f only p q h =
    ap₂ ◌&&◌ (only (put l false p) (put l false q) (put_alike P p q l false false h (λ w. refl)))
    (only (put l true p) (put l true q) (put_alike P p q l true true h (λ w. refl)))

pub mended_alike : (P : ℕ → Type 0) (l : ℕ) (f : Function) → DependsOnly P f → (p q : Bits) → AreAlike P p q → AreAlike P (mended l f p) (mended l f q)
unfolding mended
mended_alike P l f only p q h =
    put_alike P p q l (xor (f p) (p l)) (xor (f q) (q l)) h (λ w. ap₂ xor (only p q h) (h l w))

pub solved_alike : (P : ℕ → Type 0) (ls : List ℕ) (f : Function) → DependsOnly P f → (p q : Bits) → AreAlike P p q → AreAlike P (solved ls f p) (solved ls f q)
unfolding solved
solved_alike P [] f only p q h = h
solved_alike P (l ∷ ls) f only p q h =
    mended_alike P l f only (solved ls (both l f) p) (solved ls (both l f) q) (solved_alike P ls (both l f) (both_only P l f only) p q h)

pub rest_only : (P : ℕ → Type 0) (ls : List ℕ) (f : Function) → DependsOnly P f → DependsOnly P (rest ls f)
unfolding rest
rest_only P [] f only = only
rest_only P (l ∷ ls) f only = rest_only P ls (both l f) (both_only P l f only)

-- below a number, or in the list
abbrev pub IsHeld : ℕ → List ℕ → ℕ → Type 0
IsHeld c [] k = k < c
IsHeld c (l ∷ ls) k = (k ≡ l) ⊎ IsHeld c ls k

held_alike_at : (P : ℕ → Type 0) (p q : Bits) (l : ℕ) (b : Bool) → AreAlike P p q → (k : ℕ) → (k ≡ l) ⊎ P k → (k ≡ l) ⊎ (k ≡ l → ⊥) → put l b p k ≡ put l b q k
held_alike_at P p q l b h k w (inl same) =
    subst (λ j. put l b p j ≡ put l b q j) (sym same) (put_same p l b ∙ sym (put_same q l b))
held_alike_at P p q l b h k (inl same) (inr ne) = absurd (ne same)
held_alike_at P p q l b h k (inr w) (inr ne) = put_other p l b k ne ∙ h k w ∙ sym (put_other q l b k ne)

pub both_drops : (P : ℕ → Type 0) (l : ℕ) (f : Function) → DependsOnly (λ k. (k ≡ l) ⊎ P k) f → DependsOnly P (both l f)
unfolding both
both_drops P l f only p q h =
    ap₂ ◌&&◌ (only (put l false p) (put l false q) (λ k w. held_alike_at P p q l false h k w (cases_eq k l)))
    (only (put l true p) (put l true q) (λ k w. held_alike_at P p q l true h k w (cases_eq k l)))

-- what is left depends on the constants alone
pub rest_held : (c : ℕ) (ls : List ℕ) (f : Function) → DependsOnly (IsHeld c ls) f → DependsOnly (λ k. k < c) (rest ls f)
unfolding rest
rest_held c [] f only = only
rest_held c (l ∷ ls) f only = rest_held c ls (both l f) (both_drops (IsHeld c ls) l f only)

pub weaker : (P Q : ℕ → Type 0) (f : Function) → DependsOnly P f → ((k : ℕ) → P k → Q k) → DependsOnly Q f
weaker P Q f only w p q h = only p q (λ k v. h k (w k v))

away_or : (P : ℕ → Type 0) (l k : ℕ) → P k → (k ≡ l) ⊎ (k ≡ l → ⊥) → (k ≡ l) ⊎ (P k × (k ≢ l))
away_or P l k h (inl e) = inl e
away_or P l k h (inr ne) = inr (h, ne)

-- what is left depends on none of the levels
pub rest_drops : (P : ℕ → Type 0) (ls : List ℕ) (f : Function) → DependsOnly P f → DependsOnly (λ k. P k × IsAway k ls) (rest ls f)
unfolding rest
rest_drops P [] f only = weaker P (λ k. P k × Unit {0}) f only (λ k h. (h, tt))
rest_drops P (l ∷ ls) f only =
    weaker (λ k. (P k × (k ≢ l)) × IsAway k ls) (λ k. P k × ((k ≢ l) × IsAway k ls)) (rest ls (both l f))
    (rest_drops (λ k. P k × (k ≢ l)) ls (both l f)
    (both_drops (λ k. P k × (k ≢ l)) l f
    (weaker P (λ k. (k ≡ l) ⊎ (P k × (k ≢ l))) f only (λ k h. away_or P l k h (cases_eq k l)))))
    (λ k h. (h.0.0, (h.0.1, h.1)))
