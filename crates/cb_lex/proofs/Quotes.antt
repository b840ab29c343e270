-- The longest match of a quoted atom, and that no token begins at a quote that nothing closes.
use Rattle.std.specs.Prelude.{◌==◌, if◌then◌else◌}
use Rattle.std.proofs.lemmas.Bool.Decides.{eqb_tells}
use Rattle.std.proofs.Common.{◌≡◌, ℕ, suc, zero, ◌<◌, ◌≤◌, ◌≢◌, Bool, true, false, [], ◌∷◌, length, get_or, take, refl, ap, subst, arith, ⊎_elim}
use Rattle.cb_model.specs.Text.{Text}
use Rattle.cb_model.specs.Tokens.{is_quoted, is_quotable}
use Rattle.cb_lex.proofs.Bools.{both, and_false, false_and}
use Rattle.cb_lex.proofs.Runs.{run}

no_quote : (x : ℕ) → is_quotable x ≡ true → (x == 39) ≡ false
no_quote x h = ⊎_elim (λ t. let g : is_quotable 39 ≡ true = subst (λ y. is_quotable y ≡ true) t.1 h in absurd (cc)) (λ t. t.0) (eqb_tells x 39)

-- one byte in front that may stand in quotes
one_more : (b : Bool) (x : ℕ) (s : Text) → is_quotable x ≡ true → is_quoted s ≡ b → is_quoted (x ∷ s) ≡ b
one_more true x [] h g = absurd (cc)
one_more false x [] h g = no_quote x h
one_more true x (y ∷ s) h g = both (is_quotable x) (is_quoted (y ∷ s)) h g
one_more false x (y ∷ s) h g = and_false (is_quotable x) (is_quoted (y ∷ s)) g

-- the run of bytes that may stand in quotes, and then a quote
pub closes : (s : Text) → run is_quotable s < length s → get_or s (run is_quotable s) 0 ≡ 39 → is_quoted (take (suc (run is_quotable s)) s) ≡ true
closes [] lt e = absurd (omega arith)
closes (x ∷ s) lt e = by (is_quotable x) refl (closes s) lt e
  where
    by : (b : Bool) → is_quotable x ≡ b → (run is_quotable s < length s → get_or s (run is_quotable s) 0 ≡ 39 → is_quoted (take (suc (run is_quotable s)) s) ≡ true) →
        (if b then suc (run is_quotable s) else 0) < length (x ∷ s) → get_or (x ∷ s) (if b then suc (run is_quotable s) else 0) 0 ≡ 39 → is_quoted (take (suc (if b then suc (run is_quotable s) else 0)) (x ∷ s)) ≡ true
    by true p h lt e = one_more true x (take (suc (run is_quotable s)) s) p (h (omega arith) e)
    by false p h lt e = ap (λ y. y == 39) e

-- no longer front is a quoted atom
pub past_quote : (s : Text) (m : ℕ) → get_or s (run is_quotable s) 0 ≡ 39 → suc (run is_quotable s) < m → m ≤ length s → is_quoted (take m s) ≡ false
past_quote [] m e lt le = absurd (omega arith)
past_quote (x ∷ s) zero e lt le = absurd (omega arith)
past_quote (x ∷ s) (suc m) e lt le = by (is_quotable x) refl (past_quote s m) e lt
  where
    by : (b : Bool) → is_quotable x ≡ b → (get_or s (run is_quotable s) 0 ≡ 39 → suc (run is_quotable s) < m → m ≤ length s → is_quoted (take m s) ≡ false) →
        get_or (x ∷ s) (if b then suc (run is_quotable s) else 0) 0 ≡ 39 → suc (if b then suc (run is_quotable s) else 0) < suc m → is_quoted (x ∷ take m s) ≡ false
    by true p h e lt = one_more false x (take m s) p (h e (omega arith) (omega arith))
    by false p h e lt = more s m p (omega arith) (omega arith)
      where
        more : (s : Text) (m : ℕ) → is_quotable x ≡ false → 0 < m → m ≤ length s → is_quoted (x ∷ take m s) ≡ false
        more [] m p lt le = absurd (omega arith)
        more (y ∷ s) zero p lt le = absurd (omega arith)
        more (y ∷ s) (suc m) p lt le = false_and (is_quotable x) (is_quoted (y ∷ take m s)) p

-- behind the run comes no quote
abbrev pub Unclosed : Text → ℕ → Type 0
Unclosed s n = n < length s → get_or s n 0 ≢ 39

-- then no front is a quoted atom
pub never_closes : (s : Text) (m : ℕ) → Unclosed s (run is_quotable s) → is_quoted (take m s) ≡ false
never_closes s zero u = refl
never_closes [] (suc m) u = refl
never_closes (x ∷ s) (suc m) u = by (is_quotable x) refl (never_closes s m) u
  where
    by : (b : Bool) → is_quotable x ≡ b → (Unclosed s (run is_quotable s) → is_quoted (take m s) ≡ false) → Unclosed (x ∷ s) (if b then suc (run is_quotable s) else 0) → is_quoted (x ∷ take m s) ≡ false
    by true p h u = one_more false x (take m s) p (h (λ lt. u (omega arith)))
    by false p h u = last (take m s) p (u (omega arith))
      where
        last : (t : Text) → is_quotable x ≡ false → x ≢ 39 → is_quoted (x ∷ t) ≡ false
        last [] p d = ⊎_elim (λ t. absurd (d t.1)) (λ t. t.0) (eqb_tells x 39)
        last (y ∷ t) p d = false_and (is_quotable x) (is_quoted (y ∷ t)) p
