-- How far a class of bytes goes on.
use Rattle.std.specs.Prelude.{◌&&◌, if◌then◌else◌, cond}
use Rattle.std.specs.List.{list_all, prefix_len}
use Rattle.std.proofs.Common.{◌≡◌, ℕ, suc, zero, ◌+◌, ◌<◌, ◌≤◌, Bool, true, false, [], ◌∷◌, length, take, refl, ap, arith}
use Rattle.cb_lex.proofs.Bools.{and_false, false_and, both}
use Rattle.cb_model.specs.Text.{Text}

-- how many bytes pass, by a recursion that computes
abbrev pub run : (ℕ → Bool) → Text → ℕ
run p [] = 0
run p (x ∷ xs) = if p x then suc (run p xs) else 0

pub run-prefix_len : (p : ℕ → Bool) (s : Text) → prefix_len p s ≡ run p s
run-prefix_len p [] = refl
run-prefix_len p (x ∷ xs) = by (p x) (run-prefix_len p xs)
  where
    by : (b : Bool) → prefix_len p xs ≡ run p xs → cond b (1 + prefix_len p xs) 0 ≡ (if b then suc (run p xs) else 0)
    by true h = omega arith
    by false h = refl

pub run_yes : (p : ℕ → Bool) (x : ℕ) (xs : Text) → p x ≡ true → run p (x ∷ xs) ≡ suc (run p xs)
run_yes p x xs h = ap (λ b. if b then suc (run p xs) else 0) h

pub run_no : (p : ℕ → Bool) (x : ℕ) (xs : Text) → p x ≡ false → run p (x ∷ xs) ≡ 0
run_no p x xs h = ap (λ b. if b then suc (run p xs) else 0) h

pub run_within : (p : ℕ → Bool) (s : Text) → run p s ≤ length s
run_within p [] = omega arith
run_within p (x ∷ xs) = by (p x) (run_within p xs)
  where
    by : (b : Bool) → run p xs ≤ length xs → (if b then suc (run p xs) else 0) ≤ suc (length xs)
    by true h = omega arith
    by false h = omega arith

-- the run passes
pub run_all : (p : ℕ → Bool) (s : Text) → list_all p (take (run p s) s) ≡ true
run_all p [] = refl
run_all p (x ∷ xs) = by (p x) refl (run_all p xs)
  where
    by : (b : Bool) → p x ≡ b → list_all p (take (run p xs) xs) ≡ true → list_all p (take (if b then suc (run p xs) else 0) (x ∷ xs)) ≡ true
    by true e h = both (p x) (list_all p (take (run p xs) xs)) e h
    by false e h = refl

-- and no longer front does
pub run_past : (p : ℕ → Bool) (s : Text) (m : ℕ) → run p s < m → m ≤ length s → list_all p (take m s) ≡ false
run_past p [] m lt le = absurd (omega arith)
run_past p (x ∷ xs) zero lt le = absurd (omega arith)
run_past p (x ∷ xs) (suc m) lt le = by (p x) refl lt (λ less. run_past p xs m less (omega arith))
  where
    by : (b : Bool) → p x ≡ b → (if b then suc (run p xs) else 0) < suc m → (run p xs < m → list_all p (take m xs) ≡ false) → (p x && list_all p (take m xs)) ≡ false
    by true e lt h = and_false (p x) (list_all p (take m xs)) (h (omega arith))
    by false e lt h = false_and (p x) (list_all p (take m xs)) e
