-- The line of a place, and the first token behind the last dot.
use Rattle.std.proofs.Common.{◌≡◌, ℕ, zero, suc, List, [], ◌∷◌, length, drop, refl, sym, ap}
use Rattle.cb_model.specs.Tokens.{Token}
use Rattle.cb_model.specs.Grammar.{clause_start, line_of}

pub line_there : (ts : List Token) (k : ℕ) (t : Token) (us : List Token) → drop k ts ≡ t ∷ us → t.line ≡ line_of ts k
line_there [] zero t us e = cc
line_there [] (suc k) t us e = cc
line_there (x ∷ xs) zero t us e = ap head_line (sym e)
  where
    head_line : List Token → ℕ
    head_line [] = 0
    head_line (y ∷ ys) = y.line
line_there (x ∷ xs) (suc k) t us e = line_there xs k t us e

pub line_behind : (ts : List Token) (k : ℕ) → drop k ts ≡ [] → 1 ≡ line_of ts k
line_behind [] zero e = refl
line_behind [] (suc k) e = refl
line_behind (x ∷ xs) zero e = cc
line_behind (x ∷ xs) (suc k) e = line_behind xs k e

-- the clause that the end of the tokens belongs to, where these are left
abbrev pub StartsAt : List Token → ℕ → ℕ → List Token → Type 0
StartsAt all start at ts = clause_start start ts at (length ts) ≡ clause_start 0 all 0 (length all)
