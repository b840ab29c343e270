-- What the lexer's inner functions answer.
use Rattle.std.specs.Prelude.{◌≡◌, ℕ, Bool, true, false, List, [], ◌∷◌, Option, Some, Result, MatchResult}
use Rattle.cb_model.specs.declared.Kind.{Kind}
use Rattle.cb_model.specs.Text.{Text}
use Rattle.cb_model.specs.Tokens.{Token, Fault, Lexes, Longest, InRange, is_layout}
use Rattle.cb_lex.specs.declared.LexError.{LexError}
use Rattle.cb_lex.specs.Faults.{fault_of}

-- the first byte passes a test
abbrev pub HeadPasses : (ℕ → Bool) → Text → Type 0
HeadPasses p [] = ⊥
HeadPasses p (x ∷ xs) = p x ≡ true

-- the text begins with neither layout nor a comment
abbrev pub IsSkipped : Text → Type 0
IsSkipped [] = Unit {0}
IsSkipped (x ∷ xs) = (is_layout x ≡ false) × (x ≡ 37 → ⊥)

-- the kind and the length of the token at the front of a text, or the fault of the text from this place on
abbrev pub Scans : ℕ → Text → Result (Kind × ℕ) LexError → Type 0
Scans at s result = MatchResult result (λ r. Longest s r.1 r.0 × InRange r.0) (λ e. (line : ℕ) → Lexes at line s [] (Some (fault_of e)))

-- the tokens from one place on are those from another
pub record SameTokens (at line : ℕ) (s : Text) (at' line' : ℕ) (s' : Text) : Type 0 where
  pub forth : (ts : List Token) (f : Option Fault) → Lexes at' line' s' ts f → Lexes at line s ts f
  pub back : (ts : List Token) (f : Option Fault) → Lexes at line s ts f → Lexes at' line' s' ts f
