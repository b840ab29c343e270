-- What a lexer has still to read.
use Rattle.std.specs.Prelude.{◌≡◌, ℕ, List, [], ◌∷◌, Option, Some, None, take, drop, ◌-◌, ◌<◌, ◌≤◌, length}
use Rattle.cb_model.specs.Text.{Text}
use Rattle.cb_model.specs.Tokens.{Token, Fault, Lexes}
use Rattle.cb_lex.specs.declared.LexError.{LexError}
use Rattle.cb_lex.specs.Faults.{fault_of}

-- a place in a text and its line, and the fault there once it was answered
pub record Place : Type 0 where
  pub source : Text
  pub at : ℕ
  pub line : ℕ
  pub fault : Option LexError

-- the tokens and the fault from a place on
abbrev pub Left : Place → List Token → Option Fault → Type 0
Left p ts f = left p.fault
  where
    left : Option LexError → Type 0
    left None = Lexes p.at p.line (drop p.at p.source) ts f
    left (Some e) = (ts ≡ []) × (f ≡ Some (fault_of e))

-- what is left begins with this token, and goes on as what is left then
pub record IsFirst (old : Place) (t : Token) (new : Place) : Type 0 where
  pub forth : (ts : List Token) (f : Option Fault) → Left new ts f → Left old (t ∷ ts) f
  pub back : (ts : List Token) (f : Option Fault) → Left old ts f → (us : List Token) × (ts ≡ t ∷ us) × Left new us f

-- the token lies in the text behind a place, and the next place is its end
pub record IsSpan (old : Place) (t : Token) (new : Place) : Type 0 where
  pub behind : old.at ≤ t.start
  pub some : t.start < t.stop
  pub within : t.stop ≤ length old.source
  pub text : t.text ≡ take (t.stop - t.start) (drop t.start old.source)
  pub next : new.at ≡ t.stop
