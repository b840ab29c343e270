-- What holds of the tokens of every text.
use Rattle.std.specs.Prelude.{◌≡◌, ℕ, List, Option}
use Rattle.cb_model.specs.Text.{Text}
use Rattle.cb_model.specs.Tokens.{Token, Fault, Lexes}

-- a text has one list of tokens, and one fault or none
abbrev pub OneTokenList : Type 0
OneTokenList = (at line : ℕ) (s : Text) (ts us : List Token) (f g : Option Fault) → Lexes at line s ts f → Lexes at line s us g → (ts ≡ us) × (f ≡ g)
