-- Refusals: their numbers and their lines.
use Rattle.std.specs.Prelude.{◌≡◌, ℕ, List, [], ◌∷◌, ◌++◌, codes, decimal}
use Rattle.cb_model.specs.declared.Outcome.{Outcome}
use Rattle.cb_model.specs.declared.Outcome.TheVariants as outcome
use Rattle.cb_model.specs.Text.{Text}

-- a refusal: its number, the place that it names and its text
pub record Refused : Type 0 where
  pub number : ℕ
  pub place : Text
  pub text : Text

-- a refusal
abbrev pub refused : ℕ → Text → Text → Refused
refused n place text = record { number = n; place = place; text = text }

-- a place by its byte
abbrev pub at_byte : ℕ → Text
at_byte n = codes "byte " ++ decimal n ++ codes ": "

-- a place by its line
abbrev pub at_line : ℕ → Text
at_line n = codes "line " ++ decimal n ++ codes ": "

-- the words are of no form
abbrev pub usage : Refused
usage = refused 19 [] (codes "usage")

-- the file is longer than its limit
abbrev pub file_too_long : Refused
file_too_long = refused 20 [] (codes "file too long")

-- what is asked for isn't built yet
abbrev pub unbuilt : Refused
unbuilt = refused 99 [] (codes "not built yet")

-- the line of a refusal
abbrev pub refusal_line : Refused → Text
refusal_line r = codes "error: " ++ r.place ++ r.text

-- the refusal alone is said
abbrev pub Refuses : Refused → List Text → Outcome → Type 0
Refuses r lines answer = (lines ≡ refusal_line r ∷ []) × (answer ≡ outcome.Refused r.number)
