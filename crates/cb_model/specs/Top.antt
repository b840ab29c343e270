-- What the top call promises of the words.
use Rattle.std.specs.Prelude.{◌≡◌, ◌⊎◌, List, Option, Some, None}
use Rattle.cb_model.specs.declared.Outcome.{Outcome}
use Rattle.cb_model.specs.declared.Outcome.TheVariants as outcome
use Rattle.cb_model.specs.declared.Side.TheVariants as side
use Rattle.cb_model.specs.Text.{Text}
use Rattle.cb_model.specs.Commands.{Command, Check, Run, Verify, Same, Make, IsNumber, command_of}

-- words of no form are refused, unless the output fails, and no others are refused so, whatever the outside tells
pub record HasUsage (words : List Text) (result : Outcome) : Type 0 where
  pub refuses : command_of words ≡ None → (result ≡ outcome.Refused 19) ⊎ (result ≡ outcome.Fault side.Output)
  pub only : result ≡ outcome.Refused 19 → command_of words ≡ None

-- the budget of nodes that a command names is a number
abbrev pub NamesNumber : Option Command → Type 0
NamesNumber None = ⊥
NamesNumber (Some (Check f)) = ⊥
NamesNumber (Some (Run f r n)) = IsNumber n
NamesNumber (Some (Verify f x n)) = IsNumber n
NamesNumber (Some (Same f x y n)) = IsNumber n
NamesNumber (Some (Make b n)) = IsNumber n
