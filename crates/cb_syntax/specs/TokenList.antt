-- The list of all tokens of a text.
use Rattle.std.specs.Prelude.{◌≡◌, ◌-◌, ◌<◌, ◌≤◌, List, Some, length, take, drop}
use Rattle.cb_model.specs.Text.{Text}
use Rattle.cb_model.specs.Tokens.{Token, Lexes}
use Rattle.cb_lex.specs.Faults.{fault_of}
use Rattle.cb_syntax.specs.declared.token_list.TokensError.{TokensError}
use Rattle.cb_syntax.specs.declared.token_list.TokensError.TheVariants as error

-- the error is the first fault of the text, or want of memory
abbrev pub HasFault : Text → TokensError → Type 0
HasFault s (error.Lex e) = (ts : List Token) × Lexes 0 1 s ts (Some (fault_of e))
HasFault s error.Memory = Unit {0}

-- the token is a part of the text
pub record IsWithin (source : Text) (t : Token) : Type 0 where
  pub some : t.start < t.stop
  pub within : t.stop ≤ length source
  pub text : t.text ≡ take (t.stop - t.start) (drop t.start source)
