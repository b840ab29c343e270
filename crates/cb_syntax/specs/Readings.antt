-- What a text is read as, where it is refused.
use Rattle.std.specs.Prelude.{◌≡◌, List}
use Rattle.cb_model.specs.Text.{Text}
use Rattle.cb_model.specs.Tokens.{Token}
use Rattle.cb_model.specs.Grammar.{IsReading, Lexed, Syntax, Unfinished, Deep}
use Rattle.cb_lex.specs.Faults.{fault_of}
use Rattle.cb_syntax.specs.declared.token_list.TokensError.{TokensError}
use Rattle.cb_syntax.specs.declared.token_list.TokensError.TheVariants as fault
use Rattle.cb_syntax.specs.declared.texts.ReadError.{ReadError}
use Rattle.cb_syntax.specs.declared.texts.ReadError.TheVariants as error

-- the text is read as what the error says, or memory is wanting
abbrev pub IsRefused : {A : Type 0} → (List Token → List Token → A → Type 0) → Text → ReadError → Type 0
IsRefused R source (error.Lex e) = IsReading R source (Lexed (fault_of e))
IsRefused R source (error.Syntax line) = IsReading R source (Syntax line)
IsRefused R source (error.Unfinished line) = IsReading R source (Unfinished line)
IsRefused R source (error.Deep line) = IsReading R source (Deep line)
IsRefused R source error.Memory = Unit {0}

-- the same fault
abbrev pub IsSame : TokensError → ReadError → Type 0
IsSame (fault.Lex e) r = r ≡ error.Lex e
IsSame fault.Memory r = r ≡ error.Memory
