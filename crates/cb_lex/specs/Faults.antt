-- The faults of a text as the lexer answers them.
use Rattle.cb_model.specs.Tokens.{Fault, Byte, Number, Quote}
use Rattle.cb_lex.specs.declared.LexError.{LexError}
use Rattle.cb_lex.specs.declared.LexError.TheVariants as error

-- the fault that an error reports
abbrev pub fault_of : LexError → Fault
fault_of (error.Byte n) = Byte n
fault_of (error.Number n) = Number n
fault_of (error.Quote n) = Quote n
