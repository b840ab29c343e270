-- The line that a refusal names.
use Rattle.std.specs.Prelude.{◌≡◌, ℕ, ◌+◌, ◌≤◌, List, length}
use Rattle.cb_model.specs.Tokens.{Token}
use Rattle.cb_model.specs.Grammar.{clause_start, line_of}
use Rattle.cb_syntax.specs.declared.read.Stop.{Stop}
use Rattle.cb_syntax.specs.declared.read.Stop.TheVariants.{Memory, Ended, Wrong, Deep}
use Rattle.cb_syntax.specs.declared.texts.ReadError.{ReadError}
use Rattle.cb_syntax.specs.declared.texts.ReadError.TheVariants as error

-- no more tokens are left than there are
abbrev pub IsPlace : ℕ → Stop → Type 0
IsPlace all Memory = Unit {0}
IsPlace all Ended = Unit {0}
IsPlace all (Wrong left) = left ≤ all
IsPlace all (Deep left) = left ≤ all

-- the refusal has the line of the token from which so many are left, or of the first behind the last dot
abbrev pub Names : List Token → Stop → ReadError → Type 0
Names ts Memory e = e ≡ error.Memory
Names ts Ended e = e ≡ error.Unfinished (line_of ts (clause_start 0 ts 0 (length ts)))
Names ts (Wrong left) e = (k : ℕ) → k + left ≡ length ts → e ≡ error.Syntax (line_of ts k)
Names ts (Deep left) e = (k : ℕ) → k + left ≡ length ts → e ≡ error.Deep (line_of ts k)
