-- What the errors say.
use Rattle.std.specs.Prelude.{◌≡◌, ℕ, Bool, true, false, Option, Some, None}
use Rattle.std.specs.Borrow.{Bor}
use Rattle.cb_model.specs.declared.Sort.{Sort}
use Rattle.cb_model.specs.declared.Sort.TheVariants as sort
use Rattle.cb_model.specs.declared.When.{When}
use Rattle.cb_model.specs.declared.When.TheVariants as when
use Rattle.cb_model.specs.Grammar.{Form, Name, Last}
use Rattle.cb_model.specs.Directives.{Refusal, BadDirective, SortClash, Unknown, Twice}
use Rattle.cb_directives.specs.declared.fault.Fault.{Fault}
use Rattle.cb_directives.specs.declared.fault.Fault.TheVariants as fault
use Rattle.cb_directives.specs.declared.fault.LoadError.{LoadError}
use Rattle.cb_directives.specs.declared.fault.LoadError.TheVariants as error

-- the error tells this refusal with its line; want of memory tells nothing
abbrev pub Tells : LoadError → Option (Refusal × ℕ) → Type 0
Tells (error.Directive n) r = r ≡ Some (BadDirective, n)
Tells (error.SortClash n) r = r ≡ Some (SortClash, n)
Tells (error.Unknown n) r = r ≡ Some (Unknown, n)
Tells (error.Twice n) r = r ≡ Some (Twice, n)
Tells error.Memory r = Unit {0}

-- the error of an argument on this line
abbrev pub error_at : ℕ → Fault → LoadError
error_at n fault.Directive = error.Directive n
error_at n fault.Unknown = error.Unknown n
error_at n fault.Twice = error.Twice n
error_at n fault.Memory = error.Memory

-- the fault is this refusal; want of memory says nothing
abbrev pub IsFault : Fault → Option Refusal → Type 0
IsFault fault.Directive r = r ≡ Some BadDirective
IsFault fault.Unknown r = r ≡ Some Unknown
IsFault fault.Twice r = r ≡ Some Twice
IsFault fault.Memory r = Unit {0}

-- a list of words has something that is no word, or there was no memory
abbrev pub IsNone : {A : Type 0} → Fault → Option A → Type 0
IsNone fault.Directive r = r ≡ None
IsNone fault.Unknown r = ⊥
IsNone fault.Twice r = ⊥
IsNone fault.Memory r = Unit {0}

-- whether a form is a name without arguments
abbrev pub is_atom : Form → Bool
is_atom (Name x Last) = true
is_atom _ = false

-- whether the word is `nonvar` and the sort `bool`
abbrev pub is_nonvar_bool : When → Sort → Bool
is_nonvar_bool when.Nonvar sort.Bool = true
is_nonvar_bool _ _ = false

-- the same where there may be no sort
abbrev pub is_nonvar_at : When → Option (Bor Sort) → Bool
is_nonvar_at w None = false
is_nonvar_at w (Some s) = is_nonvar_bool w s.now
