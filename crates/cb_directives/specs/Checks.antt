-- The arguments of directives, checked one after another.
use Rattle.std.specs.Prelude.{◌≡◌, ℕ, Bool, not, ◌||◌, ◌==◌, List, [], map, filter}
use Rattle.cb_model.specs.Text.{Text}
use Rattle.cb_model.specs.declared.When.{When}
use Rattle.cb_model.specs.declared.RawTerm.{RawTerm}
use Rattle.cb_model.specs.Grammar.{FormClause}
use Rattle.cb_model.specs.Forms.{form_of, forms_of}
use Rattle.cb_model.specs.Directives.{Sign, has_sign, reserved, nonvar_at_bool, sorts_of, Declared, Declares, Argument, argument, arguments, all_arguments, delay_argument, is_delay, Checked, check_arguments}
use Rattle.cb_directives.specs.declared.fault.LoadError.{LoadError}
use Rattle.cb_directives.specs.Refusals.{Tells}

-- how an argument of a directive other than `delay` is checked
abbrev pub check_other : Argument → Declared → Declares
check_other a d = argument a.word d a.form

-- how an argument of `delay` is checked
abbrev pub check_delay : List Sign → Argument → Declared → Declares
check_delay heads a d = delay_argument heads d a.form

-- whether goals of this name may not wait in this way
abbrev pub never_waits : Declared → Sign → List When → Bool
never_waits d a ws = has_sign reserved a || a.1 == 0 || nonvar_at_bool ws (sorts_of d a) || has_sign d.demons a

-- the arguments of one directive
abbrev pub arguments_of : ℕ → Text → List RawTerm → List Argument
arguments_of line word terms = arguments line word (forms_of (map form_of terms))

-- the arguments of directives other than `delay`
abbrev pub others : List FormClause → List Argument
others cs = filter (λ a. not (is_delay a.word)) (all_arguments cs)

-- the arguments of `delay`
abbrev pub delayed : List FormClause → List Argument
delayed cs = filter (λ a. is_delay a.word) (all_arguments cs)

-- the arguments are checked down to these, without a refusal
abbrev pub Leaves : (Argument → Declared → Declares) → List Argument → Declared → List Argument → Declared → Type 0
Leaves check as' d rest e = (go : Declared → Checked) → check_arguments check as' go d ≡ check_arguments check rest go e

-- the arguments are accepted, and this is declared then
abbrev pub Accepts : (Argument → Declared → Declares) → List Argument → Declared → Declared → Type 0
Accepts check as' d e = Leaves check as' d [] e

-- the first refusal among the arguments
abbrev pub Refuses : (Argument → Declared → Declares) → List Argument → Declared → LoadError → Type 0
Refuses check as' d e = (go : Declared → Checked) → Tells e (check_arguments check as' go d).refusal
