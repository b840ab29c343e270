-- What a refusal of a file's rules or of a query says.
use Rattle.std.specs.Prelude.{◌≡◌, ℕ, ◌⊎◌, List, Option, Some, None}
use Rattle.cb_model.specs.Text.{Text}
use Rattle.cb_model.specs.Grammar.{FormClause}
use Rattle.cb_model.specs.Directives.{Sign, Declared, heads, directives, SortClash, Unknown, Twice}
use Rattle.cb_model.specs.Sorts.{Body}
use Rattle.cb_model.specs.Loading.{module_names, BodyRefusal, RulesRefusal}
use Rattle.cb_directives.specs.Refusals.{Tells}
use Rattle.cb_directives.specs.declared.fault.LoadError.{LoadError}
use Rattle.cb_directives.specs.declared.fault.LoadError.TheVariants as error

-- a rule or query on this line is refused with this error; want of memory says nothing
abbrev pub RefusesBody : Declared → List Sign → List (Option Text) → Body → ℕ → LoadError → Type 0
RefusesBody d hs ms b line (error.Directive n) = ⊥
RefusesBody d hs ms b line (error.SortClash n) = (n ≡ line) × BodyRefusal d hs ms b (Some SortClash)
RefusesBody d hs ms b line (error.Unknown n) = (n ≡ line) × BodyRefusal d hs ms b (Some Unknown)
RefusesBody d hs ms b line (error.Twice n) = (n ≡ line) × BodyRefusal d hs ms b (Some Twice)
RefusesBody d hs ms b line error.Memory = Unit {0}

-- a refusal among a file's rules, with its line
abbrev pub RefusesRules : Declared → List Sign → List (Option Text) → List FormClause → LoadError → Type 0
RefusesRules d hs ms cs (error.Directive n) = ⊥
RefusesRules d hs ms cs (error.SortClash n) = RulesRefusal d hs ms cs (Some (SortClash, n))
RefusesRules d hs ms cs (error.Unknown n) = RulesRefusal d hs ms cs (Some (Unknown, n))
RefusesRules d hs ms cs (error.Twice n) = RulesRefusal d hs ms cs (Some (Twice, n))
RefusesRules d hs ms cs error.Memory = Unit {0}

-- a file's clauses are refused with this error: by a directive, or else by a rule; want of memory says nothing
abbrev pub Refuses : List FormClause → LoadError → Type 0
Refuses cs e =
    Tells e (directives cs).refusal ⊎
    ((d : Declared) × (directives cs ≡ record { refusal = None; declared = d }) × RefusesRules d (heads cs) (module_names cs) cs e)
