-- The names of goals that are called.
use Rattle.std.specs.Prelude.{◌≡◌, ℕ, ◌<◌, true, List, length, Some, slice_get, All}
use Rattle.std.specs.List.{list_all}
use Rattle.cb_model.specs.declared.Goal.{Goal}
use Rattle.cb_model.specs.declared.Goal.TheVariants as goal
use Rattle.cb_model.specs.declared.Clause.{Clause}
use Rattle.cb_model.specs.Grammar.{FormClause, FormGoal}
use Rattle.cb_model.specs.Written.{clause_written}
use Rattle.cb_model.specs.Directives.{heads}
use Rattle.cb_model.specs.Loading.{module_names}
use Rattle.cb_sorts.specs.Source.{Source, Loads}
use Rattle.cb_sorts.specs.Asked.{Asked, Asks}

-- a goal that is called has one of the first n names
abbrev pub CallsBelow : ℕ → Goal → Type 0
CallsBelow n (goal.Call name ts) = name < n
CallsBelow n goal.True = Unit {0}
CallsBelow n goal.Fail = Unit {0}
CallsBelow n (goal.Equal l r) = Unit {0}
CallsBelow n (goal.Circuit m ins outs) = Unit {0}

-- each goal that a query calls has a name of the file, so a number that `first`, `when` and `demon` of its program take
abbrev pub QueriesCallNames : Type 0
QueriesCallNames = (cs : List FormClause) (s : Source) (gs : List FormGoal) (a : Asked) → list_all clause_written cs ≡ true → Loads cs s → Asks s.declared (heads cs) s.names (module_names cs) gs a →
    All (CallsBelow (length s.names)) a.goals

-- and so has each goal that a clause of the file calls
abbrev pub ClausesCallNames : Type 0
ClausesCallNames = (cs : List FormClause) (s : Source) (k : ℕ) (c : Clause) → Loads cs s → slice_get s.clauses k ≡ Some c → All (CallsBelow (length s.names)) c.body
