-- A query over a program.
use Rattle.std.specs.Prelude.{◌≡◌, ℕ, List, ◌++◌, length, Option, None}
use Rattle.std.specs.Borrow.{Bor}
use Rattle.cb_model.specs.Text.{Text}
use Rattle.cb_model.specs.declared.Sort.{Sort}
use Rattle.cb_model.specs.declared.Goal.{Goal}
use Rattle.cb_model.specs.Grammar.{FormGoal}
use Rattle.cb_model.specs.Directives.{Sign, Declared}
use Rattle.cb_model.specs.Loading.{query_body, body_variables, numbering, goals_signs, BodyRefusal, HaveSorts, AreGoals}
use Rattle.cb_signs.specs.Wanted.{add_signs}

-- a number with the name that it lends
abbrev pub numbered_name : ℕ × Bor Text → ℕ × Text
numbered_name v = (v.0, v.1.now)

-- its goals, its variables with their sorts, how many names the program has, and those that it lacks, numbered behind them
pub record Asked : Type 0 where
  pub goals : List Goal
  pub variables : List Text
  pub sorts : List Sort
  pub before : ℕ
  pub names : List Sign

-- a query is accepted, and this is what it asks
pub record Asks (d : Declared) (hs names : List Sign) (ms : List (Option Text)) (gs : List FormGoal) (q : Asked) : Type 0 where
  pub accepted : BodyRefusal d hs ms (query_body gs) None
  pub goals : AreGoals d (query_body gs) (numbering d (names ++ q.names) (query_body gs)) ms 0 (query_body gs).goals q.goals
  pub variables : q.variables ≡ body_variables (query_body gs)
  pub sorts : HaveSorts d (query_body gs) (body_variables (query_body gs)) q.sorts
  pub before : q.before ≡ length names
  pub names_are : names ++ q.names ≡ add_signs names (goals_signs gs)
