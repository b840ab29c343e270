-- The clauses that `check` counts.
use Rattle.std.specs.Prelude.{Bool, false, not}
use Rattle.cb_model.specs.Grammar.{FormClause, Rule}
use Rattle.cb_model.specs.Loading.{is_fact}

-- a rule that is no fact
abbrev pub is_counted : FormClause → Bool
is_counted (Rule n f b gs) = not (is_fact (Rule n f b gs))
is_counted _ = false
