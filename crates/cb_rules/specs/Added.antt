-- One clause more of a file.
use Rattle.std.specs.Prelude.{◌≡◌, ℕ, List, [], ◌∷◌, ◌++◌, Option, None}
use Rattle.cb_model.specs.Text.{Text}
use Rattle.cb_model.specs.declared.Clause.{Clause}
use Rattle.cb_model.specs.Grammar.{Form, FormGoal, FormClause}
use Rattle.cb_model.specs.Directives.{Sign, Declared, Refusal}
use Rattle.cb_model.specs.Loading.{body_of, BodyRefusal, RulesRefusal, IsClause, HaveClauses}

-- a rule is accepted, and its clause is the last
pub record AddsRule (d : Declared) (hs names : List Sign) (ms : List (Option Text)) (f : Form) (gs : List FormGoal) (old new : List Clause) : Type 0 where
  pub clause : Clause
  pub accepted : BodyRefusal d hs ms (body_of f gs) None
  pub is_clause : IsClause d names ms f gs clause
  pub added : new ≡ old ++ clause ∷ []

-- a clause of the file is accepted, and what it gives is the last
pub record Adds (d : Declared) (hs names : List Sign) (ms : List (Option Text)) (c : FormClause) (old new : List Clause) : Type 0 where
  pub clauses : List Clause
  pub passes : (cs : List FormClause) (r : Option (Refusal × ℕ)) → RulesRefusal d hs ms cs r → RulesRefusal d hs ms (c ∷ cs) r
  pub are_clauses : (cs : List FormClause) (xs : List Clause) → HaveClauses d names ms cs xs → HaveClauses d names ms (c ∷ cs) (clauses ++ xs)
  pub added : new ≡ old ++ clauses
