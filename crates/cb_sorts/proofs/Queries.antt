-- A query under the same names of heads.
use Rattle.std.proofs.Common.{◌≡◌, ℕ, List, Option, Some, None, Result, Ok, Err, MatchResult}
use Rattle.cb_model.specs.Text.{Text}
use Rattle.cb_model.specs.Grammar.{FormGoal}
use Rattle.cb_model.specs.Directives.{Sign, Declared, has_sign, SortClash, Unknown, Twice}
use Rattle.cb_model.specs.Loading.{query_body}
use Rattle.cb_directives.specs.declared.fault.LoadError.{LoadError}
use Rattle.cb_directives.specs.declared.fault.LoadError.TheVariants as error
use Rattle.cb_rules.specs.Refused.{RefusesBody}
use Rattle.cb_rules.proofs.Refusing.{body_same}
use Rattle.cb_sorts.specs.Asked.{Asked, Asks}

module _ (d : Declared) (hs ks names : List Sign) (ms : List (Option Text)) (same : (a : Sign) → has_sign hs a ≡ has_sign ks a) (gs : List FormGoal) (line : ℕ) where
  asks_same : (q : Asked) → Asks d hs names ms gs q → Asks d ks names ms gs q
  asks_same q h = record {
    accepted = body_same d hs ks ms same (query_body gs) None h.accepted;
    goals = h.goals;
    variables = h.variables;
    sorts = h.sorts;
    before = h.before;
    names_are = h.names_are;
  }

  refusal_same : (e : LoadError) → RefusesBody d hs ms (query_body gs) line e → RefusesBody d ks ms (query_body gs) line e
  refusal_same (error.Directive n) h = h
  refusal_same (error.SortClash n) h = (h.0, body_same d hs ks ms same (query_body gs) (Some SortClash) h.1)
  refusal_same (error.Unknown n) h = (h.0, body_same d hs ks ms same (query_body gs) (Some Unknown) h.1)
  refusal_same (error.Twice n) h = (h.0, body_same d hs ks ms same (query_body gs) (Some Twice) h.1)
  refusal_same error.Memory h = tt

  pub query_same : (r : Result Asked LoadError) → MatchResult r (Asks d hs names ms gs) (RefusesBody d hs ms (query_body gs) line) → MatchResult r (Asks d ks names ms gs) (RefusesBody d ks ms (query_body gs) line)
  query_same (Ok q) h = asks_same q h
  query_same (Err e) h = refusal_same e h
