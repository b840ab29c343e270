-- The queries of an accepted input say something.
use Rattle.std.proofs.Common.{◌≡◌, ◌⊎◌, ℕ, ◌+◌, Bool, true, false, ◌||◌, List, [], ◌∷◌, ◌++◌, map, length, refl, ◌∙◌, ap, arith}
use Rattle.std.proofs.lemmas.List.{length-map}
use Rattle.std.specs.Prelude.{Option, Some, None, MatchBool}
use Rattle.std.specs.List.{list_any}
use Rattle.cb_model.specs.Bits.{Each}
use Rattle.cb_model.specs.Text.{Text}
use Rattle.cb_model.specs.declared.Clause.{Clause}
use Rattle.cb_model.specs.Grammar.{FormClause, Directive, Rule, FormQuery}
use Rattle.cb_model.specs.Directives.{Sign, Declared, Refusal, Twice, Unknown, SortClash, heads}
use Rattle.cb_model.specs.Sorts.{Body, Clash}
use Rattle.cb_model.specs.Loading.{goal_unknown, is_taken, query_body, body_of, BodyRefusal, RulesRefusal, skip, directive, passes, refused, HaveClauses, no_clauses, skips, skips_directive, a_clause, module_names, numbering}
use Rattle.cb_model.specs.Program.{Program}
use Rattle.cb_model.specs.Circuits.{circuit_of}
use Rattle.cb_model.specs.Facts.{no_circuits}
use Rattle.cb_model.specs.Derivation.{Query}
use Rattle.cb_model.specs.Line.{Names}
use Rattle.cb_model.specs.Commands.{Nodes}
use Rattle.cb_model.specs.Output.{Loaded, IsLoaded, IsQuery, QueriesSay, no_queries, more_queries, QueriesRefusal, passes as query_passes, stops}
use Rattle.cb_outputs.specs.Exists.{HasCircuit, HaveCircuits}
use Rattle.cb_outputs.proofs.Circuits.{flats_count, goals_have}
use Rattle.cb_outputs.proofs.Bodies.{is_query}
use Rattle.cb_outputs.proofs.Says.{query_exists}

body_known : (d : Declared) (hs : List Sign) (ms : List (Option Text)) (b : Body) → BodyRefusal d hs ms b None → list_any (goal_unknown d hs ms) b.goals ≡ false
body_known d hs ms b h = step (is_taken b.head) (list_any (goal_unknown d hs ms) b.goals) None h refl
  where
    step : (t c : Bool) (r : Option Refusal) → MatchBool t (r ≡ Some Twice) (MatchBool c (r ≡ Some Unknown) ((Clash d b × (r ≡ Some SortClash)) ⊎ ((Clash d b → ⊥) × (r ≡ None)))) → r ≡ None → c ≡ false
    step true c r h e = absurd (cc)
    step false true r h e = absurd (cc)
    step false false r h e = refl

module _ (p : Program) (d : Declared) (hs names : List Sign) (ms : List (Option Text)) (count : length p.circuits ≡ length ms) where
  clauses_have : (cs : List FormClause) (xs : List Clause) (r : Option (Refusal × ℕ)) → r ≡ None → RulesRefusal d hs ms cs r → HaveClauses d names ms cs xs → Each (λ c. Each (HasCircuit p) c.body) xs
  clauses_have [] [] r e ok no_clauses = tt
  clauses_have [] (x ∷ xs) r e ok more = elim more [ ]
  clauses_have (Directive j y fs ∷ cs) xs r e (skip q ok) more = absurd (cc)
  clauses_have (Directive j y fs ∷ cs) xs r e (directive ok) (skips q more) = absurd (cc)
  clauses_have (Directive j y fs ∷ cs) xs r e (directive ok) (skips_directive more) = clauses_have cs xs r e ok more
  clauses_have (Rule j f bodied gs ∷ cs) xs r e (skip q ok) (skips q' more) = clauses_have cs xs r e ok more
  clauses_have (Rule j f bodied gs ∷ cs) (x ∷ xs) r e (skip q ok) (a_clause q' is more) = absurd (cc)
  clauses_have (Rule j f bodied gs ∷ cs) xs r e (passes q b ok) (skips q' more) = absurd (cc)
  clauses_have (Rule j f bodied gs ∷ cs) (x ∷ xs) r e (passes q b ok) (a_clause q' is more) =
      (goals_have p d hs ms count (body_of f gs) (numbering d names (body_of f gs)) 0 (body_of f gs).goals x.body (body_known d hs ms (body_of f gs) b) is.body, clauses_have cs xs r e ok more)
  clauses_have (Rule j f bodied gs ∷ cs) xs r e (refused q b) more = absurd (cc)

module _ (file : Text) (l : Loaded) (loaded : IsLoaded file l) where
  circuits_count : (p : Program) → p.circuits ≡ map circuit_of l.circuits.flats → length p.circuits ≡ length (module_names l.clauses)
  circuits_count p e =
      let f : length p.circuits ≡ length l.circuits.flats = ap length e ∙ length-map l.circuits.flats circuit_of in
      let n : length l.circuits.flats ≡ length no_circuits.flats + length (module_names l.clauses) = flats_count no_circuits l.circuits l.clauses None refl loaded.facts in
      omega (arith, f, n)

  -- a query that isn't refused has its circuits
  pub query_circuits : (x : FormQuery) (p : Program) (q : Query) (names : Names) → IsQuery l x.goals p q names → BodyRefusal l.declared (heads l.clauses) (module_names l.clauses) (query_body x.goals) None →
      HaveCircuits p × Each (HasCircuit p) q.goals
  query_circuits x p q names is b =
      let count = circuits_count p is.program.modules in (
        clauses_have p l.declared (heads l.clauses) is.signs (module_names l.clauses) count l.clauses p.clauses None refl loaded.rules is.program.clauses,
        goals_have p l.declared (heads l.clauses) (module_names l.clauses) count (query_body x.goals) (numbering l.declared is.signs (query_body x.goals)) 0 (query_body x.goals).goals q.goals
            (body_known l.declared (heads l.clauses) (module_names l.clauses) (query_body x.goals) b) is.goals,
      )

  pub queries_say : (resolutions : ℕ) (nodes : Nodes) (qs : List FormQuery) (r : Option (Refusal × ℕ)) → r ≡ None → QueriesRefusal l qs r → (lines : List Text) × (stop : Bool) × QueriesSay l resolutions nodes qs lines stop
  queries_say resolutions nodes [] r e h = ([], false, no_queries)
  queries_say resolutions nodes (x ∷ qs) r e (stops h) = absurd (cc)
  queries_say resolutions nodes (x ∷ qs) r e (query_passes b h) =
      let q = is_query l x.goals in
      let c = query_circuits x q.0 q.1 q.2 q.3 b in
      let says = query_exists q.0 q.1 q.2 resolutions nodes c.0 c.1 in
      let rest = queries_say resolutions nodes qs r e h in
      (says.0 ++ rest.0, (says.1 || rest.1), more_queries q.0 q.1 q.2 says.0 rest.0 says.1 rest.1 q.3 says.2 rest.2 refl refl)
