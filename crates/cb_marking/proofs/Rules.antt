-- The walk over a rule or query, from its beginning.
use Rattle.std.specs.Prelude.{MatchResult}
use Rattle.std.proofs.Common.{◌≡◌, ℕ, suc, Bool, true, ◌&&◌, List, [], ◌∷◌, ◌++◌, length, Option, Some, None, Result, Ok, Err, refl, sym, ◌∙◌, ap, subst, arith}
use Rattle.std.specs.List.{list_all}
use Rattle.cb_model.specs.Text.{Text}
use Rattle.cb_model.specs.Grammar.{Form, FormGoal}
use Rattle.cb_model.specs.Written.{is_name, goal_written}
use Rattle.cb_model.specs.Directives.{Sign, Declared, sorts_of}
use Rattle.cb_model.specs.Sorts.{Place, Body, apart, apart_goal, apart_goals, call_places, goals_places, all_places, head_places}
use Rattle.cb_model.specs.Loading.{body_of, query_body, variables_of, goals_variables, body_variables}
use Rattle.cb_marking.specs.declared.links.Stop.{Stop}
use Rattle.cb_marking.specs.declared.links.Stop.TheVariants as stop
use Rattle.cb_marking.specs.declared.walk.Walk.{Walk}
use Rattle.cb_marking.specs.Walk.{fresh, walked, goals_walked, all_fit, Walks, Meets, Stops}
use Rattle.cb_marking.specs.Marking.{Sorted, IsMarking, Refuses}
use Rattle.cb_marking.specs.Kept.{IsKept, Decides, Undecided}
use Rattle.cb_marking.proofs.Left.{all_fit-append}
use Rattle.cb_marking.proofs.Follows.{Follows, Follows-none, Extends-same, numbered, IsDistinct}
use Rattle.cb_marking.proofs.Apart.{call_renames, Renames}
use Rattle.cb_marking.proofs.Sides.{goal_given, goal_edges, goal_bits, each, goals_follow, fits_call, fits_goals}
use Rattle.cb_marking.proofs.Bridge.{Known, kept, undecided, marking, misfit_clashes}

length_apart : (gs : List FormGoal) (k : ℕ) → length (apart_goals gs k) ≡ length gs
length_apart [] k = refl
length_apart (g ∷ gs) k = ap suc (length_apart gs (apart_goal g k).1)

none_distinct : IsDistinct []
none_distinct i l = absurd (omega arith)

module _ (d : Declared) (counted : (a : Sign) → length (sorts_of d a) ≡ a.1) (gs : List FormGoal) (written : list_all goal_written gs ≡ true) where
  -- goals behind what was met of a head
  known_after : (n : ℕ) → n ≡ length gs → (f : Option Form) (v : Walk) (k : ℕ) (xs : List Text) (ps : List Place) → ps ≡ head_places d f →
      Follows (fresh n) v k xs (λ ys. numbered n ys ps) (λ _. []) [] ps → (b : Body) → b ≡ record { head = f; goals = apart_goals gs k } → body_variables (record { head = f; goals = apart_goals gs k }) ≡ goals_variables xs (apart_goals gs k) →
      Known d b (goals_walked d v 0 gs)
  known_after n len f v k xs ps same p b is vars = subst (λ (c : Body). Known d c (goals_walked d v 0 gs)) (sym is) (subst (λ (qs : List Place). Follows (fresh n) v k xs (λ ys. numbered n ys qs) (λ _. []) [] qs → Known d (record { head = f; goals = apart_goals gs k }) (goals_walked d v 0 gs)) (sym same) base p)
    where
      base : Follows (fresh n) v k xs (λ ys. numbered n ys (head_places d f)) (λ _. []) [] (head_places d f) → Known d (record { head = f; goals = apart_goals gs k }) (goals_walked d v 0 gs)
      base p =
          let r = goals_follow d counted gs written 0 v k xs p.own p.variables in
          let q = r.1 in
          let w = goals_walked d v 0 gs in
          let c : v.goals ≡ w.goals = sym q.goals in
          let e : n ≡ w.goals = sym (q.goals ∙ p.goals) in
          let ys = w.variables in
          record {
            goals = q.goals ∙ p.goals ∙ len ∙ sym (length_apart gs k);
            variables = q.variables ∙ sym vars;
            given = q.given ys (Extends-same ys) ∙ (λ i. p.given ys q.grows i ++ each (goal_given d (c i) ys) 0 (apart_goals gs k)) ∙ ap (λ m. numbered m ys (head_places d f) ++ each (goal_given d w.goals ys) 0 (apart_goals gs k)) e;
            edges = q.edges ys (Extends-same ys) ∙ (λ i. p.edges ys q.grows i ++ each (goal_edges (c i) ys) 0 (apart_goals gs k));
            bits = q.bits ∙ ap (λ (l : List ℕ). l ++ each goal_bits 0 (apart_goals gs k)) p.bits;
            head_there = p.there ys q.grows;
            goals_there = q.there ys (Extends-same ys);
            distinct = q.distinct (p.distinct none_distinct);
          }

  -- ---- a query

  module _ (n : ℕ) (len : n ≡ length gs) where
    pub query_known : Known d (query_body gs) (goals_walked d (fresh n) 0 gs)
    query_known = known_after n len None (fresh n) 0 [] [] refl (Follows-none (fresh n) 0 [] refl refl) (query_body gs) refl refl

    query_fits : all_fit d (goals_places d gs) ≡ all_fit d (all_places d (query_body gs))
    query_fits = fits_goals d counted gs written 0

    pub query_stops : (e : Stop) → Stops d (goals_places d gs) e → Refuses d (query_body gs) e
    query_stops stop.Clash h = misfit_clashes d (query_body gs) (sym query_fits ∙ h)
    query_stops stop.Memory h = tt

    module _ (w : Walk) (met : Meets d (goals_places d gs) (goals_walked d (fresh n) 0 gs) w) where
      know : Known d (query_body gs) w
      know = subst (Known d (query_body gs)) (sym met.is_aim) query_known

      pub query_kept : IsKept w
      query_kept = kept d (query_body gs) w know

      pub query_ends : (r : Result Sorted Stop) → MatchResult r (Decides w) (Undecided w) → MatchResult r (IsMarking d (query_body gs)) (Refuses d (query_body gs))
      query_ends (Ok m) h = marking d (query_body gs) w know m h (sym query_fits ∙ met.fits)
      query_ends (Err e) h = undecided d (query_body gs) w know e h

  -- ---- a rule

  module _ (n : ℕ) (len : n ≡ length gs) (f : Form) (head : is_name f ≡ true) where
    head_follows : Renames d (fresh n) (call_places d f) (apart f 0).1 (variables_of [] (apart f 0).0) (call_places d (apart f 0).0)
    head_follows = call_renames d counted f head (fresh n) 0 [] refl refl

    rule_known : Known d (body_of f gs) (goals_walked d (walked (fresh n) (call_places d f)) 0 gs)
    rule_known =
        known_after n len (Some (apart f 0).0) (walked (fresh n) (call_places d f)) (apart f 0).1 (variables_of [] (apart f 0).0) (call_places d (apart f 0).0) refl head_follows.follows (body_of f gs) refl refl

    rule_fits : (all_fit d (call_places d f) && all_fit d (goals_places d gs)) ≡ all_fit d (all_places d (body_of f gs))
    rule_fits =
        (λ i. fits_call d counted f head 0 i && fits_goals d counted gs written (apart f 0).1 i) ∙ sym (all_fit-append d (call_places d (apart f 0).0) (goals_places d (apart_goals gs (apart f 0).1)))

    pub head_stops : (e : Stop) → Stops d (call_places d f) e → Refuses d (body_of f gs) e
    head_stops stop.Clash h = misfit_clashes d (body_of f gs) (sym rule_fits ∙ ap (λ (b : Bool). b && all_fit d (goals_places d gs)) h)
    head_stops stop.Memory h = tt

    module _ (v : Walk) (first : Walks d (fresh n) (call_places d f) v) where
      pub goals_stops : (e : Stop) → Stops d (goals_places d gs) e → Refuses d (body_of f gs) e
      goals_stops stop.Clash h = misfit_clashes d (body_of f gs) (sym rule_fits ∙ (λ i. first.fits i && h i))
      goals_stops stop.Memory h = tt

      module _ (w : Walk) (met : Meets d (goals_places d gs) (goals_walked d v 0 gs) w) where
        rule_know : Known d (body_of f gs) w
        rule_know = subst (Known d (body_of f gs)) (sym (met.is_aim ∙ ap (λ (u : Walk). goals_walked d u 0 gs) first.is_walked)) rule_known

        pub rule_kept : IsKept w
        rule_kept = kept d (body_of f gs) w rule_know

        pub rule_ends : (r : Result Sorted Stop) → MatchResult r (Decides w) (Undecided w) → MatchResult r (IsMarking d (body_of f gs)) (Refuses d (body_of f gs))
        rule_ends (Ok m) h = marking d (body_of f gs) w rule_know m h (sym rule_fits ∙ (λ i. first.fits i && met.fits i))
        rule_ends (Err e) h = undecided d (body_of f gs) w rule_know e h
