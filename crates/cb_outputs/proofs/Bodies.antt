-- Each rule and query is refused or not, and stands for a clause or goals.
use Rattle.std.proofs.Common.{◌≡◌, ◌⊎◌, inl, inr, ℕ, suc, Bool, true, false, ◌||◌, List, [], ◌∷◌, ◌++◌, map, length, refl, ap, arith, bytes_eq, nat_eq, ◌&&◌}
use Rattle.std.proofs.lemmas.List.Kept.{AllPairs-cons}
use Rattle.std.proofs.lemmas.List.Elements.{All-cons}
use Rattle.std.proofs.lemmas.Slice.Eq.{bytes_eq-Decides}
use Rattle.std.proofs.lemmas.Bool.Decides.{nat_tests}
use Rattle.std.specs.Prelude.{Option, Some, None, MatchBool, All, AllPairs}
use Rattle.std.specs.List.{list_any, list_all}
use Rattle.cb_model.specs.declared.Sort.{Sort}
use Rattle.cb_model.specs.declared.Goal.{Goal}
use Rattle.cb_model.specs.declared.Goal.TheVariants as goal
use Rattle.cb_model.specs.declared.Clause.{Clause}
use Rattle.cb_model.specs.declared.Circuit.{Circuit}
use Rattle.cb_model.specs.Text.{Text}
use Rattle.cb_model.specs.Grammar.{Form, FormGoal, ACall, AnEqual, FormClause, Directive, Rule, FormQuery}
use Rattle.cb_model.specs.Directives.{Sign, has_sign, same_sign, Declared, sorts_of, Refusal, Twice, Unknown, SortClash, heads}
use Rattle.cb_model.specs.Sorts.{Body, Var, Equation, Clash, Numbering, sign_number, as_tree, as_arguments, apart}
use Rattle.cb_model.specs.Loading.{is_fact, is_taken, goal_unknown, body_of, query_body, BodyRefusal, RulesRefusal, none, skip, directive, passes, refused, body_variables, HaveSorts, no_sorts, more_sorts, call_goal, IsGoal, a_call, an_equal, AreGoals, no_goals, more_goals, numbering, head_sign, IsClause, HaveClauses, no_clauses, skips, skips_directive, a_clause, words_named, module_names, clauses_signs, goals_signs}
use Rattle.cb_model.specs.Program.{Program}
use Rattle.cb_model.specs.Circuits.{circuit_of}
use Rattle.cb_model.specs.Derivation.{Query}
use Rattle.cb_model.specs.Line.{Names}
use Rattle.cb_model.specs.Output.{Loaded, IsQuery, QueriesRefusal, none as no_queries, passes as query_passes, stops, printed_from}
use Rattle.cb_laws.proofs.Search.{Decision}
use Rattle.cb_laws.proofs.Decided.{and_true, both_true}
use Rattle.cb_outputs.proofs.Marks.{has_sort, clash_decided}

-- ---- refusals

pub body_refusal : (d : Declared) (hs : List Sign) (ms : List (Option Text)) (b : Body) → (r : Option Refusal) × BodyRefusal d hs ms b r
body_refusal d hs ms b = step (is_taken b.head) (list_any (goal_unknown d hs ms) b.goals) (clash_decided d b)
  where
    step : (t u : Bool) → Decision (Clash d b) → (r : Option Refusal) × MatchBool t (r ≡ Some Twice) (MatchBool u (r ≡ Some Unknown) ((Clash d b × (r ≡ Some SortClash)) ⊎ ((Clash d b → ⊥) × (r ≡ None))))
    step true u c = (Some Twice, refl)
    step false true c = (Some Unknown, refl)
    step false false (inl c) = (Some SortClash, inl (c, refl))
    step false false (inr n) = (None, inr (n, refl))

module _ (d : Declared) (hs : List Sign) (ms : List (Option Text)) where
  pub rules_refusal : (cs : List FormClause) → (r : Option (Refusal × ℕ)) × RulesRefusal d hs ms cs r
  rules_refusal [] = (None, none)
  rules_refusal (Directive n x fs ∷ cs) = let r = rules_refusal cs in (r.0, directive r.1)
  rules_refusal (Rule n f bodied gs ∷ cs) = step (is_fact (Rule n f bodied gs)) refl (body_refusal d hs ms (body_of f gs)) (rules_refusal cs)
    where
      step : (x : Bool) → is_fact (Rule n f bodied gs) ≡ x → (r : Option Refusal) × BodyRefusal d hs ms (body_of f gs) r → (r : Option (Refusal × ℕ)) × RulesRefusal d hs ms cs r →
          (r : Option (Refusal × ℕ)) × RulesRefusal d hs ms (Rule n f bodied gs ∷ cs) r
      step true e b rest = (rest.0, skip e rest.1)
      step false e (Some r, h) rest = (Some (r, n), refused e h)
      step false e (None, h) rest = (rest.0, passes e h rest.1)

pub queries_refusal : (l : Loaded) (qs : List FormQuery) → (r : Option (Refusal × ℕ)) × QueriesRefusal l qs r
queries_refusal l [] = (None, no_queries)
queries_refusal l (q ∷ qs) = step (body_refusal l.declared (heads l.clauses) (module_names l.clauses) (query_body q.goals)) (queries_refusal l qs)
  where
    step : (r : Option Refusal) × BodyRefusal l.declared (heads l.clauses) (module_names l.clauses) (query_body q.goals) r → (r : Option (Refusal × ℕ)) × QueriesRefusal l qs r →
        (r : Option (Refusal × ℕ)) × QueriesRefusal l (q ∷ qs) r
    step (Some r, h) rest = (Some (r, q.line), stops h)
    step (None, h) rest = (rest.0, query_passes h rest.1)

-- ---- goals and clauses

module _ (d : Declared) (b : Body) where
  pub have_sorts : (xs : List Text) → (ss : List Sort) × HaveSorts d b xs ss
  have_sorts [] = ([], no_sorts)
  have_sorts (x ∷ xs) =
      let s = has_sort d b (Var x) in
      let r = have_sorts xs in
      (s.0 ∷ r.0, more_sorts s.1 r.1)

  module _ (n : Numbering) (ms : List (Option Text)) where
    pub is_goal : (k : ℕ) (f : FormGoal) → (g : Goal) × IsGoal d b n ms k f g
    is_goal k (ACall f) = (call_goal d n ms f, a_call refl)
    is_goal k (AnEqual l r) = let s = has_sort d b (Equation k) in (goal.Equal (as_tree d n s.0 l) (as_tree d n s.0 r), an_equal s.0 s.1 refl)

    pub are_goals : (k : ℕ) (fs : List FormGoal) → (gs : List Goal) × AreGoals d b n ms k fs gs
    are_goals k [] = ([], no_goals)
    are_goals k (f ∷ fs) =
        let g = is_goal k f in
        let r = are_goals (suc k) fs in
        (g.0 ∷ r.0, more_goals g.1 r.1)

module _ (d : Declared) (names : List Sign) (ms : List (Option Text)) where
  is_clause : (f : Form) (gs : List FormGoal) → (c : Clause) × IsClause d names ms f gs c
  is_clause f gs =
      let b : Body = body_of f gs in
      let ss = have_sorts d b (body_variables b) in
      let goals = are_goals d b (numbering d names b) ms 0 b.goals in (
        record { pred = sign_number names (head_sign f); sorts = ss.0; head = as_arguments d (numbering d names b) (apart f 0).0; body = goals.0 },
        record { sorts = ss.1; pred = refl; head = refl; body = goals.1 },
      )

  pub have_clauses : (cs : List FormClause) → (xs : List Clause) × HaveClauses d names ms cs xs
  have_clauses [] = ([], no_clauses)
  have_clauses (Directive n x fs ∷ cs) = let r = have_clauses cs in (r.0, skips_directive r.1)
  have_clauses (Rule n f bodied gs ∷ cs) = step (is_fact (Rule n f bodied gs)) refl (is_clause f gs) (have_clauses cs)
    where
      step : (x : Bool) → is_fact (Rule n f bodied gs) ≡ x → (c : Clause) × IsClause d names ms f gs c → (xs : List Clause) × HaveClauses d names ms cs xs →
          (xs : List Clause) × HaveClauses d names ms (Rule n f bodied gs ∷ cs) xs
      step true e c rest = (rest.0, skips e rest.1)
      step false e c rest = (c.0 ∷ rest.0, a_clause e c.1 rest.1)

-- ---- names without repeats

abbrev add_sign : Bool → Sign → List Sign → List Sign
add_sign true x xs = xs
add_sign false x xs = x ∷ xs

abbrev distinct : List Sign → List Sign
distinct [] = []
distinct (x ∷ xs) = add_sign (has_sign (distinct xs) x) x (distinct xs)

none_same : (x : Sign) (ys : List Sign) → has_sign ys x ≡ false → All (λ y. same_sign x y ≡ false) ys
none_same x [] h = λ i dflt l. absurd (omega (arith, l))
none_same x (y ∷ ys) h = All-cons (λ z. same_sign x z ≡ false) y ys (left_off _ _ h) (none_same x ys (right_off _ _ h))
  where
    left_off : (a b : Bool) → (a || b) ≡ false → a ≡ false
    left_off true b h = absurd (cc)
    left_off false b h = refl

    right_off : (a b : Bool) → (a || b) ≡ false → b ≡ false
    right_off true b h = absurd (cc)
    right_off false b h = h

distinct_pairs : (xs : List Sign) → AllPairs (λ a b. same_sign a b ≡ false) (distinct xs)
distinct_pairs [] = λ i j dflt l k. absurd (omega (arith, k))
distinct_pairs (x ∷ xs) = step (has_sign (distinct xs) x) refl (distinct_pairs xs)
  where
    step : (c : Bool) → has_sign (distinct xs) x ≡ c → AllPairs (λ a b. same_sign a b ≡ false) (distinct xs) → AllPairs (λ a b. same_sign a b ≡ false) (add_sign c x (distinct xs))
    step true e h = h
    step false e h = AllPairs-cons (λ a b. same_sign a b ≡ false) x (distinct xs) (none_same x (distinct xs) e) h

-- a list that has the name
pub same_self : (a : Sign) → same_sign a a ≡ true
same_self a =
    let l : bytes_eq a.0 a.0 ≡ true = (bytes_eq-Decides a.0 a.0).1 refl in
    let r : nat_eq a.1 a.1 ≡ true = grind (arith, nat_tests) in λ j. l j && r j

has_more : (c : Bool) (x a : Sign) (ys : List Sign) → has_sign ys a ≡ true → has_sign (add_sign c x ys) a ≡ true
has_more true x a ys h = h
has_more false x a ys h = step (same_sign a x)
  where
    step : (b : Bool) → (b || has_sign ys a) ≡ true
    step true = refl
    step false = h

all_more : (c : Bool) (x : Sign) (xs ys : List Sign) → list_all (has_sign ys) xs ≡ true → list_all (has_sign (add_sign c x ys)) xs ≡ true
all_more c x [] ys h = refl
all_more c x (a ∷ xs) ys h = let q = and_true _ _ h in both_true _ _ (has_more c x a ys q.0) (all_more c x xs ys q.1)

has_itself : (c : Bool) (x : Sign) (ys : List Sign) → has_sign ys x ≡ c → has_sign (add_sign c x ys) x ≡ true
has_itself true x ys h = h
has_itself false x ys h = ap (λ (b : Bool). b || has_sign ys x) (same_self x)

distinct_every : (xs : List Sign) → list_all (has_sign (distinct xs)) xs ≡ true
distinct_every [] = refl
distinct_every (x ∷ xs) =
    both_true _ _ (has_itself (has_sign (distinct xs) x) x (distinct xs) refl) (all_more (has_sign (distinct xs) x) x xs (distinct xs) (distinct_every xs))

-- ---- a query over a file

pub is_query : (l : Loaded) (gs : List FormGoal) → (p : Program) × (q : Query) × (names : Names) × IsQuery l gs p q names
is_query l gs =
    let wanted : List Sign = clauses_signs l.clauses ++ goals_signs gs in
    let signs : List Sign = distinct wanted in
    let d : Declared = l.declared in
    let ms : List (Option Text) = module_names l.clauses in
    let cs = have_clauses d signs ms l.clauses in
    let b : Body = query_body gs in
    let goals = are_goals d b (numbering d signs b) ms 0 b.goals in
    let ss = have_sorts d b (body_variables b) in
    let circuits : List Circuit = map circuit_of l.circuits.flats in
    let p : Program = record {
      constants = length d.constants;
      world = record { arguments = map (sorts_of d) signs };
      words = map (words_named d) signs;
      demons = map (has_sign d.demons) signs;
      clauses = cs.0;
      circuits = circuits;
    } in (
      p,
      record { goals = goals.0; sorts = ss.0 },
      record { names = map (λ a. a.0) signs; constants = d.constants; printed = printed_from 0 (body_variables b) },
      record {
        signs = signs;
        program = record {
          every = distinct_every wanted;
          distinct = distinct_pairs wanted;
          constants = refl;
          arguments = refl;
          words = refl;
          demons = refl;
          clauses = cs.1;
          modules = refl;
        };
        goals = goals.1;
        sorts = ss.1;
        names_are = refl;
      },
    )
