-- Goals and rules, one after another.
use Rattle.std.proofs.Common.{◌≡◌, ℕ, zero, suc, ◌+◌, ◌<◌, ◌≤◌, Bool, true, false, ◌&&◌, List, [], ◌∷◌, ◌++◌, map, drop, length, get_or, Option, Some, None, refl, sym, ◌∙◌, ap, subst, arith, add-one, drop-cons}
use Rattle.std.specs.List.{list_all}
use Rattle.std.proofs.lemmas.List.{append-nil, append_assoc}
use Rattle.cb_model.specs.Text.{Text}
use Rattle.cb_model.specs.declared.Sort.{Sort}
use Rattle.cb_model.specs.declared.Sort.TheVariants as sort
use Rattle.cb_model.specs.declared.Goal.{Goal}
use Rattle.cb_model.specs.declared.Clause.{Clause}
use Rattle.cb_model.specs.declared.RawGoal.{RawGoal}
use Rattle.cb_model.specs.declared.RawClause.{RawClause}
use Rattle.cb_model.specs.Grammar.{Form, Forms, FormGoal, ACall, AnEqual, FormClause, Directive, Rule}
use Rattle.cb_model.specs.Forms.{goal_form, clause_form}
use Rattle.cb_model.specs.Written.{goal_written, clause_written}
use Rattle.cb_model.specs.Directives.{Sign, has_sign, Declared, Refusal, SortClash, Unknown, Twice}
use Rattle.cb_model.specs.Sorts.{Body, apart_goal, apart_goals, Equation, HasSort, Numbering}
use Rattle.cb_model.specs.Loading.{is_fact, body_of, BodyRefusal, RulesRefusal, none, skip, directive, passes, refused, IsGoal, a_call, an_equal, AreGoals, no_goals, more_goals, HaveClauses, no_clauses, skips, skips_directive, a_clause}
use Rattle.cb_directives.specs.declared.fault.LoadError.{LoadError}
use Rattle.cb_directives.specs.declared.fault.LoadError.TheVariants as error
use Rattle.cb_directives.proofs.Reading.{drop_past}
use Rattle.cb_trees.specs.Places.{goal_at, goals_at}
use Rattle.cb_rules.specs.Refused.{RefusesBody, RefusesRules}
use Rattle.cb_rules.specs.Added.{AddsRule, Adds}
use Rattle.cb_rules.proofs.Refusing.{body_same}

and_left : (a b : Bool) → (a && b) ≡ true → a ≡ true
and_left true b h = refl
and_left false b h = absurd (cc)

and_right : (a b : Bool) → (a && b) ≡ true → b ≡ true
and_right true b h = h
and_right false b h = absurd (cc)

-- ---- goals

abbrev pub GoalsSoFar : Declared → Numbering → List (Option Text) → List Sort → List RawGoal → ℕ → ℕ → ℕ → List Goal → Type 0
GoalsSoFar d n ms ss gs start i own now =
    goals_at d n ms ss (apart_goals (map goal_form gs) start) ≡ now ++ goals_at d n ms (drop i ss) (apart_goals (map goal_form (drop i gs)) own)

module _ (gs : List RawGoal) (i : ℕ) (g : RawGoal) (h : i < length gs) (at : g ≡ get_or gs i g) where
  opened_goals : map goal_form (drop i gs) ≡ goal_form g ∷ map goal_form (drop (i + 1) gs)
  opened_goals =
      ap (map goal_form) (drop-cons gs i g h) ∙ ap (λ (u : RawGoal). goal_form u ∷ map goal_form (drop (suc i) gs)) (sym at)
      ∙ ap (λ n. goal_form g ∷ map goal_form (drop n gs)) (sym (add-one i))

  pub goal_here : list_all goal_written (map goal_form (drop i gs)) ≡ true → goal_written (goal_form g) ≡ true
  goal_here w = and_left (goal_written (goal_form g)) (list_all goal_written (map goal_form (drop (i + 1) gs))) (sym (ap (list_all goal_written) opened_goals) ∙ w)

  pub goals_behind : list_all goal_written (map goal_form (drop i gs)) ≡ true → list_all goal_written (map goal_form (drop (i + 1) gs)) ≡ true
  goals_behind w = and_right (goal_written (goal_form g)) (list_all goal_written (map goal_form (drop (i + 1) gs))) (sym (ap (list_all goal_written) opened_goals) ∙ w)

  pub goals_on : (d : Declared) (n : Numbering) (ms : List (Option Text)) (ss : List Sort) (start own next : ℕ) (now then' : List Goal) (s : Sort) (x : Goal) → length ss ≡ length gs →
      GoalsSoFar d n ms ss gs start i own now → s ≡ get_or ss i sort.Term → x ≡ goal_at d n ms s (apart_goal (goal_form g) own).0 → next ≡ (apart_goal (goal_form g) own).1 →
      then' ≡ now ++ x ∷ [] → GoalsSoFar d n ms ss gs start (i + 1) next then'
  goals_on d n ms ss start own next now then' s x l so q e k p =
      let within : i < length ss = omega (arith, l) in
      so ∙ ap (λ (fs : List FormGoal). now ++ goals_at d n ms (drop i ss) (apart_goals fs own)) opened_goals
      ∙ ap (λ (ts : List Sort). now ++ goals_at d n ms ts (apart_goals (goal_form g ∷ map goal_form (drop (i + 1) gs)) own))
      (drop-cons ss i sort.Term within ∙ ap (λ (r : Sort). r ∷ drop (suc i) ss) (sym q) ∙ ap (λ m. s ∷ drop m ss) (sym (add-one i)))
      ∙ ap (λ (y : Goal). now ++ y ∷ goals_at d n ms (drop (i + 1) ss) (apart_goals (map goal_form (drop (i + 1) gs)) (apart_goal (goal_form g) own).1)) (sym e)
      ∙ ap (λ m. now ++ x ∷ goals_at d n ms (drop (i + 1) ss) (apart_goals (map goal_form (drop (i + 1) gs)) m)) (sym k)
      ∙ sym (append_assoc now (x ∷ []) (goals_at d n ms (drop (i + 1) ss) (apart_goals (map goal_form (drop (i + 1) gs)) next)))
      ∙ ap (λ (r : List Goal). r ++ goals_at d n ms (drop (i + 1) ss) (apart_goals (map goal_form (drop (i + 1) gs)) next)) (sym p)

no_goals_at : (d : Declared) (n : Numbering) (ms : List (Option Text)) (ss : List Sort) → goals_at d n ms ss [] ≡ []
no_goals_at d n ms [] = refl
no_goals_at d n ms (s ∷ ss) = refl

pub goals_end : (d : Declared) (n : Numbering) (ms : List (Option Text)) (ss : List Sort) (gs : List RawGoal) (start i own : ℕ) (now : List Goal) → length gs ≤ i →
    GoalsSoFar d n ms ss gs start i own now → now ≡ goals_at d n ms ss (apart_goals (map goal_form gs) start)
goals_end d n ms ss gs start i own now h so =
    sym (so ∙ ap (λ (l : List RawGoal). now ++ goals_at d n ms (drop i ss) (apart_goals (map goal_form l) own)) (drop_past gs i h)
    ∙ ap (λ (l : List Goal). now ++ l) (no_goals_at d n ms (drop i ss)) ∙ append-nil now)

-- goals under the sorts of their equations
module _ (d : Declared) (b : Body) (n : Numbering) (ms : List (Option Text)) where
  is_goal : (k : ℕ) (s : Sort) (f : FormGoal) → HasSort d b (Equation k) s → IsGoal d b n ms k f (goal_at d n ms s f)
  is_goal k s (ACall f) h = a_call refl
  is_goal k s (AnEqual l r) h = an_equal s h refl

  term_past : (j : ℕ) → get_or [] j sort.Term ≡ sort.Term
  term_past zero = refl
  term_past (suc j) = refl

  pub are_goals : (k : ℕ) (ss : List Sort) (fs : List FormGoal) → ((j : ℕ) → j < length fs → HasSort d b (Equation (k + j)) (get_or ss j sort.Term)) →
      AreGoals d b n ms k fs (goals_at d n ms ss fs)
  are_goals k ss [] h = subst (AreGoals d b n ms k []) (sym (no_goals_at d n ms ss)) no_goals
  are_goals k [] (f ∷ fs) h =
      let here : HasSort d b (Equation k) sort.Term = let z : k + 0 ≡ k = omega arith in subst (λ m. HasSort d b (Equation m) sort.Term) z (h 0 (omega arith)) in
      more_goals (is_goal k sort.Term f here)
      (are_goals (suc k) [] fs (λ j q. let z : k + suc j ≡ suc k + j = omega arith in
      subst (λ (s : Sort). HasSort d b (Equation (suc k + j)) s) (sym (term_past j)) (subst (λ m. HasSort d b (Equation m) sort.Term) z (h (suc j) (omega arith)))))
  are_goals k (s ∷ ss) (f ∷ fs) h =
      let here : HasSort d b (Equation k) s = let z : k + 0 ≡ k = omega arith in subst (λ m. HasSort d b (Equation m) s) z (h 0 (omega arith)) in
      more_goals (is_goal k s f here)
      (are_goals (suc k) ss fs (λ j q. let z : k + suc j ≡ suc k + j = omega arith in subst (λ m. HasSort d b (Equation m) (get_or ss j sort.Term)) z (h (suc j) (omega arith))))

-- ---- rules

-- what holds of the clauses that are left holds of all
pub record RulesSoFar (d : Declared) (hs names : List Sign) (ms : List (Option Text)) (all left : List FormClause) (now : List Clause) : Type 0 where
  pub passes : (r : Option (Refusal × ℕ)) → RulesRefusal d hs ms left r → RulesRefusal d hs ms all r
  pub are_clauses : (xs : List Clause) → HaveClauses d names ms left xs → HaveClauses d names ms all (now ++ xs)

module _ (cs : List RawClause) (i : ℕ) (c : RawClause) (h : i < length cs) (at : c ≡ get_or cs i c) where
  pub opened_clauses : map clause_form (drop i cs) ≡ clause_form c ∷ map clause_form (drop (i + 1) cs)
  opened_clauses =
      ap (map clause_form) (drop-cons cs i c h) ∙ ap (λ (u : RawClause). clause_form u ∷ map clause_form (drop (suc i) cs)) (sym at)
      ∙ ap (λ n. clause_form c ∷ map clause_form (drop n cs)) (sym (add-one i))

  pub clause_here : list_all clause_written (map clause_form (drop i cs)) ≡ true → clause_written (clause_form c) ≡ true
  clause_here w = and_left (clause_written (clause_form c)) (list_all clause_written (map clause_form (drop (i + 1) cs))) (sym (ap (list_all clause_written) opened_clauses) ∙ w)

  pub clauses_behind : list_all clause_written (map clause_form (drop i cs)) ≡ true → list_all clause_written (map clause_form (drop (i + 1) cs)) ≡ true
  clauses_behind w = and_right (clause_written (clause_form c)) (list_all clause_written (map clause_form (drop (i + 1) cs))) (sym (ap (list_all clause_written) opened_clauses) ∙ w)

module _ (d : Declared) (hs names : List Sign) (ms : List (Option Text)) where
  pub rules_init : (all : List FormClause) (now : List Clause) → now ≡ [] → RulesSoFar d hs names ms all all now
  rules_init all now e = record { passes = λ r h. h; are_clauses = λ xs h. subst (λ (l : List Clause). HaveClauses d names ms all (l ++ xs)) (sym e) h }

  pub rules_on : (all left more : List FormClause) (c : FormClause) (now then' : List Clause) → left ≡ c ∷ more → RulesSoFar d hs names ms all left now → Adds d hs names ms c now then' →
      RulesSoFar d hs names ms all more then'
  rules_on all left more c now then' e so a = record {
    passes = λ r h. so.passes r (subst (λ (l : List FormClause). RulesRefusal d hs ms l r) (sym e) (a.passes more r h));
    are_clauses = λ xs h.
        subst (HaveClauses d names ms all) (sym (append_assoc now a.clauses xs) ∙ ap (λ (l : List Clause). l ++ xs) (sym a.added))
        (so.are_clauses (a.clauses ++ xs) (subst (λ (l : List FormClause). HaveClauses d names ms l (a.clauses ++ xs)) (sym e) (a.are_clauses more xs h)));
  }

  pub rules_stop : (all left more : List FormClause) (c : FormClause) (now : List Clause) (e : LoadError) → left ≡ c ∷ more → RulesSoFar d hs names ms all left now →
      ((cs : List FormClause) → RefusesRules d hs ms (c ∷ cs) e) → RefusesRules d hs ms all e
  rules_stop all left more c now (error.Directive n) q so h = h more
  rules_stop all left more c now (error.SortClash n) q so h = so.passes (Some (SortClash, n)) (subst (λ (l : List FormClause). RulesRefusal d hs ms l (Some (SortClash, n))) (sym q) (h more))
  rules_stop all left more c now (error.Unknown n) q so h = so.passes (Some (Unknown, n)) (subst (λ (l : List FormClause). RulesRefusal d hs ms l (Some (Unknown, n))) (sym q) (h more))
  rules_stop all left more c now (error.Twice n) q so h = so.passes (Some (Twice, n)) (subst (λ (l : List FormClause). RulesRefusal d hs ms l (Some (Twice, n))) (sym q) (h more))
  rules_stop all left more c now error.Memory q so h = tt

  pub rules_end : (all left : List FormClause) (now : List Clause) → left ≡ [] → RulesSoFar d hs names ms all left now → RulesRefusal d hs ms all None × HaveClauses d names ms all now
  rules_end all left now e so = (
    so.passes None (subst (λ (l : List FormClause). RulesRefusal d hs ms l None) (sym e) none),
    subst (HaveClauses d names ms all) (append-nil now) (so.are_clauses [] (subst (λ (l : List FormClause). HaveClauses d names ms l []) (sym e) no_clauses)),
  )

  -- ---- one clause

  pub adds_fact : (c : FormClause) (now : List Clause) → true ≡ is_fact c → Adds d hs names ms c now now
  adds_fact c now h = record { clauses = []; passes = λ cs r p. skip (sym h) p; are_clauses = λ cs xs p. skips (sym h) p; added = sym (append-nil now) }

  pub adds_directive : (c : FormClause) (n : ℕ) (x : Text) (fs : Forms) (now : List Clause) → c ≡ Directive n x fs → Adds d hs names ms c now now
  adds_directive c n x fs now e =
      subst (λ (f : FormClause). Adds d hs names ms f now now) (sym e)
      (record { clauses = []; passes = λ cs r p. directive p; are_clauses = λ cs xs p. skips_directive p; added = sym (append-nil now) })

  module _ (c : FormClause) (n : ℕ) (f : Form) (bodied : Bool) (gs : List FormGoal) (e : c ≡ Rule n f bodied gs) (h : false ≡ is_fact c) where
    no_fact : is_fact (Rule n f bodied gs) ≡ false
    no_fact = sym (h ∙ ap is_fact e)

    pub adds_rule : (now then' : List Clause) → AddsRule d hs names ms f gs now then' → Adds d hs names ms c now then'
    adds_rule now then' a =
        subst (λ (g : FormClause). Adds d hs names ms g now then') (sym e)
        (record { clauses = a.clause ∷ []; passes = λ cs r p. passes no_fact a.accepted p; are_clauses = λ cs xs p. a_clause no_fact a.is_clause p; added = a.added })

    stops : (r : Refusal) (m : ℕ) → m ≡ n → BodyRefusal d hs ms (body_of f gs) (Some r) → (cs : List FormClause) → RulesRefusal d hs ms (c ∷ cs) (Some (r, m))
    stops r m q b cs =
        subst (λ (g : FormClause). RulesRefusal d hs ms (g ∷ cs) (Some (r, m))) (sym e)
        (subst (λ k. RulesRefusal d hs ms (Rule n f bodied gs ∷ cs) (Some (r, k))) (sym q) (refused no_fact b))

    pub refuses_rule : (x : LoadError) → RefusesBody d hs ms (body_of f gs) n x → (cs : List FormClause) → RefusesRules d hs ms (c ∷ cs) x
    refuses_rule (error.Directive m) b cs = b
    refuses_rule (error.SortClash m) b cs = stops SortClash m b.0 b.1 cs
    refuses_rule (error.Unknown m) b cs = stops Unknown m b.0 b.1 cs
    refuses_rule (error.Twice m) b cs = stops Twice m b.0 b.1 cs
    refuses_rule error.Memory b cs = tt

-- ---- the names that have clauses, as another list of the same names

module _ (d : Declared) (hs ks : List Sign) (ms : List (Option Text)) (same : (a : Sign) → has_sign hs a ≡ has_sign ks a) where
  pub rules_same : {cs : List FormClause} {r : Option (Refusal × ℕ)} → RulesRefusal d hs ms cs r → RulesRefusal d ks ms cs r
  rules_same none = none
  rules_same (skip h p) = skip h (rules_same p)
  rules_same (directive p) = directive (rules_same p)
  rules_same (passes {f = f} {gs = gs} h b p) = passes h (body_same d hs ks ms same (body_of f gs) None b) (rules_same p)
  rules_same (refused {f = f} {gs = gs} {r = r} h b) = refused h (body_same d hs ks ms same (body_of f gs) (Some r) b)

  pub refuses_same : (cs : List FormClause) (e : LoadError) → RefusesRules d hs ms cs e → RefusesRules d ks ms cs e
  refuses_same cs (error.Directive n) h = h
  refuses_same cs (error.SortClash n) h = rules_same h
  refuses_same cs (error.Unknown n) h = rules_same h
  refuses_same cs (error.Twice n) h = rules_same h
  refuses_same cs error.Memory h = tt
