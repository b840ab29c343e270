-- More names behind those that number a file's clauses leave its clauses as they are.
use Rattle.std.specs.Prelude.{unwrap_or}
use Rattle.std.specs.Bool.{if◌then◌else◌}
use Rattle.std.specs.List.{list_all}
use Rattle.std.proofs.Common.{◌≡◌, ℕ, suc, true, List, [], ◌∷◌, ◌++◌, Option, None, codes, refl, ◌∙◌, ap}
use Rattle.cb_model.specs.Text.{Text}
use Rattle.cb_model.specs.declared.Sort.{Sort}
use Rattle.cb_model.specs.declared.Sort.TheVariants as sort
use Rattle.cb_model.specs.declared.Expr.TheVariants as expr
use Rattle.cb_model.specs.declared.Tree.TheVariants as tree
use Rattle.cb_model.specs.declared.Goal.{Goal}
use Rattle.cb_model.specs.declared.Goal.TheVariants as goal
use Rattle.cb_model.specs.declared.Clause.{Clause}
use Rattle.cb_model.specs.Grammar.{Form, Forms, Variable, Integer, Name, Closed, Open, Not, And, Xor, Or, Last, More, FormGoal, ACall, AnEqual, FormClause, Directive, Rule}
use Rattle.cb_model.specs.Written.{is_name, clause_written}
use Rattle.cb_model.specs.Directives.{Sign, same_sign, has_sign, count_of, Declared, sorts_of}
use Rattle.cb_model.specs.Sorts.{Body, apart, apart_all, apart_goals, Numbering, sign_number, as_expr, as_exprs, as_bus, as_tree, as_trees, as_arguments, circuit_sign}
use Rattle.cb_model.specs.Loading.{head_sign, first_atom, module_number, circuit_goal, call_goal, IsGoal, a_call, an_equal, AreGoals, no_goals, more_goals, body_of, body_variables, IsClause, HaveClauses, no_clauses, skips, skips_directive, a_clause, signs_of, signs_in, goals_signs, clauses_signs}
use Rattle.cb_rules.proofs.Refusing.{count_apart, variable_apart}
use Rattle.cb_sorts.proofs.Known.{place_within, and_left, and_right, all_left, all_right, head_there, rule_signs, fact_signs}

-- ---- the names of terms with each `_` apart

mutual
  signs_apart : (f : Form) (k : ℕ) → signs_of (apart f k).0 ≡ signs_of f
  signs_apart (Variable x) k = variable_apart signs_of [] (λ y. refl) x k
  signs_apart (Integer z) k = refl
  signs_apart (Name x fs) k = λ j. (x, count_apart fs k j) ∷ all_apart fs k j
  signs_apart (Closed fs) k = all_apart fs k
  signs_apart (Open fs f) k = λ j. all_apart fs k j ++ signs_apart f (apart_all fs k).1 j
  signs_apart (Not f) k = signs_apart f k
  signs_apart (And fs) k = all_apart fs k
  signs_apart (Xor fs) k = all_apart fs k
  signs_apart (Or fs) k = all_apart fs k

  all_apart : (fs : Forms) (k : ℕ) → signs_in (apart_all fs k).0 ≡ signs_in fs
  all_apart Last k = refl
  all_apart (More f fs) k = λ j. signs_apart f k j ++ all_apart fs (apart f k).1 j

goals_apart : (gs : List FormGoal) (k : ℕ) → goals_signs (apart_goals gs k) ≡ goals_signs gs
goals_apart [] k = refl
goals_apart (ACall f ∷ gs) k = λ j. signs_apart f k j ++ goals_apart gs (apart f k).1 j
goals_apart (AnEqual f g ∷ gs) k = λ j. signs_apart f k j ++ signs_apart g (apart f k).1 j ++ goals_apart gs (apart g (apart f k).1).1 j

-- ---- terms

module _ (names more : List Sign) where
  -- all these names are numbered
  abbrev Numbered : List Sign → Type 0
  Numbered as' = list_all (has_sign names) as' ≡ true

  sign_within : (a : Sign) → has_sign names a ≡ true → sign_number names a ≡ sign_number (names ++ more) a
  sign_within a h = ap (λ (o : Option ℕ). unwrap_or o 0) (place_within (same_sign a) names more h)

  module _ (d : Declared) (vs ks : List Text) where
    abbrev Few : Numbering
    Few = record { variables = vs; constants = ks; names = names }

    abbrev Many : Numbering
    Many = record { variables = vs; constants = ks; names = names ++ more }

    mutual
      expr_same : (f : Form) → as_expr Few f ≡ as_expr Many f
      expr_same (Variable x) = refl
      expr_same (Integer z) = refl
      expr_same (Name x fs) = refl
      expr_same (Closed fs) = refl
      expr_same (Open fs f) = refl
      expr_same (Not f) = ap expr.Not (expr_same f)
      expr_same (And fs) = ap expr.And (exprs_same fs)
      expr_same (Xor fs) = ap expr.Xor (exprs_same fs)
      expr_same (Or fs) = ap expr.Or (exprs_same fs)

      exprs_same : (fs : Forms) → as_exprs Few fs ≡ as_exprs Many fs
      exprs_same Last = refl
      exprs_same (More f fs) = λ j. expr_same f j ∷ exprs_same fs j

    bits_same : (f : Form) → as_bus Few f ≡ as_bus Many f
    bits_same (Variable x) = refl
    bits_same (Integer z) = refl
    bits_same (Name x fs) = refl
    bits_same (Closed fs) = λ j. (exprs_same fs j, None)
    bits_same (Open fs f) = λ j. (exprs_same fs j ++ (bits_same f j).0, (bits_same f j).1)
    bits_same (Not f) = refl
    bits_same (And fs) = refl
    bits_same (Xor fs) = refl
    bits_same (Or fs) = refl

    bus_same : (f : Form) → as_tree d Few sort.Bus f ≡ as_tree d Many sort.Bus f
    bus_same f = λ j. tree.Bus (bits_same f j).0 (bits_same f j).1

    mutual
      tree_same : (s : Sort) (f : Form) → Numbered (signs_of f) → as_tree d Few s f ≡ as_tree d Many s f
      tree_same sort.Bool f h = ap tree.Leaf (expr_same f)
      tree_same sort.Bus f h = bus_same f
      tree_same sort.Term (Variable x) h = refl
      tree_same sort.Term (Integer z) h = refl
      tree_same sort.Term (Name x fs) h =
          let a : Sign = (x, count_of fs) in
          let s = sign_within a (and_left (has_sign names a) (list_all (has_sign names) (signs_in fs)) h) in
          let t = trees_same (sorts_of d a) fs (and_right (has_sign names a) (list_all (has_sign names) (signs_in fs)) h) in λ j. tree.Node (s j) (t j)
      tree_same sort.Term (Closed fs) h = refl
      tree_same sort.Term (Open fs f) h = refl
      tree_same sort.Term (Not f) h = refl
      tree_same sort.Term (And fs) h = refl
      tree_same sort.Term (Xor fs) h = refl
      tree_same sort.Term (Or fs) h = refl

      trees_same : (ss : List Sort) (fs : Forms) → Numbered (signs_in fs) → as_trees d Few ss fs ≡ as_trees d Many ss fs
      trees_same [] Last h = refl
      trees_same (s ∷ ss) Last h = refl
      trees_same [] (More f fs) h = refl
      trees_same (s ∷ ss) (More f fs) h =
          let t = tree_same s f (all_left (has_sign names) (signs_of f) (signs_in fs) h) in
          let ts = trees_same ss fs (all_right (has_sign names) (signs_of f) (signs_in fs) h) in λ j. t j ∷ ts j

    arguments_same : (f : Form) → Numbered (signs_of f) → as_arguments d Few f ≡ as_arguments d Many f
    arguments_same (Variable x) h = refl
    arguments_same (Integer z) h = refl
    arguments_same (Name x fs) h =
        let a : Sign = (x, count_of fs) in trees_same (sorts_of d a) fs (and_right (has_sign names a) (list_all (has_sign names) (signs_in fs)) h)
    arguments_same (Closed fs) h = refl
    arguments_same (Open fs f) h = refl
    arguments_same (Not f) h = refl
    arguments_same (And fs) h = refl
    arguments_same (Xor fs) h = refl
    arguments_same (Or fs) h = refl

    -- ---- goals

    module _ (ms : List (Option Text)) where
      circuit_same : (x : Text) (fs : Forms) → circuit_goal d Few ms (Name x fs) ≡ circuit_goal d Many ms (Name x fs)
      circuit_same x Last = refl
      circuit_same x (More m Last) = refl
      circuit_same x (More m (More ins Last)) = refl
      circuit_same x (More m (More ins (More outs Last))) =
          let n : ℕ = unwrap_or (module_number ms (unwrap_or (first_atom (Name x (More m Last))) [])) 0 in λ j. goal.Circuit n (bus_same ins j) (bus_same outs j)
      circuit_same x (More m (More ins (More outs (More f fs)))) = refl

      call_same : (f : Form) → Numbered (signs_of f) → call_goal d Few ms f ≡ call_goal d Many ms f
      call_same (Variable x) h = refl
      call_same (Integer z) h = refl
      call_same (Name x fs) h =
          let a : Sign = (x, count_of fs) in
          let s = sign_within a (and_left (has_sign names a) (list_all (has_sign names) (signs_in fs)) h) in
          let t = trees_same (sorts_of d a) fs (and_right (has_sign names a) (list_all (has_sign names) (signs_in fs)) h) in
          let c = circuit_same x fs in
          λ j. if same_sign a (codes "true", 0) then goal.True else (if same_sign a (codes "fail", 0) then goal.Fail else (if same_sign a circuit_sign then c j else goal.Call (s j) (t j)))
      call_same (Closed fs) h = refl
      call_same (Open fs f) h = refl
      call_same (Not f) h = refl
      call_same (And fs) h = refl
      call_same (Xor fs) h = refl
      call_same (Or fs) h = refl

      module _ (b : Body) where
        goal_same : (k : ℕ) (f : FormGoal) (g : Goal) (rest : List FormGoal) → Numbered (goals_signs (f ∷ rest)) → IsGoal d b Few ms k f g → IsGoal d b Many ms k f g
        goal_same k (ACall f) g rest h (a_call e) = a_call (e ∙ call_same f (all_left (has_sign names) (signs_of f) (goals_signs rest) h))
        goal_same k (AnEqual l r) g rest h (an_equal s m e) =
            let both = all_left (has_sign names) (signs_of l ++ signs_of r) (goals_signs rest) h in
            let x = tree_same s l (all_left (has_sign names) (signs_of l) (signs_of r) both) in
            let y = tree_same s r (all_right (has_sign names) (signs_of l) (signs_of r) both) in an_equal s m (e ∙ (λ j. goal.Equal (x j) (y j)))

        rest_numbered : (f : FormGoal) (rest : List FormGoal) → Numbered (goals_signs (f ∷ rest)) → Numbered (goals_signs rest)
        rest_numbered (ACall f) rest h = all_right (has_sign names) (signs_of f) (goals_signs rest) h
        rest_numbered (AnEqual l r) rest h = all_right (has_sign names) (signs_of l ++ signs_of r) (goals_signs rest) h

        goals_same : (k : ℕ) (fs : List FormGoal) (gs : List Goal) → Numbered (goals_signs fs) → AreGoals d b Few ms k fs gs → AreGoals d b Many ms k fs gs
        goals_same k fs gs h no_goals = no_goals
        goals_same k fs gs h (more_goals {f = f} {g = g} {fs = rest} {gs = others} i p) =
            more_goals (goal_same k f g rest h i) (goals_same (suc k) rest others (rest_numbered f rest h) p)

  -- ---- clauses

  clause_same : (d : Declared) (ms : List (Option Text)) (f : Form) (gs : List FormGoal) (c : Clause) → is_name f ≡ true → Numbered (signs_of f) → Numbered (goals_signs gs) →
      IsClause d names ms f gs c → IsClause d (names ++ more) ms f gs c
  clause_same d ms f gs c named head body is =
      let b : Body = body_of f gs in
      let vs = body_variables b in
      record {
        sorts = is.sorts;
        pred = is.pred ∙ sign_within (head_sign f) (head_there (has_sign names) f named head);
        head = is.head ∙ arguments_same d vs d.constants (apart f 0).0 (ap (list_all (has_sign names)) (signs_apart f 0) ∙ head);
        body = goals_same d vs d.constants ms b 0 b.goals c.body (ap (list_all (has_sign names)) (goals_apart gs (apart f 0).1) ∙ body) is.body;
      }

  pub clauses_same : (d : Declared) (ms : List (Option Text)) (cs : List FormClause) (xs : List Clause) → list_all clause_written cs ≡ true → Numbered (clauses_signs cs) →
      HaveClauses d names ms cs xs → HaveClauses d (names ++ more) ms cs xs
  clauses_same d ms cs xs w h no_clauses = no_clauses
  clauses_same d ms cs xs w h (skips {c = c} {cs = rest} e p) =
      skips e (clauses_same d ms rest xs (and_right (clause_written c) (list_all clause_written rest) w) (fact_signs (has_sign names) c rest e h) p)
  clauses_same d ms cs xs w h (skips_directive {n = n} {x = x} {fs = fs} {cs = rest} p) =
      skips_directive (clauses_same d ms rest xs (and_right (clause_written (Directive n x fs)) (list_all clause_written rest) w) h p)
  clauses_same d ms cs xs w h (a_clause {n = n} {f = f} {bodied = b} {gs = gs} {c = c} {cs = rest} {xs = ys} e i p) =
      let s = rule_signs (has_sign names) n f b gs rest e h in
      let named : is_name f ≡ true = and_left (is_name f) _ (and_left (clause_written (Rule n f b gs)) (list_all clause_written rest) w) in
      let head = all_left (has_sign names) (signs_of f) (goals_signs gs ++ clauses_signs rest) s in
      let behind = all_right (has_sign names) (signs_of f) (goals_signs gs ++ clauses_signs rest) s in
      a_clause e (clause_same d ms f gs c named head (all_left (has_sign names) (goals_signs gs) (clauses_signs rest) behind) i)
      (clauses_same d ms rest ys (and_right (clause_written (Rule n f b gs)) (list_all clause_written rest) w)
      (all_right (has_sign names) (goals_signs gs) (clauses_signs rest) behind) p)
