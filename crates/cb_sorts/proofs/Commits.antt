-- Nothing commits where a file declares no demon rules, and has no module.
use Rattle.std.proofs.Common.{◌≡◌, ℕ, zero, suc, Bool, true, false, not, ◌||◌, List, [], ◌∷◌, ◌++◌, map, Option, Some, None, refl, sym, ap, subst}
use Rattle.std.specs.Prelude.{slice_get, get_or, codes}
use Rattle.std.specs.Bool.{if◌then◌else◌}
use Rattle.std.specs.List.{list_any}
use Rattle.cb_model.specs.declared.Goal.{Goal}
use Rattle.cb_model.specs.declared.Goal.TheVariants as goal
use Rattle.cb_model.specs.declared.Clause.{Clause}
use Rattle.cb_model.specs.Text.{Text}
use Rattle.cb_model.specs.Bits.{Each}
use Rattle.cb_model.specs.Grammar.{Form, Forms, Variable, Integer, Name, Closed, Open, Not, And, Xor, Or, FormGoal, ACall, AnEqual, FormClause, Directive, Rule}
use Rattle.cb_model.specs.Directives.{Sign, same_sign, has_sign, count_of, Declared, sorts_of, heads, Refusal}
use Rattle.cb_model.specs.Sorts.{Body, Numbering, sign_number, as_trees, circuit_sign}
use Rattle.cb_model.specs.Loading.{module_sign, spec_sign, names_module, first_atom, module_names, plain_goals, is_unknown, goal_unknown, query_body, RulesRefusal, skip, directive, passes, refused, body_of, HaveClauses, no_clauses, skips, skips_directive, a_clause, circuit_goal, call_goal, IsGoal, a_call, an_equal, AreGoals, no_goals, more_goals, numbering}
use Rattle.cb_model.specs.Program.{Program}
use Rattle.cb_model.specs.Derivation.{is_demon}
use Rattle.cb_sorts.specs.OverFile.{asked_program}
use Rattle.cb_sorts.specs.Commits.{NeverCommits, PlainFilesNeverCommit}
use Rattle.cb_sorts.proofs.Called.{all_known, rule_known, same_some}

-- ---- names that nothing was declared of

no_demon : (ds names : List Sign) (k : ℕ) → ds ≡ [] → get_or (map (has_sign ds) names) k false ≡ false
no_demon ds [] k e = refl
no_demon ds (a ∷ names) zero e = ap (λ (l : List Sign). has_sign l a) e
no_demon ds (a ∷ names) (suc k) e = no_demon ds names k e

no_module : (ms : List (Option Text)) → ms ≡ [] → (o : Option Text) → names_module ms o ≡ false
no_module ms e None = refl
no_module ms e (Some x) = ap (λ (l : List (Option Text)). names_module l (Some x)) e

-- ---- goals

module _ (p : Program) (never : (k : ℕ) → is_demon p k ≡ false) (d : Declared) (hs : List Sign) (ms : List (Option Text)) (none : (o : Option Text) → names_module ms o ≡ false) where
  name_never : (n : Numbering) (x : Text) (fs : Forms) (a : Sign) (t f c rest : Bool) → (if c then not (names_module ms (first_atom (Name x fs))) else rest) ≡ false →
      NeverCommits p (if t then goal.True else (if f then goal.Fail else (if c then circuit_goal d n ms (Name x fs) else goal.Call (sign_number n.names a) (as_trees d n (sorts_of d a) fs))))
  name_never n x fs a true f c rest h = tt
  name_never n x fs a false true c rest h = tt
  name_never n x fs a false false true rest h = let q : not (names_module ms (first_atom (Name x fs))) ≡ true = ap not (none (first_atom (Name x fs))) in absurd (cc)
  name_never n x fs a false false false rest h = never (sign_number n.names a)

  call_never : (n : Numbering) (f : Form) → is_unknown d hs ms f ≡ false → NeverCommits p (call_goal d n ms f)
  call_never n (Variable x) h = absurd (cc)
  call_never n (Integer z) h = absurd (cc)
  call_never n (Closed fs) h = absurd (cc)
  call_never n (Open fs f) h = absurd (cc)
  call_never n (Not f) h = absurd (cc)
  call_never n (And fs) h = absurd (cc)
  call_never n (Xor fs) h = absurd (cc)
  call_never n (Or fs) h = absurd (cc)
  call_never n (Name x fs) h =
      let a : Sign = (x, count_of fs) in
      name_never n x fs a (same_sign a (codes "true", 0)) (same_sign a (codes "fail", 0)) (same_sign a circuit_sign)
      (same_sign a module_sign || same_sign a spec_sign || not (has_sign plain_goals a || has_sign hs a || has_sign (map (λ e. e.0) d.sorts) a)) h

  goal_never : (b : Body) (n : Numbering) (k : ℕ) (f : FormGoal) (g : Goal) → goal_unknown d hs ms f ≡ false → IsGoal d b n ms k f g → NeverCommits p g
  goal_never b n k (ACall f) g h (a_call e) = subst (NeverCommits p) (sym e) (call_never n f h)
  goal_never b n k (AnEqual l r) g h (an_equal s m e) = subst (NeverCommits p) (sym e) tt

  or_parts : (x y : Bool) → (x || y) ≡ false → (x ≡ false) × (y ≡ false)
  or_parts true y h = absurd (cc)
  or_parts false y h = (refl, h)

  goals_never : (b : Body) (n : Numbering) (k : ℕ) (fs : List FormGoal) (gs : List Goal) → list_any (goal_unknown d hs ms) fs ≡ false → AreGoals d b n ms k fs gs → Each (NeverCommits p) gs
  goals_never b n k fs gs h no_goals = tt
  goals_never b n k fs gs h (more_goals {f = f} {g = g} {fs = rest} {gs = others} i more) =
      let q = or_parts (goal_unknown d hs ms f) (list_any (goal_unknown d hs ms) rest) h in
      (goal_never b n k f g q.0 i, goals_never b n (suc k) rest others q.1 more)

  -- the goals of rules
  rules_never : (names : List Sign) (cs : List FormClause) (xs : List Clause) (r : Option (Refusal × ℕ)) → r ≡ None → RulesRefusal d hs ms cs r → HaveClauses d names ms cs xs →
      (k : ℕ) (c : Clause) → slice_get xs k ≡ Some c → Each (NeverCommits p) c.body
  rules_never names [] [] r e ok no_clauses k c at = absurd (cc)
  rules_never names [] (x ∷ xs) r e ok more k c at = elim more [ ]
  rules_never names (Directive j y fs ∷ cs) xs r e (skip q ok) more k c at = absurd (cc)
  rules_never names (Directive j y fs ∷ cs) xs r e (directive ok) (skips q more) k c at = absurd (cc)
  rules_never names (Directive j y fs ∷ cs) xs r e (directive ok) (skips_directive more) k c at = rules_never names cs xs r e ok more k c at
  rules_never names (Rule j f bodied gs ∷ cs) xs r e (skip q ok) (skips q' more) k c at = rules_never names cs xs r e ok more k c at
  rules_never names (Rule j f bodied gs ∷ cs) (x ∷ xs) r e (skip q ok) (a_clause q' is more) k c at = absurd (cc)
  rules_never names (Rule j f bodied gs ∷ cs) xs r e (passes q body ok) (skips q' more) k c at = absurd (cc)
  rules_never names (Rule j f bodied gs ∷ cs) (x ∷ xs) r e (passes q body ok) (a_clause q' is more) zero c at =
      subst (λ (y : Clause). Each (NeverCommits p) y.body) (same_some x c at)
      (goals_never (body_of f gs) (numbering d names (body_of f gs)) 0 (body_of f gs).goals x.body (rule_known d hs ms (body_of f gs) body) is.body)
  rules_never names (Rule j f bodied gs ∷ cs) (x ∷ xs) r e (passes q body ok) (a_clause q' is more) (suc k) c at = rules_never names cs xs r e ok more k c at
  rules_never names (Rule j f bodied gs ∷ cs) xs r e (refused q body) more k c at = absurd (cc)

pub plain_files_never_commit : PlainFilesNeverCommit
plain_files_never_commit cs s gs a loads asks demons modules =
    let p = asked_program s a [] in
    let names = s.names ++ a.names in
    let never : (k : ℕ) → is_demon p k ≡ false = λ k. no_demon s.declared.demons names k demons in
    let none = no_module (module_names cs) modules in
    record {
      clauses = rules_never p never s.declared (heads cs) (module_names cs) none s.names cs s.clauses None refl loads.rules (loads.program []).clauses;
      goals = goals_never p never s.declared (heads cs) (module_names cs) none (query_body gs) (numbering s.declared names (query_body gs)) 0 (query_body gs).goals a.goals
          (all_known s.declared (heads cs) (module_names cs) gs asks.accepted) asks.goals;
    }
