-- The clause of a rule from its parts.
use Rattle.std.proofs.Common.{◌≡◌, ℕ, suc, ◌+◌, List, [], ◌∷◌, ◌++◌, map, length, get_or, Option, refl, sym, ◌∙◌, ap, subst, arith}
use Rattle.std.proofs.lemmas.List.{append-nil}
use Rattle.cb_model.specs.Text.{Text}
use Rattle.cb_model.specs.declared.Sort.{Sort}
use Rattle.cb_model.specs.declared.Sort.TheVariants as sort
use Rattle.cb_model.specs.declared.Tree.{Tree}
use Rattle.cb_model.specs.declared.Goal.{Goal}
use Rattle.cb_model.specs.declared.RawGoal.{RawGoal}
use Rattle.cb_model.specs.Grammar.{Form, FormGoal}
use Rattle.cb_model.specs.Forms.{goal_form}
use Rattle.cb_model.specs.Directives.{Sign, Declared}
use Rattle.cb_model.specs.Sorts.{Body, apart, apart_goal, apart_goals, Equation, HasSort, Numbering, sign_number, as_arguments}
use Rattle.cb_model.specs.Loading.{body_of, head_sign, numbering, HaveSorts, body_variables, AreGoals, IsClause}
use Rattle.cb_marking.specs.Marking.{Sorted, IsMarking}
use Rattle.cb_trees.specs.Places.{goals_at}
use Rattle.cb_rules.proofs.InOrder.{are_goals}

pub length_apart : (gs : List FormGoal) (k : ℕ) → length (apart_goals gs k) ≡ length gs
length_apart [] k = refl
length_apart (g ∷ gs) k = ap suc (length_apart gs (apart_goal g k).1)

pub length_body : (gs : List RawGoal) (k : ℕ) → length (apart_goals (map goal_form gs) k) ≡ length gs
length_body gs k = length_apart (map goal_form gs) k ∙ forms gs
  where
    forms : (gs : List RawGoal) → length (map goal_form gs) ≡ length gs
    forms [] = refl
    forms (g ∷ gs) = ap suc (forms gs)

module _ (d : Declared) (names more : List Sign) (ms : List (Option Text)) (b : Body) (vars : List Text) (m : Sorted) (k : IsMarking d b m) (v : vars ≡ m.variables) where
  abbrev pub Kept : Numbering
  Kept = record { variables = vars; constants = d.constants; names = names ++ more }

  pub kept_is : Kept ≡ numbering d (names ++ more) b
  kept_is = let w : vars ≡ body_variables b = v ∙ k.variables in λ j. record { variables = w j; constants = d.constants; names = names ++ more }

  pub goals_are : (gs : List Goal) → gs ≡ goals_at d Kept ms m.goals b.goals → AreGoals d b (numbering d (names ++ more) b) ms 0 b.goals gs
  goals_are gs e =
      subst (AreGoals d b (numbering d (names ++ more) b) ms 0 b.goals) (sym (e ∙ ap (λ (n : Numbering). goals_at d n ms m.goals b.goals) kept_is))
      (are_goals d b (numbering d (names ++ more) b) ms 0 m.goals b.goals
      (λ j h. let z : j ≡ 0 + j = omega arith in subst (λ i. HasSort d b (Equation i) (get_or m.goals j sort.Term)) z (k.equations j h)))

  pub sorts_are : (ss : List Sort) → ss ≡ m.sorts → HaveSorts d b (body_variables b) ss
  sorts_are ss e = subst (HaveSorts d b (body_variables b)) (sym e) (subst (λ (xs : List Text). HaveSorts d b xs m.sorts) k.variables k.sorts)

pub clause_is : (d : Declared) (names more : List Sign) (ms : List (Option Text)) (f : Form) (gs : List FormGoal) (vars : List Text) (m : Sorted) → IsMarking d (body_of f gs) m → vars ≡ m.variables →
    more ≡ [] → (own : ℕ) (args : List Tree) (goals : List Goal) (sorts : List Sort) (pred : ℕ) →
    args ≡ as_arguments d (record { variables = vars; constants = d.constants; names = names ++ more }) (apart f 0).0 → own ≡ (apart f 0).1 →
    goals ≡ goals_at d (record { variables = vars; constants = d.constants; names = names ++ more }) ms m.goals (apart_goals gs own) → sorts ≡ m.sorts →
    pred ≡ sign_number (names ++ more) (head_sign f) → IsClause d names ms f gs (record { pred = pred; sorts = sorts; head = args; body = goals })
clause_is d names more ms f gs vars m k v none own args goals sorts pred a o g s p =
    let b : Body = body_of f gs in
    let plain : names ++ more ≡ names = ap (λ (l : List Sign). names ++ l) none ∙ append-nil names in
    record {
      sorts = sorts_are d names more ms b vars m k v sorts s;
      pred = p ∙ ap (λ (l : List Sign). sign_number l (head_sign f)) plain;
      head = a ∙ ap (λ (n : Numbering). as_arguments d n (apart f 0).0) (kept_is d names more ms b vars m k v) ∙ ap (λ (l : List Sign). as_arguments d (numbering d l b) (apart f 0).0) plain;
      body = subst (λ (l : List Sign). AreGoals d b (numbering d l b) ms 0 b.goals goals) plain
          (goals_are d names more ms b vars m k v goals (g ∙ ap (λ i. goals_at d (Kept d names more ms b vars m k v) ms m.goals (apart_goals gs i)) o));
    }
