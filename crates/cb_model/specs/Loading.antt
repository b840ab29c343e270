-- What a file's clauses are as a program, and the refusals of its rules in order.
use Rattle.std.specs.Prelude.{◌≡◌, ℕ, suc, Bool, true, false, not, ◌||◌, if◌then◌else◌, ◌⊎◌, List, [], ◌∷◌, ◌++◌, map, length, Option, Some, None, unwrap_or, position, codes, bytes_eq, AllPairs, MatchBool}
use Rattle.std.specs.List.{list_any, list_all}
use Rattle.cb_model.specs.declared.Sort.{Sort}
use Rattle.cb_model.specs.declared.Sort.TheVariants as sort
use Rattle.cb_model.specs.declared.When.{When}
use Rattle.cb_model.specs.declared.Goal.{Goal}
use Rattle.cb_model.specs.declared.Goal.TheVariants as goal
use Rattle.cb_model.specs.declared.Circuit.{Circuit}
use Rattle.cb_model.specs.Text.{Text}
use Rattle.cb_model.specs.declared.Clause.{Clause}
use Rattle.cb_model.specs.Program.{Program}
use Rattle.cb_model.specs.Grammar.{Form, Forms, Variable, Integer, Name, Closed, Open, Not, And, Xor, Or, Last, More, FormGoal, ACall, AnEqual, FormClause, Directive, Rule}
use Rattle.cb_model.specs.Directives.{Sign, same_sign, has_sign, count_of, looked_up, Declared, sorts_of, Refusal, Twice, Unknown, SortClash}
use Rattle.cb_model.specs.Sorts.{Body, apart, apart_goals, Var, Equation, HasSort, Clash, Numbering, sign_number, as_tree, as_trees, as_arguments, circuit_sign}

-- ---- names that exist

-- the name of module facts
abbrev pub module_sign : Sign
module_sign = (codes "module", 4)

-- the name of specification facts
abbrev pub spec_sign : Sign
spec_sign = (codes "spec", 3)

-- whether a form has the name
abbrev pub sign_is : Sign → Form → Bool
sign_is a (Name x fs) = same_sign a (x, count_of fs)
sign_is a _ = false

-- a rule with the head `module/4` or `spec/3`
abbrev pub is_fact : FormClause → Bool
is_fact (Rule line f bodied body) = sign_is module_sign f || sign_is spec_sign f
is_fact _ = false

-- the name of a head
abbrev pub head_sign : Form → Sign
head_sign (Name x fs) = (x, count_of fs)
head_sign _ = ([], 0)

-- the first argument of a name, where it is an atom
abbrev pub first_atom : Form → Option Text
first_atom (Name x (More (Name y Last) fs)) = Some y
first_atom _ = None

-- the names of the file's `module/4` facts in order, where they are atoms
abbrev pub module_names : List FormClause → List (Option Text)
module_names [] = []
module_names (Rule line f bodied body ∷ cs) = if sign_is module_sign f then first_atom f ∷ module_names cs else module_names cs
module_names (c ∷ cs) = module_names cs

-- whether a fact has the name
abbrev pub names_it : Text → Option Text → Bool
names_it x None = false
names_it x (Some y) = bytes_eq x y

-- the number of the first module with the name
abbrev pub module_number : List (Option Text) → Text → Option ℕ
module_number ms x = position (names_it x) ms

-- whether some module has the name
abbrev pub names_module : List (Option Text) → Option Text → Bool
names_module ms None = false
names_module ms (Some x) = list_any (names_it x) ms

-- goals that need no clause
abbrev pub plain_goals : List Sign
plain_goals = (codes "true", 0) ∷ (codes "fail", 0) ∷ []

-- whether a goal has an unknown name; the signs are those of the clauses
abbrev pub is_unknown : Declared → List Sign → List (Option Text) → Form → Bool
is_unknown d hs ms (Name x fs) =
    let a : Sign = (x, count_of fs) in
    if same_sign a circuit_sign then not (names_module ms (first_atom (Name x fs)))
    else (same_sign a module_sign || same_sign a spec_sign ||
    not (has_sign plain_goals a || has_sign hs a || has_sign (map (λ e. e.0) d.sorts) a))
is_unknown d hs ms _ = true

-- whether a goal is unknown
abbrev pub goal_unknown : Declared → List Sign → List (Option Text) → FormGoal → Bool
goal_unknown d hs ms (ACall f) = is_unknown d hs ms f
goal_unknown d hs ms (AnEqual f g) = false

-- ---- the refusal of a rule or query

-- whether a head has a name that is not for clauses
abbrev pub is_taken : Option Form → Bool
is_taken None = false
is_taken (Some f) = sign_is (codes "true", 0) f || sign_is (codes "fail", 0) f || sign_is circuit_sign f

-- a rule with each `_` a variable of its own
abbrev pub body_of : Form → List FormGoal → Body
body_of f gs = let r = apart f 0 in record { head = Some r.0; goals = apart_goals gs r.1 }

-- a query with each `_` a variable of its own
abbrev pub query_body : List FormGoal → Body
query_body gs = record { head = None; goals = apart_goals gs 0 }

-- what a rule or query is refused with, if it is
abbrev pub BodyRefusal : Declared → List Sign → List (Option Text) → Body → Option Refusal → Type 0
BodyRefusal d hs ms b r =
    MatchBool (is_taken b.head) (r ≡ Some Twice)
    (MatchBool (list_any (goal_unknown d hs ms) b.goals) (r ≡ Some Unknown)
    ((Clash d b × (r ≡ Some SortClash)) ⊎ ((Clash d b → ⊥) × (r ≡ None))))

-- the first refusal of the rules in the order of the text, with its line
pub data RulesRefusal (d : Declared) (hs : List Sign) (ms : List (Option Text)) : List FormClause → Option (Refusal × ℕ) → Type 0 where
  none : RulesRefusal d hs ms [] None
  skip : {c : FormClause} {cs : List FormClause} {r : Option (Refusal × ℕ)} → is_fact c ≡ true → RulesRefusal d hs ms cs r → RulesRefusal d hs ms (c ∷ cs) r
  directive : {n : ℕ} {x : Text} {fs : Forms} {cs : List FormClause} {r : Option (Refusal × ℕ)} → RulesRefusal d hs ms cs r → RulesRefusal d hs ms (Directive n x fs ∷ cs) r
  passes : {n : ℕ} {f : Form} {bodied : Bool} {gs : List FormGoal} {cs : List FormClause} {r : Option (Refusal × ℕ)} → is_fact (Rule n f bodied gs) ≡ false →
      BodyRefusal d hs ms (body_of f gs) None → RulesRefusal d hs ms cs r → RulesRefusal d hs ms (Rule n f bodied gs ∷ cs) r
  refused : {n : ℕ} {f : Form} {bodied : Bool} {gs : List FormGoal} {cs : List FormClause} {r : Refusal} → is_fact (Rule n f bodied gs) ≡ false →
      BodyRefusal d hs ms (body_of f gs) (Some r) → RulesRefusal d hs ms (Rule n f bodied gs ∷ cs) (Some (r, n))

-- ---- the program

-- a name at the end, where it isn't there yet
abbrev pub add_name : List Text → Text → List Text
add_name xs x = if list_any (bytes_eq x) xs then xs else xs ++ x ∷ []

-- the variables of a form in order of first appearance, behind those before
abbrev mutual
  pub variables_of : List Text → Form → List Text
  variables_of xs (Variable x) = add_name xs x
  variables_of xs (Integer z) = xs
  variables_of xs (Name n fs) = variables_in xs fs
  variables_of xs (Closed fs) = variables_in xs fs
  variables_of xs (Open fs f) = variables_of (variables_in xs fs) f
  variables_of xs (Not f) = variables_of xs f
  variables_of xs (And fs) = variables_in xs fs
  variables_of xs (Xor fs) = variables_in xs fs
  variables_of xs (Or fs) = variables_in xs fs

  pub variables_in : List Text → Forms → List Text
  variables_in xs Last = xs
  variables_in xs (More f fs) = variables_in (variables_of xs f) fs

-- the variables of goals, behind those before
abbrev pub goals_variables : List Text → List FormGoal → List Text
goals_variables xs [] = xs
goals_variables xs (ACall f ∷ gs) = goals_variables (variables_of xs f) gs
goals_variables xs (AnEqual f g ∷ gs) = goals_variables (variables_of (variables_of xs f) g) gs

-- the variables of a head
abbrev pub head_variables : Option Form → List Text
head_variables None = []
head_variables (Some f) = variables_of [] f

-- all variables in order of first appearance
abbrev pub body_variables : Body → List Text
body_variables b = goals_variables (head_variables b.head) b.goals

-- each variable has its sort
pub data HaveSorts (d : Declared) (b : Body) : List Text → List Sort → Type 0 where
  no_sorts : HaveSorts d b [] []
  more_sorts : {x : Text} {s : Sort} {xs : List Text} {ss : List Sort} → HasSort d b (Var x) s → HaveSorts d b xs ss → HaveSorts d b (x ∷ xs) (s ∷ ss)

-- a `circuit` goal with the number of its module
abbrev pub circuit_goal : Declared → Numbering → List (Option Text) → Form → Goal
circuit_goal d n ms (Name x (More m (More ins (More outs Last)))) =
    goal.Circuit (unwrap_or (module_number ms (unwrap_or (first_atom (Name x (More m Last))) [])) 0) (as_tree d n sort.Bus ins) (as_tree d n sort.Bus outs)
circuit_goal d n ms _ = goal.Fail

-- the goal of a call
abbrev pub call_goal : Declared → Numbering → List (Option Text) → Form → Goal
call_goal d n ms (Name x fs) =
    let a : Sign = (x, count_of fs) in
    if same_sign a (codes "true", 0) then goal.True
    else (if same_sign a (codes "fail", 0) then goal.Fail
    else (if same_sign a circuit_sign then circuit_goal d n ms (Name x fs)
    else goal.Call (sign_number n.names a) (as_trees d n (sorts_of d a) fs)))
call_goal d n ms _ = goal.Fail

-- the goal that a written goal stands for, as goal k of its body
pub data IsGoal (d : Declared) (b : Body) (n : Numbering) (ms : List (Option Text)) (k : ℕ) : FormGoal → Goal → Type 0 where
  a_call : {f : Form} {g : Goal} → g ≡ call_goal d n ms f → IsGoal d b n ms k (ACall f) g
  an_equal : {l r : Form} {g : Goal} (s : Sort) → HasSort d b (Equation k) s → g ≡ goal.Equal (as_tree d n s l) (as_tree d n s r) → IsGoal d b n ms k (AnEqual l r) g

-- the goals in order
pub data AreGoals (d : Declared) (b : Body) (n : Numbering) (ms : List (Option Text)) : ℕ → List FormGoal → List Goal → Type 0 where
  no_goals : {k : ℕ} → AreGoals d b n ms k [] []
  more_goals : {k : ℕ} {f : FormGoal} {g : Goal} {fs : List FormGoal} {gs : List Goal} → IsGoal d b n ms k f g → AreGoals d b n ms (suc k) fs gs → AreGoals d b n ms k (f ∷ fs) (g ∷ gs)

-- the numbers of a body
abbrev pub numbering : Declared → List Sign → Body → Numbering
numbering d names b = record { variables = body_variables b; constants = d.constants; names = names }

-- the clause of a rule
pub record IsClause (d : Declared) (names : List Sign) (ms : List (Option Text)) (f : Form) (gs : List FormGoal) (c : Clause) : Type 0 where
  pub sorts : HaveSorts d (body_of f gs) (body_variables (body_of f gs)) c.sorts
  pub pred : c.pred ≡ sign_number names (head_sign f)
  pub head : c.head ≡ as_arguments d (numbering d names (body_of f gs)) (apart f 0).0
  pub body : AreGoals d (body_of f gs) (numbering d names (body_of f gs)) ms 0 (body_of f gs).goals c.body

-- the rules in order, facts left out
pub data HaveClauses (d : Declared) (names : List Sign) (ms : List (Option Text)) : List FormClause → List Clause → Type 0 where
  no_clauses : HaveClauses d names ms [] []
  skips : {c : FormClause} {cs : List FormClause} {xs : List Clause} → is_fact c ≡ true → HaveClauses d names ms cs xs → HaveClauses d names ms (c ∷ cs) xs
  skips_directive : {n : ℕ} {x : Text} {fs : Forms} {cs : List FormClause} {xs : List Clause} → HaveClauses d names ms cs xs → HaveClauses d names ms (Directive n x fs ∷ cs) xs
  a_clause : {n : ℕ} {f : Form} {bodied : Bool} {gs : List FormGoal} {c : Clause} {cs : List FormClause} {xs : List Clause} → is_fact (Rule n f bodied gs) ≡ false →
      IsClause d names ms f gs c → HaveClauses d names ms cs xs → HaveClauses d names ms (Rule n f bodied gs ∷ cs) (c ∷ xs)

-- the delay words of a name
abbrev pub words_named : Declared → Sign → List When
words_named d a = unwrap_or (looked_up d.delays a) []

-- the names in forms, with their numbers of arguments
abbrev mutual
  pub signs_of : Form → List Sign
  signs_of (Variable x) = []
  signs_of (Integer z) = []
  signs_of (Name n fs) = (n, count_of fs) ∷ signs_in fs
  signs_of (Closed fs) = signs_in fs
  signs_of (Open fs f) = signs_in fs ++ signs_of f
  signs_of (Not f) = signs_of f
  signs_of (And fs) = signs_in fs
  signs_of (Xor fs) = signs_in fs
  signs_of (Or fs) = signs_in fs

  pub signs_in : Forms → List Sign
  signs_in Last = []
  signs_in (More f fs) = signs_of f ++ signs_in fs

-- the names in goals
abbrev pub goals_signs : List FormGoal → List Sign
goals_signs [] = []
goals_signs (ACall f ∷ gs) = signs_of f ++ goals_signs gs
goals_signs (AnEqual f g ∷ gs) = signs_of f ++ signs_of g ++ goals_signs gs

-- the names in rules; directives and facts ask for none
abbrev pub clauses_signs : List FormClause → List Sign
clauses_signs [] = []
clauses_signs (Directive n x fs ∷ cs) = clauses_signs cs
clauses_signs (Rule n f b gs ∷ cs) =
    if is_fact (Rule n f b gs) then clauses_signs cs else signs_of f ++ goals_signs gs ++ clauses_signs cs

-- the program of a file, under a numbering of names without repeats that has every wanted name
pub record IsProgram (d : Declared) (names wanted : List Sign) (ms : List (Option Text)) (cs : List FormClause) (circuits : List Circuit) (p : Program) : Type 0 where
  pub every : list_all (has_sign names) wanted ≡ true
  pub distinct : AllPairs (λ a b. same_sign a b ≡ false) names
  pub constants : p.constants ≡ length d.constants
  pub arguments : p.world.arguments ≡ map (sorts_of d) names
  pub words : p.words ≡ map (words_named d) names
  pub demons : p.demons ≡ map (has_sign d.demons) names
  pub clauses : HaveClauses d names ms cs p.clauses
  pub modules : p.circuits ≡ circuits
