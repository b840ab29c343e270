-- The program of an accepted file and an accepted query over it are sound.
use Rattle.std.proofs.Common.{◌≡◌, ℕ, zero, suc, ◌+◌, ◌^◌, ◌<◌, ◌≤◌, Bool, true, ◌&&◌, List, [], ◌∷◌, ◌++◌, length, map, Option, Some, None, refl, sym, ap, subst, ◌∙◌, arith}
use Rattle.std.specs.Prelude.{slice_get, sum_by, All, flat_map}
use Rattle.std.specs.List.{list_all}
use Rattle.std.proofs.lemmas.Bool.{and_parts}
use Rattle.std.proofs.lemmas.List.Folds.{list_all-append}
use Rattle.std.proofs.lemmas.List.Sums.{sum_by-cons}
use Rattle.cb_model.specs.declared.Sort.{Sort}
use Rattle.cb_model.specs.declared.Sort.TheVariants as sort
use Rattle.cb_model.specs.declared.Tree.{Tree}
use Rattle.cb_model.specs.declared.Tree.TheOpen.{Tree-F}
use Rattle.cb_model.specs.declared.Tree.TheVariants as tree
use Rattle.cb_model.specs.declared.Tree.TheFolds.{fold-roll-Tree}
use Rattle.cb_model.specs.declared.Goal.{Goal}
use Rattle.cb_model.specs.declared.Goal.TheVariants as goal
use Rattle.cb_model.specs.declared.Clause.{Clause}
use Rattle.cb_model.specs.declared.Circuit.{Circuit}
use Rattle.cb_model.specs.Bits.{Each, all_of}
use Rattle.cb_model.specs.Text.{Text}
use Rattle.cb_model.specs.Values.{tree_in_scope, tree_in_scope_step}
use Rattle.cb_model.specs.Grammar.{FormGoal, FormClause, Directive, Rule}
use Rattle.cb_model.specs.Written.{AreClauses, clause_goals}
use Rattle.cb_model.specs.Directives.{Sign, Declared, heads}
use Rattle.cb_model.specs.Sorts.{Body, apart, apart_goal, apart_goals, Numbering}
use Rattle.cb_model.specs.Loading.{module_names, body_of, body_variables, query_body, BodyRefusal, HaveSorts, no_sorts, more_sorts, AreGoals, no_goals, more_goals, HaveClauses, no_clauses, skips, skips_directive, a_clause}
use Rattle.cb_model.specs.Circuits.{circuit_of}
use Rattle.cb_model.specs.Output.{Loaded, IsLoaded, IsQuery}
use Rattle.cb_model.specs.Program.{Program}
use Rattle.cb_model.specs.Sorted.{tree_fits, tree_sort, goal_fits, clause_fits}
use Rattle.cb_laws.specs.Laws.{clause_trees, goal_trees}
use Rattle.cb_laws.proofs.Fits.{trees_fit}
use Rattle.cb_laws.proofs.ScopedGoals.{trees_in_scope}
use Rattle.cb_laws.proofs.WrittenForm.{reading_is_written}
use Rattle.cb_sorts.specs.Source.{Source, Loads}
use Rattle.cb_sorts.specs.Asked.{Asked, Asks}
use Rattle.cb_sorts.specs.Called.{CallsBelow}
use Rattle.cb_sorts.specs.OverFile.{asked_names, asked_program, asked_query}
use Rattle.cb_sorts.specs.Accepted.{AcceptedAreSound, AreSound, ClauseIsSound, GoalIsSound}
use Rattle.cb_sorts.proofs.Called.{clauses_call_names, queries_call_names, same_some}
use Rattle.cb_sorts.proofs.OverFile.{queries_over_file}

-- ---- lists

one_of : {A : Type 0} (p : A → Bool) (xs : List A) (k : ℕ) (x : A) → list_all p xs ≡ true → slice_get xs k ≡ Some x → p x ≡ true
one_of p [] k x h e = absurd (cc)
one_of p (y ∷ xs) zero x h e = subst (λ z. p z ≡ true) (same_some y x e) (and_parts (p y) (list_all p xs) h).0
one_of p (y ∷ xs) (suc k) x h e = one_of p xs k x (and_parts (p y) (list_all p xs) h).1 e

all_parts : {A : Type 0} (p : A → Bool) (xs ys : List A) → list_all p (xs ++ ys) ≡ true → (list_all p xs ≡ true) × (list_all p ys ≡ true)
all_parts p xs ys h = and_parts (list_all p xs) (list_all p ys) (sym (list_all-append p xs ys) ∙ h)

all_mapped : (p : Tree → Bool) (xs : List Tree) → list_all p xs ≡ true → all_of (map p xs) ≡ true
all_mapped p [] h = refl
all_mapped p (x ∷ xs) h = let i = and_parts (p x) (list_all p xs) h in let r = all_mapped p xs i.1 in λ j. i.0 j && r j

-- ---- trees and goals

node_placed : (c v n : ℕ) (xs : List Tree) → list_all (tree_in_scope c v) xs ≡ true → tree_in_scope c v (tree.Node n xs) ≡ true
node_placed c v n xs h =
    ap (tree_in_scope c v) (sym (tree.rolls-Node n xs)) ∙ fold-roll-Tree Bool (tree_in_scope_step c v) (Tree-F.Node n xs) ∙ all_mapped (tree_in_scope c v) xs h

module _ (p : Program) (n : ℕ) (zs : List Sort) where
  abbrev within : Tree → Bool
  within = tree_in_scope p.constants (length zs)

  abbrev fits : Sort → Tree → Bool
  fits = tree_fits p.world.arguments zs

  goal_sound : (g : Goal) → goal_fits p.world.arguments zs g ≡ true → list_all within (goal_trees g) ≡ true → CallsBelow n g → GoalIsSound p n zs g
  goal_sound goal.True f s b = tt
  goal_sound goal.Fail f s b = tt
  goal_sound (goal.Equal l r) f s b =
      let i = and_parts (fits (tree_sort l) l) (fits (tree_sort l) r) f in
      let j = and_parts (within l) (list_all within (r ∷ [])) s in
      let k = and_parts (within r) true j.1 in
      (tree_sort l, record { scope = j.0; fits = i.0 }, record { scope = k.0; fits = i.1 })
  goal_sound (goal.Circuit m ins outs) f s b =
      let i = and_parts (fits sort.Bus ins) (fits sort.Bus outs) f in
      let j = and_parts (within ins) (list_all within (outs ∷ [])) s in
      let k = and_parts (within outs) true j.1 in
      (record { scope = j.0; fits = i.0 }, record { scope = k.0; fits = i.1 })
  goal_sound (goal.Call pred args) f s b = (b, record { scope = node_placed p.constants (length zs) pred args s; fits = f })

  goals_sound : (gs : List Goal) → list_all (goal_fits p.world.arguments zs) gs ≡ true → list_all within (flat_map goal_trees gs) ≡ true → All (CallsBelow n) gs → Each (GoalIsSound p n zs) gs
  goals_sound [] f s b = tt
  goals_sound (g ∷ gs) f s b =
      let i = and_parts (goal_fits p.world.arguments zs g) (list_all (goal_fits p.world.arguments zs) gs) f in
      let j = all_parts within (goal_trees g) (flat_map goal_trees gs) s in
      (goal_sound g i.0 j.0 (b 0 g (omega arith)), goals_sound gs i.1 j.1 (λ k d l. b (suc k) d (omega arith)))

-- ---- counts

goals_number : (d : Declared) (b : Body) (n : Numbering) (ms : List (Option Text)) (k : ℕ) (fs : List FormGoal) (gs : List Goal) → AreGoals d b n ms k fs gs → length gs ≡ length fs
goals_number d b n ms k fs gs no_goals = refl
goals_number d b n ms k fs gs (more_goals {fs = rest} {gs = others} i more) = ap suc (goals_number d b n ms (suc k) rest others more)

apart_number : (gs : List FormGoal) (k : ℕ) → length (apart_goals gs k) ≡ length gs
apart_number [] k = refl
apart_number (g ∷ gs) k = ap suc (apart_number gs (apart_goal g k).1)

sorts_number : (d : Declared) (b : Body) (xs : List Text) (ss : List Sort) → HaveSorts d b xs ss → length xs ≡ length ss
sorts_number d b [] [] no_sorts = refl
sorts_number d b [] (s ∷ ss) h = elim h [ ]
sorts_number d b (x ∷ xs) [] h = elim h [ ]
sorts_number d b (x ∷ xs) (s ∷ ss) (more_sorts h more) = ap suc (sorts_number d b xs ss more)

-- a body has as many goals as its rule
body_few : (d : Declared) (names : List Sign) (ms : List (Option Text)) (cs : List FormClause) (xs : List Clause) → HaveClauses d names ms cs xs → (k : ℕ) (c : Clause) → slice_get xs k ≡ Some c →
    length c.body ≤ sum_by clause_goals cs
body_few d names ms [] [] no_clauses k c e = absurd (cc)
body_few d names ms [] (x ∷ xs) h k c e = elim h [ ]
body_few d names ms (Directive j y fs ∷ cs) xs (skips q more) k c e = absurd (cc)
body_few d names ms (Directive j y fs ∷ cs) xs (skips_directive more) k c e =
    let r = body_few d names ms cs xs more k c e in
    let q = sum_by-cons clause_goals (Directive j y fs) cs in
    omega (arith, r, q)
body_few d names ms (Rule j f bodied gs ∷ cs) xs (skips p more) k c e =
    let r = body_few d names ms cs xs more k c e in
    let q = sum_by-cons clause_goals (Rule j f bodied gs) cs in
    omega (arith, r, q)
body_few d names ms (Rule j f bodied gs ∷ cs) (x ∷ xs) (a_clause p is more) zero c e =
    let one : length x.body ≡ length c.body = ap (λ (y : Clause). length y.body) (same_some x c e) in
    let n : length x.body ≡ length (body_of f gs).goals = goals_number d (body_of f gs) _ ms 0 (body_of f gs).goals x.body is.body in
    let m : length (body_of f gs).goals ≡ length gs = apart_number gs (apart f 0).1 in
    let q : sum_by clause_goals (Rule j f bodied gs ∷ cs) ≡ length gs + sum_by clause_goals cs = sum_by-cons clause_goals (Rule j f bodied gs) cs in
    omega (arith, one, n, m, q)
body_few d names ms (Rule j f bodied gs ∷ cs) (x ∷ xs) (a_clause p is more) (suc k) c e =
    let r = body_few d names ms cs xs more k c e in
    let q = sum_by-cons clause_goals (Rule j f bodied gs) cs in
    omega (arith, r, q)

-- ---- the law

module _ (file : Text) (l : Loaded) (s : Source) (gs : List FormGoal) (a : Asked) (loaded : IsLoaded file l) (same : l.declared ≡ s.declared) (loads : Loads l.clauses s) (few : length gs < 2 ^ 32)
    (asks : Asks s.declared (heads l.clauses) s.names (module_names l.clauses) gs a) where
  abbrev circuits : List Circuit
  circuits = map circuit_of l.circuits.flats

  abbrev p : Program
  p = asked_program s a []

  abbrev whole : Program
  whole = asked_program s a circuits

  written : AreClauses (length file) l.clauses
  written = (reading_is_written file).0 l.clauses loaded.reading

  query : IsQuery l gs whole (asked_query a) (asked_names s a)
  query = queries_over_file l s gs a written.written same loads asks

  accepted : BodyRefusal l.declared (heads l.clauses) (module_names l.clauses) (query_body gs) None
  accepted = subst (λ (d : Declared). BodyRefusal d (heads l.clauses) (module_names l.clauses) (query_body gs) None) (sym same) asks.accepted

  fit : (list_all (clause_fits p.world.arguments) s.clauses ≡ true) × (list_all (goal_fits p.world.arguments a.sorts) a.goals ≡ true)
  fit = trees_fit file l gs whole (asked_query a) (asked_names s a) loaded accepted query

  scoped : (list_all (λ c. list_all (tree_in_scope p.constants (length c.sorts)) (clause_trees c)) s.clauses ≡ true) × (list_all (tree_in_scope p.constants (length a.sorts)) (flat_map goal_trees a.goals) ≡ true)
  scoped = trees_in_scope file l gs whole (asked_query a) (asked_names s a) loaded accepted query

  clause_sound : (k : ℕ) (c : Clause) → slice_get s.clauses k ≡ Some c → ClauseIsSound p (length s.names) c
  clause_sound k c e =
      let f = and_parts (tree_fits p.world.arguments c.sorts sort.Term (tree.Node c.pred c.head)) (list_all (goal_fits p.world.arguments c.sorts) c.body) (one_of (clause_fits p.world.arguments) s.clauses k c fit.0 e) in
      let i = all_parts (tree_in_scope p.constants (length c.sorts)) c.head (flat_map goal_trees c.body)
      (one_of (λ x. list_all (tree_in_scope p.constants (length x.sorts)) (clause_trees x)) s.clauses k c scoped.0 e) in
      let number = body_few s.declared s.names (module_names l.clauses) l.clauses s.clauses (loads.program []).clauses k c e in
      let limit = written.few_goals in
      let short = loaded.short in
      record {
        head = record { scope = node_placed p.constants (length c.sorts) c.pred c.head i.0; fits = f.0 };
        body = goals_sound p (length s.names) c.sorts c.body f.1 i.1 (clauses_call_names l.clauses s k c loads e);
        few = omega arith;
      }

  pub sound : AreSound s a
  sound = record {
    clauses = clause_sound;
    goals = goals_sound p (length s.names) a.sorts a.goals fit.1 scoped.1 (queries_call_names l.clauses s gs a written.written loads asks);
    few = let n = goals_number s.declared (query_body gs) _ (module_names l.clauses) 0 (query_body gs).goals a.goals asks.goals in let m = apart_number gs 0 in omega arith;
    variables = ap length asks.variables ∙ sorts_number s.declared (query_body gs) (body_variables (query_body gs)) a.sorts asks.sorts;
  }

pub accepted_are_sound : AcceptedAreSound
accepted_are_sound = sound
