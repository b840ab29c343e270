-- The goals and clauses of accepted rules and queries fit their sorts.
use Rattle.std.proofs.Common.{◌≡◌, ◌≢◌, ◌⊎◌, inl, inr, ℕ, suc, ◌+◌, Bool, true, false, ◌&&◌, ◌||◌, cond, List, [], ◌∷◌, ◌++◌, map, length, refl, sym, ◌∙◌, ap, subst, arith, bytes_eq}
use Rattle.std.specs.Prelude.{Option, Some, None, position, unwrap_or, slice_get, if◌then◌else◌, codes}
use Rattle.std.specs.List.{list_any, list_all}
use Rattle.std.proofs.lemmas.Bool.{and_parts}
use Rattle.std.proofs.lemmas.Slice.Eq.{bytes_eq-Decides}
use Rattle.std.proofs.lemmas.List.Elements.{Contains-append_cases}
use Rattle.cb_model.specs.declared.Sort.{Sort}
use Rattle.cb_model.specs.declared.Sort.TheVariants as sort
use Rattle.cb_model.specs.declared.Goal.{Goal}
use Rattle.cb_model.specs.declared.Goal.TheVariants as goal
use Rattle.cb_model.specs.Text.{Text}
use Rattle.cb_model.specs.Values.{Sorts}
use Rattle.cb_model.specs.Grammar.{Form, Forms, Variable, Integer, Name, Closed, Open, Not, And, Xor, Or, Last, More, FormGoal, ACall, AnEqual}
use Rattle.cb_model.specs.Directives.{Sign, Declared, same_sign, has_sign, count_of, sorts_of}
use Rattle.cb_model.specs.Sorts.{own_name, apart, apart_all, apart_goals, Place, Body, below, argument_places, call_places, goal_places, goals_places, all_places, Subject, Var, Equation, IsSide, left, right, at_place, from_side, to_side, HasSort, Clash, two_marks, Numbering, number_in, sign_number, as_tree, as_trees, circuit_sign}
use Rattle.cb_model.specs.Loading.{body_variables, HaveSorts, more_sorts, circuit_goal, call_goal, IsGoal, a_call, an_equal, AreGoals, no_goals, more_goals, numbering, signs_of, signs_in, goals_signs}
use Rattle.cb_model.specs.Sorted.{same_sort, is_sort, variable_has, tree_fits, goal_fits}
use Rattle.cb_laws.proofs.Listed.{one_one, body_listed, body_side}
use Rattle.cb_laws.proofs.SortedTrees.{behind, position-cons, none_any, all_both, all_front, all_behind, AreSorted, sorted_front, sorted_behind, tree_has_sort, same_sort_refl, and_both, HasNames, form_fits}

-- ---- names stay when each `_` gets a name of its own

mutual
  pub count_apart : (fs : Forms) (k : ℕ) → count_of (apart_all fs k).0 ≡ count_of fs
  count_apart Last k = refl
  count_apart (More f fs) k = ap suc (count_apart fs (apart f k).1)

mutual
  pub signs_apart : (f : Form) (k : ℕ) → signs_of (apart f k).0 ≡ signs_of f
  signs_apart (Variable x) k = by_name (bytes_eq x (codes "_"))
    where
      by_name : (b : Bool) → (let r : Form × ℕ = if b then (Variable (own_name k), suc k) else (Variable x, k) in signs_of r.0 ≡ [])
      by_name true = refl
      by_name false = refl
  signs_apart (Integer z) k = refl
  signs_apart (Name x fs) k = ap (λ m. (x, m) ∷ signs_in (apart_all fs k).0) (count_apart fs k) ∙ ap (λ l. (x, count_of fs) ∷ l) (signs_apart_all fs k)
  signs_apart (Closed fs) k = signs_apart_all fs k
  signs_apart (Open fs f) k =
      ap (λ l. l ++ signs_of (apart f (apart_all fs k).1).0) (signs_apart_all fs k) ∙ ap (λ l. signs_in fs ++ l) (signs_apart f (apart_all fs k).1)
  signs_apart (Not f) k = signs_apart f k
  signs_apart (And fs) k = signs_apart_all fs k
  signs_apart (Xor fs) k = signs_apart_all fs k
  signs_apart (Or fs) k = signs_apart_all fs k

  pub signs_apart_all : (fs : Forms) (k : ℕ) → signs_in (apart_all fs k).0 ≡ signs_in fs
  signs_apart_all Last k = refl
  signs_apart_all (More f fs) k =
      ap (λ l. l ++ signs_in (apart_all fs (apart f k).1).0) (signs_apart f k) ∙ ap (λ l. signs_of f ++ l) (signs_apart_all fs (apart f k).1)

pub goals_apart : (gs : List FormGoal) (k : ℕ) → goals_signs (apart_goals gs k) ≡ goals_signs gs
goals_apart [] k = refl
goals_apart (ACall f ∷ gs) k =
    ap (λ l. l ++ goals_signs (apart_goals gs (apart f k).1)) (signs_apart f k) ∙ ap (λ l. signs_of f ++ l) (goals_apart gs (apart f k).1)
goals_apart (AnEqual f g ∷ gs) k =
    let r = apart f k in
    let s = apart g r.1 in
    ap (λ l. l ++ signs_of s.0 ++ goals_signs (apart_goals gs s.1)) (signs_apart f k)
    ∙ ap (λ l. signs_of f ++ l ++ goals_signs (apart_goals gs s.1)) (signs_apart g r.1)
    ∙ ap (λ l. signs_of f ++ signs_of g ++ l) (goals_apart gs s.1)

-- ---- the sorts of a body's variables

pub sort_differs : (s t : Sort) → (s ≡ t) ⊎ (s ≢ t)
sort_differs sort.Bool sort.Bool = inl refl
sort_differs sort.Bus sort.Bus = inl refl
sort_differs sort.Term sort.Term = inl refl
sort_differs sort.Bool sort.Bus = inr (λ e. absurd (cc))
sort_differs sort.Bool sort.Term = inr (λ e. absurd (cc))
sort_differs sort.Bus sort.Bool = inr (λ e. absurd (cc))
sort_differs sort.Bus sort.Term = inr (λ e. absurd (cc))
sort_differs sort.Term sort.Bool = inr (λ e. absurd (cc))
sort_differs sort.Term sort.Bus = inr (λ e. absurd (cc))

pub one_sort : (d : Declared) (b : Body) (x : Subject) (s t : Sort) → (Clash d b → ⊥) → HasSort d b x s → HasSort d b x t → s ≡ t
one_sort d b x s t none (inl m) (inl n) = elim (sort_differs s t) [ inl h ↦ h | inr h ↦ absurd (none (two_marks x s t m n h)) ]
one_sort d b x s t none (inl m) (inr n) = absurd (n.0 s m)
one_sort d b x s t none (inr m) (inl n) = absurd (m.0 t n)
one_sort d b x s t none (inr m) (inr n) = m.1 ∙ sym n.1

module _ (d : Declared) (b : Body) (none : Clash d b → ⊥) where
  -- the number of a listed variable has its sort
  pub number_sorted : (xs : List Text) (ss : List Sort) (x : Text) (s : Sort) → HaveSorts d b xs ss → list_any (bytes_eq x) xs ≡ true → HasSort d b (Var x) s → variable_has ss s (number_in xs x) ≡ true
  number_sorted [] ss x s h there has = absurd (cc)
  number_sorted (y ∷ ys) [] x s h there has = elim h [ ]
  number_sorted (y ∷ ys) (t ∷ ts) x s (more_sorts h hs) there has =
      subst (λ (o : Option ℕ). variable_has (t ∷ ts) s (unwrap_or o 0) ≡ true) (sym (position-cons (bytes_eq x) y ys))
      (step (bytes_eq x y) (position (bytes_eq x) ys) refl refl there (λ g. number_sorted ys ts x s hs g has))
    where
      step : (c : Bool) (o : Option ℕ) → bytes_eq x y ≡ c → position (bytes_eq x) ys ≡ o → (c || list_any (bytes_eq x) ys) ≡ true → (list_any (bytes_eq x) ys ≡ true → variable_has ts s (number_in ys x) ≡ true) →
          variable_has (t ∷ ts) s (unwrap_or (cond c (Some 0) (behind o)) 0) ≡ true
      step true o same e g k =
          let is : x ≡ y = (bytes_eq-Decides x y).0 same in
          let sorts : s ≡ t = one_sort d b (Var y) s t none (subst (λ (z : Text). HasSort d b (Var z) s) is has) h in
          subst (λ (z : Sort). same_sort s z ≡ true) sorts (same_sort_refl s)
      step false None same e g k = absurd (none_any (bytes_eq x) ys g e)
      step false (Some m) same e g k =
          let next : 1 + m ≡ suc m = omega arith in
          let tail : slice_get (t ∷ ts) (1 + m) ≡ slice_get ts m = ap (slice_get (t ∷ ts)) next in
          ap (is_sort s) tail ∙ subst (λ (o : Option ℕ). variable_has ts s (unwrap_or o 0) ≡ true) e (k g)

  module _ (names : List Sign) (ss : List Sort) (sorts : HaveSorts d b (body_variables b) ss) where
    abbrev n : Numbering
    n = numbering d names b

    pub places_sorted : AreSorted d n ss (all_places d b)
    places_sorted s x c = number_sorted (body_variables b) ss x s sorts (body_listed d b s x c) (inl (at_place c))

    -- a side has the sort of its equation
    pub side_sorted : (k : ℕ) (s : Sort) (l r f : Form) → slice_get b.goals k ≡ Some (AnEqual l r) → HasSort d b (Equation k) s → (l ≡ f) ⊎ (r ≡ f) → AreSorted d n ss (below d f) → AreSorted d n ss ((s, f) ∷ below d f)
    side_sorted k s l r f at has is rest t x c = elim (Contains-append_cases ((s, f) ∷ []) (below d f) (t, Variable x) c) [
      | inl here ↦ itself (one_one {X = Place} (s, f) (t, Variable x) here)
      | inr there ↦ rest t x there
    ]
      where
        side_var : f ≡ Variable x → IsSide b k (Variable x)
        side_var e = elim is [
          | inl g ↦ left r (subst (λ (z : Form). slice_get b.goals k ≡ Some (AnEqual z r)) (g ∙ e) at)
          | inr g ↦ right l (subst (λ (z : Form). slice_get b.goals k ≡ Some (AnEqual l z)) (g ∙ e) at)
        ]

        listed : f ≡ Variable x → list_any (bytes_eq x) (body_variables b) ≡ true
        listed e = elim is [ inl g ↦ body_side d b k l r x at (inl (g ∙ e)) | inr g ↦ body_side d b k l r x at (inr (g ∙ e)) ]

        by_mark : IsSide b k (Variable x) → HasSort d b (Equation k) s → HasSort d b (Var x) s
        by_mark side (inl m) = inl (to_side k side m)
        by_mark side (inr m) = inr (λ z mark. m.0 z (from_side x side mark), m.1)

        itself : ◌≡◌ {A = Place} (s, f) (t, Variable x) → variable_has ss t (number_in n.variables x) ≡ true
        itself e =
            let form : f ≡ Variable x = ap (λ (p : Place). p.1) e in
            let same : s ≡ t = ap (λ (p : Place). p.0) e in
            subst (λ (z : Sort). variable_has ss z (number_in (body_variables b) x) ≡ true) same
            (number_sorted (body_variables b) ss x s sorts (listed form) (by_mark (side_var form) has))

    module _ (counted : (a : Sign) → length (sorts_of d a) ≡ a.1) (ms : List (Option Text)) where
      abbrev t : Sorts
      t = map (sorts_of d) names

      -- a call that is no `circuit` goal
      pub plain_fits : (x : Text) (fs : Forms) → AreSorted d n ss (argument_places d (sorts_of d (x, count_of fs)) fs) → HasNames d n counted (signs_of (Name x fs)) →
          tree_fits t ss sort.Term (as_tree d n sort.Term (Name x fs)) ≡ true
      plain_fits x fs h k = form_fits d n counted ss sort.Term (Name x fs) with_place k
        where
          with_place : AreSorted d n ss ((sort.Term, Name x fs) ∷ argument_places d (sorts_of d (x, count_of fs)) fs)
          with_place s y c = elim (Contains-append_cases ((sort.Term, Name x fs) ∷ []) (argument_places d (sorts_of d (x, count_of fs)) fs) (s, Variable y) c) [
            | inl here ↦ (let e : Name x fs ≡ Variable y = ap (λ (p : Place). p.1) (one_one {X = Place} (sort.Term, Name x fs) (s, Variable y) here) in absurd (cc))
            | inr there ↦ h s y there
          ]

      circuit_fits : (x : Text) (fs : Forms) → AreSorted d n ss (argument_places d (sort.Term ∷ sort.Bus ∷ sort.Bus ∷ []) fs) → HasNames d n counted (signs_in fs) → goal_fits t ss (circuit_goal d n ms (Name x fs)) ≡ true
      circuit_fits x Last h k = refl
      circuit_fits x (More m Last) h k = refl
      circuit_fits x (More m (More ins Last)) h k = refl
      circuit_fits x (More m (More ins (More outs Last))) h k =
          let rest : AreSorted d n ss ((sort.Bus, ins) ∷ (below d ins ++ ((sort.Bus, outs) ∷ (below d outs ++ [])))) = sorted_behind d n ss ((sort.Term, m) ∷ below d m) ((sort.Bus, ins) ∷ (below d ins ++ ((sort.Bus, outs) ∷ (below d outs ++ [])))) h in
          let one : AreSorted d n ss ((sort.Bus, ins) ∷ below d ins) = sorted_front d n ss ((sort.Bus, ins) ∷ below d ins) ((sort.Bus, outs) ∷ (below d outs ++ [])) rest in
          let two : AreSorted d n ss ((sort.Bus, outs) ∷ below d outs) = sorted_front d n ss ((sort.Bus, outs) ∷ below d outs) [] (sorted_behind d n ss ((sort.Bus, ins) ∷ below d ins) ((sort.Bus, outs) ∷ (below d outs ++ [])) rest) in
          let names_rest = all_behind (has_sign n.names) (signs_of m) (signs_of ins ++ (signs_of outs ++ [])) k in
          let names_outs = all_behind (has_sign n.names) (signs_of ins) (signs_of outs ++ []) names_rest in
          and_both (tree_fits t ss sort.Bus (as_tree d n sort.Bus ins)) (tree_fits t ss sort.Bus (as_tree d n sort.Bus outs))
          (form_fits d n counted ss sort.Bus ins one (all_front (has_sign n.names) (signs_of ins) (signs_of outs ++ []) names_rest))
          (form_fits d n counted ss sort.Bus outs two (all_front (has_sign n.names) (signs_of outs) [] names_outs))
      circuit_fits x (More m (More ins (More outs (More f fs)))) h k = refl

      call_fits : (f : Form) → AreSorted d n ss (call_places d f) → HasNames d n counted (signs_of f) → goal_fits t ss (call_goal d n ms f) ≡ true
      call_fits (Name x fs) h k = by_sign (same_sign (x, count_of fs) (codes "true", 0)) (same_sign (x, count_of fs) (codes "fail", 0)) (same_sign (x, count_of fs) circuit_sign) h
        where
          by_sign : (p q r : Bool) → AreSorted d n ss (if r then argument_places d (sort.Term ∷ sort.Bus ∷ sort.Bus ∷ []) fs else argument_places d (sorts_of d (x, count_of fs)) fs) →
              goal_fits t ss (if p then goal.True else (if q then goal.Fail else (if r then circuit_goal d n ms (Name x fs) else goal.Call (sign_number n.names (x, count_of fs)) (as_trees d n (sorts_of d (x, count_of fs)) fs)))) ≡ true
          by_sign true q r h = refl
          by_sign false true r h = refl
          by_sign false false true h = circuit_fits x fs h (and_parts (has_sign n.names (x, count_of fs)) (list_all (has_sign n.names) (signs_in fs)) k).1
          by_sign false false false h = plain_fits x fs h k
      call_fits (Variable x) h k = refl
      call_fits (Integer z) h k = refl
      call_fits (Closed fs) h k = refl
      call_fits (Open fs f) h k = refl
      call_fits (Not f) h k = refl
      call_fits (And fs) h k = refl
      call_fits (Xor fs) h k = refl
      call_fits (Or fs) h k = refl

      equal_fits : (k : ℕ) (s : Sort) (l r : Form) → slice_get b.goals k ≡ Some (AnEqual l r) → HasSort d b (Equation k) s → AreSorted d n ss (below d l ++ below d r) → HasNames d n counted (signs_of l ++ signs_of r) →
          goal_fits t ss (goal.Equal (as_tree d n s l) (as_tree d n s r)) ≡ true
      equal_fits k s l r at has h names_in =
          let one : tree_fits t ss s (as_tree d n s l) ≡ true =
          form_fits d n counted ss s l (side_sorted k s l r l at has (inl refl) (sorted_front d n ss (below d l) (below d r) h)) (all_front (has_sign n.names) (signs_of l) (signs_of r) names_in) in
          let two : tree_fits t ss s (as_tree d n s r) ≡ true =
          form_fits d n counted ss s r (side_sorted k s l r r at has (inr refl) (sorted_behind d n ss (below d l) (below d r) h)) (all_behind (has_sign n.names) (signs_of l) (signs_of r) names_in) in
          subst (λ (z : Sort). (tree_fits t ss z (as_tree d n s l) && tree_fits t ss z (as_tree d n s r)) ≡ true) (sym (tree_has_sort d n s l))
          (and_both (tree_fits t ss s (as_tree d n s l)) (tree_fits t ss s (as_tree d n s r)) one two)

      goal_one_fits : (k : ℕ) (f : FormGoal) (g : Goal) → IsGoal d b n ms k f g → slice_get b.goals k ≡ Some f → AreSorted d n ss (goal_places d f) → HasNames d n counted (goals_signs (f ∷ [])) → goal_fits t ss g ≡ true
      goal_one_fits k (ACall f) g (a_call e) at h names_in =
          ap (goal_fits t ss) e ∙ call_fits f h (all_front (has_sign n.names) (signs_of f) [] names_in)
      goal_one_fits k (AnEqual l r) g (an_equal s has e) at h names_in =
          ap (goal_fits t ss) e ∙ equal_fits k s l r at has h (all_front (has_sign n.names) (signs_of l ++ signs_of r) [] names_in)

      -- the names of the first goal, and those of the others
      first_names : (f : FormGoal) (fs : List FormGoal) → HasNames d n counted (goals_signs (f ∷ fs)) → HasNames d n counted (goals_signs (f ∷ [])) × HasNames d n counted (goals_signs fs)
      first_names (ACall f) fs h = (
        all_both (has_sign n.names) (signs_of f) [] (all_front (has_sign n.names) (signs_of f) (goals_signs fs) h) refl,
        all_behind (has_sign n.names) (signs_of f) (goals_signs fs) h,
      )
      first_names (AnEqual l r) fs h = (
        all_both (has_sign n.names) (signs_of l ++ signs_of r) [] (all_front (has_sign n.names) (signs_of l ++ signs_of r) (goals_signs fs) h) refl,
        all_behind (has_sign n.names) (signs_of l ++ signs_of r) (goals_signs fs) h,
      )

      pub goals_fit : (k : ℕ) (fs : List FormGoal) (gs : List Goal) → ((j : ℕ) → slice_get b.goals (k + j) ≡ slice_get fs j) → AreGoals d b n ms k fs gs → AreSorted d n ss (goals_places d fs) → HasNames d n counted (goals_signs fs) →
          list_all (goal_fits t ss) gs ≡ true
      goals_fit k [] [] at no_goals h names_in = refl
      goals_fit k [] (g ∷ gs) at more h names_in = elim more [ ]
      goals_fit k (f ∷ fs) [] at more h names_in = elim more [ ]
      goals_fit k (f ∷ fs) (g ∷ gs) at (more_goals one more) h names_in =
          let parts = first_names f fs names_in in
          let here : slice_get b.goals k ≡ Some f = ap (slice_get b.goals) (omega arith) ∙ at 0 in
          let there : (j : ℕ) → slice_get b.goals (suc k + j) ≡ slice_get fs j = λ j. ap (slice_get b.goals) (omega arith) ∙ at (suc j) in
          and_both (goal_fits t ss g) (list_all (goal_fits t ss) gs) (goal_one_fits k f g one here (sorted_front d n ss (goal_places d f) (goals_places d fs) h) parts.0)
          (goals_fit (suc k) fs gs there more (sorted_behind d n ss (goal_places d f) (goals_places d fs) h) parts.1)
