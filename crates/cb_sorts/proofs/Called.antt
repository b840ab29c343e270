-- Each goal that a query calls has a name of the file.
use Rattle.std.specs.Prelude.{All, slice_get, unwrap_or, MatchBool, ◌⊎◌, codes}
use Rattle.std.specs.Bool.{if◌then◌else◌}
use Rattle.std.specs.List.{list_any, list_all}
use Rattle.std.proofs.Common.{◌≡◌, ℕ, zero, suc, ◌<◌, Bool, true, false, not, ◌&&◌, ◌||◌, List, [], ◌∷◌, ◌++◌, map, length, Option, Some, None, bytes_eq, nat_eq, refl, sym, ◌∙◌, ap, subst, arith}
use Rattle.std.proofs.lemmas.List.{append-nil}
use Rattle.std.proofs.lemmas.Slice.Eq.{bytes_eq-Decides}
use Rattle.std.proofs.lemmas.Bool.Decides.{nat_tests}
use Rattle.cb_model.specs.Text.{Text}
use Rattle.cb_model.specs.declared.Goal.{Goal}
use Rattle.cb_model.specs.declared.Goal.TheVariants as goal
use Rattle.cb_model.specs.declared.Clause.{Clause}
use Rattle.cb_model.specs.Grammar.{Form, Forms, Variable, Integer, Name, Closed, Open, Not, And, Xor, Or, Last, More, FormGoal, ACall, AnEqual, FormClause, Directive, Rule}
use Rattle.cb_model.specs.Directives.{Sign, same_sign, has_sign, count_of, Declared, sorts_of, heads, Refusal, Twice, Unknown, SortClash}
use Rattle.cb_model.specs.Sorts.{Body, Clash, Numbering, sign_number, as_trees, circuit_sign}
use Rattle.cb_model.specs.Loading.{module_sign, spec_sign, is_fact, names_module, first_atom, module_names, is_unknown, goal_unknown, query_body, BodyRefusal, RulesRefusal, skip, directive, passes, refused, is_taken, body_of, HaveClauses, no_clauses, skips, skips_directive, a_clause, circuit_goal, call_goal, IsGoal, a_call, an_equal, AreGoals, no_goals, more_goals, numbering, signs_of, goals_signs, clauses_signs}
use Rattle.cb_sorts.specs.Source.{Source, Loads, declared_signs}
use Rattle.cb_sorts.specs.Called.{CallsBelow, ClausesCallNames, QueriesCallNames}
use Rattle.cb_sorts.proofs.Known.{number_below, place_within, and_left, and_right, all_left, all_right, rule_signs, fact_signs}

-- ---- the same name

same_pair : (a b : Sign) → same_sign a b ≡ true → a ≡ b
same_pair a b h =
    let l : a.0 ≡ b.0 = (bytes_eq-Decides a.0 b.0).0 (and_left (bytes_eq a.0 b.0) (nat_eq a.1 b.1) h) in
    let r : nat_eq a.1 b.1 ≡ true = and_right (bytes_eq a.0 b.0) (nat_eq a.1 b.1) h in
    let e : a.1 ≡ b.1 = grind (arith, nat_tests) in λ j. (l j, e j)

same_self : (a : Sign) → same_sign a a ≡ true
same_self a =
    let l : bytes_eq a.0 a.0 ≡ true = (bytes_eq-Decides a.0 a.0).1 refl in
    let r : nat_eq a.1 a.1 ≡ true = grind (arith, nat_tests) in λ j. l j && r j

-- a name that isn't the second isn't under it
other_way : (a b : Sign) → same_sign a b ≡ false → same_sign b a ≡ false
other_way a b h = step (same_sign b a) refl
  where
    step : (c : Bool) → same_sign b a ≡ c → c ≡ false
    step false e = refl
    step true e = absurd (let t : same_sign a b ≡ true = subst (λ (x : Sign). same_sign a x ≡ true) (sym (same_pair b a e)) (same_self a) in let f : true ≡ false = sym t ∙ h in cc)

-- what is among names that are all there is there
among : (xs ys : List Sign) (a : Sign) → list_all (has_sign ys) xs ≡ true → has_sign xs a ≡ true → has_sign ys a ≡ true
among [] ys a h k = absurd (cc)
among (x ∷ xs) ys a h k = step (same_sign a x) refl k (among xs ys a (and_right (has_sign ys x) (list_all (has_sign ys) xs) h))
  where
    step : (c : Bool) → same_sign a x ≡ c → (c || has_sign xs a) ≡ true → (has_sign xs a ≡ true → has_sign ys a ≡ true) → has_sign ys a ≡ true
    step true e k rest = subst (λ (b : Sign). has_sign ys b ≡ true) (sym (same_pair a x e)) (and_left (has_sign ys x) (list_all (has_sign ys) xs) h)
    step false e k rest = rest k

module _ (names : List Sign) where
  -- ---- a name that has clauses

  head_among : (x : Text) (fs : Forms) (n : ℕ) (b : Bool) (gs : List FormGoal) (cs : List FormClause) (a : Sign) → same_sign a module_sign ≡ false → same_sign a spec_sign ≡ false →
      same_sign a (x, count_of fs) ≡ true → list_all (has_sign names) (clauses_signs (Rule n (Name x fs) b gs ∷ cs)) ≡ true → has_sign names a ≡ true
  head_among x fs n b gs cs a m s e h =
      let same : a ≡ (x, count_of fs) = same_pair a (x, count_of fs) e in
      let no_module : same_sign module_sign (x, count_of fs) ≡ false = subst (λ (c : Sign). same_sign module_sign c ≡ false) same (other_way a module_sign m) in
      let no_spec : same_sign spec_sign (x, count_of fs) ≡ false = subst (λ (c : Sign). same_sign spec_sign c ≡ false) same (other_way a spec_sign s) in
      let no_fact : is_fact (Rule n (Name x fs) b gs) ≡ false = λ j. no_module j || no_spec j in
      let all = rule_signs (has_sign names) n (Name x fs) b gs cs no_fact h in
      subst (λ (c : Sign). has_sign names c ≡ true) (sym same)
      (and_left (has_sign names (x, count_of fs)) _ (all_left (has_sign names) (signs_of (Name x fs)) (goals_signs gs ++ clauses_signs cs) all))

  rest_among : (n : ℕ) (f : Form) (b : Bool) (gs : List FormGoal) (cs : List FormClause) → list_all (has_sign names) (clauses_signs (Rule n f b gs ∷ cs)) ≡ true → list_all (has_sign names) (clauses_signs cs) ≡ true
  rest_among n f b gs cs h = step (is_fact (Rule n f b gs)) refl
    where
      step : (o : Bool) → is_fact (Rule n f b gs) ≡ o → list_all (has_sign names) (clauses_signs cs) ≡ true
      step true e = fact_signs (has_sign names) (Rule n f b gs) cs e h
      step false e = all_right (has_sign names) (goals_signs gs) (clauses_signs cs) (all_right (has_sign names) (signs_of f) (goals_signs gs ++ clauses_signs cs) (rule_signs (has_sign names) n f b gs cs e h))

  heads_among : (cs : List FormClause) (a : Sign) → list_all (has_sign names) (clauses_signs cs) ≡ true → same_sign a module_sign ≡ false → same_sign a spec_sign ≡ false → has_sign (heads cs) a ≡ true → has_sign names a ≡ true
  heads_among [] a h m s k = absurd (cc)
  heads_among (Directive n x fs ∷ cs) a h m s k = heads_among cs a h m s k
  heads_among (Rule n (Name x fs) b gs ∷ cs) a h m s k = step (same_sign a (x, count_of fs)) refl k (heads_among cs a (rest_among n (Name x fs) b gs cs h) m s)
    where
      step : (c : Bool) → same_sign a (x, count_of fs) ≡ c → (c || has_sign (heads cs) a) ≡ true → (has_sign (heads cs) a ≡ true → has_sign names a ≡ true) → has_sign names a ≡ true
      step true e k rest = head_among x fs n b gs cs a m s e h
      step false e k rest = rest k
  heads_among (Rule n (Variable x) b gs ∷ cs) a h m s k = heads_among cs a (rest_among n (Variable x) b gs cs h) m s k
  heads_among (Rule n (Integer z) b gs ∷ cs) a h m s k = heads_among cs a (rest_among n (Integer z) b gs cs h) m s k
  heads_among (Rule n (Closed fs) b gs ∷ cs) a h m s k = heads_among cs a (rest_among n (Closed fs) b gs cs h) m s k
  heads_among (Rule n (Open fs f) b gs ∷ cs) a h m s k = heads_among cs a (rest_among n (Open fs f) b gs cs h) m s k
  heads_among (Rule n (Not f) b gs ∷ cs) a h m s k = heads_among cs a (rest_among n (Not f) b gs cs h) m s k
  heads_among (Rule n (And fs) b gs ∷ cs) a h m s k = heads_among cs a (rest_among n (And fs) b gs cs h) m s k
  heads_among (Rule n (Xor fs) b gs ∷ cs) a h m s k = heads_among cs a (rest_among n (Xor fs) b gs cs h) m s k
  heads_among (Rule n (Or fs) b gs ∷ cs) a h m s k = heads_among cs a (rest_among n (Or fs) b gs cs h) m s k

  -- ---- goals

  module _ (more : List Sign) (d : Declared) (cs : List FormClause) (ms : List (Option Text)) (every : list_all (has_sign names) (clauses_signs cs) ≡ true) (declared : list_all (has_sign names) (declared_signs d) ≡ true) where
    abbrev sorted_names : List Sign
    sorted_names = map (λ e. e.0) d.sorts

    given_below : (a : Sign) → same_sign a module_sign ≡ false → same_sign a spec_sign ≡ false → (p q : Bool) → has_sign (heads cs) a ≡ p → has_sign sorted_names a ≡ q → (p || q) ≡ true → sign_number (names ++ more) a < length names
    given_below a m s p q e k h =
        subst (λ (o : Option ℕ). unwrap_or o 0 < length names) (place_within (same_sign a) names more there) (number_below names a there)
      where
        by : (c r : Bool) → has_sign (heads cs) a ≡ c → has_sign sorted_names a ≡ r → (c || r) ≡ true → has_sign names a ≡ true
        by true r e k h = heads_among cs a every m s e
        by false true e k h = among sorted_names names a (all_left (has_sign names) sorted_names (d.demons ++ map (λ e. e.0) d.delays) declared) k
        by false false e k h = absurd (cc)

        there : has_sign names a ≡ true
        there = by p q e k h

    module _ (n : Numbering) (is : n.names ≡ names ++ more) where
      circuit_below : (x : Text) (fs : Forms) → CallsBelow (length names) (circuit_goal d n ms (Name x fs))
      circuit_below x Last = tt
      circuit_below x (More m Last) = tt
      circuit_below x (More m (More ins Last)) = tt
      circuit_below x (More m (More ins (More outs Last))) = tt
      circuit_below x (More m (More ins (More outs (More f fs)))) = tt

      name_below : (x : Text) (fs : Forms) (a : Sign) (t f c m s p q : Bool) → same_sign a module_sign ≡ m → same_sign a spec_sign ≡ s → has_sign (heads cs) a ≡ p → has_sign sorted_names a ≡ q →
          (if c then not (names_module ms (first_atom (Name x fs))) else (m || s || not ((t || (f || false)) || p || q))) ≡ false →
          CallsBelow (length names) (if t then goal.True else (if f then goal.Fail else (if c then circuit_goal d n ms (Name x fs) else goal.Call (sign_number n.names a) (as_trees d n (sorts_of d a) fs))))
      name_below x fs a true f c m s p q em es ep eq h = tt
      name_below x fs a false true c m s p q em es ep eq h = tt
      name_below x fs a false false true m s p q em es ep eq h = circuit_below x fs
      name_below x fs a false false false true s p q em es ep eq h = absurd (cc)
      name_below x fs a false false false false true p q em es ep eq h = absurd (cc)
      name_below x fs a false false false false false true q em es ep eq h = subst (λ (l : List Sign). sign_number l a < length names) (sym is) (given_below a em es true q ep eq refl)
      name_below x fs a false false false false false false true em es ep eq h = subst (λ (l : List Sign). sign_number l a < length names) (sym is) (given_below a em es false true ep eq refl)
      name_below x fs a false false false false false false false em es ep eq h = absurd (cc)

      call_below : (f : Form) → is_unknown d (heads cs) ms f ≡ false → CallsBelow (length names) (call_goal d n ms f)
      call_below (Variable x) h = absurd (cc)
      call_below (Integer z) h = absurd (cc)
      call_below (Closed fs) h = absurd (cc)
      call_below (Open fs f) h = absurd (cc)
      call_below (Not f) h = absurd (cc)
      call_below (And fs) h = absurd (cc)
      call_below (Xor fs) h = absurd (cc)
      call_below (Or fs) h = absurd (cc)
      call_below (Name x fs) h =
          let a : Sign = (x, count_of fs) in
          name_below x fs a (same_sign a (codes "true", 0)) (same_sign a (codes "fail", 0)) (same_sign a circuit_sign) (same_sign a module_sign) (same_sign a spec_sign) (has_sign (heads cs) a) (has_sign sorted_names a) refl refl refl refl h

      goal_below : (b : Body) (k : ℕ) (f : FormGoal) (g : Goal) → goal_unknown d (heads cs) ms f ≡ false → IsGoal d b n ms k f g → CallsBelow (length names) g
      goal_below b k (ACall f) g h (a_call e) = subst (CallsBelow (length names)) (sym e) (call_below f h)
      goal_below b k (AnEqual l r) g h (an_equal s m e) = subst (CallsBelow (length names)) (sym e) tt

      or_left : (p q : Bool) → (p || q) ≡ false → p ≡ false
      or_left true q h = absurd (cc)
      or_left false q h = refl

      or_right : (p q : Bool) → (p || q) ≡ false → q ≡ false
      or_right true q h = absurd (cc)
      or_right false q h = h

      first_below : (g : Goal) (gs : List Goal) → CallsBelow (length names) g → All (CallsBelow (length names)) gs → All (CallsBelow (length names)) (g ∷ gs)
      first_below g gs h a zero e k = h
      first_below g gs h a (suc j) e k = a j e (omega arith)

      goals_below : (b : Body) (k : ℕ) (fs : List FormGoal) (gs : List Goal) → list_any (goal_unknown d (heads cs) ms) fs ≡ false → AreGoals d b n ms k fs gs → All (CallsBelow (length names)) gs
      goals_below b k fs gs h no_goals = λ j e q. absurd (omega arith)
      goals_below b k fs gs h (more_goals {f = f} {g = g} {fs = rest} {gs = others} i p) =
          first_below g others (goal_below b k f g (or_left (goal_unknown d (heads cs) ms f) (list_any (goal_unknown d (heads cs) ms) rest) h) i)
          (goals_below b (suc k) rest others (or_right (goal_unknown d (heads cs) ms f) (list_any (goal_unknown d (heads cs) ms) rest) h) p)

pub all_known : (d : Declared) (hs : List Sign) (ms : List (Option Text)) (gs : List FormGoal) → BodyRefusal d hs ms (query_body gs) None → list_any (goal_unknown d hs ms) (query_body gs).goals ≡ false
all_known d hs ms gs h = step (list_any (goal_unknown d hs ms) (query_body gs).goals) None h refl
  where
    step : (c : Bool) (r : Option Refusal) → MatchBool c (r ≡ Some Unknown) ((Clash d (query_body gs) × (r ≡ Some SortClash)) ⊎ ((Clash d (query_body gs) → ⊥) × (r ≡ None))) → r ≡ None → c ≡ false
    step true r h e = absurd (cc)
    step false r h e = refl

pub queries_call_names : QueriesCallNames
queries_call_names cs s gs a written loads asks =
    goals_below s.names a.names s.declared cs (module_names cs) (loads.program []).every loads.every_declared (numbering s.declared (s.names ++ a.names) (query_body gs)) refl (query_body gs) 0 (query_body gs).goals a.goals
    (all_known s.declared (heads cs) (module_names cs) gs asks.accepted) asks.goals

-- ---- the goals of rules

pub rule_known : (d : Declared) (hs : List Sign) (ms : List (Option Text)) (b : Body) → BodyRefusal d hs ms b None → list_any (goal_unknown d hs ms) b.goals ≡ false
rule_known d hs ms b h = step (is_taken b.head) (list_any (goal_unknown d hs ms) b.goals) None h refl
  where
    step : (t c : Bool) (r : Option Refusal) → MatchBool t (r ≡ Some Twice) (MatchBool c (r ≡ Some Unknown) ((Clash d b × (r ≡ Some SortClash)) ⊎ ((Clash d b → ⊥) × (r ≡ None)))) → r ≡ None → c ≡ false
    step true c r h e = absurd (cc)
    step false true r h e = absurd (cc)
    step false false r h e = refl

pub same_some : {A : Type 0} (x y : A) → Some x ≡ Some y → x ≡ y
same_some {A} x y e = ap un e
  where
    un : Option A → A
    un (Some z) = z
    un None = x

module _ (s : Source) (cs : List FormClause) (loads : Loads cs s) where
  rules_below : (as' : List FormClause) (xs : List Clause) (r : Option (Refusal × ℕ)) → r ≡ None → RulesRefusal s.declared (heads cs) (module_names cs) as' r → HaveClauses s.declared s.names (module_names cs) as' xs →
      (k : ℕ) (c : Clause) → slice_get xs k ≡ Some c → All (CallsBelow (length s.names)) c.body
  rules_below [] [] r e ok no_clauses k c at = absurd (cc)
  rules_below [] (x ∷ xs) r e ok more k c at = elim more [ ]
  rules_below (Directive j y fs ∷ as') xs r e (skip q ok) more k c at = absurd (cc)
  rules_below (Directive j y fs ∷ as') xs r e (directive ok) (skips q more) k c at = absurd (cc)
  rules_below (Directive j y fs ∷ as') xs r e (directive ok) (skips_directive more) k c at = rules_below as' xs r e ok more k c at
  rules_below (Rule j f bodied gs ∷ as') xs r e (skip q ok) (skips q' more) k c at = rules_below as' xs r e ok more k c at
  rules_below (Rule j f bodied gs ∷ as') (x ∷ xs) r e (skip q ok) (a_clause q' is more) k c at = absurd (cc)
  rules_below (Rule j f bodied gs ∷ as') xs r e (passes q body ok) (skips q' more) k c at = absurd (cc)
  rules_below (Rule j f bodied gs ∷ as') (x ∷ xs) r e (passes q body ok) (a_clause q' is more) zero c at =
      subst (λ (y : Clause). All (CallsBelow (length s.names)) y.body) (same_some x c at)
      (goals_below s.names [] s.declared cs (module_names cs) (loads.program []).every loads.every_declared (numbering s.declared s.names (body_of f gs)) (sym (append-nil s.names)) (body_of f gs) 0 (body_of f gs).goals x.body
      (rule_known s.declared (heads cs) (module_names cs) (body_of f gs) body) is.body)
  rules_below (Rule j f bodied gs ∷ as') (x ∷ xs) r e (passes q body ok) (a_clause q' is more) (suc k) c at = rules_below as' xs r e ok more k c at
  rules_below (Rule j f bodied gs ∷ as') xs r e (refused q body) more k c at = absurd (cc)

pub clauses_call_names : ClausesCallNames
clauses_call_names cs s k c loads at = rules_below s cs loads cs s.clauses None refl loads.rules (loads.program []).clauses k c at
