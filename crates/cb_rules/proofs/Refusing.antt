-- What a rule or query is refused with, by the tests of its written form.
use Rattle.std.specs.Prelude.{MatchBool}
use Rattle.std.specs.Bool.{if◌then◌else◌}
use Rattle.std.proofs.Common.{◌≡◌, ℕ, suc, Bool, true, false, not, ◌||◌, ◌⊎◌, inl, inr, List, [], ◌∷◌, map, Option, Some, None, bytes_eq, codes, refl, sym, ◌∙◌, ap, subst}
use Rattle.std.specs.List.{list_any}
use Rattle.cb_model.specs.Text.{Text}
use Rattle.cb_model.specs.Grammar.{Form, Forms, Variable, Integer, Name, Closed, Open, Not, And, Xor, Or, Last, More, FormGoal, ACall, AnEqual}
use Rattle.cb_model.specs.Directives.{Sign, same_sign, has_sign, count_of, Declared, Refusal, SortClash, Unknown, Twice}
use Rattle.cb_model.specs.Sorts.{Body, own_name, apart, apart_all, apart_goal, apart_goals, Clash, circuit_sign}
use Rattle.cb_model.specs.Loading.{sign_is, first_atom, names_module, module_sign, spec_sign, plain_goals, is_unknown, goal_unknown, is_taken, body_of, query_body, BodyRefusal}

-- ---- names with each `_` apart

pub count_apart : (fs : Forms) (k : ℕ) → count_of (apart_all fs k).0 ≡ count_of fs
count_apart Last k = refl
count_apart (More f fs) k = ap suc (count_apart fs (apart f k).1)

-- a test that no variable passes or fails by its name
pub variable_apart : {A : Type 0} (q : Form → A) (a : A) → ((x : Text) → q (Variable x) ≡ a) → (x : Text) (k : ℕ) → q (apart (Variable x) k).0 ≡ q (Variable x)
variable_apart q a e x k = step (bytes_eq x (codes "_")) ∙ sym (e x)
  where
    step : (b : Bool) → q (if◌then◌else◌ {A = Form × ℕ} b (Variable (own_name k), suc k) (Variable x, k)).0 ≡ a
    step true = e (own_name k)
    step false = e x

pub sign_apart : (a : Sign) (f : Form) (k : ℕ) → sign_is a (apart f k).0 ≡ sign_is a f
sign_apart a (Variable x) k = variable_apart (sign_is a) false (λ y. refl) x k
sign_apart a (Integer z) k = refl
sign_apart a (Name x fs) k = ap (λ n. same_sign a (x, n)) (count_apart fs k)
sign_apart a (Closed fs) k = refl
sign_apart a (Open fs f) k = refl
sign_apart a (Not f) k = refl
sign_apart a (And fs) k = refl
sign_apart a (Xor fs) k = refl
sign_apart a (Or fs) k = refl

pub taken_apart : (f : Form) (k : ℕ) → is_taken (Some (apart f k).0) ≡ is_taken (Some f)
taken_apart f k = λ j. sign_apart (codes "true", 0) f k j || sign_apart (codes "fail", 0) f k j || sign_apart circuit_sign f k j

abbrev atom_of : Form → Option Text
atom_of f = first_atom (Name [] (More f Last))

atom_apart : (f : Form) (k : ℕ) → atom_of (apart f k).0 ≡ atom_of f
atom_apart (Variable x) k = variable_apart atom_of None (λ y. refl) x k
atom_apart (Integer z) k = refl
atom_apart (Name x Last) k = refl
atom_apart (Name x (More f fs)) k = refl
atom_apart (Closed fs) k = refl
atom_apart (Open fs f) k = refl
atom_apart (Not f) k = refl
atom_apart (And fs) k = refl
atom_apart (Xor fs) k = refl
atom_apart (Or fs) k = refl

first_alone : (x : Text) (f : Form) (fs : Forms) → first_atom (Name x (More f fs)) ≡ atom_of f
first_alone x (Variable y) fs = refl
first_alone x (Integer z) fs = refl
first_alone x (Name y Last) fs = refl
first_alone x (Name y (More g gs)) fs = refl
first_alone x (Closed gs) fs = refl
first_alone x (Open gs g) fs = refl
first_alone x (Not g) fs = refl
first_alone x (And gs) fs = refl
first_alone x (Xor gs) fs = refl
first_alone x (Or gs) fs = refl

first_apart : (x : Text) (fs : Forms) (k : ℕ) → first_atom (Name x (apart_all fs k).0) ≡ first_atom (Name x fs)
first_apart x Last k = refl
first_apart x (More f fs) k = first_alone x (apart f k).0 (apart_all fs (apart f k).1).0 ∙ atom_apart f k ∙ sym (first_alone x f fs)

module _ (d : Declared) (hs : List Sign) (ms : List (Option Text)) where
  abbrev choice : Text → ℕ → Option Text → Bool
  choice x n o =
      if same_sign (x, n) circuit_sign then not (names_module ms o)
      else (same_sign (x, n) module_sign || same_sign (x, n) spec_sign || not (has_sign plain_goals (x, n) || has_sign hs (x, n) || has_sign (map (λ e. e.0) d.sorts) (x, n)))

  unknown_apart : (f : Form) (k : ℕ) → is_unknown d hs ms (apart f k).0 ≡ is_unknown d hs ms f
  unknown_apart (Variable x) k = variable_apart (is_unknown d hs ms) true (λ y. refl) x k
  unknown_apart (Integer z) k = refl
  unknown_apart (Name x fs) k = λ j. choice x (count_apart fs k j) (first_apart x fs k j)
  unknown_apart (Closed fs) k = refl
  unknown_apart (Open fs f) k = refl
  unknown_apart (Not f) k = refl
  unknown_apart (And fs) k = refl
  unknown_apart (Xor fs) k = refl
  unknown_apart (Or fs) k = refl

  goal_apart : (g : FormGoal) (k : ℕ) → goal_unknown d hs ms (apart_goal g k).0 ≡ goal_unknown d hs ms g
  goal_apart (ACall f) k = unknown_apart f k
  goal_apart (AnEqual f g) k = refl

  pub goals_apart : (gs : List FormGoal) (k : ℕ) → list_any (goal_unknown d hs ms) (apart_goals gs k) ≡ list_any (goal_unknown d hs ms) gs
  goals_apart [] k = refl
  goals_apart (g ∷ gs) k = λ j. goal_apart g k j || goals_apart gs (apart_goal g k).1 j

  -- ---- a body

  abbrev Agreeing : Body → Option Refusal → Type 0
  Agreeing b r = (Clash d b × (r ≡ Some SortClash)) ⊎ ((Clash d b → ⊥) × (r ≡ None))

  module _ (b : Body) where
    taken_first : is_taken b.head ≡ true → BodyRefusal d hs ms b (Some Twice)
    taken_first t =
        subst (λ (c : Bool). MatchBool c (Some Twice ≡ Some Twice) (MatchBool (list_any (goal_unknown d hs ms) b.goals) (Some Twice ≡ Some Unknown) (Agreeing b (Some Twice)))) (sym t) refl

    unknown_then : is_taken b.head ≡ false → list_any (goal_unknown d hs ms) b.goals ≡ true → BodyRefusal d hs ms b (Some Unknown)
    unknown_then t u =
        subst (λ (c : Bool). MatchBool c (Some Unknown ≡ Some Twice) (MatchBool (list_any (goal_unknown d hs ms) b.goals) (Some Unknown ≡ Some Unknown) (Agreeing b (Some Unknown)))) (sym t)
        (subst (λ (c : Bool). MatchBool c (Some Unknown ≡ Some Unknown) (Agreeing b (Some Unknown))) (sym u) refl)

    sorts_last : (r : Option Refusal) → is_taken b.head ≡ false → list_any (goal_unknown d hs ms) b.goals ≡ false → Agreeing b r → BodyRefusal d hs ms b r
    sorts_last r t u a =
        subst (λ (c : Bool). MatchBool c (r ≡ Some Twice) (MatchBool (list_any (goal_unknown d hs ms) b.goals) (r ≡ Some Unknown) (Agreeing b r))) (sym t)
        (subst (λ (c : Bool). MatchBool c (r ≡ Some Unknown) (Agreeing b r)) (sym u) a)

  -- ---- a rule

  module _ (f : Form) (gs : List FormGoal) where
    pub rule_taken : true ≡ is_taken (Some f) → BodyRefusal d hs ms (body_of f gs) (Some Twice)
    rule_taken t = taken_first (body_of f gs) (taken_apart f 0 ∙ sym t)

    pub rule_unknown : false ≡ is_taken (Some f) → true ≡ list_any (goal_unknown d hs ms) gs → BodyRefusal d hs ms (body_of f gs) (Some Unknown)
    rule_unknown t u = unknown_then (body_of f gs) (taken_apart f 0 ∙ sym t) (goals_apart gs (apart f 0).1 ∙ sym u)

    pub rule_clash : false ≡ is_taken (Some f) → false ≡ list_any (goal_unknown d hs ms) gs → Clash d (body_of f gs) → BodyRefusal d hs ms (body_of f gs) (Some SortClash)
    rule_clash t u c = sorts_last (body_of f gs) (Some SortClash) (taken_apart f 0 ∙ sym t) (goals_apart gs (apart f 0).1 ∙ sym u) (inl (c, refl))

    pub rule_agrees : false ≡ is_taken (Some f) → false ≡ list_any (goal_unknown d hs ms) gs → (Clash d (body_of f gs) → ⊥) → BodyRefusal d hs ms (body_of f gs) None
    rule_agrees t u c = sorts_last (body_of f gs) None (taken_apart f 0 ∙ sym t) (goals_apart gs (apart f 0).1 ∙ sym u) (inr (c, refl))

  -- ---- a query

  module _ (gs : List FormGoal) where
    pub query_unknown : true ≡ list_any (goal_unknown d hs ms) gs → BodyRefusal d hs ms (query_body gs) (Some Unknown)
    query_unknown u = unknown_then (query_body gs) refl (goals_apart gs 0 ∙ sym u)

    pub query_clash : false ≡ list_any (goal_unknown d hs ms) gs → Clash d (query_body gs) → BodyRefusal d hs ms (query_body gs) (Some SortClash)
    query_clash u c = sorts_last (query_body gs) (Some SortClash) refl (goals_apart gs 0 ∙ sym u) (inl (c, refl))

    pub query_agrees : false ≡ list_any (goal_unknown d hs ms) gs → (Clash d (query_body gs) → ⊥) → BodyRefusal d hs ms (query_body gs) None
    query_agrees u c = sorts_last (query_body gs) None refl (goals_apart gs 0 ∙ sym u) (inr (c, refl))

-- ---- the names that have clauses, as another list of the same names

module _ (d : Declared) (hs ks : List Sign) (ms : List (Option Text)) (same : (a : Sign) → has_sign hs a ≡ has_sign ks a) where
  is_unknown_same : (f : Form) → is_unknown d hs ms f ≡ is_unknown d ks ms f
  is_unknown_same (Variable x) = refl
  is_unknown_same (Integer z) = refl
  is_unknown_same (Name x fs) = λ j.
      if same_sign (x, count_of fs) circuit_sign then not (names_module ms (first_atom (Name x fs)))
      else (same_sign (x, count_of fs) module_sign || same_sign (x, count_of fs) spec_sign ||
      not (has_sign plain_goals (x, count_of fs) || same (x, count_of fs) j || has_sign (map (λ e. e.0) d.sorts) (x, count_of fs)))
  is_unknown_same (Closed fs) = refl
  is_unknown_same (Open fs f) = refl
  is_unknown_same (Not f) = refl
  is_unknown_same (And fs) = refl
  is_unknown_same (Xor fs) = refl
  is_unknown_same (Or fs) = refl

  goal_unknown_same : (g : FormGoal) → goal_unknown d hs ms g ≡ goal_unknown d ks ms g
  goal_unknown_same (ACall f) = is_unknown_same f
  goal_unknown_same (AnEqual f g) = refl

  pub any_unknown_same : (gs : List FormGoal) → list_any (goal_unknown d hs ms) gs ≡ list_any (goal_unknown d ks ms) gs
  any_unknown_same [] = refl
  any_unknown_same (g ∷ gs) = λ j. goal_unknown_same g j || any_unknown_same gs j

  pub body_same : (b : Body) (r : Option Refusal) → BodyRefusal d hs ms b r → BodyRefusal d ks ms b r
  body_same b r h = subst (λ (u : Bool). MatchBool (is_taken b.head) (r ≡ Some Twice) (MatchBool u (r ≡ Some Unknown) (Agreeing d ks ms b r))) (any_unknown_same b.goals) h
