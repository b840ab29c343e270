-- The names of heads are among the wanted names.
use Rattle.std.specs.Prelude.{All, unwrap_or}
use Rattle.std.specs.Bool.{if◌then◌else◌}
use Rattle.std.proofs.Common.{◌≡◌, ℕ, zero, suc, ◌+◌, ◌<◌, ◌≤◌, Bool, true, false, cond, ◌&&◌, ◌||◌, List, [], ◌∷◌, ◌++◌, length, position, Option, Some, None, refl, sym, ◌∙◌, ap, subst, arith}
use Rattle.std.specs.List.{list_any, list_all}
use Rattle.std.proofs.lemmas.List.{append_assoc}
use Rattle.std.proofs.lemmas.Bool.Decides.{nat_tests}
use Rattle.cb_model.specs.Text.{Text}
use Rattle.cb_model.specs.declared.Clause.{Clause}
use Rattle.cb_model.specs.Grammar.{Form, Variable, Integer, Name, Closed, Open, Not, And, Xor, Or, FormGoal, FormClause, Directive, Rule}
use Rattle.cb_model.specs.Written.{is_name, clause_written}
use Rattle.cb_model.specs.Directives.{Sign, same_sign, has_sign, count_of, Declared}
use Rattle.cb_model.specs.Sorts.{sign_number}
use Rattle.cb_model.specs.Loading.{is_fact, head_sign, signs_of, goals_signs, clauses_signs, HaveClauses, no_clauses, skips, skips_directive, a_clause}

abbrev behind : Option ℕ → Option ℕ
behind None = None
behind (Some k) = Some (1 + k)

position-cons : {X : Type 0} (p : X → Bool) (x : X) (xs : List X) → position p (x ∷ xs) ≡ cond (p x) (Some 0) (behind (position p xs))
position-cons p x xs = grind (arith, nat_tests)

-- a name that is there has a number
pub number_below : (xs : List Sign) (a : Sign) → has_sign xs a ≡ true → sign_number xs a < length xs
number_below [] a h = absurd (cc)
number_below (x ∷ xs) a h =
    subst (λ (o : Option ℕ). unwrap_or o 0 < suc (length xs)) (sym (position-cons (same_sign a) x xs)) (step (same_sign a x) (position (same_sign a) xs) refl h (number_below xs a))
  where
    step : (b : Bool) (o : Option ℕ) → position (same_sign a) xs ≡ o → (b || has_sign xs a) ≡ true → (has_sign xs a ≡ true → unwrap_or (position (same_sign a) xs) 0 < length xs) →
        unwrap_or (cond b (Some 0) (behind o)) 0 < suc (length xs)
    step true o e g k = omega arith
    step false None e g k = omega arith
    step false (Some m) e g k =
        let low : m < length xs = subst (λ (r : Option ℕ). unwrap_or r 0 < length xs) e (k g) in omega arith

-- its place stays when others stand behind
pub place_within : {X : Type 0} (p : X → Bool) (xs ys : List X) → list_any p xs ≡ true → position p xs ≡ position p (xs ++ ys)
place_within p [] ys h = absurd (cc)
place_within p (x ∷ xs) ys h = position-cons p x xs ∙ step (p x) h (place_within p xs ys) ∙ sym (position-cons p x (xs ++ ys))
  where
    step : (b : Bool) → (b || list_any p xs) ≡ true → (list_any p xs ≡ true → position p xs ≡ position p (xs ++ ys)) →
        cond b (Some 0) (behind (position p xs)) ≡ cond b (Some 0) (behind (position p (xs ++ ys)))
    step true g k = refl
    step false g k = ap (λ (o : Option ℕ). behind o) (k g)

pub and_left : (a b : Bool) → (a && b) ≡ true → a ≡ true
and_left true b h = refl
and_left false b h = absurd (cc)

pub and_right : (a b : Bool) → (a && b) ≡ true → b ≡ true
and_right true b h = h
and_right false b h = absurd (cc)

module _ (p : Sign → Bool) where
  all-append : (xs ys : List Sign) → list_all p (xs ++ ys) ≡ (list_all p xs && list_all p ys)
  all-append [] ys = refl
  all-append (x ∷ xs) ys = step (p x) (all-append xs ys)
    where
      step : (b : Bool) → list_all p (xs ++ ys) ≡ (list_all p xs && list_all p ys) → (b && list_all p (xs ++ ys)) ≡ ((b && list_all p xs) && list_all p ys)
      step true h = h
      step false h = refl

  pub all_left : (xs ys : List Sign) → list_all p (xs ++ ys) ≡ true → list_all p xs ≡ true
  all_left xs ys h = and_left (list_all p xs) (list_all p ys) (sym (all-append xs ys) ∙ h)

  pub all_right : (xs ys : List Sign) → list_all p (xs ++ ys) ≡ true → list_all p ys ≡ true
  all_right xs ys h = and_right (list_all p xs) (list_all p ys) (sym (all-append xs ys) ∙ h)

  pub head_there : (f : Form) → is_name f ≡ true → list_all p (signs_of f) ≡ true → p (head_sign f) ≡ true
  head_there (Variable x) n h = absurd (cc)
  head_there (Integer z) n h = absurd (cc)
  head_there (Name x fs) n h = and_left (p (x, count_of fs)) _ h
  head_there (Closed fs) n h = absurd (cc)
  head_there (Open fs f) n h = absurd (cc)
  head_there (Not f) n h = absurd (cc)
  head_there (And fs) n h = absurd (cc)
  head_there (Xor fs) n h = absurd (cc)
  head_there (Or fs) n h = absurd (cc)

  pub rule_signs : (n : ℕ) (f : Form) (b : Bool) (gs : List FormGoal) (cs : List FormClause) → is_fact (Rule n f b gs) ≡ false → list_all p (clauses_signs (Rule n f b gs ∷ cs)) ≡ true →
      list_all p (signs_of f ++ (goals_signs gs ++ clauses_signs cs)) ≡ true
  rule_signs n f b gs cs e h =
      ap (list_all p) (sym (append_assoc (signs_of f) (goals_signs gs) (clauses_signs cs)))
      ∙ sym (ap (λ (o : Bool). list_all p (if o then clauses_signs cs else (signs_of f ++ goals_signs gs ++ clauses_signs cs))) e) ∙ h

  pub fact_signs : (c : FormClause) (cs : List FormClause) → is_fact c ≡ true → list_all p (clauses_signs (c ∷ cs)) ≡ true → list_all p (clauses_signs cs) ≡ true
  fact_signs (Directive n x fs) cs e h = absurd (cc)
  fact_signs (Rule n f b gs) cs e h = sym (ap (λ (o : Bool). list_all p (if o then clauses_signs cs else (signs_of f ++ goals_signs gs ++ clauses_signs cs))) e) ∙ h

all_cons : (n : ℕ) (x : Clause) (xs : List Clause) → x.pred < n → All (λ c. c.pred < n) xs → All (λ c. c.pred < n) (x ∷ xs)
all_cons n x xs h a zero d k = h
all_cons n x xs h a (suc j) d k = a j d (omega arith)

-- each clause has a numbered predicate
pub preds_below : (d : Declared) (names : List Sign) (ms : List (Option Text)) (cs : List FormClause) (xs : List Clause) → list_all clause_written cs ≡ true →
    list_all (has_sign names) (clauses_signs cs) ≡ true → HaveClauses d names ms cs xs → All (λ c. c.pred < length names) xs
preds_below d names ms cs xs w h no_clauses = λ k x q. absurd (omega arith)
preds_below d names ms cs xs w h (skips {c = c} {cs = rest} e p) =
    preds_below d names ms rest xs (and_right (clause_written c) (list_all clause_written rest) w) (fact_signs (has_sign names) c rest e h) p
preds_below d names ms cs xs w h (skips_directive {n = n} {x = x} {fs = fs} {cs = rest} p) =
    preds_below d names ms rest xs (and_right (clause_written (Directive n x fs)) (list_all clause_written rest) w) h p
preds_below d names ms cs xs w h (a_clause {n = n} {f = f} {bodied = b} {gs = gs} {c = c} {cs = rest} {xs = ys} e i p) =
    let s = rule_signs (has_sign names) n f b gs rest e h in
    let named : is_name f ≡ true = and_left (is_name f) _ (and_left (clause_written (Rule n f b gs)) (list_all clause_written rest) w) in
    let there : has_sign names (head_sign f) ≡ true = head_there (has_sign names) f named (all_left (has_sign names) (signs_of f) (goals_signs gs ++ clauses_signs rest) s) in
    all_cons (length names) c ys (subst (λ m. m < length names) (sym i.pred) (number_below names (head_sign f) there))
    (preds_below d names ms rest ys (and_right (clause_written (Rule n f b gs)) (list_all clause_written rest) w)
    (all_right (has_sign names) (goals_signs gs) (clauses_signs rest) (all_right (has_sign names) (signs_of f) (goals_signs gs ++ clauses_signs rest) s)) p)

-- a file gives no more clauses than it has
pub few_clauses : (d : Declared) (names : List Sign) (ms : List (Option Text)) (cs : List FormClause) (xs : List Clause) → HaveClauses d names ms cs xs → length xs ≤ length cs
few_clauses d names ms cs xs no_clauses = omega arith
few_clauses d names ms cs xs (skips {cs = rest} e p) =
    let low : length xs ≤ length rest = few_clauses d names ms rest xs p in omega arith
few_clauses d names ms cs xs (skips_directive {cs = rest} p) =
    let low : length xs ≤ length rest = few_clauses d names ms rest xs p in omega arith
few_clauses d names ms cs xs (a_clause {cs = rest} {xs = ys} e i p) =
    let low : length ys ≤ length rest = few_clauses d names ms rest ys p in omega arith
