-- Names put behind others, term after term.
use Rattle.std.specs.Prelude.{OnOk}
use Rattle.std.proofs.Common.{◌≡◌, ℕ, suc, ◌+◌, ◌<◌, Bool, true, false, ◌||◌, ◌&&◌, List, [], ◌∷◌, ◌++◌, map, drop, length, get_or, Some, Result, Ok, Err, bytes_eq, nat_eq, refl, sym, ◌∙◌, ap, arith, add-one, drop-cons, Bor}
use Rattle.std.specs.Bool.{if◌then◌else◌}
use Rattle.std.specs.List.{list_all}
use Rattle.std.proofs.lemmas.List.{append-nil, append_assoc}
use Rattle.std.proofs.lemmas.Slice.Eq.{bytes_eq-Decides}
use Rattle.std.proofs.lemmas.Bool.Decides.{nat_tests}
use Rattle.cb_model.specs.Text.{Text}
use Rattle.cb_model.specs.declared.RawTerm.{RawTerm}
use Rattle.cb_model.specs.declared.RawTerm.TheVariants as raw
use Rattle.cb_model.specs.declared.RawGoal.{RawGoal}
use Rattle.cb_model.specs.declared.RawGoal.TheVariants as raw_goal
use Rattle.cb_model.specs.declared.RawClause.{RawClause}
use Rattle.cb_model.specs.declared.RawClause.TheVariants as raw_clause
use Rattle.cb_model.specs.Grammar.{Form, Forms, Variable, Integer, Name, Closed, Open, Not, And, Xor, Or, Last, More, FormGoal, ACall, AnEqual, FormClause, Directive, Rule}
use Rattle.cb_model.specs.Forms.{form_of, forms_of, goal_form, clause_form}
use Rattle.cb_model.specs.Directives.{Sign, same_sign, has_sign}
use Rattle.cb_model.specs.Loading.{is_fact, signs_of, signs_in, goals_signs, clauses_signs}
use Rattle.cb_laws.proofs.FormValues.{form_name, form_open}
use Rattle.cb_directives.proofs.Reading.{count_forms}
use Rattle.cb_names.specs.Keys.{add_sign}
use Rattle.cb_signs.specs.Wanted.{add_signs, Adds, argument_signs, directive_signs, named_signs}

-- ---- one name

pub has_append : (xs ys : List Sign) (a : Sign) → has_sign (xs ++ ys) a ≡ (has_sign xs a || has_sign ys a)
has_append [] ys a = refl
has_append (x ∷ xs) ys a = step (same_sign a x) (has_append xs ys a)
  where
    step : (b : Bool) → has_sign (xs ++ ys) a ≡ (has_sign xs a || has_sign ys a) → (b || has_sign (xs ++ ys) a) ≡ ((b || has_sign xs a) || has_sign ys a)
    step true h = refl
    step false h = h

pub name_there : (base old : List Sign) (a : Sign) → true ≡ has_sign base a → Adds base old old (a ∷ [])
name_there base old a h =
    let there : has_sign (base ++ old) a ≡ true = has_append base old a ∙ ap (λ (b : Bool). b || has_sign old a) (sym h) in
    ap (λ (b : Bool). if b then (base ++ old) else ((base ++ old) ++ a ∷ [])) (sym there)

pub name_new : (base old new : List Sign) (a : Sign) → false ≡ has_sign base a → new ≡ add_sign old a → Adds base old new (a ∷ [])
name_new base old new a h e =
    let there : has_sign (base ++ old) a ≡ has_sign old a = has_append base old a ∙ ap (λ (b : Bool). b || has_sign old a) (sym h) in
    ap (λ (l : List Sign). base ++ l) e ∙ step (has_sign old a) ∙ ap (λ (b : Bool). if b then (base ++ old) else ((base ++ old) ++ a ∷ [])) (sym there)
  where
    step : (b : Bool) → base ++ (if b then old else (old ++ a ∷ [])) ≡ (if b then (base ++ old) else ((base ++ old) ++ a ∷ []))
    step true = refl
    step false = sym (append_assoc base old (a ∷ []))

pub name_ok : {E : Type 0} (r : Result Unit E) (base old new : List Sign) (a : Sign) → false ≡ has_sign base a → OnOk r (new ≡ add_sign old a) → OnOk r (Adds base old new (a ∷ []))
name_ok (Ok x) base old new a h e = name_new base old new a h e
name_ok (Err x) base old new a h e = tt

-- ---- names after names

pub add-append : (xs as' bs : List Sign) → add_signs xs (as' ++ bs) ≡ add_signs (add_signs xs as') bs
add-append xs [] bs = refl
add-append xs (a ∷ as') bs = add-append (add_sign xs a) as' bs

pub adds_then : (base x y z as' bs : List Sign) → Adds base x y as' → Adds base y z bs → Adds base x z (as' ++ bs)
adds_then base x y z as' bs p q = q ∙ ap (λ (l : List Sign). add_signs l bs) p ∙ sym (add-append (base ++ x) as' bs)

pub ok_map : {E : Type 0} (r : Result Unit E) (P Q : Type 0) → (P → Q) → OnOk r P → OnOk r Q
ok_map (Ok x) P Q f h = f h
ok_map (Err x) P Q f h = tt

-- ---- terms

signs_name : (t : RawTerm) (n : Bor Text) (ts us : List RawTerm) (m : ℕ) → t ≡ raw.Name n ts → m ≡ length ts → us ≡ ts →
    (n.now, m) ∷ signs_in (forms_of (map form_of us)) ≡ signs_of (form_of t)
signs_name t n ts us m e k s =
    ap (λ (l : List RawTerm). (n.now, m) ∷ signs_in (forms_of (map form_of l))) s
    ∙ ap (λ c. (n.now, c) ∷ signs_in (forms_of (map form_of ts))) (k ∙ sym (count_forms ts)) ∙ sym (ap signs_of (ap form_of e ∙ form_name n ts))

signs_list : (t r u : RawTerm) (ts us : List RawTerm) → t ≡ raw.List ts (Some r) → us ≡ ts → u ≡ r →
    signs_in (forms_of (map form_of us)) ++ signs_of (form_of u) ≡ signs_of (form_of t)
signs_list t r u ts us e s k =
    ap (λ (l : List RawTerm). signs_in (forms_of (map form_of l)) ++ signs_of (form_of u)) s
    ∙ ap (λ (v : RawTerm). signs_in (forms_of (map form_of ts)) ++ signs_of (form_of v)) k ∙ sym (ap signs_of (ap form_of e ∙ form_open ts r))

module _ {E : Type 0} (q : Result Unit E) (base x y z : List Sign) where
  pub adds_name : (t : RawTerm) (n : Bor Text) (ts us : List RawTerm) (m : ℕ) → t ≡ raw.Name n ts → m ≡ length ts → us ≡ ts → Adds base x y ((n.now, m) ∷ []) →
      OnOk q (Adds base y z (signs_in (forms_of (map form_of us)))) → OnOk q (Adds base x z (signs_of (form_of t)))
  adds_name t n ts us m e k s p =
      ok_map q (Adds base y z (signs_in (forms_of (map form_of us)))) (Adds base x z (signs_of (form_of t)))
      (λ h. adds_then base x y z ((n.now, m) ∷ []) (signs_in (forms_of (map form_of us))) p h ∙ ap (add_signs (base ++ x)) (signs_name t n ts us m e k s))

  pub adds_list : (t r u : RawTerm) (ts us : List RawTerm) → t ≡ raw.List ts (Some r) → us ≡ ts → u ≡ r → Adds base x y (signs_in (forms_of (map form_of us))) →
      OnOk q (Adds base y z (signs_of (form_of u))) → OnOk q (Adds base x z (signs_of (form_of t)))
  adds_list t r u ts us e s k p =
      ok_map q (Adds base y z (signs_of (form_of u))) (Adds base x z (signs_of (form_of t)))
      (λ h. adds_then base x y z (signs_in (forms_of (map form_of us))) (signs_of (form_of u)) p h ∙ ap (add_signs (base ++ x)) (signs_list t r u ts us e s k))

  -- ---- a goal

  pub adds_call : (g : RawGoal) (t : RawTerm) → g ≡ raw_goal.Call t → OnOk q (Adds base x z (signs_of (form_of t))) → OnOk q (Adds base x z (goals_signs (goal_form g ∷ [])))
  adds_call g t e =
      ok_map q (Adds base x z (signs_of (form_of t))) (Adds base x z (goals_signs (goal_form g ∷ [])))
      (λ h. h ∙ ap (add_signs (base ++ x)) (sym (ap (λ (h : RawGoal). goals_signs (goal_form h ∷ [])) e ∙ append-nil (signs_of (form_of t)))))

  pub adds_equal : (g : RawGoal) (l r : RawTerm) → g ≡ raw_goal.Equal l r → Adds base x y (signs_of (form_of l)) → OnOk q (Adds base y z (signs_of (form_of r))) →
      OnOk q (Adds base x z (goals_signs (goal_form g ∷ [])))
  adds_equal g l r e p =
      ok_map q (Adds base y z (signs_of (form_of r))) (Adds base x z (goals_signs (goal_form g ∷ [])))
      (λ h. adds_then base x y z (signs_of (form_of l)) (signs_of (form_of r)) p h ∙ ap (add_signs (base ++ x))
      (sym (ap (λ (h : RawGoal). goals_signs (goal_form h ∷ [])) e ∙ append-nil-last (signs_of (form_of l)) (signs_of (form_of r)))))
    where
      append-nil-last : (as' bs : List Sign) → as' ++ bs ++ [] ≡ as' ++ bs
      append-nil-last as' bs = simp (append_assoc, append-nil)

  -- ---- a clause

  pub adds_directive : (c : RawClause) (line : ℕ) (w : Bor Text) (ts us : List RawTerm) → c ≡ raw_clause.Directive line w ts → us ≡ ts →
      OnOk q (Adds base x z (argument_signs (forms_of (map form_of us)))) → OnOk q (Adds base x z (named_signs (clause_form c ∷ [])))
  adds_directive c line w ts us e s =
      ok_map q (Adds base x z (argument_signs (forms_of (map form_of us)))) (Adds base x z (named_signs (clause_form c ∷ [])))
      (λ h. h ∙ ap (add_signs (base ++ x)) (ap (λ (l : List RawTerm). argument_signs (forms_of (map form_of l))) s
      ∙ sym (ap (λ (d : RawClause). named_signs (clause_form d ∷ [])) e ∙ append-nil (argument_signs (forms_of (map form_of ts))))))

  pub adds_rule : (c : RawClause) (line : ℕ) (t : RawTerm) (b : Bool) (gs hs : List RawGoal) → c ≡ raw_clause.Rule line t b gs → hs ≡ gs → false ≡ is_fact (clause_form c) →
      Adds base x y (signs_of (form_of t)) → OnOk q (Adds base y z (goals_signs (map goal_form hs))) → OnOk q (Adds base x z (named_signs (clause_form c ∷ [])))
  adds_rule c line t b gs hs e s f p =
      ok_map q (Adds base y z (goals_signs (map goal_form hs))) (Adds base x z (named_signs (clause_form c ∷ [])))
      (λ h. adds_then base x y z (signs_of (form_of t)) (goals_signs (map goal_form hs)) p h ∙ ap (add_signs (base ++ x)) rule)
    where
      no_fact : is_fact (Rule line (form_of t) b (map goal_form gs)) ≡ false
      no_fact = sym (f ∙ ap (λ (d : RawClause). is_fact (clause_form d)) e)

      rule : signs_of (form_of t) ++ goals_signs (map goal_form hs) ≡ named_signs (clause_form c ∷ [])
      rule =
          ap (λ (l : List RawGoal). signs_of (form_of t) ++ goals_signs (map goal_form l)) s
          ∙ sym (ap (λ (d : RawClause). named_signs (clause_form d ∷ [])) e
          ∙ ap (λ (o : Bool). if o then [] else (signs_of (form_of t) ++ goals_signs (map goal_form gs) ++ [])) no_fact ∙ simp (append_assoc, append-nil))

pub fact_none : (c : RawClause) → true ≡ is_fact (clause_form c) → named_signs (clause_form c ∷ []) ≡ []
fact_none c h = step (clause_form c) h
  where
    step : (d : FormClause) → true ≡ is_fact d → named_signs (d ∷ []) ≡ []
    step (Directive n w fs) g = absurd (cc)
    step (Rule n f b gs) g = ap (λ (o : Bool). if o then [] else (signs_of f ++ goals_signs gs ++ [])) (sym g)

pub adds_fact : (base old : List Sign) (c : RawClause) → true ≡ is_fact (clause_form c) → Adds base old old (named_signs (clause_form c ∷ []))
adds_fact base old c h = ap (add_signs (base ++ old)) (sym (fact_none c h))

pub adds_argument : {E : Type 0} (q : Result Unit E) (base x z : List Sign) (f : Form) (n : Text) (ts : List RawTerm) (m : ℕ) → f ≡ Name n (forms_of (map form_of ts)) → m ≡ length ts →
    OnOk q (Adds base x z ((n, m) ∷ [])) → OnOk q (Adds base x z (argument_signs (More f Last)))
adds_argument q base x z f n ts m e k =
    ok_map q (Adds base x z ((n, m) ∷ [])) (Adds base x z (argument_signs (More f Last)))
    (λ h. h ∙ ap (add_signs (base ++ x)) (ap (λ c. (n, c) ∷ []) (k ∙ sym (count_forms ts)) ∙ sym (ap (λ (g : Form). argument_signs (More g Last)) e)))

-- ---- one after another

-- what is left to add to the names so far gives the same as all
abbrev pub AddsSoFar : List Sign → List Sign → List Sign → List Sign → List Sign → Type 0
AddsSoFar base old now all left = add_signs (base ++ old) all ≡ add_signs (base ++ now) left

module _ (base old now : List Sign) where
  pub so_far_on : (new all left one more : List Sign) → left ≡ one ++ more → AddsSoFar base old now all left → Adds base now new one → AddsSoFar base old new all more
  so_far_on new all left one more e so h =
      so ∙ ap (add_signs (base ++ now)) e ∙ add-append (base ++ now) one more ∙ ap (λ (l : List Sign). add_signs l more) (sym h)

  pub so_far_end : (all left : List Sign) → left ≡ [] → AddsSoFar base old now all left → Adds base old now all
  so_far_end all left e so = sym (so ∙ ap (add_signs (base ++ now)) e)

pub more_terms : (ts : List RawTerm) (i : ℕ) (t : RawTerm) → i < length ts → t ≡ get_or ts i t →
    signs_in (forms_of (map form_of (drop i ts))) ≡ signs_of (form_of t) ++ signs_in (forms_of (map form_of (drop (i + 1) ts)))
more_terms ts i t h at =
    ap (λ (l : List RawTerm). signs_in (forms_of (map form_of l))) (drop-cons ts i t h)
    ∙ ap (λ (u : RawTerm). signs_of (form_of u) ++ signs_in (forms_of (map form_of (drop (suc i) ts)))) (sym at)
    ∙ ap (λ n. signs_of (form_of t) ++ signs_in (forms_of (map form_of (drop n ts)))) (sym (add-one i))

more_arguments-form : (f : Form) (fs : Forms) → argument_signs (More f fs) ≡ argument_signs (More f Last) ++ argument_signs fs
more_arguments-form (Variable x) fs = refl
more_arguments-form (Integer z) fs = refl
more_arguments-form (Name x gs) fs = refl
more_arguments-form (Closed gs) fs = refl
more_arguments-form (Open gs g) fs = refl
more_arguments-form (Not g) fs = refl
more_arguments-form (And gs) fs = refl
more_arguments-form (Xor gs) fs = refl
more_arguments-form (Or gs) fs = refl

pub more_arguments : (ts : List RawTerm) (i : ℕ) (t : RawTerm) → i < length ts → t ≡ get_or ts i t →
    argument_signs (forms_of (map form_of (drop i ts))) ≡ argument_signs (More (form_of t) Last) ++ argument_signs (forms_of (map form_of (drop (i + 1) ts)))
more_arguments ts i t h at =
    ap (λ (l : List RawTerm). argument_signs (forms_of (map form_of l))) (drop-cons ts i t h)
    ∙ more_arguments-form (form_of (get_or ts i t)) (forms_of (map form_of (drop (suc i) ts)))
    ∙ ap (λ (u : RawTerm). argument_signs (More (form_of u) Last) ++ argument_signs (forms_of (map form_of (drop (suc i) ts)))) (sym at)
    ∙ ap (λ n. argument_signs (More (form_of t) Last) ++ argument_signs (forms_of (map form_of (drop n ts)))) (sym (add-one i))

more_goals-form : (g : FormGoal) (gs : List FormGoal) → goals_signs (g ∷ gs) ≡ goals_signs (g ∷ []) ++ goals_signs gs
more_goals-form (ACall f) gs = simp (append_assoc, append-nil)
more_goals-form (AnEqual f g) gs = simp (append_assoc, append-nil)

pub more_goals : (ts : List RawGoal) (i : ℕ) (t : RawGoal) → i < length ts → t ≡ get_or ts i t →
    goals_signs (map goal_form (drop i ts)) ≡ goals_signs (goal_form t ∷ []) ++ goals_signs (map goal_form (drop (i + 1) ts))
more_goals ts i t h at =
    ap (λ (l : List RawGoal). goals_signs (map goal_form l)) (drop-cons ts i t h)
    ∙ more_goals-form (goal_form (get_or ts i t)) (map goal_form (drop (suc i) ts))
    ∙ ap (λ (u : RawGoal). goals_signs (goal_form u ∷ []) ++ goals_signs (map goal_form (drop (suc i) ts))) (sym at)
    ∙ ap (λ n. goals_signs (goal_form t ∷ []) ++ goals_signs (map goal_form (drop n ts))) (sym (add-one i))

more_clauses-form : (c : FormClause) (cs : List FormClause) → named_signs (c ∷ cs) ≡ named_signs (c ∷ []) ++ named_signs cs
more_clauses-form (Directive n w fs) cs = simp (append_assoc, append-nil)
more_clauses-form (Rule n f b gs) cs = step (is_fact (Rule n f b gs))
  where
    step : (o : Bool) → (if o then named_signs cs else (signs_of f ++ goals_signs gs ++ named_signs cs)) ≡ (if o then [] else (signs_of f ++ goals_signs gs ++ [])) ++ named_signs cs
    step true = refl
    step false = simp (append_assoc, append-nil)

pub more_clauses : (ts : List RawClause) (i : ℕ) (t : RawClause) → i < length ts → t ≡ get_or ts i t →
    named_signs (map clause_form (drop i ts)) ≡ named_signs (clause_form t ∷ []) ++ named_signs (map clause_form (drop (i + 1) ts))
more_clauses ts i t h at =
    ap (λ (l : List RawClause). named_signs (map clause_form l)) (drop-cons ts i t h)
    ∙ more_clauses-form (clause_form (get_or ts i t)) (map clause_form (drop (suc i) ts))
    ∙ ap (λ (u : RawClause). named_signs (clause_form u ∷ []) ++ named_signs (map clause_form (drop (suc i) ts))) (sym at)
    ∙ ap (λ n. named_signs (clause_form t ∷ []) ++ named_signs (map clause_form (drop n ts))) (sym (add-one i))

-- ---- what was added is there

same_refl : (a : Sign) → same_sign a a ≡ true
same_refl a = let x : bytes_eq a.0 a.0 ≡ true = (bytes_eq-Decides a.0 a.0).1 refl in λ j. x j && number a.1 j
  where
    number : (n : ℕ) → nat_eq n n ≡ true
    number n = grind (arith, nat_tests)

kept_one : (xs : List Sign) (b a : Sign) → has_sign xs a ≡ true → has_sign (add_sign xs b) a ≡ true
kept_one xs b a h = step (has_sign xs b)
  where
    step : (o : Bool) → has_sign (if o then xs else (xs ++ b ∷ [])) a ≡ true
    step true = h
    step false = has_append xs (b ∷ []) a ∙ ap (λ (o : Bool). o || has_sign (b ∷ []) a) h

kept : (xs as' : List Sign) (a : Sign) → has_sign xs a ≡ true → has_sign (add_signs xs as') a ≡ true
kept xs [] a h = h
kept xs (b ∷ as') a h = kept (add_sign xs b) as' a (kept_one xs b a h)

here : (xs : List Sign) (a : Sign) → has_sign (add_sign xs a) a ≡ true
here xs a = step (has_sign xs a) refl
  where
    or_true : (p : Bool) → (p || true) ≡ true
    or_true true = refl
    or_true false = refl

    step : (o : Bool) → has_sign xs a ≡ o → has_sign (if o then xs else (xs ++ a ∷ [])) a ≡ true
    step true e = e
    step false e = has_append xs (a ∷ []) a ∙ ap (λ (o : Bool). has_sign xs a || (o || false)) (same_refl a) ∙ or_true (has_sign xs a)

and_true : (p q : Bool) → p ≡ true → q ≡ true → (p && q) ≡ true
and_true true q e h = h
and_true false q e h = absurd (cc)

pub all_there : (xs as' : List Sign) → list_all (has_sign (add_signs xs as')) as' ≡ true
all_there xs [] = refl
all_there xs (a ∷ as') = and_true (has_sign (add_signs (add_sign xs a) as') a) (list_all (has_sign (add_signs (add_sign xs a) as')) as') (kept (add_sign xs a) as' a (here xs a)) (all_there (add_sign xs a) as')

module _ (p : Sign → Bool) where
  all-append : (xs ys : List Sign) → list_all p (xs ++ ys) ≡ (list_all p xs && list_all p ys)
  all-append [] ys = refl
  all-append (x ∷ xs) ys = step (p x) (all-append xs ys)
    where
      step : (b : Bool) → list_all p (xs ++ ys) ≡ (list_all p xs && list_all p ys) → (b && list_all p (xs ++ ys)) ≡ ((b && list_all p xs) && list_all p ys)
      step true h = h
      step false h = refl

  left_of : (a b : Bool) → (a && b) ≡ true → a ≡ true
  left_of true b h = refl
  left_of false b h = absurd (cc)

  right_of : (a b : Bool) → (a && b) ≡ true → b ≡ true
  right_of true b h = h
  right_of false b h = absurd (cc)

  all_left : (xs ys : List Sign) → list_all p (xs ++ ys) ≡ true → list_all p xs ≡ true
  all_left xs ys h = left_of (list_all p xs) (list_all p ys) (sym (all-append xs ys) ∙ h)

  all_right : (xs ys : List Sign) → list_all p (xs ++ ys) ≡ true → list_all p ys ≡ true
  all_right xs ys h = right_of (list_all p xs) (list_all p ys) (sym (all-append xs ys) ∙ h)

  -- three lists as they stand in the definitions
  apart_of : (xs ys zs : List Sign) → xs ++ (ys ++ zs) ≡ xs ++ ys ++ zs
  apart_of xs ys zs = sym (append_assoc xs ys zs)

  pub wanted_named : (cs : List FormClause) → list_all p (named_signs cs) ≡ true → list_all p (clauses_signs cs) ≡ true
  wanted_named [] h = refl
  wanted_named (Directive n w fs ∷ cs) h = wanted_named cs (all_right (argument_signs fs) (named_signs cs) h)
  wanted_named (Rule n f b gs ∷ cs) h = step (is_fact (Rule n f b gs)) (wanted_named cs) h
    where
      step : (o : Bool) → (list_all p (named_signs cs) ≡ true → list_all p (clauses_signs cs) ≡ true) →
          list_all p (if o then named_signs cs else (signs_of f ++ goals_signs gs ++ named_signs cs)) ≡ true →
          list_all p (if o then clauses_signs cs else (signs_of f ++ goals_signs gs ++ clauses_signs cs)) ≡ true
      step true k g = k g
      step false k g =
          let h : list_all p (signs_of f ++ (goals_signs gs ++ named_signs cs)) ≡ true = ap (list_all p) (apart_of (signs_of f) (goals_signs gs) (named_signs cs)) ∙ g in
          let rest : list_all p (goals_signs gs ++ named_signs cs) ≡ true = all_right (signs_of f) (goals_signs gs ++ named_signs cs) h in
          ap (list_all p) (sym (apart_of (signs_of f) (goals_signs gs) (clauses_signs cs)))
          ∙ all-append (signs_of f) (goals_signs gs ++ clauses_signs cs)
          ∙ and_true (list_all p (signs_of f)) (list_all p (goals_signs gs ++ clauses_signs cs)) (all_left (signs_of f) (goals_signs gs ++ named_signs cs) h)
          (all-append (goals_signs gs) (clauses_signs cs)
          ∙ and_true (list_all p (goals_signs gs)) (list_all p (clauses_signs cs)) (all_left (goals_signs gs) (named_signs cs) rest) (k (all_right (goals_signs gs) (named_signs cs) rest)))

  pub directive_named : (cs : List FormClause) → list_all p (named_signs cs) ≡ true → list_all p (directive_signs cs) ≡ true
  directive_named [] h = refl
  directive_named (Directive n w fs ∷ cs) h =
      all-append (argument_signs fs) (directive_signs cs)
      ∙ and_true (list_all p (argument_signs fs)) (list_all p (directive_signs cs)) (all_left (argument_signs fs) (named_signs cs) h) (directive_named cs (all_right (argument_signs fs) (named_signs cs) h))
  directive_named (Rule n f b gs ∷ cs) h = directive_named cs (step (is_fact (Rule n f b gs)) h)
    where
      step : (o : Bool) → list_all p (if o then named_signs cs else (signs_of f ++ goals_signs gs ++ named_signs cs)) ≡ true → list_all p (named_signs cs) ≡ true
      step true g = g
      step false g =
          let h : list_all p (signs_of f ++ (goals_signs gs ++ named_signs cs)) ≡ true = ap (list_all p) (apart_of (signs_of f) (goals_signs gs) (named_signs cs)) ∙ g in
          all_right (goals_signs gs) (named_signs cs) (all_right (signs_of f) (goals_signs gs ++ named_signs cs) h)
