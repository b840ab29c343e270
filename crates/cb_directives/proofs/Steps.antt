-- The arguments of directives, one after another.
use Rattle.std.proofs.Common.{◌≡◌, ℕ, zero, suc, ◌+◌, ◌<◌, Bool, true, false, not, ◌&&◌, ◌||◌, List, [], ◌∷◌, ◌++◌, map, drop, filter, length, get_or, Option, Some, None, refl, sym, ◌∙◌, ap, subst, arith, add-one, drop-cons, bytes_eq, nat_eq}
use Rattle.std.specs.Bool.{if◌then◌else◌}
use Rattle.std.specs.List.{list_any}
use Rattle.std.proofs.lemmas.List.{append-nil, append_assoc}
use Rattle.std.proofs.lemmas.Slice.Eq.{bytes_eq-Decides}
use Rattle.std.proofs.lemmas.Bool.Decides.{nat_tests}
use Rattle.cb_model.specs.Text.{Text}
use Rattle.cb_model.specs.declared.When.{When}
use Rattle.cb_model.specs.declared.RawTerm.{RawTerm}
use Rattle.cb_model.specs.declared.RawGoal.{RawGoal}
use Rattle.cb_model.specs.declared.RawClause.{RawClause}
use Rattle.cb_model.specs.declared.RawClause.TheVariants as raw_clause
use Rattle.cb_model.specs.Grammar.{Form, Forms, Variable, Integer, Name, Closed, Open, Not, And, Xor, Or, Last, More, FormGoal, FormClause, Directive, Rule}
use Rattle.cb_model.specs.Forms.{form_of, forms_of, clause_form}
use Rattle.cb_model.specs.Written.{is_name}
use Rattle.cb_model.specs.Directives.{Sign, same_sign, has_sign, count_of, Declared, nothing, Refusal, Declares, accept, Argument, arguments, all_arguments, Checked, check_arguments, next_checked, BadDirective, Twice, Unknown, refuse, delay_argument, delay_sign, all_words, delay_words, is_delay, heads, directives}
use Rattle.cb_directives.specs.declared.fault.Fault.{Fault}
use Rattle.cb_directives.specs.declared.fault.Fault.TheVariants as fault
use Rattle.cb_directives.specs.declared.fault.LoadError.{LoadError}
use Rattle.cb_directives.specs.declared.fault.LoadError.TheVariants as error
use Rattle.cb_directives.specs.Refusals.{Tells, error_at, IsFault}
use Rattle.cb_directives.specs.Checks.{never_waits, check_other, check_delay, arguments_of, others, delayed, Leaves, Accepts, Refuses}
use Rattle.cb_directives.proofs.Reading.{count_forms}

module _ (check : Argument → Declared → Declares) where
  -- ---- the arguments of one directive

  abbrev arg : ℕ → Text → RawTerm → Argument
  arg line word t = record { line = line; word = word; form = form_of t }

  abbrev args : ℕ → Text → List RawTerm → List Argument
  args = arguments_of

  opened : (line : ℕ) (word : Text) (ts : List RawTerm) (i : ℕ) (t : RawTerm) (d : Declared) (go : Declared → Checked) → i < length ts → t ≡ get_or ts i t →
      check_arguments check (args line word (drop i ts)) go d ≡ next_checked line (check (arg line word t) d) (check_arguments check (args line word (drop (suc i) ts)) go)
  opened line word ts i t d go h at =
      ap (λ (l : List RawTerm). check_arguments check (args line word l) go d) (drop-cons ts i t h)
      ∙ ap (λ (u : RawTerm). next_checked line (check (arg line word u) d) (check_arguments check (args line word (drop (suc i) ts)) go)) (sym at)

  pub leaves_on : (line : ℕ) (word : Text) (ts : List RawTerm) (i : ℕ) (t : RawTerm) (a d e : Declared) → i < length ts → t ≡ get_or ts i t →
      Leaves check (args line word ts) a (args line word (drop i ts)) d → check (arg line word t) d ≡ accept e → Leaves check (args line word ts) a (args line word (drop (i + 1) ts)) e
  leaves_on line word ts i t a d e h at so is go =
      so go ∙ opened line word ts i t d go h at
      ∙ ap (λ (r : Declares). next_checked line r (check_arguments check (args line word (drop (suc i) ts)) go)) is
      ∙ ap (λ n. check_arguments check (args line word (drop n ts)) go e) (sym (add-one i))

  stops : (line : ℕ) (r : Declares) (q : Refusal) (go : Declared → Checked) → r.0 ≡ Some q → (next_checked line r go).refusal ≡ Some (q, line)
  stops line (None, d) q go h = absurd (cc)
  stops line (Some p, d) q go h = let same : p ≡ q = cc in ap (λ (x : Refusal). Some (x, line)) same

  pub leaves_stop : (line : ℕ) (word : Text) (ts : List RawTerm) (i : ℕ) (t : RawTerm) (a d : Declared) (f : Fault) → i < length ts → t ≡ get_or ts i t →
      Leaves check (args line word ts) a (args line word (drop i ts)) d → IsFault f (check (arg line word t) d).0 → Refuses check (args line word ts) a (error_at line f)
  leaves_stop line word ts i t a d fault.Directive h at so is go = ap (λ (c : Checked). c.refusal) (so go ∙ opened line word ts i t d go h at) ∙ stops line _ _ _ is
  leaves_stop line word ts i t a d fault.Unknown h at so is go = ap (λ (c : Checked). c.refusal) (so go ∙ opened line word ts i t d go h at) ∙ stops line _ _ _ is
  leaves_stop line word ts i t a d fault.Twice h at so is go = ap (λ (c : Checked). c.refusal) (so go ∙ opened line word ts i t d go h at) ∙ stops line _ _ _ is
  leaves_stop line word ts i t a d fault.Memory h at so is go = tt

  pub leaves_end : (line : ℕ) (word : Text) (ts : List RawTerm) (i : ℕ) (a d : Declared) → Leaves check (args line word ts) a (args line word (drop i ts)) d → drop i ts ≡ [] →
      Accepts check (args line word ts) a d
  leaves_end line word ts i a d so e go = so go ∙ ap (λ (l : List RawTerm). check_arguments check (args line word l) go d) e

  -- ---- the directives of a file

  check_append : (xs ys : List Argument) (go : Declared → Checked) (d : Declared) → check_arguments check (xs ++ ys) go d ≡ check_arguments check xs (check_arguments check ys go) d
  check_append [] ys go d = refl
  check_append (x ∷ xs) ys go d = ap (λ (k : Declared → Checked). next_checked x.line (check x d) k) (λ j e. check_append xs ys go e j)

  -- the arguments of directives whose word passes
  abbrev pub picked : (Text → Bool) → List FormClause → List Argument
  picked q cs = filter (λ a. q a.word) (all_arguments cs)

  module _ (q : Text → Bool) where
    picked_one : (line : ℕ) (word : Text) (fs : Forms) (xs : List Argument) →
        filter (λ a. q a.word) (arguments line word fs ++ xs) ≡ (if q word then arguments line word fs else []) ++ filter (λ a. q a.word) xs
    picked_one line word Last xs = step (q word)
      where
        step : (b : Bool) → filter (λ (a : Argument). q a.word) xs ≡ (if b then [] else []) ++ filter (λ (a : Argument). q a.word) xs
        step true = refl
        step false = refl
    picked_one line word (More f fs) xs = step (q word) (picked_one line word fs xs)
      where
        step : (b : Bool) → filter (λ (a : Argument). q a.word) (arguments line word fs ++ xs) ≡ (if b then arguments line word fs else []) ++ filter (λ (a : Argument). q a.word) xs →
            (if b then (record { line = line; word = word; form = f } ∷ filter (λ (a : Argument). q a.word) (arguments line word fs ++ xs)) else filter (λ (a : Argument). q a.word) (arguments line word fs ++ xs))
            ≡ (if b then (record { line = line; word = word; form = f } ∷ arguments line word fs) else []) ++ filter (λ (a : Argument). q a.word) xs
        step true h = ap (λ (l : List Argument). record { line = line; word = word; form = f } ∷ l) h
        step false h = h

    -- nothing to check in a clause
    pub accepts_none : (cs : List FormClause) (d : Declared) → picked q cs ≡ [] → Accepts check (picked q cs) d d
    accepts_none cs d e go = ap (λ (l : List Argument). check_arguments check l go d) e

    -- the arguments of one clause, and those of the rest
    picked_cons : (c : FormClause) (cs : List FormClause) → picked q (c ∷ cs) ≡ picked q (c ∷ []) ++ picked q cs
    picked_cons (Directive line word fs) cs =
        picked_one line word fs (all_arguments cs) ∙ ap (λ (l : List Argument). l ++ picked q cs) (sym (picked_one line word fs [] ∙ append-nil (if q word then arguments line word fs else [])))
    picked_cons (Rule line f b gs) cs = refl

    pub picks_none : (line : ℕ) (word : Text) (ts : List RawTerm) → q word ≡ false → picked q (Directive line word (forms_of (map form_of ts)) ∷ []) ≡ []
    picks_none line word ts h = picked_one line word (forms_of (map form_of ts)) [] ∙ ap (λ (b : Bool). (if b then arguments_of line word ts else []) ++ []) h

    pub picks_all : (line : ℕ) (word : Text) (ts : List RawTerm) → q word ≡ true → picked q (Directive line word (forms_of (map form_of ts)) ∷ []) ≡ arguments_of line word ts
    picks_all line word ts h =
        picked_one line word (forms_of (map form_of ts)) [] ∙ ap (λ (b : Bool). (if b then arguments_of line word ts else []) ++ []) h ∙ append-nil (arguments_of line word ts)

    unfolded : (cs : List RawClause) (i : ℕ) (c : RawClause) (d : Declared) (go : Declared → Checked) → i < length cs → c ≡ get_or cs i c →
        check_arguments check (picked q (map clause_form (drop i cs))) go d ≡ check_arguments check (picked q (clause_form c ∷ [])) (check_arguments check (picked q (map clause_form (drop (suc i) cs))) go) d
    unfolded cs i c d go h at =
        ap (λ (l : List RawClause). check_arguments check (picked q (map clause_form l)) go d) (drop-cons cs i c h)
        ∙ ap (λ (u : RawClause). check_arguments check (picked q (clause_form u ∷ map clause_form (drop (suc i) cs))) go d) (sym at)
        ∙ ap (λ (l : List Argument). check_arguments check l go d) (picked_cons (clause_form c) (map clause_form (drop (suc i) cs)))
        ∙ check_append (picked q (clause_form c ∷ [])) (picked q (map clause_form (drop (suc i) cs))) go d

    pub clauses_on : (cs : List RawClause) (i : ℕ) (c : RawClause) (a d e : Declared) → i < length cs → c ≡ get_or cs i c →
        Leaves check (picked q (map clause_form cs)) a (picked q (map clause_form (drop i cs))) d → Accepts check (picked q (clause_form c ∷ [])) d e →
        Leaves check (picked q (map clause_form cs)) a (picked q (map clause_form (drop (i + 1) cs))) e
    clauses_on cs i c a d e h at so is go =
        so go ∙ unfolded cs i c d go h at ∙ is (check_arguments check (picked q (map clause_form (drop (suc i) cs))) go)
        ∙ ap (λ n. check_arguments check (picked q (map clause_form (drop n cs))) go e) (sym (add-one i))

    pub clauses_stop : (cs : List RawClause) (i : ℕ) (c : RawClause) (a d : Declared) (e : LoadError) → i < length cs → c ≡ get_or cs i c →
        Leaves check (picked q (map clause_form cs)) a (picked q (map clause_form (drop i cs))) d → Refuses check (picked q (clause_form c ∷ [])) d e →
        Refuses check (picked q (map clause_form cs)) a e
    clauses_stop cs i c a d e h at so is go =
        subst (λ (x : Checked). Tells e x.refusal) (sym (so go ∙ unfolded cs i c d go h at)) (is (check_arguments check (picked q (map clause_form (drop (suc i) cs))) go))

    pub clauses_end : (cs : List RawClause) (i : ℕ) (a d : Declared) →
        Leaves check (picked q (map clause_form cs)) a (picked q (map clause_form (drop i cs))) d → drop i cs ≡ [] → Accepts check (picked q (map clause_form cs)) a d
    clauses_end cs i a d so e go = so go ∙ ap (λ (l : List RawClause). check_arguments check (picked q (map clause_form l)) go d) e

-- ---- the whole

delay_same : (hs ks : List Sign) (a : Sign) (d : Declared) (r : Option (List When)) → has_sign hs a ≡ has_sign ks a → delay_sign d hs a r ≡ delay_sign d ks a r
delay_same hs ks a d None h = refl
delay_same hs ks a d (Some ws) h =
    ap (λ (b : Bool). if never_waits d a ws then refuse BadDirective d
    else (if has_sign (map (λ e. e.0) d.delays) a then refuse Twice d
    else (if not b && not (has_sign (map (λ e. e.0) d.sorts) a) then refuse Unknown d
    else accept (record d { delays = d.delays ++ (a, ws) ∷ [] })))) h

abbrev done : Declared → Checked
done d = record { refusal = None; declared = d }

pub first_refused : (cs : List FormClause) (e : LoadError) → Refuses check_other (others cs) nothing e → Tells e (directives cs).refusal
first_refused cs e h = h (check_arguments (check_delay (heads cs)) (delayed cs) done)

module _ (hs ks : List Sign) (same : (a : Sign) → has_sign hs a ≡ has_sign ks a) where
  delays_same : (d : Declared) (f : Form) → delay_argument hs d f ≡ delay_argument ks d f
  delays_same d (Variable x) = refl
  delays_same d (Integer z) = refl
  delays_same d (Name x fs) = delay_same hs ks (x, count_of fs) d (all_words delay_words fs) (same (x, count_of fs))
  delays_same d (Closed fs) = refl
  delays_same d (Open fs f) = refl
  delays_same d (Not f) = refl
  delays_same d (And fs) = refl
  delays_same d (Xor fs) = refl
  delays_same d (Or fs) = refl

  check_same : check_delay hs ≡ check_delay ks
  check_same j a d = delays_same d a.form j

module _ (hs : List Sign) (cs : List FormClause) (same : (a : Sign) → has_sign hs a ≡ has_sign (heads cs) a) (d : Declared) (first : Accepts check_other (others cs) nothing d) where
  then_delays : directives cs ≡ check_arguments (check_delay hs) (delayed cs) done d
  then_delays =
      ap (λ (c : Argument → Declared → Declares). check_arguments check_other (others cs) (check_arguments c (delayed cs) done) nothing) (sym (check_same hs (heads cs) same))
      ∙ first (check_arguments (check_delay hs) (delayed cs) done)

  pub all_accepted : (e : Declared) → Accepts (check_delay hs) (delayed cs) d e → directives cs ≡ record { refusal = None; declared = e }
  all_accepted e second = then_delays ∙ second done

  pub then_refused : (e : LoadError) → Refuses (check_delay hs) (delayed cs) d e → Tells e (directives cs).refusal
  then_refused e second = subst (λ (x : Checked). Tells e x.refusal) (sym then_delays) (second done)

-- ---- heads

sign_same : (a b : Sign) → same_sign a b ≡ true → a ≡ b
sign_same a b h = both_same (bytes_eq a.0 b.0) (nat_eq a.1 b.1) refl refl h
  where
    nat_same : (m n : ℕ) → nat_eq m n ≡ true → m ≡ n
    nat_same m n h = grind (arith, nat_tests)

    both_same : (p q : Bool) → bytes_eq a.0 b.0 ≡ p → nat_eq a.1 b.1 ≡ q → (p && q) ≡ true → a ≡ b
    both_same true true s t k = let u : a.0 ≡ b.0 = (bytes_eq-Decides a.0 b.0).0 s in let v : a.1 ≡ b.1 = nat_same a.1 b.1 t in λ j. (u j, v j)
    both_same true false s t k = absurd (cc)
    both_same false q s t k = absurd (cc)

has_append : (xs : List Sign) (b a : Sign) → has_sign (xs ++ b ∷ []) a ≡ (has_sign xs a || same_sign a b)
has_append [] b a = step (same_sign a b)
  where
    step : (c : Bool) → (c || false) ≡ (false || c)
    step true = refl
    step false = refl
has_append (x ∷ xs) b a = ap (λ (c : Bool). same_sign a x || c) (has_append xs b a) ∙ step (same_sign a x) (has_sign xs a) (same_sign a b)
  where
    step : (p q r : Bool) → (p || (q || r)) ≡ ((p || q) || r)
    step true q r = refl
    step false q r = refl

or_false : (c : Bool) → c ≡ (c || false)
or_false true = refl
or_false false = refl

pub has_added : (xs : List Sign) (b a : Sign) → has_sign (if has_sign xs b then xs else (xs ++ b ∷ [])) a ≡ (has_sign xs a || same_sign a b)
has_added xs b a = step (has_sign xs b) refl
  where
    seen : has_sign xs b ≡ true → (c : Bool) → same_sign a b ≡ c → has_sign xs a ≡ (has_sign xs a || c)
    seen h false e = or_false (has_sign xs a)
    seen h true e =
        let yes : has_sign xs a ≡ true = ap (has_sign xs) (sign_same a b e) ∙ h in
        yes ∙ ap (λ (c : Bool). c || true) (sym yes)

    step : (c : Bool) → has_sign xs b ≡ c → has_sign (if c then xs else (xs ++ b ∷ [])) a ≡ (has_sign xs a || same_sign a b)
    step true h = seen h (same_sign a b) refl
    step false h = has_append xs b a

head_of_name : (line : ℕ) (f : Form) (bodied : Bool) (gs : List FormGoal) (x : Text) (fs : Forms) (cs : List FormClause) → f ≡ Name x fs → heads (Rule line f bodied gs ∷ cs) ≡ (x, count_of fs) ∷ heads cs
head_of_name line f bodied gs x fs cs e = ap (λ (g : Form). heads (Rule line g bodied gs ∷ cs)) e

pub no_head : (line : ℕ) (f : Form) (bodied : Bool) (gs : List FormGoal) (cs : List FormClause) → is_name f ≡ false → heads (Rule line f bodied gs ∷ cs) ≡ heads cs
no_head line (Variable x) bodied gs cs h = refl
no_head line (Integer z) bodied gs cs h = refl
no_head line (Name x fs) bodied gs cs h = absurd (cc)
no_head line (Closed fs) bodied gs cs h = refl
no_head line (Open fs f) bodied gs cs h = refl
no_head line (Not f) bodied gs cs h = refl
no_head line (And fs) bodied gs cs h = refl
no_head line (Xor fs) bodied gs cs h = refl
no_head line (Or fs) bodied gs cs h = refl

-- a clause without a name to add
pub head_none : (xs : List Sign) (cs : List FormClause) → heads cs ≡ [] → (a : Sign) → has_sign xs a ≡ (has_sign xs a || has_sign (heads cs) a)
head_none xs cs e a = or_false (has_sign xs a) ∙ ap (λ (l : List Sign). has_sign xs a || has_sign l a) (sym e)

-- a clause with a name to add
pub head_added : (xs ys : List Sign) (line : ℕ) (f : Form) (bodied : Bool) (gs : List FormGoal) (x : Text) (ts : List RawTerm) → f ≡ Name x (forms_of (map form_of ts)) →
    ys ≡ (if has_sign xs (x, length ts) then xs else (xs ++ (x, length ts) ∷ [])) → (a : Sign) → has_sign ys a ≡ (has_sign xs a || has_sign (heads (Rule line f bodied gs ∷ [])) a)
head_added xs ys line f bodied gs x ts e k a =
    let one : heads (Rule line f bodied gs ∷ []) ≡ (x, length ts) ∷ [] =
    head_of_name line f bodied gs x (forms_of (map form_of ts)) [] e ∙ ap (λ n. (x, n) ∷ []) (count_forms ts) in
    ap (λ (l : List Sign). has_sign l a) k ∙ has_added xs (x, length ts) a
    ∙ ap (λ (c : Bool). has_sign xs a || c) (or_false (same_sign a (x, length ts))) ∙ ap (λ (l : List Sign). has_sign xs a || has_sign l a) (sym one)

heads_cons : (c : FormClause) (cs : List FormClause) (a : Sign) → has_sign (heads (c ∷ cs)) a ≡ (has_sign (heads (c ∷ [])) a || has_sign (heads cs) a)
heads_cons (Directive n x fs) cs a = refl
heads_cons (Rule n (Variable x) b gs) cs a = refl
heads_cons (Rule n (Integer z) b gs) cs a = refl
heads_cons (Rule n (Name x fs) b gs) cs a = ap (λ (c : Bool). c || has_sign (heads cs) a) (or_false (same_sign a (x, count_of fs)))
heads_cons (Rule n (Closed fs) b gs) cs a = refl
heads_cons (Rule n (Open fs f) b gs) cs a = refl
heads_cons (Rule n (Not f) b gs) cs a = refl
heads_cons (Rule n (And fs) b gs) cs a = refl
heads_cons (Rule n (Xor fs) b gs) cs a = refl
heads_cons (Rule n (Or fs) b gs) cs a = refl

-- the names of the clauses so far, with those of the clauses that are left
abbrev pub HeadsSoFar : List RawClause → List Sign → ℕ → Type 0
HeadsSoFar cs xs i = (a : Sign) → (has_sign xs a || has_sign (heads (map clause_form (drop i cs))) a) ≡ has_sign (heads (map clause_form cs)) a

or_assoc : (p q r : Bool) → ((p || q) || r) ≡ (p || (q || r))
or_assoc true q r = refl
or_assoc false q r = refl

module _ (cs : List RawClause) where
  pub heads_on : (xs ys : List Sign) (i : ℕ) (c : RawClause) → i < length cs → c ≡ get_or cs i c → HeadsSoFar cs xs i →
      ((a : Sign) → has_sign ys a ≡ (has_sign xs a || has_sign (heads (clause_form c ∷ [])) a)) → HeadsSoFar cs ys (i + 1)
  heads_on xs ys i c h at so is a =
      let next : has_sign (heads (map clause_form (drop i cs))) a ≡ (has_sign (heads (clause_form c ∷ [])) a || has_sign (heads (map clause_form (drop (suc i) cs))) a) =
      ap (λ (l : List RawClause). has_sign (heads (map clause_form l)) a) (drop-cons cs i c h)
      ∙ ap (λ (u : RawClause). has_sign (heads (clause_form u ∷ map clause_form (drop (suc i) cs))) a) (sym at)
      ∙ heads_cons (clause_form c) (map clause_form (drop (suc i) cs)) a in
      ap (λ n. has_sign ys a || has_sign (heads (map clause_form (drop n cs))) a) (add-one i)
      ∙ ap (λ (b : Bool). b || has_sign (heads (map clause_form (drop (suc i) cs))) a) (is a)
      ∙ or_assoc (has_sign xs a) (has_sign (heads (clause_form c ∷ [])) a) (has_sign (heads (map clause_form (drop (suc i) cs))) a)
      ∙ ap (λ (b : Bool). has_sign xs a || b) (sym next) ∙ so a

  pub heads_init : (xs : List Sign) → xs ≡ [] → HeadsSoFar cs xs 0
  heads_init xs e a = ap (λ (l : List Sign). has_sign l a || has_sign (heads (map clause_form cs)) a) e

  pub heads_end : (xs : List Sign) (i : ℕ) → HeadsSoFar cs xs i → drop i cs ≡ [] → (a : Sign) → has_sign xs a ≡ has_sign (heads (map clause_form cs)) a
  heads_end xs i so e a = or_false (has_sign xs a) ∙ ap (λ (l : List RawClause). has_sign xs a || has_sign (heads (map clause_form l)) a) (sym e) ∙ so a
