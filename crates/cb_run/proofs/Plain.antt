-- A file without facts of circuits and without directives `demon` has no modules and no demons.
use Rattle.std.proofs.Common.{◌≡◌, ℕ, Bool, true, false, not, ◌&&◌, ◌||◌, ◌==◌, if◌then◌else◌, nat_lt, List, [], ◌∷◌, ◌++◌, length, map, filter, codes, bytes_eq, Option, Some, None, refl, ap, subst}
use Rattle.std.specs.List.{list_any}
use Rattle.std.proofs.lemmas.Bool.{true≢false}
use Rattle.cb_model.specs.declared.Sort.{Sort}
use Rattle.cb_model.specs.declared.When.{When}
use Rattle.cb_model.specs.Text.{Text}
use Rattle.cb_model.specs.Bits.{Each}
use Rattle.cb_model.specs.Grammar.{Form, Forms, Variable, Integer, Name, Closed, Open, Not, And, Xor, Or, Last, More, FormClause, Directive, Rule}
use Rattle.cb_model.specs.Directives.{Sign, Declared, Declares, Argument, Checked, constant_argument, sorts_argument, with_sorts, sorted_sign, sort_words, all_words, count_of, refuse, accept, argument, arguments, all_arguments, delay_sign, delay_argument, delay_words, sorts_of, nonvar_at_bool, is_delay, check_arguments, next_checked, directives, heads, nothing, BadDirective, Unknown, has_sign, reserved}
use Rattle.cb_model.specs.Directives as dir
use Rattle.cb_model.specs.Loading.{is_fact, module_names, sign_is, module_sign, spec_sign}
use Rattle.cb_run.specs.Run.{declares_demon, has_unbuilt}

or-first : (x y : Bool) → (x || y) ≡ false → x ≡ false
or-first true y e = absurd (true≢false e)
or-first false y e = refl

or-second : (x y : Bool) → (x || y) ≡ false → y ≡ false
or-second true y e = absurd (true≢false e)
or-second false y e = e

-- no demons are declared
abbrev pub NoDemons : Declared → Type 0
NoDemons d = d.demons ≡ []

-- ---- what the arguments of other directives declare

-- the argument of such a directive
abbrev IsOther : Argument → Type 0
IsOther a = bytes_eq a.word (codes "demon") ≡ false

choice : (b : Bool) (x y : Declares) → NoDemons x.1 → NoDemons y.1 → NoDemons (if b then x else y).1
choice true x y h k = h
choice false x y h k = k

constant-keeps : (d : Declared) (f : Form) → NoDemons d → NoDemons (constant_argument d f).1
constant-keeps d (Variable x) n = n
constant-keeps d (Integer z) n = n
constant-keeps d (Name x Last) n =
    let added : Declared = record d { constants = d.constants ++ x ∷ [] } in
    choice (has_sign reserved (x, 0) || nat_lt 4095 (length d.constants)) (refuse BadDirective d) (if list_any (bytes_eq x) d.constants then refuse dir.Twice d else accept added) n
    (choice (list_any (bytes_eq x) d.constants) (refuse dir.Twice d) (accept added) n n)
constant-keeps d (Name x (More g gs)) n = n
constant-keeps d (Closed fs) n = n
constant-keeps d (Open fs g) n = n
constant-keeps d (Not g) n = n
constant-keeps d (And fs) n = n
constant-keeps d (Xor fs) n = n
constant-keeps d (Or fs) n = n

signs-keep : (d : Declared) (a : Sign) (ss : Option (List Sort)) → NoDemons d → NoDemons (sorted_sign false d a ss).1
signs-keep d a None n = n
signs-keep d a (Some ss) n =
    let added : Declared = with_sorts false d a ss in
    let known : Bool = has_sign (map (λ (e : Sign × List Sort). e.0) d.sorts) a in
    choice (has_sign reserved a) (refuse BadDirective d) (if known then refuse dir.Twice d else accept added) n
    (choice known (refuse dir.Twice d) (accept added) n (ap (λ (xs : List Sign). xs ++ []) n))

sorts-keep : (d : Declared) (f : Form) → NoDemons d → NoDemons (sorts_argument false d f).1
sorts-keep d (Variable x) n = n
sorts-keep d (Integer z) n = n
sorts-keep d (Name x fs) n = signs-keep d (x, count_of fs) (all_words sort_words fs) n
sorts-keep d (Closed fs) n = n
sorts-keep d (Open fs g) n = n
sorts-keep d (Not g) n = n
sorts-keep d (And fs) n = n
sorts-keep d (Xor fs) n = n
sorts-keep d (Or fs) n = n

-- a directive that isn't `demon`
by-word : (b : Bool) (x y : Declares) → b ≡ false → NoDemons y.1 → NoDemons (if b then x else y).1
by-word true x y e n = absurd (true≢false e)
by-word false x y e n = n

argument-keeps : (a : Argument) (d : Declared) → IsOther a → NoDemons d → NoDemons (argument a.word d a.form).1
argument-keeps a d o n =
    let last : Declares = if bytes_eq a.word (codes "demon") then sorts_argument true d a.form else refuse BadDirective d in
    choice (bytes_eq a.word (codes "constants")) (constant_argument d a.form) (if bytes_eq a.word (codes "sorts") then sorts_argument false d a.form else last) (constant-keeps d a.form n)
    (choice (bytes_eq a.word (codes "sorts")) (sorts_argument false d a.form) last (sorts-keep d a.form n)
    (by-word (bytes_eq a.word (codes "demon")) (sorts_argument true d a.form) (refuse BadDirective d) o n))

-- what follows arguments that keep it keeps it
follow : (a : Argument) (r : Declares) (go : Declared → Checked) → NoDemons r.1 → ((d : Declared) → NoDemons d → NoDemons (go d).declared) → NoDemons (next_checked a.line r go).declared
follow a (Some r, d) go n f = n
follow a (None, d) go n f = f d n

others-keep : (as' : List Argument) (go : Declared → Checked) → Each IsOther as' → ((d : Declared) → NoDemons d → NoDemons (go d).declared) → (d : Declared) → NoDemons d →
    NoDemons (check_arguments (λ a e. argument a.word e a.form) as' go d).declared
others-keep [] go o f d n = f d n
others-keep (a ∷ as') go o f d n = follow a (argument a.word d a.form) (check_arguments (λ x e. argument x.word e x.form) as' go) (argument-keeps a d o.0 n) (λ e k. others-keep as' go o.1 f e k)

-- ---- what the arguments of `delay` declare

delays-keep : (hs : List Sign) (d : Declared) (a : Sign) (o : Option (List When)) → NoDemons d → NoDemons (delay_sign d hs a o).1
delays-keep hs d a None n = n
delays-keep hs d a (Some ws) n =
    let added : Declared = record d { delays = d.delays ++ (a, ws) ∷ [] } in
    let known : Bool = has_sign (map (λ (e : Sign × List When). e.0) d.delays) a in
    let unknown : Bool = not (has_sign hs a) && not (has_sign (map (λ (e : Sign × List Sort). e.0) d.sorts) a) in
    choice (has_sign reserved a || a.1 == 0 || nonvar_at_bool ws (sorts_of d a) || has_sign d.demons a) (refuse BadDirective d)
    (if known then refuse dir.Twice d else (if unknown then refuse Unknown d else accept added)) n
    (choice known (refuse dir.Twice d) (if unknown then refuse Unknown d else accept added) n (choice unknown (refuse Unknown d) (accept added) n n))

delay-keeps : (hs : List Sign) (d : Declared) (f : Form) → NoDemons d → NoDemons (delay_argument hs d f).1
delay-keeps hs d (Variable x) n = n
delay-keeps hs d (Integer z) n = n
delay-keeps hs d (Name x fs) n = delays-keep hs d (x, count_of fs) (all_words delay_words fs) n
delay-keeps hs d (Closed fs) n = n
delay-keeps hs d (Open fs g) n = n
delay-keeps hs d (Not g) n = n
delay-keeps hs d (And fs) n = n
delay-keeps hs d (Xor fs) n = n
delay-keeps hs d (Or fs) n = n

all-delays-keep : (hs : List Sign) (as' : List Argument) (go : Declared → Checked) → ((d : Declared) → NoDemons d → NoDemons (go d).declared) → (d : Declared) → NoDemons d →
    NoDemons (check_arguments (λ a e. delay_argument hs e a.form) as' go d).declared
all-delays-keep hs [] go f d n = f d n
all-delays-keep hs (a ∷ as') go f d n =
    follow a (delay_argument hs d a.form) (check_arguments (λ x e. delay_argument hs e x.form) as' go) (delay-keeps hs d a.form n) (λ e k. all-delays-keep hs as' go f e k)

-- ---- the clauses

each-filter : {A : Type 0} (P : A → Type 0) (f : A → Bool) (xs : List A) → Each P xs → Each P (filter f xs)
each-filter P f [] h = h
each-filter P f (x ∷ xs) h = kept (f x) (each-filter P f xs h.1)
  where
    kept : (b : Bool) → Each P (filter f xs) → Each P (if b then x ∷ filter f xs else filter f xs)
    kept true k = (h.0, k)
    kept false k = k

each-and : {A : Type 0} (P : A → Type 0) (xs ys : List A) → Each P xs → Each P ys → Each P (xs ++ ys)
each-and P [] ys h k = k
each-and P (x ∷ xs) ys h k = (h.0, each-and P xs ys h.1 k)

of-directive : (line : ℕ) (word : Text) (fs : Forms) → bytes_eq word (codes "demon") ≡ false → Each IsOther (arguments line word fs)
of-directive line word Last h = tt
of-directive line word (More f fs) h = (h, of-directive line word fs h)

of-clauses : (cs : List FormClause) → list_any declares_demon cs ≡ false → Each IsOther (all_arguments cs)
of-clauses [] h = tt
of-clauses (Directive line word fs ∷ cs) h =
    each-and IsOther (arguments line word fs) (all_arguments cs) (of-directive line word fs (or-first (declares_demon (Directive line word fs)) (list_any declares_demon cs) h))
    (of-clauses cs (or-second (declares_demon (Directive line word fs)) (list_any declares_demon cs) h))
of-clauses (Rule line f bodied body ∷ cs) h = of-clauses cs h

-- such a file declares no demons
pub declares-none : (cs : List FormClause) (d : Declared) → directives cs ≡ record { refusal = None; declared = d } → has_unbuilt cs ≡ false → NoDemons d
declares-none cs d e h =
    let o = of-clauses cs (or-second (list_any is_fact cs) (list_any declares_demon cs) h) in
    let first : List Argument = filter (λ a. not (is_delay a.word)) (all_arguments cs) in
    let last : List Argument = filter (λ a. is_delay a.word) (all_arguments cs) in
    let end : Declared → Checked = λ x. record { refusal = None; declared = x } in
    let delays : Declared → Checked = check_arguments (λ a x. delay_argument (heads cs) x a.form) last end in
    let kept : NoDemons (directives cs).declared =
    others-keep first delays (each-filter IsOther (λ a. not (is_delay a.word)) (all_arguments cs) o) (λ x n. all-delays-keep (heads cs) last end (λ y k. k) x n) nothing refl in
    subst (λ (x : Checked). NoDemons x.declared) e kept

-- nor has it modules
pub no-modules : (cs : List FormClause) → has_unbuilt cs ≡ false → module_names cs ≡ []
no-modules cs h = names cs (or-first (list_any is_fact cs) (list_any declares_demon cs) h)
  where
    skipped : (b : Bool) (x y : List (Option Text)) → b ≡ false → y ≡ [] → (if b then x else y) ≡ []
    skipped true x y e k = absurd (true≢false e)
    skipped false x y e k = k

    names : (xs : List FormClause) → list_any is_fact xs ≡ false → module_names xs ≡ []
    names [] k = refl
    names (Directive line word fs ∷ xs) k = names xs k
    names (Rule line f bodied body ∷ xs) k =
        skipped (sign_is module_sign f) _ _ (or-first (sign_is module_sign f) (sign_is spec_sign f) (or-first (is_fact (Rule line f bodied body)) (list_any is_fact xs) k))
        (names xs (or-second (is_fact (Rule line f bodied body)) (list_any is_fact xs) k))

-- nor facts
pub no-facts : (cs : List FormClause) → has_unbuilt cs ≡ false → list_any is_fact cs ≡ false
no-facts cs h = or-first (list_any is_fact cs) (list_any declares_demon cs) h
