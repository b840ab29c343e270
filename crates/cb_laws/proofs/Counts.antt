-- Accepted directives declare as many sorts as a name has arguments.
use Rattle.std.proofs.Common.{◌≡◌, ℕ, zero, suc, Bool, true, false, ◌&&◌, ◌||◌, not, List, [], ◌∷◌, ◌++◌, map, length, Option, Some, None, refl, sym, ◌∙◌, ap, subst, eqb, bytes_eq}
use Rattle.std.specs.Prelude.{unwrap_or, filter, codes, nat_lt, ◌==◌}
use Rattle.std.specs.Bool.{if◌then◌else◌}
use Rattle.std.specs.List.{list_any}
use Rattle.std.proofs.lemmas.Bool.{and_parts, eqb-true}
use Rattle.cb_model.specs.Text.{Text}
use Rattle.cb_model.specs.declared.Sort.{Sort}
use Rattle.cb_model.specs.declared.When.{When}
use Rattle.cb_model.specs.Grammar.{Form, Forms, Variable, Integer, Name, Closed, Open, Not, And, Xor, Or, Last, More, FormClause}
use Rattle.cb_model.specs.Directives.{Sign, same_sign, has_sign, reserved, count_of, looked_up, Declared, nothing, both, atom_word, all_words, sort_words, delay_words, Refusal, BadDirective, Twice, Unknown, Declares, refuse, accept, constant_argument, with_sorts, sorted_sign, sorts_argument, nonvar_at_bool, sorts_of, delay_sign, delay_argument, is_delay, argument, Argument, all_arguments, heads, Checked, next_checked, check_arguments, directives}
use Rattle.cb_laws.specs.Laws.{AreCounted, DirectivesCount}

-- each name that sorts are declared for has as many as arguments
abbrev Fits : List (Sign × List Sort) → Type 0
Fits es = (b : Sign) (ts : List Sort) → looked_up es b ≡ Some ts → length ts ≡ b.1

module _ (a b : Sign) (ss : List Sort) (n : length ss ≡ a.1) where
  abbrev FitsAt : List (Sign × List Sort) → Type 0
  FitsAt es = (ts : List Sort) → looked_up es b ≡ Some ts → length ts ≡ b.1

  one_more : (es : List (Sign × List Sort)) → FitsAt es → FitsAt (es ++ (a, ss) ∷ [])
  one_more [] h ts l = step (same_sign b a) refl l
    where
      step : (c : Bool) → same_sign b a ≡ c → (if c then Some ss else None) ≡ Some ts → length ts ≡ b.1
      step true e l =
          let same : b.1 ≡ a.1 = eqb-true b.1 a.1 (and_parts (bytes_eq b.0 a.0) (eqb b.1 a.1) e).1 in
          let lists : ss ≡ ts = cc in
          sym (ap length lists) ∙ n ∙ sym same
      step false e l = absurd (cc)
  one_more (e ∷ es) h ts l = step (same_sign b e.0) h (one_more es) ts l
    where
      step : (c : Bool) → ((ts : List Sort) → (if c then Some e.1 else looked_up es b) ≡ Some ts → length ts ≡ b.1) → (FitsAt es → FitsAt (es ++ (a, ss) ∷ [])) →
          (ts : List Sort) → (if c then Some e.1 else looked_up (es ++ (a, ss) ∷ []) b) ≡ Some ts → length ts ≡ b.1
      step true h r = h
      step false h r = r h

words_of : (fs : Forms) (ss : List Sort) → all_words sort_words fs ≡ Some ss → length ss ≡ count_of fs
words_of Last [] h = refl
words_of Last (s ∷ ss) h = absurd (cc)
words_of (More f fs) ss h = step (atom_word sort_words f) (all_words sort_words fs) (words_of fs) ss h
  where
    step : (o : Option Sort) (r : Option (List Sort)) → ((ts : List Sort) → r ≡ Some ts → length ts ≡ count_of fs) → (ss : List Sort) → both o r ≡ Some ss → length ss ≡ suc (count_of fs)
    step None r g ss h = absurd (cc)
    step (Some s) None g ss h = absurd (cc)
    step (Some s) (Some ts) g [] h = absurd (cc)
    step (Some s) (Some ts) g (t ∷ us) h = let same : ts ≡ us = cc in ap suc (g us (ap Some same))

plain_count : (x : Text) (n : ℕ) → length (sorts_of nothing (x, n)) ≡ n
plain_count x zero = refl
plain_count x (suc n) = ap suc (plain_count x n)

counted : (d : Declared) → Fits d.sorts → AreCounted d
counted d h a = step (looked_up d.sorts a) (h a)
  where
    step : (o : Option (List Sort)) → ((ss : List Sort) → o ≡ Some ss → length ss ≡ a.1) → length (unwrap_or o (sorts_of nothing (a.0, a.1))) ≡ a.1
    step None g = plain_count a.0 a.1
    step (Some ss) g = g ss refl

-- ---- one argument

-- where what the argument gives is no refusal, the sorts still fit
abbrev Keeps : Declares → Type 0
Keeps r = r.0 ≡ None → Fits r.1.sorts

refused : (r : Refusal) (d : Declared) → Keeps (refuse r d)
refused r d e = absurd (cc)

choice : (b : Bool) (r s : Declares) → Keeps r → Keeps s → Keeps (if b then r else s)
choice true r s h k = h
choice false r s h k = k

module _ (d : Declared) (fits : Fits d.sorts) where
  constant_keeps : (f : Form) → Keeps (constant_argument d f)
  constant_keeps (Name x Last) =
      choice (has_sign reserved (x, 0) || nat_lt 4095 (length d.constants)) (refuse BadDirective d) _ (refused BadDirective d)
      (choice (list_any (bytes_eq x) d.constants) (refuse Twice d) (accept (record d { constants = d.constants ++ x ∷ [] })) (refused Twice d) (λ e. fits))
  constant_keeps (Name x (More f fs)) = refused BadDirective d
  constant_keeps (Variable x) = refused BadDirective d
  constant_keeps (Integer z) = refused BadDirective d
  constant_keeps (Closed fs) = refused BadDirective d
  constant_keeps (Open fs f) = refused BadDirective d
  constant_keeps (Not f) = refused BadDirective d
  constant_keeps (And fs) = refused BadDirective d
  constant_keeps (Xor fs) = refused BadDirective d
  constant_keeps (Or fs) = refused BadDirective d

  sign_keeps : (demon : Bool) (a : Sign) (o : Option (List Sort)) → ((ss : List Sort) → o ≡ Some ss → length ss ≡ a.1) → Keeps (sorted_sign demon d a o)
  sign_keeps demon a None h = refused BadDirective d
  sign_keeps demon a (Some ss) h =
      choice (has_sign reserved a) (refuse BadDirective d) _ (refused BadDirective d)
      (choice (has_sign (map (λ (e : Sign × List Sort). e.0) d.sorts) a) (refuse Twice d) (accept (with_sorts demon d a ss)) (refused Twice d)
      (λ e b. one_more a b ss (h ss refl) d.sorts (fits b)))

  sorts_keeps : (demon : Bool) (f : Form) → Keeps (sorts_argument demon d f)
  sorts_keeps demon (Name x fs) = sign_keeps demon (x, count_of fs) (all_words sort_words fs) (words_of fs)
  sorts_keeps demon (Variable x) = refused BadDirective d
  sorts_keeps demon (Integer z) = refused BadDirective d
  sorts_keeps demon (Closed fs) = refused BadDirective d
  sorts_keeps demon (Open fs f) = refused BadDirective d
  sorts_keeps demon (Not f) = refused BadDirective d
  sorts_keeps demon (And fs) = refused BadDirective d
  sorts_keeps demon (Xor fs) = refused BadDirective d
  sorts_keeps demon (Or fs) = refused BadDirective d

  argument_keeps : (word : Text) (f : Form) → Keeps (argument word d f)
  argument_keeps word f =
      choice (bytes_eq word (codes "constants")) (constant_argument d f) _ (constant_keeps f)
      (choice (bytes_eq word (codes "sorts")) (sorts_argument false d f) _ (sorts_keeps false f)
      (choice (bytes_eq word (codes "demon")) (sorts_argument true d f) (refuse BadDirective d) (sorts_keeps true f) (refused BadDirective d)))

  waits_keeps : (hs : List Sign) (a : Sign) (o : Option (List When)) → Keeps (delay_sign d hs a o)
  waits_keeps hs a None = refused BadDirective d
  waits_keeps hs a (Some ws) =
      choice (has_sign reserved a || a.1 == 0 || nonvar_at_bool ws (sorts_of d a) || has_sign d.demons a) (refuse BadDirective d) _ (refused BadDirective d)
      (choice (has_sign (map (λ (e : Sign × List When). e.0) d.delays) a) (refuse Twice d) _ (refused Twice d)
      (choice (not (has_sign hs a) && not (has_sign (map (λ (e : Sign × List Sort). e.0) d.sorts) a)) (refuse Unknown d) (accept (record d { delays = d.delays ++ (a, ws) ∷ [] })) (refused Unknown d) (λ e. fits)))

  delay_keeps : (hs : List Sign) (f : Form) → Keeps (delay_argument hs d f)
  delay_keeps hs (Name x fs) = waits_keeps hs (x, count_of fs) (all_words delay_words fs)
  delay_keeps hs (Variable x) = refused BadDirective d
  delay_keeps hs (Integer z) = refused BadDirective d
  delay_keeps hs (Closed fs) = refused BadDirective d
  delay_keeps hs (Open fs f) = refused BadDirective d
  delay_keeps hs (Not f) = refused BadDirective d
  delay_keeps hs (And fs) = refused BadDirective d
  delay_keeps hs (Xor fs) = refused BadDirective d
  delay_keeps hs (Or fs) = refused BadDirective d

-- ---- all arguments

abbrev KeepsAll : Checked → Type 0
KeepsAll r = r.refusal ≡ None → Fits r.declared.sorts

next_keeps : (line : ℕ) (r : Declares) (go : Declared → Checked) → Keeps r → ((e : Declared) → Fits e.sorts → KeepsAll (go e)) → KeepsAll (next_checked line r go)
next_keeps line (Some r, d) go h k = λ e. absurd (cc)
next_keeps line (None, d) go h k = k d (h refl)

all_keep : (check : Argument → Declared → Declares) → ((a : Argument) (d : Declared) → Fits d.sorts → Keeps (check a d)) → (as' : List Argument) (go : Declared → Checked) →
    ((e : Declared) → Fits e.sorts → KeepsAll (go e)) → (d : Declared) → Fits d.sorts → KeepsAll (check_arguments check as' go d)
all_keep check c [] go k d h = k d h
all_keep check c (a ∷ as') go k d h = next_keeps a.line (check a d) (check_arguments check as' go) (c a d h) (λ e f. all_keep check c as' go k e f)

directives_keep : (cs : List FormClause) → KeepsAll (directives cs)
directives_keep cs =
    all_keep (λ a d. argument a.word d a.form) (λ a d h. argument_keeps d h a.word a.form) (filter (λ a. not (is_delay a.word)) (all_arguments cs))
    (check_arguments (λ a d. delay_argument (heads cs) d a.form) (filter (λ a. is_delay a.word) (all_arguments cs)) (λ d. record { refusal = None; declared = d }))
    (λ e f. all_keep (λ a d. delay_argument (heads cs) d a.form) (λ a d h. delay_keeps d h (heads cs) a.form) (filter (λ a. is_delay a.word) (all_arguments cs)) (λ d. record { refusal = None; declared = d }) (λ d h _. h) e f)
    nothing (λ b ts l. absurd (cc))

pub directives_count : DirectivesCount
directives_count cs d e =
    let none : (directives cs).refusal ≡ None = ap (λ (r : Checked). r.refusal) e in
    let is : (directives cs).declared ≡ d = ap (λ (r : Checked). r.declared) e in
    counted d (subst (λ (x : Declared). Fits x.sorts) is (directives_keep cs none))
