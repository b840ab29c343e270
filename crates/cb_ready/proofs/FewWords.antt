-- Accepted directives declare as many delay words as a name has arguments, and no more than a text has terms.
use Rattle.std.proofs.Common.{◌≡◌, ℕ, zero, suc, ◌≤◌, Bool, true, false, ◌&&◌, ◌||◌, not, List, [], ◌∷◌, ◌++◌, map, length, Option, Some, None, refl, ◌∙◌, ap, subst, eqb, bytes_eq, arith}
use Rattle.std.specs.Prelude.{unwrap_or, filter, codes, get_or, nat_lt, sum_by, ◌==◌}
use Rattle.std.specs.Bool.{if◌then◌else◌}
use Rattle.std.specs.List.{list_any}
use Rattle.std.proofs.lemmas.Bool.{and_parts, eqb-true}
use Rattle.std.proofs.lemmas.List.Sums.{sum_by-cons}
use Rattle.cb_model.specs.declared.Sort.{Sort}
use Rattle.cb_model.specs.declared.When.{When}
use Rattle.cb_model.specs.Bits.{Each}
use Rattle.cb_model.specs.Text.{Text}
use Rattle.cb_model.specs.Grammar.{Form, Forms, Variable, Integer, Name, Closed, Open, Not, And, Xor, Or, Last, More, FormClause, Directive, Rule}
use Rattle.cb_model.specs.Written.{clause_parts, parts_in, parts_of}
use Rattle.cb_model.specs.Directives.{Sign, same_sign, has_sign, reserved, count_of, looked_up, Declared, nothing, both, atom_word, all_words, sort_words, delay_words, Refusal, BadDirective, Twice, Unknown, Declares, refuse, accept, constant_argument, with_sorts, sorted_sign, sorts_argument, nonvar_at_bool, sorts_of, delay_sign, delay_argument, is_delay, argument, Argument, arguments, all_arguments, heads, Checked, next_checked, check_arguments, directives}
use Rattle.cb_model.specs.Loading.{words_named}
use Rattle.cb_laws.specs.Laws.{AreCounted}
use Rattle.cb_laws.proofs.Counts.{directives_count}
use Rattle.cb_laws.proofs.WrittenForm.{reading_is_written}
use Rattle.cb_ready.specs.Laws.{AcceptedHaveFewWords}

-- ---- terms of a text

one_part : (f : Form) → 1 ≤ parts_of f
one_part (Variable x) = omega arith
one_part (Integer z) = omega arith
one_part (Name x fs) = omega arith
one_part (Closed fs) = omega arith
one_part (Open fs f) = omega arith
one_part (Not f) = omega arith
one_part (And fs) = omega arith
one_part (Xor fs) = omega arith
one_part (Or fs) = omega arith

count_parts : (fs : Forms) → count_of fs ≤ parts_in fs
count_parts Last = omega arith
count_parts (More f fs) = let h = one_part f in let r = count_parts fs in omega arith

words_number : (fs : Forms) (ws : List When) → all_words delay_words fs ≡ Some ws → length ws ≡ count_of fs
words_number Last [] h = refl
words_number Last (s ∷ ws) h = absurd (cc)
words_number (More f fs) ws h = step (atom_word delay_words f) (all_words delay_words fs) (words_number fs) ws h
  where
    step : (o : Option When) (r : Option (List When)) → ((ts : List When) → r ≡ Some ts → length ts ≡ count_of fs) → (ws : List When) → both o r ≡ Some ws → length ws ≡ suc (count_of fs)
    step None r g ws h = absurd (cc)
    step (Some s) None g ws h = absurd (cc)
    step (Some s) (Some ts) g [] h = absurd (cc)
    step (Some s) (Some ts) g (t ∷ us) h = let same : ts ≡ us = cc in ap suc (g us (ap Some same))

module _ (n : ℕ) where
  -- no term of the argument is too much
  abbrev Small : Argument → Type 0
  Small a = parts_of a.form ≤ n

  small_arguments : (line : ℕ) (word : Text) (fs : Forms) → parts_in fs ≤ n → Each Small (arguments line word fs)
  small_arguments line word Last h = tt
  small_arguments line word (More f fs) h = (omega arith, small_arguments line word fs (omega arith))

  each_append : (xs ys : List Argument) → Each Small xs → Each Small ys → Each Small (xs ++ ys)
  each_append [] ys h k = k
  each_append (x ∷ xs) ys h k = (h.0, each_append xs ys h.1 k)

  each_filter : (p : Argument → Bool) (xs : List Argument) → Each Small xs → Each Small (filter p xs)
  each_filter p [] h = tt
  each_filter p (x ∷ xs) h = step (p x) (each_filter p xs h.1)
    where
      step : (b : Bool) → Each Small (filter p xs) → Each Small (if b then x ∷ filter p xs else filter p xs)
      step true r = (h.0, r)
      step false r = r

  all_small : (cs : List FormClause) → sum_by clause_parts cs ≤ n → Each Small (all_arguments cs)
  all_small [] h = tt
  all_small (Directive line word fs ∷ cs) h =
      let s = sum_by-cons clause_parts (Directive line word fs) cs in
      each_append (arguments line word fs) (all_arguments cs) (small_arguments line word fs (omega arith)) (all_small cs (omega arith))
  all_small (Rule line f bodied gs ∷ cs) h = let s = sum_by-cons clause_parts (Rule line f bodied gs) cs in all_small cs (omega arith)

  -- ---- what is declared

  -- as many words as the name has arguments, and not too many
  abbrev IsFew : Sign → List When → Type 0
  IsFew b ws = (length ws ≡ b.1) × (length ws ≤ n)

  abbrev Fits : List (Sign × List When) → Type 0
  Fits es = (b : Sign) (ws : List When) → looked_up es b ≡ Some ws → IsFew b ws

  module _ (a b : Sign) (ss : List When) (few : IsFew a ss) where
    abbrev FitsAt : List (Sign × List When) → Type 0
    FitsAt es = (ts : List When) → looked_up es b ≡ Some ts → IsFew b ts

    one_more : (es : List (Sign × List When)) → FitsAt es → FitsAt (es ++ (a, ss) ∷ [])
    one_more [] h ts l = step (same_sign b a) refl l
      where
        step : (c : Bool) → same_sign b a ≡ c → (if c then Some ss else None) ≡ Some ts → IsFew b ts
        step true e l =
            let same : b.1 ≡ a.1 = eqb-true b.1 a.1 (and_parts (bytes_eq b.0 a.0) (eqb b.1 a.1) e).1 in
            let lists : ss ≡ ts = cc in
            let number = ap length lists in
            let f0 = few.0 in
            let f1 = few.1 in
            (omega arith, omega arith)
        step false e l = absurd (cc)
    one_more (e ∷ es) h ts l = step (same_sign b e.0) h (one_more es) ts l
      where
        step : (c : Bool) → ((ts : List When) → (if c then Some e.1 else looked_up es b) ≡ Some ts → IsFew b ts) → (FitsAt es → FitsAt (es ++ (a, ss) ∷ [])) →
            (ts : List When) → (if c then Some e.1 else looked_up (es ++ (a, ss) ∷ []) b) ≡ Some ts → IsFew b ts
        step true h r = h
        step false h r = r h

  -- ---- one argument

  -- where what the argument gives is no refusal, the words still fit
  abbrev Keeps : Declares → Type 0
  Keeps r = r.0 ≡ None → Fits r.1.delays

  refused : (r : Refusal) (d : Declared) → Keeps (refuse r d)
  refused r d e = absurd (cc)

  choice : (b : Bool) (r s : Declares) → Keeps r → Keeps s → Keeps (if b then r else s)
  choice true r s h k = h
  choice false r s h k = k

  module _ (d : Declared) (fits : Fits d.delays) where
    constant_keeps : (f : Form) → Keeps (constant_argument d f)
    constant_keeps (Name x Last) =
        choice (has_sign reserved (x, 0) || nat_lt 4095 (length d.constants)) (refuse BadDirective d) _ (refused BadDirective d)
        (choice (list_any (bytes_eq x) d.constants) (refuse Twice d) (accept (record d { constants = d.constants ++ x ∷ [] })) (refused Twice d) (λ e. fits))
    constant_keeps (Name x (More f fs)) = refused BadDirective d
    constant_keeps (Variable x) = refused BadDirective d
    constant_keeps (Integer z) = refused BadDirective d
    constant_keeps (Closed fs) = refused BadDirective d
    constant_keeps (Open fs f) = refused BadDirective d
    constant_keeps (Not f) = refused BadDirective d
    constant_keeps (And fs) = refused BadDirective d
    constant_keeps (Xor fs) = refused BadDirective d
    constant_keeps (Or fs) = refused BadDirective d

    sign_keeps : (demon : Bool) (a : Sign) (o : Option (List Sort)) → Keeps (sorted_sign demon d a o)
    sign_keeps demon a None = refused BadDirective d
    sign_keeps demon a (Some ss) =
        choice (has_sign reserved a) (refuse BadDirective d) _ (refused BadDirective d)
        (choice (has_sign (map (λ (e : Sign × List Sort). e.0) d.sorts) a) (refuse Twice d) (accept (with_sorts demon d a ss)) (refused Twice d) (λ e. fits))

    sorts_keeps : (demon : Bool) (f : Form) → Keeps (sorts_argument demon d f)
    sorts_keeps demon (Name x fs) = sign_keeps demon (x, count_of fs) (all_words sort_words fs)
    sorts_keeps demon (Variable x) = refused BadDirective d
    sorts_keeps demon (Integer z) = refused BadDirective d
    sorts_keeps demon (Closed fs) = refused BadDirective d
    sorts_keeps demon (Open fs f) = refused BadDirective d
    sorts_keeps demon (Not f) = refused BadDirective d
    sorts_keeps demon (And fs) = refused BadDirective d
    sorts_keeps demon (Xor fs) = refused BadDirective d
    sorts_keeps demon (Or fs) = refused BadDirective d

    argument_keeps : (word : Text) (f : Form) → Keeps (argument word d f)
    argument_keeps word f =
        choice (bytes_eq word (codes "constants")) (constant_argument d f) _ (constant_keeps f)
        (choice (bytes_eq word (codes "sorts")) (sorts_argument false d f) _ (sorts_keeps false f)
        (choice (bytes_eq word (codes "demon")) (sorts_argument true d f) (refuse BadDirective d) (sorts_keeps true f) (refused BadDirective d)))

    waits_keeps : (hs : List Sign) (a : Sign) (o : Option (List When)) → ((ws : List When) → o ≡ Some ws → IsFew a ws) → Keeps (delay_sign d hs a o)
    waits_keeps hs a None h = refused BadDirective d
    waits_keeps hs a (Some ws) h =
        choice (has_sign reserved a || a.1 == 0 || nonvar_at_bool ws (sorts_of d a) || has_sign d.demons a) (refuse BadDirective d) _ (refused BadDirective d)
        (choice (has_sign (map (λ (e : Sign × List When). e.0) d.delays) a) (refuse Twice d) _ (refused Twice d)
        (choice (not (has_sign hs a) && not (has_sign (map (λ (e : Sign × List Sort). e.0) d.sorts) a)) (refuse Unknown d) (accept (record d { delays = d.delays ++ (a, ws) ∷ [] })) (refused Unknown d)
        (λ e b. one_more a b ws (h ws refl) d.delays (fits b))))

    delay_keeps : (hs : List Sign) (f : Form) → parts_of f ≤ n → Keeps (delay_argument hs d f)
    delay_keeps hs (Name x fs) h =
        waits_keeps hs (x, count_of fs) (all_words delay_words fs) (λ ws e. let w = words_number fs ws e in let c = count_parts fs in (w, omega arith))
    delay_keeps hs (Variable x) h = refused BadDirective d
    delay_keeps hs (Integer z) h = refused BadDirective d
    delay_keeps hs (Closed fs) h = refused BadDirective d
    delay_keeps hs (Open fs f) h = refused BadDirective d
    delay_keeps hs (Not f) h = refused BadDirective d
    delay_keeps hs (And fs) h = refused BadDirective d
    delay_keeps hs (Xor fs) h = refused BadDirective d
    delay_keeps hs (Or fs) h = refused BadDirective d

  -- ---- all arguments

  abbrev KeepsAll : Checked → Type 0
  KeepsAll r = r.refusal ≡ None → Fits r.declared.delays

  next_keeps : (line : ℕ) (r : Declares) (go : Declared → Checked) → Keeps r → ((e : Declared) → Fits e.delays → KeepsAll (go e)) → KeepsAll (next_checked line r go)
  next_keeps line (Some r, d) go h k = λ e. absurd (cc)
  next_keeps line (None, d) go h k = k d (h refl)

  all_keep : (check : Argument → Declared → Declares) → ((a : Argument) (d : Declared) → Small a → Fits d.delays → Keeps (check a d)) → (as' : List Argument) → Each Small as' →
      (go : Declared → Checked) → ((e : Declared) → Fits e.delays → KeepsAll (go e)) → (d : Declared) → Fits d.delays → KeepsAll (check_arguments check as' go d)
  all_keep check c [] small go k d h = k d h
  all_keep check c (a ∷ as') small go k d h = next_keeps a.line (check a d) (check_arguments check as' go) (c a d small.0 h) (λ e f. all_keep check c as' small.1 go k e f)

  directives_keep : (cs : List FormClause) → sum_by clause_parts cs ≤ n → KeepsAll (directives cs)
  directives_keep cs h =
      let small = all_small cs h in
      all_keep (λ a d. argument a.word d a.form) (λ a d s h. argument_keeps d h a.word a.form) (filter (λ a. not (is_delay a.word)) (all_arguments cs)) (each_filter (λ a. not (is_delay a.word)) (all_arguments cs) small)
      (check_arguments (λ a d. delay_argument (heads cs) d a.form) (filter (λ a. is_delay a.word) (all_arguments cs)) (λ d. record { refusal = None; declared = d }))
      (λ e f. all_keep (λ a d. delay_argument (heads cs) d a.form) (λ a d s h. delay_keeps d h (heads cs) a.form s) (filter (λ a. is_delay a.word) (all_arguments cs))
      (each_filter (λ a. is_delay a.word) (all_arguments cs) small) (λ d. record { refusal = None; declared = d }) (λ d h _. h) e f)
      nothing (λ b ts l. absurd (cc))

  -- ---- the words of a program

  words_few : (d : Declared) → Fits d.delays → (a : Sign) → (length (words_named d a) ≤ a.1) × (length (words_named d a) ≤ n)
  words_few d h a = step (looked_up d.delays a) (h a)
    where
      step : (o : Option (List When)) → ((ws : List When) → o ≡ Some ws → IsFew a ws) → (length (unwrap_or o []) ≤ a.1) × (length (unwrap_or o []) ≤ n)
      step None g = (omega arith, omega arith)
      step (Some ws) g = let e = g ws refl in let e0 = e.0 in (omega arith, e.1)

  names_few : (d : Declared) → Fits d.delays → AreCounted d → (names : List Sign) (pred : ℕ) →
      (length (get_or (map (words_named d) names) pred []) ≤ length (get_or (map (sorts_of d) names) pred [])) × (length (get_or (map (words_named d) names) pred []) ≤ n)
  names_few d h c [] pred = (omega arith, omega arith)
  names_few d h c (a ∷ names) zero = let w = words_few d h a in let w0 = w.0 in let s = c a in (omega arith, w.1)
  names_few d h c (a ∷ names) (suc pred) = names_few d h c names pred

pub few-words : AcceptedHaveFewWords
few-words file l s a loaded same =
    let written = (reading_is_written file).0 l.clauses loaded.reading in
    let n = length file in
    let checked = loaded.declares in
    let none : (directives l.clauses).refusal ≡ None = ap (λ (r : Checked). r.refusal) checked in
    let is : (directives l.clauses).declared ≡ s.declared = ap (λ (r : Checked). r.declared) checked ∙ same in
    let fits : Fits n s.declared.delays = subst (λ (x : Declared). Fits n x.delays) is (directives_keep n l.clauses written.few_terms none) in
    let counted : AreCounted s.declared = subst (λ (x : Declared). AreCounted x) same (directives_count l.clauses l.declared checked) in
    let short = loaded.short in
    record {
      counted = λ pred. (names_few n s.declared fits counted (s.names ++ a.names) pred).0;
      few = λ pred. let h = (names_few n s.declared fits counted (s.names ++ a.names) pred).1 in omega arith;
    }
