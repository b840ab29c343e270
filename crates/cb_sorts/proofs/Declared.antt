-- What the directives of a file declare has names that they speak of.
use Rattle.std.specs.Bool.{if◌then◌else◌}
use Rattle.std.specs.List.{list_any, list_all}
use Rattle.std.proofs.Common.{◌≡◌, ℕ, Bool, true, false, not, nat_lt, ◌==◌, ◌&&◌, ◌||◌, List, [], ◌∷◌, ◌++◌, map, filter, length, Option, Some, None, bytes_eq, codes, refl, sym, ◌∙◌, ap, subst}
use Rattle.std.proofs.lemmas.List.Folds.{list_all-append}
use Rattle.std.proofs.lemmas.List.{map-append}
use Rattle.cb_model.specs.Text.{Text}
use Rattle.cb_model.specs.declared.Sort.{Sort}
use Rattle.cb_model.specs.declared.When.{When}
use Rattle.cb_model.specs.Grammar.{Form, Forms, Variable, Integer, Name, Closed, Open, Not, And, Xor, Or, Last, More, FormClause, Directive, Rule}
use Rattle.cb_model.specs.Directives.{Sign, has_sign, count_of, Declared, nothing, Declares, Refusal, BadDirective, Twice, Unknown, refuse, accept, reserved, nonvar_at_bool, sorts_of, constant_argument, with_sorts, sorted_sign, sorts_argument, all_words, sort_words, delay_sign, delay_argument, delay_words, is_delay, argument, Argument, arguments, all_arguments, heads, Checked, next_checked, check_arguments, directives}
use Rattle.cb_signs.specs.Wanted.{argument_signs, directive_signs}
use Rattle.cb_sorts.specs.Source.{declared_signs}
use Rattle.cb_sorts.proofs.Known.{and_left, and_right, all_left, all_right}

both_true : (p q : Bool) → p ≡ true → q ≡ true → (p && q) ≡ true
both_true p q a b = λ j. a j && b j

module _ (names : List Sign) where
  abbrev Among : List Sign → Type 0
  Among as' = list_all (has_sign names) as' ≡ true

  among_both : (xs ys : List Sign) → Among xs → Among ys → Among (xs ++ ys)
  among_both xs ys h k = list_all-append (has_sign names) xs ys ∙ both_true (list_all (has_sign names) xs) (list_all (has_sign names) ys) h k

  record Fits (d : Declared) : Type 0 where
    sorted : Among (map (λ e. e.0) d.sorts)
    demons : Among d.demons
    delayed : Among (map (λ e. e.0) d.delays)

  -- ---- one argument

  among_one : (a : Sign) → has_sign names a ≡ true → Among (a ∷ [])
  among_one a h = both_true (has_sign names a) true h refl

  among_end : {A : Type 0} (es : List (Sign × A)) (a : Sign) (x : A) → has_sign names a ≡ true → Among (map (λ e. e.0) es) → Among (map (λ e. e.0) (es ++ (a, x) ∷ []))
  among_end es a x h k =
      ap (list_all (has_sign names)) (map-append (λ e. e.0) es ((a, x) ∷ [])) ∙ among_both (map (λ e. e.0) es) (a ∷ []) k (among_one a h)

  fits_if : (b : Bool) (p q : Declares) → Fits p.1 → Fits q.1 → Fits (if b then p else q).1
  fits_if true p q h k = h
  fits_if false p q h k = k

  abbrev Speaks : Form → Type 0
  Speaks (Name x fs) = has_sign names (x, count_of fs) ≡ true
  Speaks (Variable x) = Unit
  Speaks (Integer z) = Unit
  Speaks (Closed fs) = Unit
  Speaks (Open fs f) = Unit
  Speaks (Not f) = Unit
  Speaks (And fs) = Unit
  Speaks (Xor fs) = Unit
  Speaks (Or fs) = Unit

  constant_fits : (d : Declared) (f : Form) → Fits d → Fits (constant_argument d f).1
  constant_fits d (Name x Last) h =
      let more : Declared = record d { constants = d.constants ++ x ∷ [] } in
      fits_if (has_sign reserved (x, 0) || nat_lt 4095 (length d.constants)) (refuse BadDirective d) (if list_any (bytes_eq x) d.constants then refuse Twice d else accept more) h
      (fits_if (list_any (bytes_eq x) d.constants) (refuse Twice d) (accept more) h (record { sorted = h.sorted; demons = h.demons; delayed = h.delayed }))
  constant_fits d (Name x (More f fs)) h = h
  constant_fits d (Variable x) h = h
  constant_fits d (Integer z) h = h
  constant_fits d (Closed fs) h = h
  constant_fits d (Open fs f) h = h
  constant_fits d (Not f) h = h
  constant_fits d (And fs) h = h
  constant_fits d (Xor fs) h = h
  constant_fits d (Or fs) h = h

  sorted_fits : (demon : Bool) (d : Declared) (a : Sign) (o : Option (List Sort)) → has_sign names a ≡ true → Fits d → Fits (sorted_sign demon d a o).1
  sorted_fits demon d a None s h = h
  sorted_fits demon d a (Some ss) s h =
      fits_if (has_sign reserved a) (refuse BadDirective d) (if has_sign (map (λ e. e.0) d.sorts) a then refuse Twice d else accept (with_sorts demon d a ss)) h
      (fits_if (has_sign (map (λ e. e.0) d.sorts) a) (refuse Twice d) (accept (with_sorts demon d a ss)) h (with_fits demon))
    where
      with_fits : (m : Bool) → Fits (with_sorts m d a ss)
      with_fits true = record { sorted = among_end d.sorts a ss s h.sorted; demons = among_both d.demons (a ∷ []) h.demons (among_one a s); delayed = h.delayed }
      with_fits false = record { sorted = among_end d.sorts a ss s h.sorted; demons = among_both d.demons [] h.demons refl; delayed = h.delayed }

  sorts_fits : (demon : Bool) (d : Declared) (f : Form) → Speaks f → Fits d → Fits (sorts_argument demon d f).1
  sorts_fits demon d (Name x fs) s h = sorted_fits demon d (x, count_of fs) (all_words sort_words fs) s h
  sorts_fits demon d (Variable x) s h = h
  sorts_fits demon d (Integer z) s h = h
  sorts_fits demon d (Closed fs) s h = h
  sorts_fits demon d (Open fs f) s h = h
  sorts_fits demon d (Not f) s h = h
  sorts_fits demon d (And fs) s h = h
  sorts_fits demon d (Xor fs) s h = h
  sorts_fits demon d (Or fs) s h = h

  other_fits : (word : Text) (d : Declared) (f : Form) → Speaks f → Fits d → Fits (argument word d f).1
  other_fits word d f s h =
      let demons : Declares = if bytes_eq word (codes "demon") then sorts_argument true d f else refuse BadDirective d in
      let sorts : Declares = if bytes_eq word (codes "sorts") then sorts_argument false d f else demons in
      fits_if (bytes_eq word (codes "constants")) (constant_argument d f) sorts (constant_fits d f h)
      (fits_if (bytes_eq word (codes "sorts")) (sorts_argument false d f) demons (sorts_fits false d f s h)
      (fits_if (bytes_eq word (codes "demon")) (sorts_argument true d f) (refuse BadDirective d) (sorts_fits true d f s h) h))

  delayed_fits : (hs : List Sign) (d : Declared) (a : Sign) (o : Option (List When)) → has_sign names a ≡ true → Fits d → Fits (delay_sign d hs a o).1
  delayed_fits hs d a None s h = h
  delayed_fits hs d a (Some ws) s h =
      let more : Declared = record d { delays = d.delays ++ (a, ws) ∷ [] } in
      let known : Declares = if not (has_sign hs a) && not (has_sign (map (λ e. e.0) d.sorts) a) then refuse Unknown d else accept more in
      let once : Declares = if has_sign (map (λ e. e.0) d.delays) a then refuse Twice d else known in
      fits_if (has_sign reserved a || a.1 == 0 || nonvar_at_bool ws (sorts_of d a) || has_sign d.demons a) (refuse BadDirective d) once h
      (fits_if (has_sign (map (λ e. e.0) d.delays) a) (refuse Twice d) known h
      (fits_if (not (has_sign hs a) && not (has_sign (map (λ e. e.0) d.sorts) a)) (refuse Unknown d) (accept more) h
      (record { sorted = h.sorted; demons = h.demons; delayed = among_end d.delays a ws s h.delayed })))

  delay_fits : (hs : List Sign) (d : Declared) (f : Form) → Speaks f → Fits d → Fits (delay_argument hs d f).1
  delay_fits hs d (Name x fs) s h = delayed_fits hs d (x, count_of fs) (all_words delay_words fs) s h
  delay_fits hs d (Variable x) s h = h
  delay_fits hs d (Integer z) s h = h
  delay_fits hs d (Closed fs) s h = h
  delay_fits hs d (Open fs f) s h = h
  delay_fits hs d (Not f) s h = h
  delay_fits hs d (And fs) s h = h
  delay_fits hs d (Xor fs) s h = h
  delay_fits hs d (Or fs) s h = h

  -- ---- the arguments of directives, one after another

  abbrev AllSpeak : List Argument → Type 0
  AllSpeak [] = Unit
  AllSpeak (a ∷ as') = Speaks a.form × AllSpeak as'

  module _ (check : Argument → Declared → Declares) (keeps : (a : Argument) (d : Declared) → Speaks a.form → Fits d → Fits (check a d).1) (go : Declared → Checked)
      (goes : (d : Declared) → Fits d → Fits (go d).declared) where
    check_fits : (as' : List Argument) → AllSpeak as' → (d : Declared) → Fits d → Fits (check_arguments check as' go d).declared
    check_fits [] s d h = goes d h
    check_fits (a ∷ as') s d h = next (check a d) (keeps a d s.0 h) (check_fits as' s.1)
      where
        next : (r : Declares) → Fits r.1 → ((e : Declared) → Fits e → Fits (check_arguments check as' go e).declared) → Fits (next_checked a.line r (check_arguments check as' go)).declared
        next (None, e) k rest = rest e k
        next (Some q, e) k rest = k

  module _ (p : Argument → Bool) where
    some_speak : (as' : List Argument) → AllSpeak as' → AllSpeak (filter p as')
    some_speak [] s = s
    some_speak (a ∷ as') s = step (p a) (some_speak as' s.1)
      where
        step : (b : Bool) → AllSpeak (filter p as') → AllSpeak (if b then a ∷ filter p as' else filter p as')
        step true k = (s.0, k)
        step false k = k

  all_speak : (xs ys : List Argument) → AllSpeak xs → AllSpeak ys → AllSpeak (xs ++ ys)
  all_speak [] ys s t = t
  all_speak (x ∷ xs) ys s t = (s.0, all_speak xs ys s.1 t)

  one_speaks : (line : ℕ) (word : Text) (fs : Forms) → Among (argument_signs fs) → AllSpeak (arguments line word fs)
  one_speaks line word Last h = tt
  one_speaks line word (More (Name x gs) fs) h =
      (and_left (has_sign names (x, count_of gs)) (list_all (has_sign names) (argument_signs fs)) h, one_speaks line word fs (and_right (has_sign names (x, count_of gs)) (list_all (has_sign names) (argument_signs fs)) h))
  one_speaks line word (More (Variable x) fs) h = (tt, one_speaks line word fs h)
  one_speaks line word (More (Integer z) fs) h = (tt, one_speaks line word fs h)
  one_speaks line word (More (Closed gs) fs) h = (tt, one_speaks line word fs h)
  one_speaks line word (More (Open gs g) fs) h = (tt, one_speaks line word fs h)
  one_speaks line word (More (Not g) fs) h = (tt, one_speaks line word fs h)
  one_speaks line word (More (And gs) fs) h = (tt, one_speaks line word fs h)
  one_speaks line word (More (Xor gs) fs) h = (tt, one_speaks line word fs h)
  one_speaks line word (More (Or gs) fs) h = (tt, one_speaks line word fs h)

  file_speaks : (cs : List FormClause) → Among (directive_signs cs) → AllSpeak (all_arguments cs)
  file_speaks [] h = tt
  file_speaks (Directive line word fs ∷ cs) h =
      all_speak (arguments line word fs) (all_arguments cs) (one_speaks line word fs (all_left (has_sign names) (argument_signs fs) (directive_signs cs) h))
      (file_speaks cs (all_right (has_sign names) (argument_signs fs) (directive_signs cs) h))
  file_speaks (Rule n f b gs ∷ cs) h = file_speaks cs h

  declares_fits : (cs : List FormClause) → Among (directive_signs cs) → Fits (directives cs).declared
  declares_fits cs h =
      let s = file_speaks cs h in
      check_fits (λ a d. argument a.word d a.form) (λ a d. other_fits a.word d a.form) _
      (check_fits (λ a d. delay_argument (heads cs) d a.form) (λ a d. delay_fits (heads cs) d a.form) _ (λ d k. k) (filter (λ a. is_delay a.word) (all_arguments cs))
      (some_speak (λ a. is_delay a.word) (all_arguments cs) s))
      (filter (λ a. not (is_delay a.word)) (all_arguments cs)) (some_speak (λ a. not (is_delay a.word)) (all_arguments cs) s) nothing
      (record { sorted = refl; demons = refl; delayed = refl })

  -- where all names that directives speak of are among these, so are all that an accepted file declares
  pub every_declared : (cs : List FormClause) (d : Declared) → directives cs ≡ record { refusal = None; declared = d } → list_all (has_sign names) (directive_signs cs) ≡ true →
      list_all (has_sign names) (declared_signs d) ≡ true
  every_declared cs d is h =
      let k = subst (λ (c : Checked). Fits c.declared) is (declares_fits cs h) in
      among_both (map (λ e. e.0) d.sorts) (d.demons ++ map (λ e. e.0) d.delays) k.sorted (among_both d.demons (map (λ e. e.0) d.delays) k.demons k.delayed)
