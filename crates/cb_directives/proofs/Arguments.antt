-- One argument of a directive.
use Rattle.std.proofs.Common.{◌≡◌, ℕ, zero, suc, ◌+◌, ◌<◌, ◌≤◌, Bool, true, false, not, ◌&&◌, ◌||◌, List, [], ◌∷◌, ◌++◌, map, length, Option, Some, None, bytes_eq, nat_lt, codes, refl, sym, ◌∙◌, ap, subst, arith, length-append}
use Rattle.std.specs.Prelude.{unwrap_or}
use Rattle.std.specs.Bool.{if◌then◌else◌}
use Rattle.std.specs.List.{list_any}
use Rattle.std.proofs.lemmas.List.{map-append, append-nil}
use Rattle.std.proofs.lemmas.Bool.Decides.{nat_tests}
use Rattle.cb_model.specs.Text.{Text}
use Rattle.cb_model.specs.declared.Sort.{Sort}
use Rattle.cb_model.specs.declared.When.{When}
use Rattle.cb_model.specs.declared.RawTerm.{RawTerm}
use Rattle.cb_model.specs.Grammar.{Form, Forms, Variable, Integer, Name, Closed, Open, Not, And, Xor, Or, Last, More}
use Rattle.cb_model.specs.Forms.{form_of, forms_of}
use Rattle.cb_model.specs.Written.{is_name}
use Rattle.cb_model.specs.Loading.{add_name}
use Rattle.cb_model.specs.Directives.{Sign, same_sign, has_sign, reserved, count_of, looked_up, Declared, nothing, Refusal, BadDirective, Twice, Unknown, Declares, refuse, accept, constant_argument, all_words, sort_words, delay_words, with_sorts, sorted_sign, sorts_argument, nonvar_at_bool, sorts_of, delay_sign, delay_argument, argument}
use Rattle.cb_directives.specs.declared.fault.Fault.{Fault}
use Rattle.cb_directives.specs.declared.fault.Fault.TheVariants as fault
use Rattle.cb_directives.specs.Refusals.{IsFault, IsNone, is_atom}
use Rattle.cb_directives.specs.Checks.{never_waits}
use Rattle.cb_directives.specs.Kept.{AreDeclared}
use Rattle.cb_directives.proofs.Reading.{count_forms, nonvar_of_terms}
use Rattle.cb_directives.proofs.Steps.{has_added}

or_true : (b : Bool) → (b || true) ≡ true
or_true true = refl
or_true false = refl

pub added_name : (xs new : List Text) (x : Text) → false ≡ list_any (bytes_eq x) xs → new ≡ add_name xs x → new ≡ xs ++ x ∷ []
added_name xs new x h e = e ∙ ap (λ (b : Bool). if b then xs else (xs ++ x ∷ [])) (sym h)

pub few_names : (xs new : List Text) (x : Text) → length xs ≤ 4095 → new ≡ xs ++ x ∷ [] → length new ≤ 4096
few_names xs new x h e = let n : length new ≡ length (xs ++ x ∷ []) = ap length e in omega (arith, n, length-append xs (x ∷ []))

module _ (d : Declared) where
  -- ---- constants

  constant_at : (x : Text) (r full there : Bool) → has_sign reserved (x, 0) ≡ r → nat_lt 4095 (length d.constants) ≡ full → list_any (bytes_eq x) d.constants ≡ there →
      constant_argument d (Name x Last) ≡ (if r || full then refuse BadDirective d else (if there then refuse Twice d else accept (record d { constants = d.constants ++ x ∷ [] })))
  constant_at x r full there p q s =
      λ j. if p j || q j then refuse BadDirective d else (if s j then refuse Twice d else accept (record d { constants = d.constants ++ x ∷ [] }))

  pub constant_other : (f : Form) → is_atom f ≡ false → (constant_argument d f).0 ≡ Some BadDirective
  constant_other (Variable x) h = refl
  constant_other (Integer z) h = refl
  constant_other (Name x Last) h = absurd (cc)
  constant_other (Name x (More f fs)) h = refl
  constant_other (Closed fs) h = refl
  constant_other (Open fs f) h = refl
  constant_other (Not f) h = refl
  constant_other (And fs) h = refl
  constant_other (Xor fs) h = refl
  constant_other (Or fs) h = refl

  pub constant_reserved : (f : Form) (x : Text) → f ≡ Name x Last → true ≡ has_sign reserved (x, 0) → (constant_argument d f).0 ≡ Some BadDirective
  constant_reserved f x e h = ap (λ (g : Form). (constant_argument d g).0) e ∙ ap (λ (r : Declares). r.0) (constant_at x true _ _ (sym h) refl refl)

  is_full : (n : ℕ) → 4095 < n → nat_lt 4095 n ≡ true
  is_full n h = grind (arith, nat_tests)

  has_room : (n : ℕ) → n ≤ 4095 → nat_lt 4095 n ≡ false
  has_room n h = grind (arith, nat_tests)

  pub constant_over : (f : Form) (x : Text) → f ≡ Name x Last → 4095 < length d.constants → (constant_argument d f).0 ≡ Some BadDirective
  constant_over f x e h =
      ap (λ (g : Form). (constant_argument d g).0) e ∙ ap (λ (r : Declares). r.0) (constant_at x (has_sign reserved (x, 0)) true (list_any (bytes_eq x) d.constants) refl (is_full (length d.constants) h) refl)
      ∙ ap (λ (b : Bool). (if b then refuse BadDirective d else (if list_any (bytes_eq x) d.constants then refuse Twice d else accept (record d { constants = d.constants ++ x ∷ [] }))).0) (or_true (has_sign reserved (x, 0)))

  pub constant_twice : (f : Form) (x : Text) → f ≡ Name x Last → false ≡ has_sign reserved (x, 0) → length d.constants ≤ 4095 → true ≡ list_any (bytes_eq x) d.constants →
      (constant_argument d f).0 ≡ Some Twice
  constant_twice f x e h n t =
      ap (λ (g : Form). (constant_argument d g).0) e ∙ ap (λ (r : Declares). r.0) (constant_at x false false true (sym h) (has_room (length d.constants) n) (sym t))

  pub constant_new : (f : Form) (x : Text) (new : List Text) → f ≡ Name x Last → false ≡ has_sign reserved (x, 0) → length d.constants ≤ 4095 → false ≡ list_any (bytes_eq x) d.constants →
      new ≡ add_name d.constants x → constant_argument d f ≡ accept (record d { constants = new })
  constant_new f x new e h n t a =
      ap (constant_argument d) e ∙ constant_at x false false false (sym h) (has_room (length d.constants) n) (sym t)
      ∙ ap (λ (l : List Text). accept (record d { constants = l })) (sym (added_name d.constants new x t a))

  -- ---- sorts

  pub no_demon : (a : Sign) → AreDeclared d.demons d.sorts → false ≡ has_sign (map (λ e. e.0) d.sorts) a → has_sign d.demons a ≡ false
  no_demon a h n = step (has_sign d.demons a) refl
    where
      step : (b : Bool) → has_sign d.demons a ≡ b → b ≡ false
      step false e = refl
      step true e = let y : has_sign (map (λ e. e.0) d.sorts) a ≡ true = h a e in absurd (cc)

  module _ (demon : Bool) where
    pub sorts_other : (f : Form) → is_name f ≡ false → (sorts_argument demon d f).0 ≡ Some BadDirective
    sorts_other (Variable x) h = refl
    sorts_other (Integer z) h = refl
    sorts_other (Name x fs) h = absurd (cc)
    sorts_other (Closed fs) h = refl
    sorts_other (Open fs f) h = refl
    sorts_other (Not f) h = refl
    sorts_other (And fs) h = refl
    sorts_other (Xor fs) h = refl
    sorts_other (Or fs) h = refl

    sorts_at : (f : Form) (x : Text) (ts : List RawTerm) (r : Option (List Sort)) → f ≡ Name x (forms_of (map form_of ts)) → all_words sort_words (forms_of (map form_of ts)) ≡ r →
        sorts_argument demon d f ≡ sorted_sign demon d (x, length ts) r
    sorts_at f x ts r e p = ap (sorts_argument demon d) e ∙ (λ j. sorted_sign demon d (x, count_forms ts j) (p j))

    pub sorts_none : (f : Form) (x : Text) (ts : List RawTerm) (e : Fault) → f ≡ Name x (forms_of (map form_of ts)) → IsNone e (all_words sort_words (forms_of (map form_of ts))) →
        IsFault e (sorts_argument demon d f).0
    sorts_none f x ts fault.Directive e h = ap (λ (r : Declares). r.0) (sorts_at f x ts None e h)
    sorts_none f x ts fault.Unknown e h = absurd h
    sorts_none f x ts fault.Twice e h = absurd h
    sorts_none f x ts fault.Memory e h = tt

    sorted_at : (a : Sign) (ss : List Sort) (r there : Bool) → has_sign reserved a ≡ r → has_sign (map (λ e. e.0) d.sorts) a ≡ there →
        sorted_sign demon d a (Some ss) ≡ (if r then refuse BadDirective d else (if there then refuse Twice d else accept (with_sorts demon d a ss)))
    sorted_at a ss r there p q = λ j. if p j then refuse BadDirective d else (if q j then refuse Twice d else accept (with_sorts demon d a ss))

    module _ (f : Form) (x : Text) (ts : List RawTerm) (ss : List Sort) (e : f ≡ Name x (forms_of (map form_of ts))) (k : all_words sort_words (forms_of (map form_of ts)) ≡ Some ss) where
      pub sorts_reserved : true ≡ has_sign reserved (x, length ts) → (sorts_argument demon d f).0 ≡ Some BadDirective
      sorts_reserved h = ap (λ (r : Declares). r.0) (sorts_at f x ts (Some ss) e k ∙ sorted_at (x, length ts) ss true _ (sym h) refl)

      pub sorts_twice : false ≡ has_sign reserved (x, length ts) → true ≡ has_sign (map (λ e. e.0) d.sorts) (x, length ts) → (sorts_argument demon d f).0 ≡ Some Twice
      sorts_twice h t = ap (λ (r : Declares). r.0) (sorts_at f x ts (Some ss) e k ∙ sorted_at (x, length ts) ss false true (sym h) (sym t))

      pub sorts_new : (sorts : List (Sign × List Sort)) (demons : List Sign) → false ≡ has_sign reserved (x, length ts) → false ≡ has_sign (map (λ e. e.0) d.sorts) (x, length ts) →
          sorts ≡ d.sorts ++ ((x, length ts), ss) ∷ [] → demons ≡ d.demons ++ (if demon then ((x, length ts) ∷ []) else []) →
          sorts_argument demon d f ≡ accept (record d { sorts = sorts; demons = demons })
      sorts_new sorts demons h t p q =
          sorts_at f x ts (Some ss) e k ∙ sorted_at (x, length ts) ss false false (sym h) (sym t) ∙ (λ j. accept (record d { sorts = sym p j; demons = sym q j }))

      pub sorts_plain : (sorts : List (Sign × List Sort)) → demon ≡ false → false ≡ has_sign reserved (x, length ts) → false ≡ has_sign (map (λ e. e.0) d.sorts) (x, length ts) →
          sorts ≡ d.sorts ++ ((x, length ts), ss) ∷ [] → sorts_argument demon d f ≡ accept (record d { sorts = sorts })
      sorts_plain sorts off h t p =
          sorts_new sorts d.demons h t p (sym (ap (λ (b : Bool). d.demons ++ (if b then ((x, length ts) ∷ []) else [])) off ∙ append-nil d.demons))

      pub sorts_demon : (sorts : List (Sign × List Sort)) (demons : List Sign) → demon ≡ true → AreDeclared d.demons d.sorts →
          false ≡ has_sign reserved (x, length ts) → false ≡ has_sign (map (λ e. e.0) d.sorts) (x, length ts) →
          sorts ≡ d.sorts ++ ((x, length ts), ss) ∷ [] → demons ≡ (if has_sign d.demons (x, length ts) then d.demons else (d.demons ++ (x, length ts) ∷ [])) →
          sorts_argument demon d f ≡ accept (record d { sorts = sorts; demons = demons })
      sorts_demon sorts demons is_demon k h t p q =
          let a : Sign = (x, length ts) in
          sorts_new sorts demons h t p (q ∙ ap (λ (b : Bool). if b then d.demons else (d.demons ++ a ∷ [])) (no_demon a k t)
          ∙ sym (ap (λ (b : Bool). d.demons ++ (if b then (a ∷ []) else [])) is_demon))

  -- ---- what is kept

  has_append : (xs : List Sign) (b a : Sign) → has_sign (xs ++ b ∷ []) a ≡ (has_sign xs a || same_sign a b)
  has_append [] b a = step (same_sign a b)
    where
      step : (c : Bool) → (c || false) ≡ (false || c)
      step true = refl
      step false = refl
  has_append (x ∷ xs) b a = ap (λ (c : Bool). same_sign a x || c) (has_append xs b a) ∙ step (same_sign a x) (has_sign xs a) (same_sign a b)
    where
      step : (p q r : Bool) → (p || (q || r)) ≡ ((p || q) || r)
      step true q r = refl
      step false q r = refl

  pub more_sorts : (new : List (Sign × List Sort)) (a : Sign) (ss : List Sort) → new ≡ d.sorts ++ (a, ss) ∷ [] → AreDeclared d.demons d.sorts → AreDeclared d.demons new
  more_sorts new a ss e h b t =
      ap (λ (l : List (Sign × List Sort)). has_sign (map (λ e. e.0) l) b) e ∙ ap (λ (l : List Sign). has_sign l b) (map-append (λ e. e.0) d.sorts ((a, ss) ∷ []))
      ∙ has_append (map (λ e. e.0) d.sorts) a b ∙ ap (λ (c : Bool). c || same_sign b a) (h b t)

  pub more_demons : (demons : List Sign) (new : List (Sign × List Sort)) (a : Sign) (ss : List Sort) → new ≡ d.sorts ++ (a, ss) ∷ [] → AreDeclared d.demons d.sorts →
      demons ≡ (if has_sign d.demons a then d.demons else (d.demons ++ a ∷ [])) → AreDeclared demons new
  more_demons demons new a ss e h k b t = step (has_sign d.demons b) refl (same_sign b a) refl (sym (ap (λ (l : List Sign). has_sign l b) k ∙ has_added d.demons a b) ∙ t)
    where
      here : same_sign b a ≡ true → has_sign (map (λ e. e.0) new) b ≡ true
      here s =
          ap (λ (l : List (Sign × List Sort)). has_sign (map (λ e. e.0) l) b) e ∙ ap (λ (l : List Sign). has_sign l b) (map-append (λ e. e.0) d.sorts ((a, ss) ∷ []))
          ∙ has_append (map (λ e. e.0) d.sorts) a b ∙ ap (λ (c : Bool). has_sign (map (λ e. e.0) d.sorts) b || c) s ∙ or_true (has_sign (map (λ e. e.0) d.sorts) b)

      step : (p : Bool) → has_sign d.demons b ≡ p → (q : Bool) → same_sign b a ≡ q → (has_sign d.demons b || same_sign b a) ≡ true → has_sign (map (λ e. e.0) new) b ≡ true
      step true u q s o = more_sorts new a ss e h b u
      step false u true s o = here s
      step false u false s o = let z : (false || false) ≡ true = (λ j. sym u j || sym s j) ∙ o in absurd (cc)

  -- ---- delays

  pub delay_other : (hs : List Sign) (f : Form) → is_name f ≡ false → (delay_argument hs d f).0 ≡ Some BadDirective
  delay_other hs (Variable x) h = refl
  delay_other hs (Integer z) h = refl
  delay_other hs (Name x fs) h = absurd (cc)
  delay_other hs (Closed fs) h = refl
  delay_other hs (Open fs f) h = refl
  delay_other hs (Not f) h = refl
  delay_other hs (And fs) h = refl
  delay_other hs (Xor fs) h = refl
  delay_other hs (Or fs) h = refl

  pub nonvar_none : (x : Text) (n : ℕ) (ws : List When) → None ≡ looked_up d.sorts (x, n) → false ≡ nonvar_at_bool ws (sorts_of d (x, n))
  nonvar_none x n ws h = sym (ap (λ (r : Option (List Sort)). nonvar_at_bool ws (unwrap_or r (sorts_of nothing (x, n)))) (sym h) ∙ nonvar_of_terms x n ws)

  pub nonvar_some : (a : Sign) (ws : List When) (ss : List Sort) → Some ss ≡ looked_up d.sorts a → nonvar_at_bool ws ss ≡ nonvar_at_bool ws (sorts_of d a)
  nonvar_some a ws ss h = ap (λ (r : Option (List Sort)). nonvar_at_bool ws (unwrap_or r (sorts_of nothing a))) h

  module _ (hs : List Sign) where
    delay_from : (f : Form) (x : Text) (ts : List RawTerm) (r : Option (List When)) → f ≡ Name x (forms_of (map form_of ts)) → all_words delay_words (forms_of (map form_of ts)) ≡ r →
        delay_argument hs d f ≡ delay_sign d hs (x, length ts) r
    delay_from f x ts r e p = ap (delay_argument hs d) e ∙ (λ j. delay_sign d hs (x, count_forms ts j) (p j))

    pub delay_none : (f : Form) (x : Text) (ts : List RawTerm) (e : Fault) → f ≡ Name x (forms_of (map form_of ts)) → IsNone e (all_words delay_words (forms_of (map form_of ts))) →
        IsFault e (delay_argument hs d f).0
    delay_none f x ts fault.Directive e h = ap (λ (r : Declares). r.0) (delay_from f x ts None e h)
    delay_none f x ts fault.Unknown e h = absurd h
    delay_none f x ts fault.Twice e h = absurd h
    delay_none f x ts fault.Memory e h = tt

    abbrev lost : Sign → Bool
    lost a = not (has_sign hs a) && not (has_sign (map (λ e. e.0) d.sorts) a)

    delay_at : (a : Sign) (ws : List When) (n there unknown : Bool) → never_waits d a ws ≡ n → has_sign (map (λ e. e.0) d.delays) a ≡ there → lost a ≡ unknown →
        delay_sign d hs a (Some ws) ≡ (if n then refuse BadDirective d else (if there then refuse Twice d else (if unknown then refuse Unknown d else accept (record d { delays = d.delays ++ (a, ws) ∷ [] }))))
    delay_at a ws n there unknown p q r =
        λ j. if p j then refuse BadDirective d else (if q j then refuse Twice d else (if r j then refuse Unknown d else accept (record d { delays = d.delays ++ (a, ws) ∷ [] })))

    module _ (f : Form) (x : Text) (ts : List RawTerm) (ws : List When) (e : f ≡ Name x (forms_of (map form_of ts))) (k : all_words delay_words (forms_of (map form_of ts)) ≡ Some ws) where
      pub delay_never : true ≡ never_waits d (x, length ts) ws → (delay_argument hs d f).0 ≡ Some BadDirective
      delay_never h = ap (λ (r : Declares). r.0) (delay_from f x ts (Some ws) e k ∙ delay_at (x, length ts) ws true _ _ (sym h) refl refl)

      pub delay_twice : false ≡ never_waits d (x, length ts) ws → true ≡ has_sign (map (λ e. e.0) d.delays) (x, length ts) → (delay_argument hs d f).0 ≡ Some Twice
      delay_twice h t = ap (λ (r : Declares). r.0) (delay_from f x ts (Some ws) e k ∙ delay_at (x, length ts) ws false true _ (sym h) (sym t) refl)

      pub delay_unknown : false ≡ never_waits d (x, length ts) ws → false ≡ has_sign (map (λ e. e.0) d.delays) (x, length ts) → true ≡ lost (x, length ts) → (delay_argument hs d f).0 ≡ Some Unknown
      delay_unknown h t u = ap (λ (r : Declares). r.0) (delay_from f x ts (Some ws) e k ∙ delay_at (x, length ts) ws false false true (sym h) (sym t) (sym u))

      pub delay_new : (delays : List (Sign × List When)) → false ≡ never_waits d (x, length ts) ws → false ≡ has_sign (map (λ e. e.0) d.delays) (x, length ts) → false ≡ lost (x, length ts) →
          delays ≡ d.delays ++ ((x, length ts), ws) ∷ [] → delay_argument hs d f ≡ accept (record d { delays = delays })
      delay_new delays h t u p =
          delay_from f x ts (Some ws) e k ∙ delay_at (x, length ts) ws false false false (sym h) (sym t) (sym u) ∙ (λ j. accept (record d { delays = sym p j }))

-- ---- the words of directives

abbrev pub chosen : Declared → Form → Bool → Bool → Bool → Declares
chosen d f p q r = if p then constant_argument d f else (if q then sorts_argument false d f else (if r then sorts_argument true d f else refuse BadDirective d))

-- which directive a word names
pub argument_is : (d : Declared) (f : Form) (w a b c : Text) (p q r : Bool) → p ≡ bytes_eq w a → a ≡ codes "constants" → q ≡ bytes_eq w b → b ≡ codes "sorts" → r ≡ bytes_eq w c → c ≡ codes "demon" →
    argument w d f ≡ chosen d f p q r
argument_is d f w a b c p q r h i j k l m =
    λ t. chosen d f (sym (h ∙ ap (bytes_eq w) i) t) (sym (j ∙ ap (bytes_eq w) k) t) (sym (l ∙ ap (bytes_eq w) m) t)

-- declarations by their parts
abbrev pub declared_of : List Text → List (Sign × List Sort) → List Sign → List (Sign × List When) → Declared
declared_of cs ss ds ws = record { constants = cs; sorts = ss; demons = ds; delays = ws }
