-- The names of written terms, and whether something gives them.
use Rattle.std.proofs.Common.{◌≡◌, ℕ, zero, suc, ◌+◌, ◌<◌, ◌≤◌, Bool, true, false, not, ◌||◌, List, [], ◌∷◌, map, drop, length, get_or, Option, Some, None, slice_get, refl, sym, ◌∙◌, ap, arith, add-one, drop-cons, Bor}
use Rattle.std.specs.Prelude.{MatchOption}
use Rattle.std.specs.Bool.{if◌then◌else◌}
use Rattle.std.specs.List.{list_any}
use Rattle.std.specs.Option.{option_map}
use Rattle.cb_model.specs.Text.{Text}
use Rattle.cb_model.specs.declared.RawTerm.{RawTerm}
use Rattle.cb_model.specs.declared.RawGoal.{RawGoal}
use Rattle.cb_model.specs.Grammar.{Form, Forms, Variable, Integer, Name, Closed, Open, Not, And, Xor, Or, Last, More, FormGoal}
use Rattle.cb_model.specs.Forms.{form_of, forms_of, goal_form}
use Rattle.cb_model.specs.Directives.{Sign, same_sign, has_sign, count_of, looked_up, Declared}
use Rattle.cb_model.specs.Loading.{sign_is, module_sign, spec_sign, first_atom, names_module, plain_goals, is_unknown, goal_unknown}
use Rattle.cb_model.specs.Sorts.{circuit_sign}
use Rattle.cb_directives.proofs.Reading.{count_forms, drop_past}
use Rattle.cb_directives.specs.Refusals.{is_atom}

pub sign_named : (a : Sign) (f : Form) (x : Text) (ts : List RawTerm) → f ≡ Name x (forms_of (map form_of ts)) → same_sign a (x, length ts) ≡ sign_is a f
sign_named a f x ts e = sym (ap (sign_is a) e ∙ ap (λ n. same_sign a (x, n)) (count_forms ts))

-- ---- the first argument

no_atom : (f : Form) (fs : Forms) → is_atom f ≡ false → None ≡ first_atom (Name [] (More f fs))
no_atom (Variable x) fs h = refl
no_atom (Integer z) fs h = refl
no_atom (Name x Last) fs h = absurd (cc)
no_atom (Name x (More g gs)) fs h = refl
no_atom (Closed gs) fs h = refl
no_atom (Open gs g) fs h = refl
no_atom (Not g) fs h = refl
no_atom (And gs) fs h = refl
no_atom (Xor gs) fs h = refl
no_atom (Or gs) fs h = refl

abbrev Found : Option (Bor Text) → Form → Type 0
Found r f = MatchOption r (is_atom f ≡ false) (λ x. f ≡ Name x.now Last)

found_first : (r : Option (Bor Text)) (f : Form) (fs : Forms) → Found r f → option_map (λ x. x.now) r ≡ first_atom (Name [] (More f fs))
found_first None f fs h = no_atom f fs h
found_first (Some x) f fs h = sym (ap (λ (g : Form). first_atom (Name [] (More g fs))) h)

pub first_some : (ts : List RawTerm) (t : RawTerm) (r : Option (Bor Text)) → Some t ≡ slice_get ts 0 → Found r (form_of t) →
    option_map (λ x. x.now) r ≡ first_atom (Name [] (forms_of (map form_of ts)))
first_some [] t r e h = absurd (cc)
first_some (u ∷ us) t r e h =
    let same : t ≡ u = cc in
    found_first r (form_of t) (forms_of (map form_of us)) h ∙ ap (λ (v : RawTerm). first_atom (Name [] (More (form_of v) (forms_of (map form_of us))))) same

pub first_none : (ts : List RawTerm) → None ≡ slice_get ts 0 → None ≡ first_atom (Name [] (forms_of (map form_of ts)))
first_none [] e = refl
first_none (u ∷ us) e = absurd (cc)

-- ---- declared sorts

module _ {A : Type 0} where
  has_found : (es : List (Sign × A)) (a : Sign) (x : A) → Some x ≡ looked_up es a → true ≡ has_sign (map (λ e. e.0) es) a
  has_found [] a x h = absurd (cc)
  has_found (e ∷ es) a x h = step (same_sign a e.0) (has_found es a x) h
    where
      step : (b : Bool) → (Some x ≡ looked_up es a → true ≡ has_sign (map (λ e. e.0) es) a) → Some x ≡ (if b then Some e.1 else looked_up es a) → true ≡ (b || has_sign (map (λ e. e.0) es) a)
      step true k g = refl
      step false k g = k g

  has_none : (es : List (Sign × A)) (a : Sign) → None ≡ looked_up es a → false ≡ has_sign (map (λ e. e.0) es) a
  has_none [] a h = refl
  has_none (e ∷ es) a h = step (same_sign a e.0) (has_none es a) h
    where
      step : (b : Bool) → (None ≡ looked_up es a → false ≡ has_sign (map (λ e. e.0) es) a) → None ≡ (if b then Some e.1 else looked_up es a) → false ≡ (b || has_sign (map (λ e. e.0) es) a)
      step true k g = absurd (cc)
      step false k g = k g

  pub sorts_found : (es : List (Sign × A)) (a : Sign) (x : Bor A) → option_map (λ s. s.now) (Some x) ≡ looked_up es a → true ≡ has_sign (map (λ e. e.0) es) a
  sorts_found es a x h = has_found es a x.now h

  pub sorts_none : (es : List (Sign × A)) (a : Sign) → option_map {T = Bor A} (λ s. s.now) None ≡ looked_up es a → false ≡ has_sign (map (λ e. e.0) es) a
  sorts_none es a h = has_none es a h

-- ---- unknown names

abbrev choice : (circuit lacks module' spec given : Bool) → Bool
choice circuit lacks module' spec given = if circuit then lacks else (module' || spec || not given)

module _ (d : Declared) (hs : List Sign) (ms : List (Option Text)) (f : Form) (x : Text) (ts : List RawTerm) (e : f ≡ Name x (forms_of (map form_of ts))) where
  abbrev Given : ℕ → Bool
  Given n = has_sign plain_goals (x, n) || has_sign hs (x, n) || has_sign (map (λ e. e.0) d.sorts) (x, n)

  abbrev Lacks : Bool
  Lacks = not (names_module ms (first_atom (Name [] (forms_of (map form_of ts)))))

  unfolded : is_unknown d hs ms f ≡ choice (same_sign (x, length ts) circuit_sign) Lacks (same_sign (x, length ts) module_sign) (same_sign (x, length ts) spec_sign) (Given (length ts))
  unfolded =
      ap (is_unknown d hs ms) e
      ∙ ap (λ n. choice (same_sign (x, n) circuit_sign) Lacks (same_sign (x, n) module_sign) (same_sign (x, n) spec_sign) (Given n)) (count_forms ts)

  as_choice : (c m s : Bool) → c ≡ same_sign (x, length ts) circuit_sign → m ≡ same_sign (x, length ts) module_sign → s ≡ same_sign (x, length ts) spec_sign →
      choice c Lacks m s (Given (length ts)) ≡ is_unknown d hs ms f
  as_choice c m s p q r = (λ i. choice (p i) Lacks (q i) (r i) (Given (length ts))) ∙ sym unfolded

  pub circuit_unknown : (r : Bool) → true ≡ same_sign (x, length ts) circuit_sign → r ≡ Lacks → r ≡ is_unknown d hs ms f
  circuit_unknown r c h = h ∙ as_choice true (same_sign (x, length ts) module_sign) (same_sign (x, length ts) spec_sign) c refl refl

  pub fact_unknown : false ≡ same_sign (x, length ts) circuit_sign → true ≡ (same_sign (x, length ts) module_sign || same_sign (x, length ts) spec_sign) → true ≡ is_unknown d hs ms f
  fact_unknown c h =
      step (same_sign (x, length ts) module_sign) (same_sign (x, length ts) spec_sign) (Given (length ts)) h
      ∙ as_choice false (same_sign (x, length ts) module_sign) (same_sign (x, length ts) spec_sign) c refl refl
    where
      step : (m s g : Bool) → true ≡ (m || s) → true ≡ (m || s || not g)
      step true s g k = refl
      step false true g k = refl
      step false false g k = absurd (cc)

  pub other_unknown : (g : Bool) → false ≡ same_sign (x, length ts) circuit_sign → false ≡ (same_sign (x, length ts) module_sign || same_sign (x, length ts) spec_sign) →
      g ≡ Given (length ts) → not g ≡ is_unknown d hs ms f
  other_unknown g c h k =
      ap not k ∙ step (same_sign (x, length ts) module_sign) (same_sign (x, length ts) spec_sign) (Given (length ts)) h
      ∙ as_choice false (same_sign (x, length ts) module_sign) (same_sign (x, length ts) spec_sign) c refl refl
    where
      step : (m s g : Bool) → false ≡ (m || s) → not g ≡ (m || s || not g)
      step true s g k = absurd (cc)
      step false true g k = absurd (cc)
      step false false g k = refl

-- ---- goals

module _ (q : FormGoal → Bool) (gs : List RawGoal) (i : ℕ) (g : RawGoal) (h : i < length gs) (at : g ≡ get_or gs i g) where
  opened : list_any q (map goal_form (drop i gs)) ≡ (q (goal_form g) || list_any q (map goal_form (drop (suc i) gs)))
  opened =
      ap (λ (l : List RawGoal). list_any q (map goal_form l)) (drop-cons gs i g h)
      ∙ ap (λ (u : RawGoal). q (goal_form u) || list_any q (map goal_form (drop (suc i) gs))) (sym at)

  pub goals_stop : list_any q (map goal_form gs) ≡ list_any q (map goal_form (drop i gs)) → true ≡ q (goal_form g) → true ≡ list_any q (map goal_form gs)
  goals_stop so is = sym (so ∙ opened ∙ ap (λ (b : Bool). b || list_any q (map goal_form (drop (suc i) gs))) (sym is))

  pub goals_on : list_any q (map goal_form gs) ≡ list_any q (map goal_form (drop i gs)) → false ≡ q (goal_form g) →
      list_any q (map goal_form gs) ≡ list_any q (map goal_form (drop (i + 1) gs))
  goals_on so is =
      so ∙ opened ∙ ap (λ (b : Bool). b || list_any q (map goal_form (drop (suc i) gs))) (sym is)
      ∙ ap (λ n. list_any q (map goal_form (drop n gs))) (sym (add-one i))

pub goals_end : (q : FormGoal → Bool) (gs : List RawGoal) (i : ℕ) → length gs ≤ i → list_any q (map goal_form gs) ≡ list_any q (map goal_form (drop i gs)) → false ≡ list_any q (map goal_form gs)
goals_end q gs i h so = sym (so ∙ ap (λ (l : List RawGoal). list_any q (map goal_form l)) (drop_past gs i h))
