-- The modules of a file, one fact after another.
use Rattle.std.proofs.Common.{◌≡◌, ℕ, zero, suc, ◌+◌, ◌<◌, ◌≤◌, Bool, true, false, cond, not, ◌||◌, ◌&&◌, List, [], ◌∷◌, ◌++◌, map, drop, length, get_or, Option, Some, None, bytes_eq, position, refl, sym, ◌∙◌, ap, arith, add-one, drop-cons, Bor}
use Rattle.std.specs.Bool.{if◌then◌else◌}
use Rattle.std.specs.List.{list_any}
use Rattle.std.specs.Option.{option_map}
use Rattle.std.proofs.lemmas.Bool.Decides.{nat_tests}
use Rattle.std.proofs.lemmas.Slice.Eq.{bytes_eq-Decides}
use Rattle.cb_model.specs.Text.{Text}
use Rattle.cb_model.specs.declared.RawTerm.{RawTerm}
use Rattle.cb_model.specs.declared.RawClause.{RawClause}
use Rattle.cb_model.specs.Grammar.{Form, Forms, Variable, Integer, Name, Closed, Open, Not, And, Xor, Or, Last, More, FormGoal, FormClause, Directive, Rule}
use Rattle.cb_model.specs.Forms.{form_of, forms_of, clause_form}
use Rattle.cb_model.specs.Directives.{Sign, same_sign, has_sign, count_of, looked_up}
use Rattle.cb_model.specs.Loading.{sign_is, module_sign, first_atom, module_names, module_number, names_it, names_module}
use Rattle.cb_directives.proofs.Reading.{drop_past}
use Rattle.cb_known.specs.Modules.{number_of, AreNumbers, Names, with_module}

-- ---- a place in a list

abbrev behind : Option ℕ → Option ℕ
behind None = None
behind (Some k) = Some (1 + k)

-- a number, or the place behind some others
abbrev pub or_from : Option ℕ → ℕ → Option ℕ → Option ℕ
or_from (Some k) n r = Some k
or_from None n None = None
or_from None n (Some k) = Some (n + k)

module _ {X : Type 0} (p : X → Bool) where
  position-cons : (x : X) (xs : List X) → position p (x ∷ xs) ≡ cond (p x) (Some 0) (behind (position p xs))
  position-cons x xs = grind (arith, nat_tests)

  any_position : (xs : List X) (r : Option ℕ) → position p xs ≡ r → list_any p xs ≡ elim r as (λ _. Bool) [ None ↦ false | Some k ↦ true ]
  any_position [] r e = ap (λ (o : Option ℕ). elim o as (λ _. Bool) [ None ↦ false | Some k ↦ true ]) e
  any_position (x ∷ xs) r e =
      step (p x) (position p xs) (any_position xs (position p xs) refl) ∙ ap (λ (o : Option ℕ). elim o as (λ _. Bool) [ None ↦ false | Some k ↦ true ]) (sym (position-cons x xs) ∙ e)
    where
      step : (b : Bool) (o : Option ℕ) → list_any p xs ≡ elim o as (λ _. Bool) [ None ↦ false | Some k ↦ true ] →
          (b || list_any p xs) ≡ elim (cond b (Some 0) (behind o)) as (λ _. Bool) [ None ↦ false | Some k ↦ true ]
      step true o h = refl
      step false None h = h
      step false (Some k) h = h

pub module_found : (ms : List (Option Text)) (es : List (Sign × ℕ)) (x : Text) (y : Option Text) (k : ℕ) → AreNumbers ms es → Some x ≡ y → Some k ≡ number_of es x → false ≡ not (names_module ms y)
module_found ms es x y k same e h =
    ap not (sym (any_position (names_it x) ms (Some k) (sym (same x) ∙ sym h))) ∙ ap (λ (o : Option Text). not (names_module ms o)) e

pub module_lacks : (ms : List (Option Text)) (es : List (Sign × ℕ)) (x : Text) (y : Option Text) → AreNumbers ms es → Some x ≡ y → None ≡ number_of es x → true ≡ not (names_module ms y)
module_lacks ms es x y same e h =
    ap not (sym (any_position (names_it x) ms None (sym (same x) ∙ sym h))) ∙ ap (λ (o : Option Text). not (names_module ms o)) e

pub no_module : (ms : List (Option Text)) (y : Option Text) → None ≡ y → true ≡ not (names_module ms y)
no_module ms y e = ap (λ (o : Option Text). not (names_module ms o)) e

-- ---- one fact more

-- a table has a name, or gives nothing for it
none_here : (es : List (Sign × ℕ)) (a : Sign) → looked_up es a ≡ None → has_sign (map (λ e. e.0) es) a ≡ false
none_here [] a k = refl
none_here (e ∷ es) a k = go (same_sign a e.0) (none_here es a) k
  where
    go : (b : Bool) → (looked_up es a ≡ None → has_sign (map (λ e. e.0) es) a ≡ false) → (if b then Some e.1 else looked_up es a) ≡ None → (b || has_sign (map (λ e. e.0) es) a) ≡ false
    go true h j = absurd (cc)
    go false h j = h j

looked_some : (es : List (Sign × ℕ)) (a : Sign) → has_sign (map (λ e. e.0) es) a ≡ true → (n : ℕ) (r : Option ℕ) → or_from (looked_up es a) n r ≡ looked_up es a
looked_some es a h n r = step (looked_up es a) refl
  where
    step : (o : Option ℕ) → looked_up es a ≡ o → or_from o n r ≡ o
    step (Some k) e = refl
    step None e = let no : has_sign (map (λ e. e.0) es) a ≡ false = none_here es a e in absurd (cc)

looked_append : (es : List (Sign × ℕ)) (b : Sign) (n : ℕ) (a : Sign) → looked_up (es ++ (b, n) ∷ []) a ≡ or_from (looked_up es a) n (if same_sign a b then Some 0 else None)
looked_append [] b n a = step (same_sign a b)
  where
    step : (c : Bool) → (if c then Some n else None) ≡ or_from None n (if c then Some 0 else None)
    step true = let z : n ≡ n + 0 = omega arith in ap Some z
    step false = refl
looked_append (e ∷ es) b n a = step (same_sign a e.0) (looked_append es b n a)
  where
    step : (c : Bool) → looked_up (es ++ (b, n) ∷ []) a ≡ or_from (looked_up es a) n (if same_sign a b then Some 0 else None) →
        (if c then Some e.1 else looked_up (es ++ (b, n) ∷ []) a) ≡ or_from (if c then Some e.1 else looked_up es a) n (if same_sign a b then Some 0 else None)
    step true h = refl
    step false h = h

-- one name more behind those of a table
pub numbers_on : (es : List (Sign × ℕ)) (o : Option Text) (n : ℕ) (ms : List (Option Text)) (x : Text) →
    or_from (number_of es x) n (position (names_it x) (o ∷ ms)) ≡ or_from (number_of (with_module es o n) x) (n + 1) (position (names_it x) ms)
numbers_on es o n ms x = ap (or_from (number_of es x) n) (position-cons (names_it x) o ms) ∙ named o
  where
    later : (s r : Option ℕ) → or_from s n (behind r) ≡ or_from s (n + 1) r
    later (Some k) r = refl
    later None None = refl
    later None (Some k) = let e : n + (1 + k) ≡ (n + 1) + k = omega arith in ap Some e

    twice : (s r : Option ℕ) (b : Bool) → or_from s n (cond b (Some 0) (behind r)) ≡ or_from (or_from s n (if b then Some 0 else None)) (n + 1) r
    twice (Some k) r b = refl
    twice None r true = refl
    twice None None false = refl
    twice None (Some k) false = let e : n + (1 + k) ≡ (n + 1) + k = omega arith in ap Some e

    same_name : (y : Text) → same_sign (x, 0) (y, 0) ≡ names_it x (Some y)
    same_name y = step (bytes_eq x y)
      where
        step : (b : Bool) → (b && true) ≡ b
        step true = refl
        step false = refl

    found_same : (y : Text) → names_it x (Some y) ≡ true → has_sign (map (λ e. e.0) es) (y, 0) ≡ has_sign (map (λ e. e.0) es) (x, 0)
    found_same y h = let same : x ≡ y = (bytes_eq-Decides x y).0 h in ap (λ (z : Text). has_sign (map (λ e. e.0) es) (z, 0)) (sym same)

    -- the name is there: no other place counts
    known : (y : Text) (b : Bool) (r : Option ℕ) → names_it x (Some y) ≡ b → has_sign (map (λ e. e.0) es) (y, 0) ≡ true →
        or_from (number_of es x) n (cond b (Some 0) (behind r)) ≡ or_from (number_of es x) (n + 1) r
    known y false r e h = later (number_of es x) r
    known y true r e h =
        let there : has_sign (map (λ e. e.0) es) (x, 0) ≡ true = sym (found_same y e) ∙ h in
        looked_some es (x, 0) there n (Some 0) ∙ sym (looked_some es (x, 0) there (n + 1) r)

    one_name : (y : Text) (h : Bool) → has_sign (map (λ e. e.0) es) (y, 0) ≡ h →
        or_from (number_of es x) n (cond (names_it x (Some y)) (Some 0) (behind (position (names_it x) ms)))
        ≡ or_from (number_of (if h then es else (es ++ ((y, 0), n) ∷ [])) x) (n + 1) (position (names_it x) ms)
    one_name y true h = known y (names_it x (Some y)) (position (names_it x) ms) refl h
    one_name y false h =
        twice (number_of es x) (position (names_it x) ms) (names_it x (Some y))
        ∙ ap (λ (b : Bool). or_from (or_from (number_of es x) n (if b then Some 0 else None)) (n + 1) (position (names_it x) ms)) (sym (same_name y))
        ∙ ap (λ (o : Option ℕ). or_from o (n + 1) (position (names_it x) ms)) (sym (looked_append es (y, 0) n (x, 0)))

    named : (o : Option Text) → or_from (number_of es x) n (cond (names_it x o) (Some 0) (behind (position (names_it x) ms))) ≡ or_from (number_of (with_module es o n) x) (n + 1) (position (names_it x) ms)
    named None = later (number_of es x) (position (names_it x) ms)
    named (Some y) = one_name y (has_sign (map (λ e. e.0) es) (y, 0)) refl

-- ---- one clause more

names_cons : (c : FormClause) (cs : List FormClause) → module_names (c ∷ cs) ≡ module_names (c ∷ []) ++ module_names cs
names_cons (Directive n x fs) cs = refl
names_cons (Rule n f b gs) cs = step (sign_is module_sign f)
  where
    step : (q : Bool) → (if q then (first_atom f ∷ module_names cs) else module_names cs) ≡ (if q then (first_atom f ∷ []) else []) ++ module_names cs
    step true = refl
    step false = refl

-- the numbers of the modules so far, with those that are left
abbrev pub NumbersSoFar : List RawClause → List (Sign × ℕ) → ℕ → ℕ → Type 0
NumbersSoFar cs es n i = (x : Text) → module_number (module_names (map clause_form cs)) x ≡ or_from (number_of es x) n (module_number (module_names (map clause_form (drop i cs))) x)

module _ (cs : List RawClause) where
  opened : (i : ℕ) (c : RawClause) → i < length cs → c ≡ get_or cs i c → module_names (map clause_form (drop i cs)) ≡ module_names (clause_form c ∷ []) ++ module_names (map clause_form (drop (i + 1) cs))
  opened i c h at =
      ap (λ (l : List RawClause). module_names (map clause_form l)) (drop-cons cs i c h)
      ∙ ap (λ (u : RawClause). module_names (clause_form u ∷ map clause_form (drop (suc i) cs))) (sym at)
      ∙ names_cons (clause_form c) (map clause_form (drop (suc i) cs))
      ∙ ap (λ n. module_names (clause_form c ∷ []) ++ module_names (map clause_form (drop n cs))) (sym (add-one i))

  pub numbers_init : (es : List (Sign × ℕ)) → es ≡ [] → NumbersSoFar cs es 0 0
  numbers_init es e x = none (module_number (module_names (map clause_form cs)) x) ∙ ap (λ (l : List (Sign × ℕ)). or_from (number_of l x) 0 (module_number (module_names (map clause_form cs)) x)) (sym e)
    where
      none : (r : Option ℕ) → r ≡ or_from None 0 r
      none None = refl
      none (Some k) = let z : k ≡ 0 + k = omega arith in ap Some z

  pub numbers_skip : (es : List (Sign × ℕ)) (n i : ℕ) (c : RawClause) → i < length cs → c ≡ get_or cs i c → Names None (module_names (clause_form c ∷ [])) → NumbersSoFar cs es n i → NumbersSoFar cs es n (i + 1)
  numbers_skip es n i c h at none so x =
      so x ∙ ap (λ (l : List (Option Text)). or_from (number_of es x) n (module_number l x)) (opened i c h at)
      ∙ ap (λ (l : List (Option Text)). or_from (number_of es x) n (module_number (l ++ module_names (map clause_form (drop (i + 1) cs))) x)) none

  pub numbers_more : (es new : List (Sign × ℕ)) (n i : ℕ) (c : RawClause) (o : Option (Bor Text)) → i < length cs → c ≡ get_or cs i c → Names (Some o) (module_names (clause_form c ∷ [])) →
      NumbersSoFar cs es n i → new ≡ with_module es (option_map (λ x. x.now) o) n → NumbersSoFar cs new (n + 1) (i + 1)
  numbers_more es new n i c o h at is so e x =
      so x ∙ ap (λ (l : List (Option Text)). or_from (number_of es x) n (module_number l x)) (opened i c h at)
      ∙ ap (λ (l : List (Option Text)). or_from (number_of es x) n (module_number (l ++ module_names (map clause_form (drop (i + 1) cs))) x)) is
      ∙ numbers_on es (option_map (λ b. b.now) o) n (module_names (map clause_form (drop (i + 1) cs))) x
      ∙ ap (λ (l : List (Sign × ℕ)). or_from (number_of l x) (n + 1) (module_number (module_names (map clause_form (drop (i + 1) cs))) x)) (sym e)

  pub numbers_end : (es : List (Sign × ℕ)) (n i : ℕ) → length cs ≤ i → NumbersSoFar cs es n i → AreNumbers (module_names (map clause_form cs)) es
  numbers_end es n i h so x = sym (so x ∙ ap (λ (l : List RawClause). or_from (number_of es x) n (module_number (module_names (map clause_form l)) x)) (drop_past cs i h) ∙ none (number_of es x))
    where
      none : (r : Option ℕ) → or_from r n None ≡ r
      none None = refl
      none (Some k) = refl
