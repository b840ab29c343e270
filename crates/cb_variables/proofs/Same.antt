-- Variables are the same exactly where their names are.
use Rattle.std.proofs.Common.{◌≡◌, ℕ, suc, ◌+◌, ◌<◌, ◌^◌, Bool, true, false, cond, not, ◌&&◌, ◌||◌, List, [], ◌∷◌, ◌++◌, map, length, Some, None, position, nat_lt, nat_eq, refl, sym, ◌∙◌, ap, arith, Bor, bytes_eq, decimal, Decides, subst, length-append}
use Rattle.std.specs.Bool.{if◌then◌else◌}
use Rattle.std.specs.List.{list_any, list_all, position_or_len}
use Rattle.std.proofs.lemmas.Bool.{and_parts, or_parts, both_ways, ltb-true, lt-ltb, cond-true, false≢true}
use Rattle.std.proofs.lemmas.Bool.Decides.{Decides-eqb}
use Rattle.std.proofs.lemmas.Fmt.{decimal_injective}
use Rattle.std.proofs.lemmas.Slice.Eq.{bytes_eq-Decides}
use Rattle.cb_names.proofs.Seen.{position_seen, added_seen}
use Rattle.cb_model.specs.Text.{Text, is_variable, is_word, is_capital}
use Rattle.cb_model.specs.Sorts.{own_name}
use Rattle.cb_model.specs.Loading.{add_name}
use Rattle.cb_variables.specs.declared.Variable.{Variable}
use Rattle.cb_variables.specs.declared.Variable.TheVariants as variable
use Rattle.cb_variables.specs.Names.{variable_name, is_proper}

-- ---- two tests that agree where a third one passes

module _ {X : Type 0} (t u q : X → Bool) (same : (x : X) → q x ≡ true → t x ≡ u x) where
  pub prefix_agree : (xs : List X) → list_all q xs ≡ true → position_or_len t xs ≡ position_or_len u xs
  prefix_agree [] h = refl
  prefix_agree (x ∷ xs) h =
      let p = and_parts (q x) (list_all q xs) h in
      let e = same x p.0 in
      let r = prefix_agree xs p.1 in
      λ i. cond (not (e i)) (1 + r i) 0

  pub position_agree : (xs : List X) → list_all q xs ≡ true → position t xs ≡ position u xs
  position_agree xs h = ap (λ n. cond (nat_lt n (length xs)) (Some n) None) (prefix_agree xs h)

  pub any_agree : (xs : List X) → list_all q xs ≡ true → list_any t xs ≡ list_any u xs
  any_agree [] h = refl
  any_agree (x ∷ xs) h =
      let p = and_parts (q x) (list_all q xs) h in
      let e = same x p.0 in
      let r = any_agree xs p.1 in
      λ i. e i || r i

-- ---- the place of what was put at the end

module _ {X : Type 0} (t : X → Bool) where
  any_within : (xs : List X) → list_any t xs ≡ true → position_or_len t xs < length xs
  any_within [] h = absurd (cc)
  any_within (x ∷ xs) h = step (t x) h (any_within xs)
    where
      step : (b : Bool) → (b || list_any t xs) ≡ true → (list_any t xs ≡ true → position_or_len t xs < length xs) → cond (not b) (1 + position_or_len t xs) 0 < suc (length xs)
      step true h r = omega arith
      step false h r = let k = r h in omega arith

  none_len : (xs : List X) → list_any t xs ≡ false → position_or_len t xs ≡ length xs
  none_len [] h = refl
  none_len (x ∷ xs) h =
      let p = or_parts (t x) (list_any t xs) h in
      let r = none_len xs p.1 in
      rw p.0 (omega arith)

  push_len : (v : X) → t v ≡ true → (xs : List X) → list_any t xs ≡ false → position_or_len t (xs ++ v ∷ []) ≡ length xs
  push_len v k [] h = rw k refl
  push_len v k (x ∷ xs) h =
      let p = or_parts (t x) (list_any t xs) h in
      let r = push_len v k xs p.1 in
      rw p.0 (omega arith)

  at_place : (xs : List X) (n : ℕ) → position_or_len t xs ≡ n → n < length xs → position t xs ≡ Some n
  at_place xs n e h = rw e (cond-true (nat_lt n (length xs)) (Some n) None (lt-ltb n (length xs) h))

  pub position_added : (v : X) → t v ≡ true → (xs : List X) → position t (if list_any t xs then xs else (xs ++ v ∷ [])) ≡ Some (position_or_len t xs)
  position_added v k xs = step (list_any t xs) refl
    where
      step : (b : Bool) → list_any t xs ≡ b → position t (if b then xs else (xs ++ v ∷ [])) ≡ Some (position_or_len t xs)
      step true e = at_place xs (position_or_len t xs) refl (any_within xs e)
      step false e =
          let n = none_len xs e in
          at_place (xs ++ v ∷ []) (position_or_len t xs) (push_len v k xs e ∙ sym n) (omega (arith, length-append xs (v ∷ []), n))

-- ---- names

-- no name of a text is that of a `_`
word_zero : (x : ℕ) → is_word x ≡ true → x ≡ 0 → ⊥
word_zero x h e = both_ways (is_word 0) refl (subst (λ n. is_word n ≡ true) e h)

pub named_own : (x : Text) (k : ℕ) → is_variable x ≡ true → x ≡ own_name k → ⊥
named_own [] k h e = absurd (cc)
named_own (x ∷ []) k h e = absurd (cc)
named_own (x ∷ y ∷ xs) k h e =
    let z : y ≡ 0 = cc in
    let p = and_parts (is_capital x) (is_word y && list_all is_word xs) h in
    let q = and_parts (is_word y) (list_all is_word xs) p.1 in
    word_zero y q.0 z

own_same : (j k : ℕ) → nat_lt j (2 ^ 64) ≡ true → nat_lt k (2 ^ 64) ≡ true → own_name j ≡ own_name k → j ≡ k
own_same j k a b e =
    let d : decimal j ≡ decimal k = cc in
    decimal_injective j k (ltb-true j (2 ^ 64) a) (ltb-true k (2 ^ 64) b) d

not_same : (xs ys : Text) → (xs ≡ ys → ⊥) → false ≡ bytes_eq xs ys
not_same xs ys n = step (bytes_eq xs ys) (bytes_eq-Decides xs ys)
  where
    step : (b : Bool) → Decides b (xs ≡ ys) → false ≡ b
    step true d = absurd (n (d.0 refl))
    step false d = refl

pub named_named : (x : Bor Text) (y : Bor Text) → bytes_eq x.now y.now ≡ bytes_eq (variable_name (variable.Named x)) (variable_name (variable.Named y))
named_named x y = refl

pub named_is_own : (x : Bor Text) (k : ℕ) → is_variable x.now ≡ true → false ≡ bytes_eq x.now (own_name k)
named_is_own x k h = not_same x.now (own_name k) (named_own x.now k h)

pub own_is_named : (x : Bor Text) (k : ℕ) → is_variable x.now ≡ true → false ≡ bytes_eq (own_name k) x.now
own_is_named x k h = not_same (own_name k) x.now (λ e. named_own x.now k h (sym e))

own_own : (j k : ℕ) → nat_lt j (2 ^ 64) ≡ true → nat_lt k (2 ^ 64) ≡ true → nat_eq j k ≡ bytes_eq (own_name j) (own_name k)
own_own j k a b = step (nat_eq j k) (Decides-eqb j k)
  where
    step : (r : Bool) → Decides r (j ≡ k) → r ≡ bytes_eq (own_name j) (own_name k)
    step true d = sym ((bytes_eq-Decides (own_name j) (own_name k)).1 (ap own_name (d.0 refl)))
    step false d = not_same (own_name j) (own_name k) (λ e. absurd (false≢true (d.1 (own_same j k a b e))))

-- ---- the variables, seen as their names

module _ (E : Variable → Variable → Bool) where
  -- a test of variables that compares names of one kind alone
  pub record IsSame : Type 0 where
    pub named : (x y : Bor Text) → E (variable.Named x) (variable.Named y) ≡ bytes_eq x.now y.now
    pub mixed : (x : Bor Text) (k : ℕ) → E (variable.Named x) (variable.Own k) ≡ false
    pub other : (x : Bor Text) (k : ℕ) → E (variable.Own k) (variable.Named x) ≡ false
    pub own : (j k : ℕ) → E (variable.Own j) (variable.Own k) ≡ nat_eq j k

  module _ (is : IsSame) where
    same_names : (v k : Variable) → is_proper v ≡ true → is_proper k ≡ true → E v k ≡ bytes_eq (variable_name v) (variable_name k)
    same_names (variable.Named x) (variable.Named y) a b = is.named x y
    same_names (variable.Named x) (variable.Own k) a b = is.mixed x k ∙ named_is_own x k a
    same_names (variable.Own k) (variable.Named x) a b = is.other x k ∙ own_is_named x k b
    same_names (variable.Own j) (variable.Own k) a b = is.own j k ∙ own_own j k a b

    module _ (v : Variable) (proper : is_proper v ≡ true) (ks : List Variable) (all : list_all is_proper ks ≡ true) where
      test : Variable → Bool
      test k = bytes_eq (variable_name v) (variable_name k)

      pub number_same : (ys : List Text) → map variable_name ks ≡ ys → position (E v) ks ≡ position (bytes_eq (variable_name v)) ys
      unfolding test
      number_same ys e = position_agree (E v) test is_proper (λ k h. same_names v k proper h) ks all ∙ position_seen (bytes_eq (variable_name v)) variable_name ks ys e

      unfold_keys : (more : List Variable) → more ≡ (if list_any (E v) ks then ks else (ks ++ v ∷ [])) → more ≡ (if list_any test ks then ks else (ks ++ v ∷ []))
      unfolding test
      unfold_keys more m = m ∙ ap (λ (b : Bool). if b then ks else (ks ++ v ∷ [])) (any_agree (E v) test is_proper (λ k h. same_names v k proper h) ks all)

      pub added_same : (ys : List Text) (more : List Variable) → map variable_name ks ≡ ys → more ≡ (if list_any (E v) ks then ks else (ks ++ v ∷ [])) →
          map variable_name more ≡ add_name ys (variable_name v)
      unfolding test
      added_same ys more e m = added_seen (bytes_eq (variable_name v)) variable_name v ks more ys e (unfold_keys more m)

      pub added_number : (more : List Variable) (n : ℕ) → more ≡ (if list_any (E v) ks then ks else (ks ++ v ∷ [])) → n ≡ position_or_len (E v) ks →
          position (bytes_eq (variable_name v)) (map variable_name more) ≡ Some n
      unfolding test
      added_number more n m k =
          sym (position_seen (bytes_eq (variable_name v)) variable_name more (map variable_name more) refl)
          ∙ ap (position test) (unfold_keys more m)
          ∙ position_added test v ((bytes_eq-Decides (variable_name v) (variable_name v)).1 refl) ks
          ∙ ap Some (sym (k ∙ prefix_agree (E v) test is_proper (λ k h. same_names v k proper h) ks all))
