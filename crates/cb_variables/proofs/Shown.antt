-- Names as they stand in the text.
use Rattle.std.proofs.Common.{◌≡◌, ℕ, zero, suc, Bool, true, false, ◌&&◌, List, [], ◌∷◌, map, take, get_or, Some, slice_get, bytes_eq, codes, refl, sym, ◌∙◌, ap, arith}
use Rattle.std.specs.Bool.{if◌then◌else◌}
use Rattle.std.specs.List.{list_all}
use Rattle.std.proofs.lemmas.Bool.{true≢false}
use Rattle.std.proofs.lemmas.Option.{same_Some}
use Rattle.std.proofs.lemmas.Slice.Eq.{bytes_eq-Decides}
use Rattle.cb_model.specs.Text.{Text, is_variable, is_capital, is_word, shown_name}
use Rattle.cb_model.specs.Sorts.{own_name}
use Rattle.cb_variables.specs.declared.Variable.{Variable}
use Rattle.cb_variables.specs.Names.{variable_name, is_proper}

both-parts : (a b : Bool) → (a && b) ≡ true → (a ≡ true) × (b ≡ true)
both-parts true b h = (refl, h)
both-parts false b h = absurd (true≢false (sym h))

second : (xs : Text) → ℕ
second [] = 1
second (a ∷ []) = 1
second (a ∷ b ∷ xs) = b

-- the second byte of a name that the text can have is not 0
second-word : (x : Text) → is_variable x ≡ true → second x ≡ 0 → ⊥
unfolding second
second-word [] v e = true≢false (sym v)
second-word (a ∷ []) v e = omega (arith, e)
second-word (a ∷ b ∷ xs) v e =
    let p = both-parts (is_capital a) (is_word b && list_all is_word xs) v in
    let q = both-parts (is_word b) (list_all is_word xs) p.1 in
    true≢false (sym q.0 ∙ ap is_word e)

front-second : (x : Text) → take 2 x ≡ 95 ∷ 0 ∷ [] → second x ≡ 0
unfolding second
front-second [] e = absurd (cc)
front-second (a ∷ []) e = absurd (cc)
front-second (a ∷ b ∷ xs) e = cc

pub shown-written : (x : Text) → is_variable x ≡ true → x ≡ shown_name x
shown-written x v = step (bytes_eq (take 2 x) (95 ∷ 0 ∷ [])) refl
  where
    step : (b : Bool) → bytes_eq (take 2 x) (95 ∷ 0 ∷ []) ≡ b → x ≡ (if b then codes "_" else x)
    step true e = absurd (second-word x v (front-second x ((bytes_eq-Decides (take 2 x) (95 ∷ 0 ∷ [])).0 e)))
    step false e = refl

pub shown-own : (k : ℕ) → codes "_" ≡ shown_name (own_name k)
shown-own k = sym (ap (λ b. if b then codes "_" else own_name k) ((bytes_eq-Decides (take 2 (own_name k)) (95 ∷ 0 ∷ [])).1 refl))

pub name-under : (vs : List Variable) (n : ℕ) (v : Variable) → slice_get vs n ≡ Some v → get_or (map variable_name vs) n [] ≡ variable_name v
name-under [] n v e = absurd (cc)
name-under (w ∷ vs) zero v e = ap variable_name (same_Some w v e)
name-under (w ∷ vs) (suc n) v e = name-under vs n v e

pub proper-under : (vs : List Variable) (n : ℕ) (v : Variable) → list_all is_proper vs ≡ true → slice_get vs n ≡ Some v → is_proper v ≡ true
proper-under [] n v a e = absurd (cc)
proper-under (w ∷ vs) zero v a e = ap is_proper (sym (same_Some w v e)) ∙ (both-parts (is_proper w) (list_all is_proper vs) a).0
proper-under (w ∷ vs) (suc n) v a e = proper-under vs n v (both-parts (is_proper w) (list_all is_proper vs) a).1 e
