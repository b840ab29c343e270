-- What a look-up in a list of keys says, where the test of equality is equality.
use Rattle.std.proofs.Common.{◌≡◌, ℕ, Bool, true, false, ◌&&◌, List, [], ◌∷◌, ◌++◌, get_or, slice_get, if◌then◌else◌, nat_eq, position, Option, None, Some, refl, sym, ap, ◌∙◌, ◌⊎◌, inl, inr, rules, is_some}
use Rattle.std.proofs.lemmas.Bool.{and_parts, and_from, eqb-true, eq-eqb, true≢false, cases_Bool}
use Rattle.std.proofs.lemmas.Option.{slice_get-get_or, slice_get_within, get_or_from_slice_get}
use Rattle.std.proofs.lemmas.List.Quantifiers.{position-Some}
use Rattle.std.proofs.lemmas.List.Folds.{list_any_at}
use Rattle.std.specs.List.{list_any}
use Rattle.std.specs.Option.{IfSome}
use Rattle.indexmap.specs.IndexSet.{insert_key}
use Rattle.cb_dd.specs.declared.Triple.{Triple}

abbrev pub triple_eq : Triple → Triple → Bool
triple_eq x y = nat_eq x.level y.level && (nat_eq x.lo y.lo && nat_eq x.hi y.hi)

pub triple_eq-same : (x y : Triple) → triple_eq x y ≡ true → x ≡ y
triple_eq-same x y h =
    let p = and_parts (nat_eq x.level y.level) (nat_eq x.lo y.lo && nat_eq x.hi y.hi) h in
    let q = and_parts (nat_eq x.lo y.lo) (nat_eq x.hi y.hi) p.1 in
    λ i. record { level = eqb-true _ _ p.0 i; lo = eqb-true _ _ q.0 i; hi = eqb-true _ _ q.1 i }

pub triple_eq-refl : (x : Triple) → triple_eq x x ≡ true
triple_eq-refl x = and_from _ _ (eq-eqb x.level x.level refl) (and_from _ _ (eq-eqb x.lo x.lo refl) (eq-eqb x.hi x.hi refl))

module _ (ks : List Triple) (t : Triple) where
  pub found-at : (i : ℕ) → position (triple_eq t) ks ≡ Some i → slice_get ks i ≡ Some t
  found-at i h =
      let p = position-Some (triple_eq t) ks i t h in
      slice_get-get_or ks i t p.0 ∙ ap Some (sym (triple_eq-same t (get_or ks i t) p.1))

  pub is-there : (k : ℕ) → slice_get ks k ≡ Some t → list_any (triple_eq t) ks ≡ true
  is-there k at = list_any_at (triple_eq t) ks k t (slice_get_within ks k t at) (ap (triple_eq t) (get_or_from_slice_get ks k t t at) ∙ triple_eq-refl t)

  pub is-absent : list_any (triple_eq t) ks ≡ false → (k : ℕ) × (slice_get ks k ≡ Some t) → ⊥
  is-absent h at = true≢false (sym (is-there at.0 at.1) ∙ h)

  pub none-absent : (r : Option ℕ) → is_some r ≡ list_any (triple_eq t) ks → r ≡ None → (k : ℕ) × (slice_get ks k ≡ Some t) → ⊥
  none-absent r h e = is-absent (sym h ∙ ap is_some e)

  pub found-some : (r : Option ℕ) → r ≡ position (triple_eq t) ks → IfSome r (λ i. slice_get ks i ≡ Some t)
  found-some None e = search rules
  found-some (Some i) e = search (rules, found-at i (sym e))

  pub inserted : (new : List Triple) → new ≡ insert_key triple_eq ks t → (new ≡ ks) ⊎ (((k : ℕ) × (slice_get ks k ≡ Some t) → ⊥) × (new ≡ ks ++ t ∷ []))
  inserted new e = elim (cases_Bool (list_any (triple_eq t) ks)) [
    | inl there ↦ inl (e ∙ ap (λ c. if c then ks else ks ++ t ∷ []) there)
    | inr none ↦ inr (is-absent none, e ∙ ap (λ c. if c then ks else ks ++ t ∷ []) none)
  ]
