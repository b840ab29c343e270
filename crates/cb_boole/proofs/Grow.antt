-- New variables, new slots, and the nodes that meet the store's condition.
use Rattle.std.proofs.Common.{◌≡◌, ◌≢◌, ◌⊎◌, inl, inr, ℕ, ◌<◌, Bool, Option, Some, None, cond, refl, sym, ap, ap₂, ◌∙◌, subst, eq-eqb}
use Rattle.std.proofs.lemmas.Bool.{ne_eqb, cases_eq}
use Rattle.cb_model.specs.Bits.{Bits, put}
use Rattle.cb_boole.specs.Elimination.{Function}
use Rattle.cb_boole.specs.View.{View, IsLive, InRange, back, IsFit, IsGood, with_at, with_variable, with_slot}
use Rattle.cb_boole.proofs.Point.{put_same, put_other}
use Rattle.cb_boole.proofs.Unify.{point_free, point_other, constant_other}

pub with_same {ℓ} : {A : Type ℓ} (f : ℕ → A) (n : ℕ) (v : A) → with_at f n v n ≡ v
unfolding with_at
with_same f n v = ap (λ t. cond t v (f n)) (eq-eqb n n refl)

pub with_other {ℓ} : {A : Type ℓ} (f : ℕ → A) (n : ℕ) (v : A) (k : ℕ) → k ≢ n → with_at f n v k ≡ f k
unfolding with_at
with_other f n v k h = ap (λ t. cond t v (f k)) (ne_eqb k n h)

-- constants, and operations on nodes that meet the condition
pub fit_constant : (S : View) → IsGood S → (k : ℕ) → k < S.constants → IsFit S (λ p. p k)
fit_constant S good k h = record {
  only = λ p q alike. alike k (inl h);
  kept = λ p. point_other S.stands p (λ x. S.values x p) k (constant_other S good k h);
}

pub fit_two : (S : View) (op : Bool → Bool → Bool) (f g : Function) → IsFit S f → IsFit S g → IsFit S (λ p. op (f p) (g p))
fit_two S op f g a b = record {
  only = λ p q h. ap₂ op (a.only p q h) (b.only p q h);
  kept = λ p. ap₂ op (a.kept p) (b.kept p);
}

-- a free level alone doesn't meet it in general: after X = a * X the level of X gets the bit of a * X

-- a new slot
module _ (S : View) (good : IsGood S) (x : ℕ) (f : Function) (new : S.IsVariable x → ⊥) where
  same_with_slot : (p : Bits) (l : ℕ) → IsLive S l → back (with_slot S x f) p l ≡ back S p l
  same_with_slot p l (inl h) =
      point_other S.stands p (λ y. with_at S.values x f y p) l (constant_other S good l h)
      ∙ sym (point_other S.stands p (λ y. S.values y p) l (constant_other S good l h))
  same_with_slot p l (inr (y, h)) =
      point_free S.stands p (λ y. with_at S.values x f y p) l y h
      ∙ ap (λ v. v p) (with_other S.values x f y (λ e. new (subst S.IsVariable e (good.variable l y h))))
      ∙ sym (point_free S.stands p (λ y. S.values y p) l y h)

  pub fit_with_slot : (g : Function) → IsFit S g → IsFit (with_slot S x f) g
  fit_with_slot g fit_g = record {
    only = fit_g.only;
    kept = λ p. fit_g.only (back (with_slot S x f) p) (back S p) (same_with_slot p) ∙ fit_g.kept p;
  }

  fit_slot_at : IsFit S f → (y : ℕ) → (y ≡ x) ⊎ (y ≡ x → ⊥) → IsFit (with_slot S x f) (with_at S.values x f y)
  fit_slot_at fit y (inl e) = subst (λ g. IsFit (with_slot S x f) g) (sym (subst (λ z. with_at S.values x f z ≡ f) (sym e) (with_same S.values x f))) (fit_with_slot f fit)
  fit_slot_at fit y (inr ne) = subst (λ g. IsFit (with_slot S x f) g) (sym (with_other S.values x f y ne)) (fit_with_slot (S.values y) (good.fit y))

  pub good_with_slot : IsFit S f → IsGood (with_slot S x f)
  good_with_slot fit = record {
    above = good.above;
    variable = good.variable;
    single = good.single;
    fit = λ y. fit_slot_at fit y (cases_eq y x);
  }

-- a new variable
module _ (S : View) (good : IsGood S) (l x : ℕ) (new : S.IsVariable x → ⊥) (unused : S.stands l ≡ None) (above : l < S.constants → ⊥) where
  own : Function
  own p = p l

  S' : View
  S' = with_variable S l x

  ne_some : (y k : ℕ) → S.stands k ≡ None → S.stands k ≡ Some y → ⊥
  ne_some y k e h = cc

  at_above : (k y : ℕ) → with_at S.stands l (Some x) k ≡ Some y → (k ≡ l) ⊎ (k ≡ l → ⊥) → k < S.constants → ⊥
  at_above k y h (inl e) w = above (subst (λ j. j < S.constants) e w)
  at_above k y h (inr ne) w = good.above k y (sym (with_other S.stands l (Some x) k ne) ∙ h) w

  at_variable : (k y : ℕ) → with_at S.stands l (Some x) k ≡ Some y → (k ≡ l) ⊎ (k ≡ l → ⊥) → S.IsVariable y ⊎ (y ≡ x)
  at_variable k y h (inl e) =
      let w : Some x ≡ Some y = sym (with_same S.stands l (Some x)) ∙ subst (λ j. with_at S.stands l (Some x) j ≡ Some y) e h in
      inr (cc)
  at_variable k y h (inr ne) = inl (good.variable k y (sym (with_other S.stands l (Some x) k ne) ∙ h))

  own_new : (k y : ℕ) → with_at S.stands l (Some x) k ≡ Some y → k ≡ l → y ≡ x
  own_new k y h e =
      let w : Some x ≡ Some y = sym (with_same S.stands l (Some x)) ∙ subst (λ j. with_at S.stands l (Some x) j ≡ Some y) e h in
      cc

  own_old : (k y : ℕ) → with_at S.stands l (Some x) k ≡ Some y → (k ≡ l → ⊥) → S.stands k ≡ Some y
  own_old k y h ne = sym (with_other S.stands l (Some x) k ne) ∙ h

  at_single : (k j y : ℕ) → with_at S.stands l (Some x) k ≡ Some y → with_at S.stands l (Some x) j ≡ Some y →
      (k ≡ l) ⊎ (k ≡ l → ⊥) → (j ≡ l) ⊎ (j ≡ l → ⊥) → k ≡ j
  at_single k j y h i (inl e) (inl d) = e ∙ sym d
  at_single k j y h i (inl e) (inr ne) = absurd (new (subst S.IsVariable (own_new k y h e) (good.variable j y (own_old j y i ne))))
  at_single k j y h i (inr ne) (inl d) = absurd (new (subst S.IsVariable (own_new j y i d) (good.variable k y (own_old k y h ne))))
  at_single k j y h i (inr ne) (inr me) = good.single k j y (own_old k y h ne) (own_old j y i me)

  live : (k : ℕ) → IsLive S k → (k ≡ l) ⊎ (k ≡ l → ⊥) → IsLive (with_variable S l x) k
  live k (inl h) d = inl h
  live k (inr (y, h)) (inl e) = absurd (ne_some y l unused (subst (λ j. S.stands j ≡ Some y) e h))
  live k (inr (y, h)) (inr ne) = inr (y, with_other S.stands l (Some x) k ne ∙ h)

  same : (p : Bits) (k : ℕ) → IsLive S k → (k ≡ l) ⊎ (k ≡ l → ⊥) → back (with_variable S l x) p k ≡ back S p k
  same p k (inl h) (inl e) = absurd (above (subst (λ j. j < S.constants) e h))
  same p k (inl h) (inr ne) =
      point_other (with_at S.stands l (Some x)) p (λ y. with_at S.values x (λ p. p l) y p) k (with_other S.stands l (Some x) k ne ∙ constant_other S good k h) ∙
      sym (point_other S.stands p (λ y. S.values y p) k (constant_other S good k h))
  same p k (inr (y, h)) (inl e) = absurd (ne_some y l unused (subst (λ j. S.stands j ≡ Some y) e h))
  same p k (inr (y, h)) (inr ne) =
      point_free (with_at S.stands l (Some x)) p (λ y. with_at S.values x (λ p. p l) y p) k y (with_other S.stands l (Some x) k ne ∙ h) ∙
      ap (λ v. v p) (with_other S.values x (λ p. p l) y (λ e. new (subst S.IsVariable e (good.variable k y h)))) ∙
      sym (point_free S.stands p (λ y. S.values y p) k y h)

  pub fit_with_variable : (g : Function) → IsFit S g → IsFit (with_variable S l x) g
  fit_with_variable g fit_g = record {
    only = λ p q h. fit_g.only p q (λ k w. h k (live k w (cases_eq k l)));
    kept = λ p. fit_g.only (back (with_variable S l x) p) (back S p) (λ k w. same p k w (cases_eq k l)) ∙ fit_g.kept p;
  }

  at : (y : ℕ) → (y ≡ x) ⊎ (y ≡ x → ⊥) → IsFit (with_variable S l x) (with_at S.values x (λ p. p l) y)
  at y (inl e) = subst (λ g. IsFit (with_variable S l x) g) (sym (subst (λ z. with_at S.values x (λ p. p l) z ≡ (λ p. p l)) (sym e) (with_same S.values x (λ p. p l)))) (record {
    only = λ p q h. h l (inr (x, with_same S.stands l (Some x)));
    kept = λ p. point_free (with_at S.stands l (Some x)) p (λ y. with_at S.values x (λ p. p l) y p) l x (with_same S.stands l (Some x)) ∙ ap (λ v. v p) (with_same S.values x (λ p. p l));
  })
  at y (inr ne) = subst (λ g. IsFit (with_variable S l x) g) (sym (with_other S.values x (λ p. p l) y ne)) (fit_with_variable (S.values y) (good.fit y))

  pub good_with_variable : IsGood (with_variable S l x)
  good_with_variable = record {
    above = λ k y h. at_above k y h (cases_eq k l);
    variable = λ k y h. at_variable k y h (cases_eq k l);
    single = λ k j y h i. at_single k j y h i (cases_eq k l) (cases_eq j l);
    fit = λ y. at y (cases_eq y x);
  }

-- the variables said otherwise
pub good_variables : (S : View) (V : ℕ → Type 0) → IsGood S → ((x : ℕ) → S.IsVariable x → V x) → IsGood (record S { IsVariable = V })
good_variables S V good into = record {
  above = good.above;
  variable = λ l x h. into x (good.variable l x h);
  single = good.single;
  fit = λ x. record { only = (good.fit x).only; kept = (good.fit x).kept };
}

-- the range after a new variable: its bit is arbitrary
pub range_new : (S : View) → IsGood S → (l x : ℕ) → (S.IsVariable x → ⊥) → S.stands l ≡ None → (l < S.constants → ⊥) →
    (a : Bits) (b : ℕ → Bool) → InRange S a b → InRange (with_variable S l x) a b
range_new S good l x new unused above a b r = record {
  at = put l (b x) r.at;
  agrees = λ k h. put_other r.at l (b x) k (λ e. above (subst (λ j. j < S.constants) e h)) ∙ r.agrees k h;
  gives = λ y v. at y v;
}
  where
    away : (k : ℕ) → IsLive S k → k ≢ l
    away k (inl h) e = above (subst (λ j. j < S.constants) e h)
    away k (inr (y, h)) e = clash (S.stands l) y unused (subst (λ j. S.stands j ≡ Some y) e h)
      where
        clash : (o : Option ℕ) (y : ℕ) → o ≡ None → o ≡ Some y → ⊥
        clash o y e h = cc

    at : (y : ℕ) → S.IsVariable y ⊎ (y ≡ x) → with_at S.values x (λ p. p l) y (put l (b x) r.at) ≡ b y
    at y (inl v) =
        ap (λ g. g (put l (b x) r.at)) (with_other S.values x (λ p. p l) y (λ e. new (subst S.IsVariable e v))) ∙
        (good.fit y).only (put l (b x) r.at) r.at (λ k w. put_other r.at l (b x) k (away k w)) ∙ r.gives y v
    at y (inr e) =
        subst (λ z. with_at S.values x (λ p. p l) z (put l (b x) r.at) ≡ b z) (sym e)
        (ap (λ g. g (put l (b x) r.at)) (with_same S.values x (λ p. p l)) ∙ put_same r.at l (b x))

pub range_old : (S : View) → (l x : ℕ) → (S.IsVariable x → ⊥) →
    (a : Bits) (b : ℕ → Bool) → InRange (with_variable S l x) a b → InRange S a b
range_old S l x new a b r = record {
  at = r.at;
  agrees = r.agrees;
  gives = λ y v. ap (λ g. g r.at) (sym (with_other S.values x (λ p. p l) y (λ e. new (subst S.IsVariable e v)))) ∙ r.gives y (inl v);
}
