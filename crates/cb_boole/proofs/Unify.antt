-- One equation more: the range is what is left, and the slots' values are most general again.
use Rattle.std.proofs.Common.{◌≡◌, ◌⊎◌, inl, inr, ℕ, ◌<◌, Bool, true, false, List, [], ◌∷◌, Option, Some, None, refl, sym, ap, ◌∙◌, subst}
use Rattle.cb_model.specs.Bits.{Bits}
use Rattle.cb_boole.specs.Elimination.{Function, rest, solved, DependsOnly}
use Rattle.cb_boole.specs.View.{View, IsLive, point, bit_of, InRange, back, IsFit, IsGood, unified}
use Rattle.cb_boole.specs.Elimination.{IsAway}
use Rattle.cb_boole.proofs.Chain.{solved_sound, solved_keeps, solved_off, rest_true}
use Rattle.cb_boole.proofs.Only.{solved_alike, rest_held, IsHeld}

-- the levels eliminated are free levels
abbrev pub AreFree : View → List ℕ → Type 0
AreFree S [] = Unit {0}
AreFree S (l ∷ ls) = ((x : ℕ) × (S.stands l ≡ Some x)) × AreFree S ls

pub point_free : (stands : ℕ → Option ℕ) (a : Bits) (b : ℕ → Bool) (l x : ℕ) → stands l ≡ Some x → point stands a b l ≡ b x
unfolding point
point_free stands a b l x h = ap (λ o. bit_of o (a l) b) h

pub point_other : (stands : ℕ → Option ℕ) (a : Bits) (b : ℕ → Bool) (l : ℕ) → stands l ≡ None → point stands a b l ≡ a l
unfolding point
point_other stands a b l h = ap (λ o. bit_of o (a l) b) h

pub cases_stands : (o : Option ℕ) → (o ≡ None) ⊎ ((x : ℕ) × (o ≡ Some x))
cases_stands None = inl refl
cases_stands (Some x) = inr (x, refl)

-- a constant isn't free
pub constant_other : (S : View) → IsGood S → (k : ℕ) → k < S.constants → S.stands k ≡ None
constant_other S good k h = elim (cases_stands (S.stands k)) [ inl e ↦ e | inr w ↦ absurd (good.above k w.0 w.1 h) ]

pub constant_away : (S : View) → IsGood S → (ls : List ℕ) → AreFree S ls → (k : ℕ) → k < S.constants → IsAway k ls
constant_away S good [] are k h = tt
constant_away S good (l ∷ ls) are k h =
    ((λ e. good.above l are.0.0 are.0.1 (subst (λ j. j < S.constants) e h)), constant_away S good ls are.1 k h)

-- at a pair of the range the point has the bits that the slots give: the one lemma on which the others rest
pub at_point : (S : View) → IsGood S → (f : Function) → IsFit S f → (a : Bits) (b : ℕ → Bool) (r : InRange S a b) → f (point S.stands a b) ≡ f r.at
at_point S good f fit a b r = fit.only (point S.stands a b) (back S r.at) live ∙ fit.kept r.at
  where
    live : (l : ℕ) → IsLive S l → point S.stands a b l ≡ back S r.at l
    live l (inl h) =
        let o : S.stands l ≡ None = constant_other S good l h in
        point_other S.stands a b l o ∙ sym (r.agrees l h) ∙ sym (point_other S.stands r.at (λ x. S.values x r.at) l o)
    live l (inr (x, h)) =
        point_free S.stands a b l x h ∙ sym (r.gives x (good.variable l x h)) ∙ sym (point_free S.stands r.at (λ x. S.values x r.at) l x h)

-- every pair of the range is got back
pub got_back : (S : View) → IsGood S → (a : Bits) (b : ℕ → Bool) → InRange S a b → (x : ℕ) → S.IsVariable x → S.values x (point S.stands a b) ≡ b x
got_back S good a b r x h = at_point S good (S.values x) (good.fit x) a b r ∙ r.gives x h

-- after `Ok(true)`: the pairs that are left
pub left_from : (S : View) → IsGood S → (ls : List ℕ) → AreFree S ls → (f : Function) → IsFit S f → ((p : Bits) → rest ls f p ≡ false) →
    (a : Bits) (b : ℕ → Bool) → InRange (unified S ls f) a b → InRange S a b × (f (point S.stands a b) ≡ false)
left_from S good ls are f fit none a b r =
    let r' : InRange S a b = record { at = solved ls f r.at; agrees = λ k h. solved_off ls f r.at k (constant_away S good ls are k h) ∙ r.agrees k h; gives = r.gives } in
    (r', at_point S good f fit a b r' ∙ solved_sound ls f r.at (none r.at))

pub left_into : (S : View) → IsGood S → (ls : List ℕ) → (f : Function) → IsFit S f →
    (a : Bits) (b : ℕ → Bool) → InRange S a b → f (point S.stands a b) ≡ false → InRange (unified S ls f) a b
left_into S good ls f fit a b r h =
    let e : solved ls f r.at ≡ r.at = solved_keeps ls f r.at (sym (at_point S good f fit a b r) ∙ h) in
    record { at = r.at; agrees = r.agrees; gives = λ x v. ap (S.values x) e ∙ r.gives x v }

-- after `Ok(false)`: where something is left, no pair of the range is a solution
pub not_solvable : (S : View) → IsGood S → (ls : List ℕ) → (f : Function) → IsFit S f → DependsOnly (IsHeld S.constants ls) f →
    (p : Bits) → rest ls f p ≡ true → (b : ℕ → Bool) → InRange S p b → f (point S.stands p b) ≡ true
not_solvable S good ls f fit over p h b r = at_point S good f fit p b r ∙ rest_true ls f r.at (rest_held S.constants ls f over r.at p r.agrees ∙ h)

-- the store is as good as before
fit_after : (S : View) → IsGood S → (ls : List ℕ) → AreFree S ls → (f : Function) → IsFit S f → ((p : Bits) → rest ls f p ≡ false) →
    (g : Function) → IsFit S g → IsFit (unified S ls f) (λ p. g (solved ls f p))
fit_after S good ls are f fit none g fit_g = record {
  only = λ p q h. fit_g.only (solved ls f p) (solved ls f q) (solved_alike (IsLive S) ls f fit.only p q h);
  kept = λ p.
      fit_g.only (solved ls f (back (unified S ls f) p)) (solved ls f (back S (solved ls f p)))
      (solved_alike (IsLive S) ls f fit.only (back (unified S ls f) p) (back S (solved ls f p)) (λ l w. live p l w)) ∙
      ap g (solved_keeps ls f (back S (solved ls f p)) (fit.kept (solved ls f p) ∙ solved_sound ls f p (none p))) ∙
      fit_g.kept (solved ls f p);
}
  where
    live : (p : Bits) (l : ℕ) → IsLive S l → back (unified S ls f) p l ≡ back S (solved ls f p) l
    live p l (inl h) =
        let o : S.stands l ≡ None = constant_other S good l h in
        point_other S.stands p (λ x. S.values x (solved ls f p)) l o ∙
        sym (solved_off ls f p l (constant_away S good ls are l h)) ∙
        sym (point_other S.stands (solved ls f p) (λ x. S.values x (solved ls f p)) l o)
    live p l (inr (x, h)) =
        point_free S.stands p (λ x. S.values x (solved ls f p)) l x h ∙
        sym (point_free S.stands (solved ls f p) (λ x. S.values x (solved ls f p)) l x h)

pub good_after : (S : View) → IsGood S → (ls : List ℕ) → AreFree S ls → (f : Function) → IsFit S f → ((p : Bits) → rest ls f p ≡ false) →
    IsGood (unified S ls f)
good_after S good ls are f fit none = record {
  above = good.above;
  variable = good.variable;
  single = good.single;
  fit = λ x. fit_after S good ls are f fit none (S.values x) (good.fit x);
}

-- a solution in the algebra, over any longer assignments, is an instance of the slots' values
pub is_instance : (S : View) → IsGood S → (A : Type 0) (short : A → Bits) (table : ℕ → A → Bool) →
    ((a : A) → InRange S (short a) (λ x. table x a)) →
    (x : ℕ) → S.IsVariable x → (a : A) → S.values x (point S.stands (short a) (λ y. table y a)) ≡ table x a
is_instance S good A short table sol x v a = got_back S good (short a) (λ y. table y a) (sol a) x v
