-- The values of a store's variables stay a parametric form.
use Rattle.std.proofs.Common.{◌≡◌, ◌≢◌, ◌⊎◌, inl, inr, ℕ, zero, suc, ◌<◌, ◌≤◌, false, cond, nat_lt, List, [], ◌∷◌, Option, Some, None, refl, sym, ap, ◌∙◌, subst, arith, lt-ltb, le-ltb}
use Rattle.std.proofs.lemmas.Bool.{cases_eq, cases_lt}
use Rattle.cb_model.specs.Bits.{Bits, Each}
use Rattle.cb_boole.specs.Elimination.{Function, both, mended, rest, solved, AreAlike, DependsOnly, IsAway}
use Rattle.cb_boole.specs.View.{View, Agrees, IsLive, back, IsFit, IsGood, unified, with_at, with_variable, with_slot}
use Rattle.cb_boole.specs.Form.{AreSameBelow, IsForm}
use Rattle.cb_boole.proofs.One.{mended_keeps, mended_off, both_false}
use Rattle.cb_boole.proofs.Chain.{solved_sound, solved_off}
use Rattle.cb_boole.proofs.Only.{solved_alike, both_drops, weaker, IsHeld}
use Rattle.cb_boole.proofs.Unify.{AreFree, point_free, point_other, constant_other, constant_away}
use Rattle.cb_boole.proofs.Grow.{with_same, with_other}

-- each level is above all that follow
abbrev pub Falls : List ℕ → Type 0
Falls [] = Unit {0}
Falls (l ∷ ls) = Each (λ k. k < l) ls × Falls ls

-- ---- the solution, with the greatest level eliminated first

below_away : (m l : ℕ) (ms : List ℕ) → Each (λ k. k < m) ms → m ≤ l → IsAway l ms
below_away m l [] below h = tt
below_away m l (k ∷ ms) below h = ((λ (e : l ≡ k). omega (arith, below.0, e, h)), below_away m l ms below.1 h)

held_below : (c m : ℕ) (ms : List ℕ) → Each (λ k. k < m) ms → c ≤ m → (j : ℕ) → IsHeld c ms j → j < m
held_below c m [] below h j w = omega (arith, w, h)
held_below c m (k ∷ ms) below h j (inl e) = omega (arith, e, below.0)
held_below c m (k ∷ ms) below h j (inr w) = held_below c m ms below.1 h j w

-- A level keeps its bit where some bits that make f 0 have it, with the solution's bits at the lower levels.
pub solved_picks : (c : ℕ) (ls : List ℕ) → Falls ls → (f : Function) → DependsOnly (IsHeld c ls) f → (l : ℕ) → c ≤ l → (p q : Bits) →
    ((k : ℕ) → k < l → q k ≡ solved ls f p k) → q l ≡ p l → f q ≡ false → solved ls f p l ≡ p l
unfolding solved
solved_picks c [] falls f only l room p q same own none = refl
solved_picks c (m ∷ ms) falls f only l room p q same own none =
    at (cases_eq l m) (cases_lt l m) (λ low. solved_picks c ms falls.1 (both m f) (both_drops (IsHeld c ms) m f only) l room p q low own (both_false m f q none))
  where
    r : Bits
    r = solved ms (both m f) p

    held : (l ≡ m) → (j : ℕ) → (j ≡ m) ⊎ IsHeld c ms j → r j ≡ q j
    held e j (inl i) =
        let away : IsAway j ms = below_away m j ms falls.0 (let h : m ≤ j = omega (arith, i) in h) in
        let w : p l ≡ q l = sym own in
        solved_off ms (both m f) p j away ∙ subst (λ k. p k ≡ q k) (e ∙ sym i) w
    held e j (inr w) =
        let h : j < m = held_below c m ms falls.0 (omega (arith, room, e)) j w in
        sym (same j (omega (arith, h, e)) ∙ mended_off m f r j (λ (i : j ≡ m). omega (arith, i, h)))

    here : (l ≡ m) → mended m f r l ≡ p l
    here e =
        ap (λ (g : Bits). g l) (mended_keeps m f r (only r q (held e) ∙ none)) ∙
        solved_off ms (both m f) p l (below_away m l ms falls.0 (omega (arith, e)))

    at : (l ≡ m) ⊎ (l ≡ m → ⊥) → (l < m) ⊎ (m ≤ l) → (((k : ℕ) → k < l → q k ≡ r k) → r l ≡ p l) → mended m f r l ≡ p l
    at (inl e) d next = here e
    at (inr ne) (inr h) next = mended_off m f r l ne ∙ solved_off ms (both m f) p l (below_away m l ms falls.0 h)
    at (inr ne) (inl h) next = mended_off m f r l ne ∙ next (λ k w. same k w ∙ mended_off m f r k (λ (i : k ≡ m). omega (arith, i, w, h)))

-- The bits up to a level are got from the bits up to it.
pub solved_low : (c : ℕ) (ls : List ℕ) → Falls ls → (f : Function) → DependsOnly (IsHeld c ls) f → (l : ℕ) → c ≤ l → (p q : Bits) →
    AreAlike (λ k. k ≤ l) p q → AreAlike (λ k. k ≤ l) (solved ls f p) (solved ls f q)
unfolding solved
solved_low c [] falls f only l room p q h = h
solved_low c (m ∷ ms) falls f only l room p q h = at (cases_lt l m) (solved_low c ms falls.1 (both m f) (both_drops (IsHeld c ms) m f only) l room p q h)
  where
    low : m ≤ l → (k : ℕ) → (k ≡ m) ⊎ IsHeld c ms k → k ≤ l
    low w k (inl e) = omega (arith, e, w)
    low w k (inr v) = let i : k < suc l = held_below c (suc l) ms (raised ms falls.0) (omega (arith, room)) k v in omega (arith, i)
      where
        raised : (ks : List ℕ) → Each (λ k. k < m) ks → Each (λ k. k < suc l) ks
        raised [] b = tt
        raised (k ∷ ks) b = (omega (arith, b.0, w), raised ks b.1)

    at : (l < m) ⊎ (m ≤ l) → AreAlike (λ k. k ≤ l) (solved ms (both m f) p) (solved ms (both m f) q) → AreAlike (λ k. k ≤ l) (solved (m ∷ ms) f p) (solved (m ∷ ms) f q)
    at (inr w) next = solved_alike (λ k. k ≤ l) (m ∷ ms) f (weaker (IsHeld c (m ∷ ms)) (λ k. k ≤ l) f only (low w)) p q h
    at (inl w) next = λ k v.
        let off : k ≢ m = λ (e : k ≡ m). omega (arith, e, v, w) in
        mended_off m f (solved ms (both m f) p) k off ∙
        next k v ∙
        sym (mended_off m f (solved ms (both m f) q) k off)

-- ---- two points whose slots have the same bits

-- the first point below the level, the second from there on
abbrev joined : ℕ → Bits → Bits → Bits
joined l p q k = cond (nat_lt k l) (p k) (q k)

joined_below : (l : ℕ) (p q : Bits) (k : ℕ) → k < l → joined l p q k ≡ p k
joined_below l p q k h = rw (lt-ltb k l h)

joined_above : (l : ℕ) (p q : Bits) (k : ℕ) → l ≤ k → joined l p q k ≡ q k
joined_above l p q k h = rw (le-ltb k l h)

module _ (S : View) (good : IsGood S) (form : IsForm S) where
  pub back_free : (p : Bits) (l x : ℕ) → S.stands l ≡ Some x → back S p l ≡ S.values x p
  back_free p l x h = point_free S.stands p (λ y. S.values y p) l x h

  pub back_constant : (p : Bits) (k : ℕ) → k < S.constants → back S p k ≡ p k
  back_constant p k h = point_other S.stands p (λ y. S.values y p) k (constant_other S good k h)

  pub at_least : (l x : ℕ) → S.stands l ≡ Some x → S.constants ≤ l
  at_least l x st = elim (cases_lt l S.constants) [ inl h ↦ absurd (good.above l x st h) | inr h ↦ h ]

  -- the bits of p below a level l, and from there on those that the slots have at q
  module _ (l : ℕ) (p q : Bits) (agrees : Agrees S p q) (same : AreSameBelow S l p q) where
    abbrev mix : Bits
    mix = joined l p (back S q)

    mix_agrees : Agrees S mix q
    mix_agrees k h = at (cases_lt k l)
      where
        at : (k < l) ⊎ (l ≤ k) → q k ≡ mix k
        at (inl w) = agrees k h ∙ sym (joined_below l p (back S q) k w)
        at (inr w) = sym (joined_above l p (back S q) k w ∙ back_constant q k h)

    -- the slots of all variables have the bits that they have at q
    mix_same : (n k y : ℕ) → S.stands k ≡ Some y → k < n → S.values y mix ≡ S.values y q
    mix_same zero k y st h = absurd (omega (arith, h))
    mix_same (suc n) k y st h = at (cases_lt k l) (λ j z sz v. mix_same n j z sz (omega (arith, v, h)))
      where
        at : (k < l) ⊎ (l ≤ k) → AreSameBelow S k mix q → S.values y mix ≡ S.values y q
        at (inl w) lower =
            form.own k y st mix p (λ j v. joined_below l p (back S q) j (omega (arith, v, w))) ∙ same k y st w
        at (inr w) lower =
            let here : S.values y q ≡ mix k = sym (joined_above l p (back S q) k w ∙ back_free q k y st) in
            form.picks k y st mix q mix_agrees lower here ∙ sym here

    mix_alike : (j : ℕ) → IsLive S j → back S mix j ≡ back S q j
    mix_alike j (inl h) = back_constant mix j h ∙ sym (mix_agrees j h) ∙ sym (back_constant q j h)
    mix_alike j (inr (y, st)) = back_free mix j y st ∙ mix_same (suc j) j y st (omega arith) ∙ sym (back_free q j y st)

    pub mix_fit : (f : Function) → IsFit S f → f mix ≡ f q
    mix_fit f fit = sym (fit.kept mix) ∙ fit.only (back S mix) (back S q) mix_alike ∙ fit.kept q

  -- ---- one equation more

  module _ (ls : List ℕ) (are : AreFree S ls) (falls : Falls ls) (f : Function) (fit : IsFit S f) (only : DependsOnly (IsHeld S.constants ls) f)
      (none : (p : Bits) → rest ls f p ≡ false) where
    own_after : (l x : ℕ) → S.stands l ≡ Some x → DependsOnly (λ k. k ≤ l) (λ p. S.values x (solved ls f p))
    own_after l x st p q h = form.own l x st (solved ls f p) (solved ls f q) (solved_low S.constants ls falls f only l (at_least l x st) p q h)

    picks_after : (l x : ℕ) → S.stands l ≡ Some x → (p q : Bits) → Agrees S p q → AreSameBelow S l (solved ls f p) (solved ls f q) →
        S.values x (solved ls f q) ≡ p l → S.values x (solved ls f p) ≡ p l
    picks_after l x st p q agrees same own =
        let sp : Bits = solved ls f p in
        let sq : Bits = solved ls f q in
        let agrees' : Agrees S (solved ls f p) (solved ls f q) = λ k h.
        solved_off ls f q k (constant_away S good ls are k h) ∙ agrees k h ∙ sym (solved_off ls f p k (constant_away S good ls are k h)) in
        let zero_there : f (mix l (solved ls f p) (solved ls f q) agrees' same) ≡ false = mix_fit l (solved ls f p) (solved ls f q) agrees' same f fit ∙ solved_sound ls f q (none q) in
        let bit : joined l (solved ls f p) (back S (solved ls f q)) l ≡ p l = joined_above l (solved ls f p) (back S (solved ls f q)) l (omega arith) ∙ back_free (solved ls f q) l x st ∙ own in
        let kept : solved ls f p l ≡ p l = solved_picks S.constants ls falls f only l (at_least l x st) p (joined l (solved ls f p) (back S (solved ls f q)))
        (λ k h. joined_below l (solved ls f p) (back S (solved ls f q)) k h) bit zero_there in
        form.picks l x st (solved ls f p) (solved ls f q) agrees' same (own ∙ sym kept) ∙ kept

    pub form_after : IsForm (unified S ls f)
    form_after = record { own = own_after; picks = picks_after }

-- ---- no variables, a new variable, a new slot

pub form_empty : (S : View) → ((l x : ℕ) → S.stands l ≡ Some x → ⊥) → IsForm S
form_empty S none = record { own = λ l x st. absurd (none l x st); picks = λ l x st. absurd (none l x st) }

clash : (o : Option ℕ) (y : ℕ) → o ≡ None → o ≡ Some y → ⊥
clash o y e h = cc

pub form_with_variable : (S : View) → IsGood S → IsForm S → (l x : ℕ) → (S.IsVariable x → ⊥) → S.stands l ≡ None → IsForm (with_variable S l x)
form_with_variable S good form l x new unused = record {
  own = λ k y st. own k y st (cases_eq k l);
  picks = λ k y st p q agrees same. picks k y st p q agrees same (cases_eq k l);
}
  where
    named : (k y : ℕ) → with_at S.stands l (Some x) k ≡ Some y → k ≡ l → x ≡ y
    named k y st e =
        let w : Some x ≡ Some y = sym (with_same S.stands l (Some x)) ∙ subst (λ j. with_at S.stands l (Some x) j ≡ Some y) e st in
        cc

    bit : (k y : ℕ) → with_at S.stands l (Some x) k ≡ Some y → k ≡ l → (p : Bits) → with_at S.values x (λ p. p l) y p ≡ p k
    bit k y st e p =
        subst (λ z. with_at S.values x (λ p. p l) z p ≡ p l) (named k y st e) (ap (λ (g : Function). g p) (with_same S.values x (λ p. p l))) ∙ ap p (sym e)

    old : (k y : ℕ) → with_at S.stands l (Some x) k ≡ Some y → (k ≡ l → ⊥) → S.stands k ≡ Some y
    old k y st ne = sym (with_other S.stands l (Some x) k ne) ∙ st

    value : (k y : ℕ) → S.stands k ≡ Some y → with_at S.values x (λ p. p l) y ≡ S.values y
    value k y st = with_other S.values x (λ p. p l) y (λ e. new (subst S.IsVariable e (good.variable k y st)))

    own : (k y : ℕ) → with_at S.stands l (Some x) k ≡ Some y → (k ≡ l) ⊎ (k ≡ l → ⊥) → DependsOnly (λ j. j ≤ k) (with_at S.values x (λ p. p l) y)
    own k y st (inl e) = λ p q h. bit k y st e p ∙ h k (omega arith) ∙ sym (bit k y st e q)
    own k y st (inr ne) = subst (λ g. DependsOnly (λ j. j ≤ k) g) (sym (value k y (old k y st ne))) (form.own k y (old k y st ne))

    picks : (k y : ℕ) → with_at S.stands l (Some x) k ≡ Some y → (p q : Bits) → Agrees S p q → AreSameBelow (with_variable S l x) k p q → (k ≡ l) ⊎ (k ≡ l → ⊥) →
        with_at S.values x (λ p. p l) y q ≡ p k → with_at S.values x (λ p. p l) y p ≡ p k
    picks k y st p q agrees same (inl e) h = bit k y st e p
    picks k y st p q agrees same (inr ne) h =
        let v : with_at S.values x (λ p. p l) y ≡ S.values y = value k y (old k y st ne) in
        ap (λ (g : Function). g p) v ∙ form.picks k y (old k y st ne) p q agrees (λ j z sz w. lower j z sz w (cases_eq j l)) (ap (λ (g : Function). g q) (sym v) ∙ h)
      where
        lower : (j z : ℕ) → S.stands j ≡ Some z → j < k → (j ≡ l) ⊎ (j ≡ l → ⊥) → S.values z p ≡ S.values z q
        lower j z sz w (inl e) = absurd (clash (S.stands l) z unused (subst (λ i. S.stands i ≡ Some z) e sz))
        lower j z sz w (inr ne) =
            let u : with_at S.values x (λ p. p l) z ≡ S.values z = value j z sz in
            ap (λ (g : Function). g p) (sym u) ∙ same j z (with_other S.stands l (Some x) j ne ∙ sz) w ∙ ap (λ (g : Function). g q) u

pub form_with_slot : (S : View) → IsGood S → IsForm S → (x : ℕ) (f : Function) → (S.IsVariable x → ⊥) → IsForm (with_slot S x f)
form_with_slot S good form x f new = record {
  own = λ l y st. subst (λ g. DependsOnly (λ j. j ≤ l) g) (sym (value l y st)) (form.own l y st);
  picks = λ l y st p q agrees same h.
      ap (λ (g : Function). g p) (value l y st) ∙
      form.picks l y st p q agrees (λ k z sz w. ap (λ (g : Function). g p) (sym (value k z sz)) ∙ same k z sz w ∙ ap (λ (g : Function). g q) (value k z sz))
      (ap (λ (g : Function). g q) (sym (value l y st)) ∙ h);
}
  where
    value : (k y : ℕ) → S.stands k ≡ Some y → with_at S.values x f y ≡ S.values y
    value k y st = with_other S.values x f y (λ e. new (subst S.IsVariable e (good.variable k y st)))

-- the variables said otherwise
pub form_variables : (S : View) (V : ℕ → Type 0) → IsForm S → IsForm (record S { IsVariable = V })
form_variables S V form = record { own = form.own; picks = form.picks }
