-- Leaves of a store whose values are a parametric form: with the parameters in place of the levels they are their own.
use Rattle.std.proofs.Common.{◌≡◌, ◌⊎◌, inl, inr, ℕ, suc, ◌+◌, ◌<◌, ◌≤◌, Bool, true, false, not, List, [], ◌∷◌, ◌++◌, map, length, Option, Some, None, refl, sym, ap, ap₂, ◌∙◌, subst, arith, append_assoc}
use Rattle.std.proofs.lemmas.Bool.{cases_eq}
use Rattle.std.specs.Option.{option_map_or}
use Rattle.cb_model.specs.Bits.{Bits, numbers_from, put}
use Rattle.cb_model.specs.Answers.{Picks, Gen}
use Rattle.cb_boole.specs.Elimination.{Function, AreAlike, DependsOnly}
use Rattle.cb_boole.specs.View.{View, Agrees, back, IsGood}
use Rattle.cb_boole.specs.Form.{AreSameBelow, IsForm, Names, named, values_of, IsSettledLeaf, AreSettled}
use Rattle.cb_boole.specs.Parametric.{values_at, Reaches}
use Rattle.cb_boole.specs.Stages.{IsSettled, AreOwn}
use Rattle.cb_boole.proofs.Point.{put_same, put_other}
use Rattle.cb_boole.proofs.Form.{back_free, back_constant}
use Rattle.cb_boole.proofs.Stages.{values_append}

two_bits : (x y : Bool) → (x ≡ y) ⊎ (x ≡ not y)
two_bits true true = inl refl
two_bits true false = inr refl
two_bits false true = inr refl
two_bits false false = inl refl

other_bit : (x y : Bool) → x ≡ not y → x ≡ y → ⊥
other_bit true true h e = cc
other_bit true false h e = cc
other_bit false true h e = cc
other_bit false false h e = cc

-- the bits of the functions before, and that of the next one
split_values : (done : List Function) (f : Function) (left : List Function) (p q : Bits) (y : Bool) (more : List Bool) →
    (values_at done p ++ y ∷ []) ++ more ≡ values_at (done ++ f ∷ left) q → (values_at done p ≡ values_at done q) × (f q ≡ y)
split_values [] f left p q y more h = (refl, heads h)
  where
    heads : y ∷ more ≡ f q ∷ values_at left q → f q ≡ y
    heads h = cc
split_values (g ∷ gs) f left p q y more h = let w = split_values gs f left p q y more (tails h) in (ap₂ ◌∷◌ (heads h) w.0, w.1)
  where
    heads : g p ∷ ((values_at gs p ++ y ∷ []) ++ more) ≡ g q ∷ values_at (gs ++ f ∷ left) q → g p ≡ g q
    heads h = cc

    tails : g p ∷ ((values_at gs p ++ y ∷ []) ++ more) ≡ g q ∷ values_at (gs ++ f ∷ left) q → (values_at gs p ++ y ∷ []) ++ more ≡ values_at (gs ++ f ∷ left) q
    tails h = cc

last_heads : (xs ys : List Bool) (x y : Bool) → xs ++ x ∷ [] ≡ ys ++ y ∷ [] → (xs ≡ ys) × (x ≡ y)
last_heads [] [] x y h = (refl, cc)
last_heads (a ∷ cs) (b ∷ bs) x y h =
    let e : a ≡ b = cc in
    let t : cs ++ x ∷ [] ≡ bs ++ y ∷ [] = cc in
    let w = last_heads cs bs x y t in
    (ap₂ ◌∷◌ e w.0, w.1)
last_heads [] (b ∷ bs) x y h = absurd (longer bs h)
  where
    longer : (bs : List Bool) → x ∷ [] ≡ b ∷ (bs ++ y ∷ []) → ⊥
    longer [] h = cc
    longer (d ∷ ds) h = cc
last_heads (a ∷ cs) [] x y h = absurd (longer cs h)
  where
    longer : (cs : List Bool) → a ∷ (cs ++ x ∷ []) ≡ y ∷ [] → ⊥
    longer [] h = cc
    longer (d ∷ ds) h = cc

module _ (S : View) (good : IsGood S) (form : IsForm S) where
  -- A variable has its own level's bit wherever it can, with the same constants and the same bits of the levels on which
  -- it depends.
  pub leaf_picks : (P : ℕ → Type 0) (l x : ℕ) → S.stands l ≡ Some x → DependsOnly P (S.values x) → (p q : Bits) → Agrees S p q →
      ((k : ℕ) → P k → (k ≡ l) ⊎ (back S p k ≡ back S q k)) → S.values x q ≡ p l → S.values x p ≡ p l
  leaf_picks P l x stands depends p q agrees same own = form.picks l x stands p (put l (p l) (back S p)) constants lower here
    where
      apart : (k : ℕ) → k < S.constants → k ≡ l → ⊥
      apart k h e = good.above l x stands (subst (λ j. j < S.constants) e h)

      constants : Agrees S p (put l (p l) (back S p))
      constants k h = put_other (back S p) l (p l) k (apart k h) ∙ back_constant S good form p k h

      at_own : (k : ℕ) → k ≡ l → put l (p l) (back S p) k ≡ back S q k
      at_own k e =
          subst (λ j. put l (p l) (back S p) j ≡ back S q j) (sym e)
          (put_same (back S p) l (p l) ∙ sym own ∙ sym (back_free S good form q l x stands))

      alike : (k : ℕ) → (k ≡ l) ⊎ (back S p k ≡ back S q k) → (k ≡ l) ⊎ (k ≡ l → ⊥) → put l (p l) (back S p) k ≡ back S q k
      alike k (inl e) d = at_own k e
      alike k (inr w) (inl e) = at_own k e
      alike k (inr w) (inr ne) = put_other (back S p) l (p l) k ne ∙ w

      here : S.values x (put l (p l) (back S p)) ≡ p l
      here =
          depends (put l (p l) (back S p)) (back S q) (λ k w. alike k (same k w) (cases_eq k l)) ∙
          (good.fit x).kept q ∙ own

      lower : AreSameBelow S l p (put l (p l) (back S p))
      lower k y st h =
          sym ((good.fit y).kept p) ∙
          sym (form.own k y st (put l (p l) (back S p)) (back S p) (λ j v. put_other (back S p) l (p l) j (λ (e : j ≡ l). omega (arith, e, v, h))))

  module _ (at : Names) (first : ℕ) (bounds : (l v : ℕ) → at l ≡ Some v → (S.constants ≤ l) × (first ≤ v)) where
    named_at : (p : Bits) (l v : ℕ) → at l ≡ Some v → named at p l ≡ p v
    named_at p l v h = ap (λ o. option_map_or p o (p l)) h

    named_constant : (p : Bits) (k : ℕ) → k < S.constants → named at p k ≡ p k
    named_constant p k h = by (at k) refl
      where
        by : (o : Option ℕ) → at k ≡ o → option_map_or p o (p k) ≡ p k
        by None e = refl
        by (Some v) e = absurd (omega (arith, h, (bounds k v e).0))

    -- leaves with the same bits have the same bits at the levels of their parameters
    abbrev Tells : ℕ → List Function → Type 0
    Tells u done = (p q : Bits) → values_at done p ≡ values_at done q → (k v : ℕ) → at k ≡ Some v → v < u → back S p k ≡ back S q k

    tells_next : (u : ℕ) (done : List Function) (x : ℕ) → IsSettledLeaf S at u x → Tells u done → Tells (suc u) (done ++ S.values x ∷ [])
    tells_next u done x leaf tells p q h k v e lt =
        let w = last_heads (values_at done p) (values_at done q) (S.values x p) (S.values x q) (sym (values_append done (S.values x) p) ∙ h ∙ values_append done (S.values x) q) in
        by w.1 (tells p q w.0 k v e) (cases_eq v u)
      where
        by : S.values x p ≡ S.values x q → (v < u → back S p k ≡ back S q k) → (v ≡ u) ⊎ (v ≡ u → ⊥) → back S p k ≡ back S q k
        by here before (inl i) =
            let st : S.stands k ≡ Some x = leaf.stands k (e ∙ ap Some i) in
            back_free S good form p k x st ∙ here ∙ sym (back_free S good form q k x st)
        by here before (inr ne) = before (omega (arith, lt, ne))

    -- where the leaf hasn't its parameter's bit, no bits of the levels give it that bit after the leaves before
    refused : (u x : ℕ) → IsSettledLeaf S at u x → (p q : Bits) → Agrees S p q →
        ((k v : ℕ) → at k ≡ Some v → v < u → back S (named at p) k ≡ back S q k) → S.values x q ≡ p u → S.values x (named at p) ≡ not (p u) → ⊥
    refused u x leaf p q agrees known own other = settled none
      where
        constants : Agrees S (named at p) q
        constants k h = agrees k h ∙ sym (named_constant p k h)

        P : ℕ → Type 0
        P k = (k < S.constants) ⊎ ((v : ℕ) × (at k ≡ Some v) × (v ≤ u))

        same_constant : (k : ℕ) → k < S.constants → back S (named at p) k ≡ back S q k
        same_constant k h = back_constant S good form (named at p) k h ∙ sym (constants k h) ∙ sym (back_constant S good form q k h)

        -- no level has the parameter u
        none : (l : ℕ) → at l ≡ Some u → ⊥
        none l e =
            other_bit (S.values x (named at p)) (p u) other
            (leaf_picks (λ k. (k < S.constants) ⊎ ((v : ℕ) × (at k ≡ Some v) × (v ≤ u))) l x (leaf.stands l e) leaf.depends (named at p) q constants alike (own ∙ sym (named_at p l u e)) ∙ named_at p l u e)
          where
            alike : (k : ℕ) → (k < S.constants) ⊎ ((v : ℕ) × (at k ≡ Some v) × (v ≤ u)) → (k ≡ l) ⊎ (back S (named at p) k ≡ back S q k)
            alike k (inl h) = inr (same_constant k h)
            alike k (inr w) = by (cases_eq w.0 u)
              where
                by : (w.0 ≡ u) ⊎ (w.0 ≡ u → ⊥) → (k ≡ l) ⊎ (back S (named at p) k ≡ back S q k)
                by (inl i) = inl (good.single k l x (leaf.stands k (w.1 ∙ ap Some i)) (leaf.stands l e))
                by (inr ne) = inr (known k w.0 w.1 (omega (arith, w.2, ne)))

        settled : ((l : ℕ) → at l ≡ Some u → ⊥) → ⊥
        settled never =
            other_bit (S.values x (named at p)) (p u) other
            (sym ((good.fit x).kept (named at p)) ∙ leaf.depends (back S (named at p)) (back S q) alike ∙ (good.fit x).kept q ∙ own)
          where
            alike : (k : ℕ) → (k < S.constants) ⊎ ((v : ℕ) × (at k ≡ Some v) × (v ≤ u)) → back S (named at p) k ≡ back S q k
            alike k (inl h) = same_constant k h
            alike k (inr w) = by (cases_eq w.0 u)
              where
                by : (w.0 ≡ u) ⊎ (w.0 ≡ u → ⊥) → back S (named at p) k ≡ back S q k
                by (inl i) = absurd (never k (w.1 ∙ ap Some i))
                by (inr ne) = known k w.0 w.1 (omega (arith, w.2, ne))

    gen_leaves : (fs : List Function) (p : Bits) (u : ℕ) (done : List Function) → Tells u done → (xs : List ℕ) → AreSettled S at u xs → fs ≡ done ++ values_of S xs →
        Gen (Reaches S.constants fs p) (values_at done (named at p)) (map p (numbers_from u (length xs))) (values_at (values_of S xs) (named at p))
    gen_leaves fs p u done tells [] are e = tt
    gen_leaves fs p u done tells (x ∷ xs) are e = (
      pick (two_bits (S.values x (named at p)) (p u)),
      subst (λ prefix. Gen (Reaches S.constants fs p) prefix (map p (numbers_from (suc u) (length xs))) (values_at (values_of S xs) (named at p))) (values_append done (S.values x) (named at p))
          (gen_leaves fs p (suc u) (done ++ S.values x ∷ []) (tells_next u done x are.0 tells) xs are.1
          (e ∙ sym (append_assoc done (S.values x ∷ []) (values_of S xs)))),
    )
      where
        reached : S.values x (named at p) ≡ p u → Reaches S.constants fs p (values_at done (named at p) ++ p u ∷ [])
        reached h = record {
          at = named at p;
          agrees = λ k w. named_constant p k w;
          more = values_at (values_of S xs) (named at p);
          begins = ap (λ b. (values_at done (named at p) ++ b ∷ []) ++ values_at (values_of S xs) (named at p)) (sym h) ∙ whole done ∙ ap (λ gs. values_at gs (named at p)) (sym e);
        }
          where
            whole : (gs : List Function) → (values_at gs (named at p) ++ S.values x (named at p) ∷ []) ++ values_at (values_of S xs) (named at p) ≡ values_at (gs ++ values_of S (x ∷ xs)) (named at p)
            whole [] = refl
            whole (g ∷ gs) = ap (λ l. g (named at p) ∷ l) (whole gs)

        pick : (S.values x (named at p) ≡ p u) ⊎ (S.values x (named at p) ≡ not (p u)) → Picks (Reaches S.constants fs p) (values_at done (named at p)) (p u) (S.values x (named at p))
        pick (inl h) = inl (reached h, h)
        pick (inr h) = inr (
          (λ r.
              let w = split_values done (S.values x) (values_of S xs) (named at p) r.at (p u) r.more (r.begins ∙ ap (λ gs. values_at gs r.at) e) in
              refused u x are.0 p r.at r.agrees (tells (named at p) r.at w.0) w.1 h),
          h,
        )

    -- the values of such leaves, with the parameters put in, are their parametric form
    pub settled_parametric : (xs : List ℕ) → AreSettled S at first xs → (p : Bits) →
        Gen (Reaches S.constants (values_of S xs) p) [] (map p (numbers_from first (length xs))) (values_at (values_of S xs) (named at p))
    settled_parametric xs are p = gen_leaves (values_of S xs) p first [] (λ p q h k v e lt. absurd (omega (arith, lt, (bounds k v e).1))) xs are refl

    -- and each depends on the constants and on the parameters up to its own
    pub settled_own : (n u : ℕ) (xs : List ℕ) → u ≡ first + n → AreSettled S at u xs → AreOwn S.constants first n (map (λ f p. f (named at p)) (values_of S xs))
    settled_own n u [] e are = tt
    settled_own n u (x ∷ xs) e are = (
      (λ p q h. are.0.depends (named at p) (named at q) (λ k w. alike p q h k w)),
      settled_own (suc n) (suc u) xs (omega (arith, e)) are.1,
    )
      where
        alike : (p q : Bits) → AreAlike (IsSettled S.constants first (suc n)) p q → (k : ℕ) → (k < S.constants) ⊎ ((v : ℕ) × (at k ≡ Some v) × (v ≤ u)) → named at p k ≡ named at q k
        alike p q h k (inl w) = named_constant p k w ∙ h k (inl w) ∙ sym (named_constant q k w)
        alike p q h k (inr w) =
            named_at p k w.0 w.1 ∙ h w.0 (inr ((bounds k w.0 w.1).1, omega (arith, w.2, e))) ∙ sym (named_at q k w.0 w.1)
