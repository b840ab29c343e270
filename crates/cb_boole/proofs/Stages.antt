-- The parametric form, leaf by leaf: the induction.
use Rattle.std.proofs.Common.{◌≡◌, ◌⊎◌, ◌↔◌, inl, inr, ℕ, zero, suc, ◌+◌, ◌<◌, ◌≤◌, Bool, true, false, not, List, [], ◌∷◌, ◌++◌, map, length, refl, sym, ap, ap₂, ◌∙◌, subst, append_assoc, append-nil, length-append, arith}
use Rattle.std.proofs.lemmas.Bool.{cases_eq}
use Rattle.cb_model.specs.Bits.{Bits, Each, numbers_from, put, xor}
use Rattle.cb_model.specs.Answers.{Picks, Gen}
use Rattle.cb_boole.specs.Elimination.{Function, rest, solved, IsAway, AreAlike, DependsOnly}
use Rattle.cb_boole.proofs.Point.{put_same, put_other}
use Rattle.cb_boole.proofs.Chain.{solved_sound, solved_keeps, solved_off, rest_false}
use Rattle.cb_boole.proofs.Only.{solved_alike, weaker}
use Rattle.cb_boole.specs.Parametric.{values_at, Reaches, parametric}
use Rattle.cb_boole.specs.Stages.{IsSettled, Goes, AreOwn, IsStage, AreFor, misses, put_in}
use Rattle.cb_boole.specs.Laws.{LeafByLeaf}
use Rattle.cb_boole.proofs.Picking.{negated, rest_settled, negated_only, parametric_only, made, picks}

-- ---- lists

pub gen_append : (R : List Bool → Type 0) (prefix ys zs : List Bool) (y z : Bool) → Gen R prefix ys zs → Picks R (prefix ++ zs) y z →
    Gen R prefix (ys ++ y ∷ []) (zs ++ z ∷ [])
gen_append R prefix [] [] y z g p = (subst (λ l. Picks R l y z) (append-nil prefix) p, tt)
gen_append R prefix (y' ∷ ys) (z' ∷ zs) y z g p =
    (g.0, gen_append R (prefix ++ z' ∷ []) ys zs y z g.1 (subst (λ l. Picks R l y z) (sym (append_assoc prefix (z' ∷ []) zs)) p))
gen_append R prefix [] (z' ∷ zs) y z g p = absurd g
gen_append R prefix (y' ∷ ys) [] y z g p = absurd g

pub values_append : (fs : List Function) (g : Function) (p : Bits) → values_at (fs ++ g ∷ []) p ≡ values_at fs p ++ g p ∷ []
values_append [] g p = refl
values_append (f ∷ fs) g p = ap (λ l. f p ∷ l) (values_append fs g p)

pub numbers_last : (n k : ℕ) (p : Bits) → map p (numbers_from n (suc k)) ≡ map p (numbers_from n k) ++ p (n + k) ∷ []
numbers_last n zero p = ap (λ j. p j ∷ []) (let e : n ≡ n + 0 = omega arith in e)
numbers_last n (suc k) p =
    ap (λ l. p n ∷ l) (numbers_last (suc n) k p ∙ ap (λ j. map p (numbers_from (suc n) k) ++ p j ∷ []) (let e : suc n + k ≡ n + suc k = omega arith in e))

pub length_last : (fs : List Function) (g : Function) → length (fs ++ g ∷ []) ≡ suc (length fs)
length_last fs g = omega (arith, length-append fs (g ∷ []))

own_append : (c first n : ℕ) (gs : List Function) (g : Function) → AreOwn c first n gs → DependsOnly (IsSettled c first (suc (n + length gs))) g →
    AreOwn c first n (gs ++ g ∷ [])
own_append c first n [] g own h = (subst (λ k. DependsOnly (IsSettled c first (suc k)) g) (let e : n + 0 ≡ n = omega arith in e) h, tt)
own_append c first n (f ∷ gs) g own h =
    (own.0, own_append c first (suc n) gs g own.1 (subst (λ k. DependsOnly (IsSettled c first (suc k)) g) (let e : n + suc (length gs) ≡ suc n + length gs = omega arith in e) h))

pub values_put : (ls : List ℕ) (e : Function) (gs : List Function) (q : Bits) → values_at (put_in ls e gs) q ≡ values_at gs (solved ls e q)
values_put ls e [] q = refl
values_put ls e (g ∷ gs) q = ap (λ l. g (solved ls e q) ∷ l) (values_put ls e gs q)

values_other : (n : ℕ) (gs : List Function) → Each (λ g. DependsOnly (λ k. k < n) g) gs → (p q : Bits) → AreAlike (λ k. k < n) p q → values_at gs p ≡ values_at gs q
values_other n [] only p q h = refl
values_other n (g ∷ gs) only p q h = ap₂ ◌∷◌ (only.0 p q h) (values_other n gs only.1 p q h)

-- ---- levels

settled_more : (c first n k : ℕ) → IsSettled c first n k → IsSettled c first (suc n) k
settled_more c first n k (inl h) = inl h
settled_more c first n k (inr h) = inr (h.0, omega (arith, h.1))

settled_own : (c first n : ℕ) → IsSettled c first (suc n) (first + n)
settled_own c first n = inr (omega arith, omega arith)

settled_below : (c first n k : ℕ) → c ≤ first → IsSettled c first n k → k < first + n
settled_below c first n k room (inl h) = omega arith
settled_below c first n k room (inr h) = h.1

-- the settled levels are those before and the new one
settled_cases : (c first n k : ℕ) → IsSettled c first (suc n) k → (k ≡ first + n) ⊎ (k ≡ first + n → ⊥) → IsSettled c first n k ⊎ (k ≡ first + n)
settled_cases c first n k w (inl e) = inr e
settled_cases c first n k (inl h) (inr ne) = inl (inl h)
settled_cases c first n k (inr h) (inr ne) = inl (inr (h.0, omega (arith, h.1, ne)))

settled_none : (c first k : ℕ) → IsSettled c first 0 k → k < c
settled_none c first k (inl h) = h
settled_none c first k (inr h) = absurd (omega (arith, h.0, h.1))

xor_false : (x y : Bool) → xor x y ≡ false → x ≡ y
xor_false true true h = refl
xor_false true false h = cc
xor_false false true h = cc
xor_false false false h = refl

xor_same : (x : Bool) → xor x x ≡ false
xor_same true = refl
xor_same false = refl

two_heads : (x y : Bool) (xs ys : List Bool) → x ∷ xs ≡ y ∷ ys → x ≡ y
two_heads x y xs ys h = cc

two_tails : (x y : Bool) (xs ys : List Bool) → x ∷ xs ≡ y ∷ ys → xs ≡ ys
two_tails x y xs ys h = cc

-- ---- the parametric function of a leaf

module _ (c first n : ℕ) (f : Function) (ls : List ℕ) (are : AreFor c first n f ls) where
  -- it depends on the constants and on the parameters up to its own
  pub parametric_own : DependsOnly (IsSettled c first (suc n)) (parametric ls (first + n) f)
  parametric_own = parametric_only (IsSettled c first n) (IsSettled c first (suc n)) ls (first + n) f are.depends (settled_more c first n) (settled_own c first n)

  f_next : DependsOnly (λ k. IsSettled c first (suc n) k ⊎ (IsAway k ls → ⊥)) f
  f_next = weaker (λ k. IsSettled c first n k ⊎ (IsAway k ls → ⊥)) (λ k. IsSettled c first (suc n) k ⊎ (IsAway k ls → ⊥)) f are.depends (λ k w. on k w)
    where
      on : (k : ℕ) → IsSettled c first n k ⊎ (IsAway k ls → ⊥) → IsSettled c first (suc n) k ⊎ (IsAway k ls → ⊥)
      on k (inl w) = inl (settled_more c first n k w)
      on k (inr w) = inr w

  misses_next : DependsOnly (λ k. IsSettled c first (suc n) k ⊎ (IsAway k ls → ⊥)) (misses ls (first + n) f)
  unfolding misses
  misses_next p q h = ap₂ xor (f_next p q h) (parametric_own p q (λ k w. h k (inl w)))

  -- some bits of the levels make the leaf so, everywhere
  pub solvable : (p : Bits) → rest ls (misses ls (first + n) f) p ≡ false
  unfolding misses
  solvable p =
      let w = made ls (first + n) f p in
      let alike : AreAlike (IsSettled c first (suc n)) w.0 p = λ k v. w.1 k (are.away k v) in
      let zero : misses ls (first + n) f w.0 ≡ false = ap (λ b. xor b (parametric ls (first + n) f w.0)) (w.2 ∙ sym (parametric_own w.0 p alike)) ∙ xor_same (parametric ls (first + n) f w.0) in
      sym (rest_settled (IsSettled c first (suc n)) ls (misses ls (first + n) f) misses_next w.0 p alike) ∙ rest_false ls (misses ls (first + n) f) w.0 zero

-- ---- one leaf more

module _ (c first : ℕ) (fs done left : List Function) (f : Function) (ls : List ℕ) (stage : IsStage c first fs done (f ∷ left)) (are : AreFor c first (length done) f ls) where
  -- the parametric function of the leaf, and where the leaf misses it
  abbrev u : ℕ
  u = first + length done

  abbrev g : Function
  g = parametric ls (first + length done) f

  abbrev e : Function
  e = misses ls (first + length done) f

  abbrev Stays : ℕ → Type 0
  Stays = IsSettled c first (length done)

  abbrev Next : ℕ → Type 0
  Next = IsSettled c first (suc (length done))

  g_only : DependsOnly Next g
  g_only = parametric_own c first (length done) f ls are

  -- what the relation allows next
  begins_goes : (p : Bits) (y : Bool) → Reaches c fs p (values_at done p ++ y ∷ []) →
      (q : Bits) × AreAlike Stays q p × (f q ≡ y)
  begins_goes p y r =
      let at : Goes c first 0 fs p (values_at done p ++ (y ∷ r.more)) = record {
        at = r.at;
        alike = λ k w. r.agrees k (settled_none c first k w);
        gives = sym r.begins ∙ append_assoc (values_at done p) (y ∷ []) r.more;
      } in
      let go = (stage.after p (y ∷ r.more)).1 at in
      (go.at, go.alike, two_heads (f go.at) y (values_at left go.at) r.more go.gives)

  goes_begins : (p : Bits) (y : Bool) (q : Bits) → AreAlike Stays q p → f q ≡ y → Reaches c fs p (values_at done p ++ y ∷ [])
  goes_begins p y q alike h =
      let go = (stage.after p (y ∷ values_at left q)).0 (record { at = q; alike = alike; gives = ap (λ b. b ∷ values_at left q) h }) in
      record {
        at = go.at;
        agrees = λ k w. go.alike k (inl w);
        more = values_at left q;
        begins = append_assoc (values_at done p) (y ∷ []) (values_at left q) ∙ sym go.gives;
      }

  picked : (p : Bits) → Picks (Reaches c fs p) (values_at done p) (p u) (g p)
  picked p = picks (Reaches c fs p) (values_at done p) ls u f p
      (λ y q same h. goes_begins p y q (λ k w. same k (are.away k (settled_more c first (length done) k w))) h)
      (λ r. let w = begins_goes p true r in
      sym (rest_settled Stays ls (negated f) (negated_only (λ k. Stays k ⊎ (IsAway k ls → ⊥)) f are.depends) w.0 p w.1) ∙
      rest_false ls (negated f) w.0 (ap not w.2))
      (λ r. let w = begins_goes p false r in
      sym (rest_settled Stays ls f are.depends w.0 p w.1) ∙ rest_false ls f w.0 w.2)

  -- the leaves that follow, with the solution put in, go exactly where they went after the leaf
  on_into : (p : Bits) (bits : List Bool) → Goes c first (suc (length done)) (put_in ls e left) p bits → Goes c first (length done) (f ∷ left) p (g p ∷ bits)
  unfolding misses
  on_into p bits go =
      let q : Bits = solved ls e go.at in
      let alike : AreAlike Next q p = λ k w. solved_off ls e go.at k (are.away k w) ∙ go.alike k w in
      let same : f q ≡ g q = xor_false (f q) (g q) (solved_sound ls e go.at (solvable c first (length done) f ls are go.at)) in
      record {
        at = q;
        alike = λ k w. alike k (settled_more c first (length done) k w);
        gives = ap₂ ◌∷◌ (same ∙ g_only q p alike) (sym (values_put ls e left go.at) ∙ go.gives);
      }

  on_from : (p : Bits) (bits : List Bool) → Goes c first (length done) (f ∷ left) p (g p ∷ bits) → Goes c first (suc (length done)) (put_in ls e left) p bits
  unfolding misses
  on_from p bits go =
      let q : Bits = put u (p u) go.at in
      let alike : AreAlike Next q p = λ k w. at k (settled_cases c first (length done) k w (cases_eq k u)) in
      let old : AreAlike (λ k. k < first + length done) q go.at = λ k w. put_other go.at u (p u) k (λ (i : k ≡ u). omega (arith, w, i)) in
      let here : f q ≡ g q = stage.below.0 q go.at old ∙ two_heads (f go.at) (g p) (values_at left go.at) bits go.gives ∙ sym (g_only q p alike) in
      let keeps : solved ls e q ≡ q = solved_keeps ls e q (ap (λ b. xor b (g q)) here ∙ xor_same (g q)) in
      record {
        at = q;
        alike = alike;
        gives = values_put ls e left q ∙ ap (values_at left) keeps ∙ values_other (first + length done) left stage.below.1 q go.at old ∙
            two_tails (f go.at) (g p) (values_at left go.at) bits go.gives;
      }
    where
      at : (k : ℕ) → Stays k ⊎ (k ≡ u) → put u (p u) go.at k ≡ p k
      at k (inl w) = put_other go.at u (p u) k (λ i. away k w i) ∙ go.alike k w
        where
          away : (k : ℕ) → Stays k → k ≡ u → ⊥
          away k w i = let b : k < first + length done = settled_below c first (length done) k stage.room w in omega (arith, b, i)
      at k (inr i) = subst (λ j. put u (p u) go.at j ≡ p j) (sym i) (put_same go.at u (p u))

  regrouped : (p : Bits) (bits : List Bool) → values_at (done ++ g ∷ []) p ++ bits ≡ values_at done p ++ (g p ∷ bits)
  regrouped p bits = ap (λ l. l ++ bits) (values_append done g p) ∙ append_assoc (values_at done p) (g p ∷ []) bits

  after : (p : Bits) (bits : List Bool) →
      Goes c first (suc (length done)) (put_in ls e left) p bits ↔ Goes c first 0 fs p (values_at (done ++ g ∷ []) p ++ bits)
  after p bits = (
    (λ go. subst (Goes c first 0 fs p) (sym (regrouped p bits)) ((stage.after p (g p ∷ bits)).0 (on_into p bits go))),
    (λ go. on_from p bits ((stage.after p (g p ∷ bits)).1 (subst (Goes c first 0 fs p) (regrouped p bits) go))),
  )

  gen : (p : Bits) → Gen (Reaches c fs p) [] (map p (numbers_from first (suc (length done)))) (values_at (done ++ g ∷ []) p)
  gen p =
      subst (λ ys. Gen (Reaches c fs p) [] ys (values_at (done ++ g ∷ []) p)) (sym (numbers_last first (length done) p))
      (subst (λ zs. Gen (Reaches c fs p) [] (map p (numbers_from first (length done)) ++ p u ∷ []) zs) (sym (values_append done g p))
      (gen_append (Reaches c fs p) [] (map p (numbers_from first (length done))) (values_at done p) (p u) (g p) (stage.gen p) (picked p)))

  e_below : DependsOnly (λ k. k < first + suc (length done)) e
  unfolding misses
  e_below p q h =
      ap₂ xor (stage.below.0 p q (λ k w. h k (omega (arith, w)))) (g_only p q (λ k w. h k (settled_below c first (suc (length done)) k stage.room w)))

  below : (gs : List Function) → Each (λ g. DependsOnly (λ k. k < first + length done) g) gs → Each (λ g. DependsOnly (λ k. k < first + suc (length done)) g) (put_in ls e gs)
  below [] only = tt
  below (h ∷ gs) only = (
    (λ p q alike. only.0 (solved ls e p) (solved ls e q) (λ k w. solved_alike (λ k. k < first + suc (length done)) ls e e_below p q alike k (omega (arith, w)))),
    below gs only.1,
  )

  next : IsStage c first fs (done ++ g ∷ []) (put_in ls e left)
  next =
      let m : suc (length done) ≡ length (done ++ g ∷ []) = sym (length_last done g) in
      record {
        room = stage.room;
        own = own_append c first 0 done g stage.own (subst (λ k. DependsOnly (IsSettled c first (suc k)) g) (let i : length done ≡ 0 + length done = omega arith in i) g_only);
        below = subst (λ k. Each (λ g. DependsOnly (λ j. j < first + k) g) (put_in ls e left)) m (below left stage.below.1);
        gen = λ p. subst (λ k. Gen (Reaches c fs p) [] (map p (numbers_from first k)) (values_at (done ++ g ∷ []) p)) m (gen p);
        after = λ p bits. subst (λ k. Goes c first k (put_in ls e left) p bits ↔ Goes c first 0 fs p (values_at (done ++ g ∷ []) p ++ bits)) m (after p bits);
      }

pub leaf_by_leaf : LeafByLeaf
leaf_by_leaf c first fs done left f ls stage are = next c first fs done left f ls stage are

-- before the first leaf
pub begins : (c first : ℕ) (fs : List Function) → c ≤ first → Each (λ g. DependsOnly (λ k. k < first) g) fs → IsStage c first fs [] fs
begins c first fs room only = record {
  room = room;
  own = tt;
  below = subst (λ k. Each (λ g. DependsOnly (λ j. j < k) g) fs) (let i : first ≡ first + 0 = omega arith in i) only;
  gen = λ p. tt;
  after = λ p bits. ((λ go. go), λ go. go);
}
