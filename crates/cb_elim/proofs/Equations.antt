-- From elimination on nodes to the range of a store.
use Rattle.std.proofs.Common.{◌≡◌, ◌≢◌, ◌↔◌, ◌⊎◌, inl, inr, ℕ, ◌<◌, ◌≤◌, Bool, true, false, List, [], ◌∷◌, ◌++◌, length, take, Some, None, Result, Ok, Err, refl, sym, ap, subst, ◌∙◌, arith, not-le_of_lt}
use Rattle.std.proofs.lemmas.Bool.{true≢false}
use Rattle.std.proofs.lemmas.List.{append-nil, take-append-le}
use Rattle.std.proofs.Math.Seq.{take-length}
use Rattle.std.proofs.Math.Path.{fun_ext}
use Rattle.cb_model.specs.Bits.{Bits, Each, put, xor}
use Rattle.cb_dd.specs.declared.Node.{Node}
use Rattle.cb_dd.specs.declared.Stop.{Stop}
use Rattle.cb_dd.specs.Diagram.{Store, IsNode, function_of}
use Rattle.cb_ops.specs.Ops.{Grows}
use Rattle.cb_ops.specs.Support.{IsListed}
use Rattle.cb_boole.specs.Elimination.{Function, DependsOnly, rest, solved}
use Rattle.cb_boole.specs.View.{View, IsLive, IsGood, IsFit, InRange, point, unified}
use Rattle.cb_boole.proofs.Point.{put_other}
use Rattle.cb_boole.proofs.Only.{IsHeld, weaker}
use Rattle.cb_boole.proofs.Chain.{solved_off}
use Rattle.cb_boole.proofs.Unify.{AreFree, at_point, cases_stands, constant_away, left_from, left_into, not_solvable, good_after, is_instance, got_back}
use Rattle.cb_boole.specs.Form.{IsForm}
use Rattle.cb_boole.proofs.Form.{Falls, form_after}
use Rattle.cb_boole.proofs.Grow.{fit_two}
use Rattle.cb_solution.specs.Solution.{IsFalling}
use Rattle.cb_solution.proofs.Solved.{listed-here, listed-there, listed-cases}
use Rattle.cb_elim.specs.declared.Change.{Change}
use Rattle.cb_elim.specs.Store.{Seen, IsStore, IsArgument, IsAsBefore, OnlyNodes, AreThere, with_fulls, value_in, view_of}
use Rattle.cb_elim.specs.Equation.{AreGeneral, AreMoved, IsElimination, IsGeneral, HasNoSolution, differ}
use Rattle.cb_elim.proofs.General.{general-at}
use Rattle.cb_ops.proofs.Ite.{Grows-then}
use Rattle.cb_ops.specs.Substitute.{Images}
use Rattle.cb_elim.specs.Unified.{IsSolved, IsSolutionOf, IsUnified, HasNone, HasSameValues, OnlyValues, IsMostGeneral, IsReproductive}
use Rattle.cb_elim.specs.Moments.{KeepsMoments, changes_from, undone}
use Rattle.cb_elim.proofs.Views.{with_values, argument-fulls, only-nodes, store-fulls}
use Rattle.cb_elim.proofs.Back.{keeps}
use Rattle.cb_elim.proofs.Changes.{undone-from, changes-within, changes-same, each-append}

-- the two functions agree where their difference is 0
xor-agree : (x y : Bool) → xor x y ≡ false → x ≡ y
xor-agree true true h = refl
xor-agree true false h = cc
xor-agree false true h = cc
xor-agree false false h = refl

xor-equal : (x y : Bool) → x ≡ y → xor x y ≡ false
xor-equal true y h = rw (← h)
xor-equal false y h = rw (← h)

-- what elimination takes is free: a function that meets the condition depends on no other levels but constants
module _ (S : View) (t : Function) (fit : IsFit S t) where
  -- a level that is neither a constant nor free
  pub free-off : (l : ℕ) → S.constants ≤ l → S.stands l ≡ None → (p : Bits) (b : Bool) → t (put l b p) ≡ t p
  free-off l h e p b = fit.only (put l b p) p (λ k w. put_other p l b k (off k w))
    where
      clash : (x : ℕ) → S.stands l ≡ Some x → ⊥
      clash x w = cc

      off : (k : ℕ) → IsLive S k → k ≢ l
      off k (inl w) i = not-le_of_lt w (subst (λ j. S.constants ≤ j) (sym i) h)
      off k (inr (x, w)) i = clash x (subst (λ j. S.stands j ≡ Some x) i w)

  free-one : (l : ℕ) → S.constants ≤ l → (((p : Bits) (b : Bool) → t (put l b p) ≡ t p) → ⊥) → (S.stands l ≡ None) ⊎ ((x : ℕ) × (S.stands l ≡ Some x)) → (x : ℕ) × (S.stands l ≡ Some x)
  free-one l h needed (inr w) = w
  free-one l h needed (inl e) = absurd (needed (free-off l h e))

  pub free-all : (ls : List ℕ) → ((l : ℕ) → IsListed ls l → S.constants ≤ l) → ((l : ℕ) → IsListed ls l → ((p : Bits) (b : Bool) → t (put l b p) ≡ t p) → ⊥) → AreFree S ls
  free-all [] h needed = tt
  free-all (l ∷ ls) h needed = (
    free-one l (h l (listed-here l ls)) (needed l (listed-here l ls)) (cases_stands (S.stands l)),
    free-all ls (λ k w. h k (listed-there l k ls w)) (λ k w. needed k (listed-there l k ls w)),
  )

pub held-from : (c : ℕ) (ls : List ℕ) (l : ℕ) → (l < c) ⊎ IsListed ls l → IsHeld c ls l
held-from c [] l (inl h) = h
held-from c [] l (inr none) = absurd (true≢false (sym none))
held-from c (k ∷ ls) l (inl h) = inr (held-from c ls l (inl h))
held-from c (k ∷ ls) l (inr h) = elim (listed-cases k l ls h) [ inl same ↦ inl same | inr there ↦ inr (held-from c ls l (inr there)) ]

-- that levels fall, said one after another
each-below : (l : ℕ) (ls : List ℕ) → ((k : ℕ) → IsListed ls k → k < l) → Each (λ k. k < l) ls
each-below l [] h = tt
each-below l (k ∷ ls) h = (h k (listed-here k ls), each-below l ls (λ j there. h j (listed-there k j ls there)))

pub falls : (ls : List ℕ) → IsFalling ls → Falls ls
falls [] f = tt
falls (l ∷ ls) f = (each-below l ls f.0, falls ls f.1)

-- ---- the store at the solution of d = 0

module _ (s : Seen) (st : IsStore s) (d : Function) (fit : IsFit (view_of s) d) (ls : List ℕ) (are-free : AreFree (view_of s) ls) (are-held : DependsOnly (IsHeld s.constants ls) d) where
  pub refuted : (p : Bits) → rest ls d p ≡ true → (c : Bits) → InRange (view_of s) p c → d (point (view_of s).stands p c) ≡ true
  unfolding view_of
  refuted p h c r = not_solvable (view_of s) st.good ls d fit are-held p h c r

  module _ (down : Falls ls) (none_left : (p : Bits) → rest ls d p ≡ false) where
    good-unified : IsGood (unified (view_of s) ls d)
    good-unified = good_after (view_of s) st.good ls are-free d fit none_left

    form-unified : IsForm (unified (view_of s) ls d)
    unfolding view_of
    form-unified = form_after (view_of s) st.good st.form ls are-free down d fit are-held none_left

    left-unified : (p c : Bits) → InRange (unified (view_of s) ls d) p c ↔ (InRange (view_of s) p c × (d (point (view_of s).stands p c) ≡ false))
    left-unified p c = (
      (λ r. left_from (view_of s) st.good ls are-free d fit none_left p c r),
      (λ w. left_into (view_of s) st.good ls d fit p c w.0 w.1),
    )

    some-unified : (p : Bits) → (c : Bits) × InRange (unified (view_of s) ls d) p c
    some-unified p =
        let q : Bits = solved ls d p in
        ((λ x. (view_of s).values x q), record { at = p; agrees = λ k w. refl; gives = λ x v. refl })

    same-unified : HasSameValues (view_of s) (unified (view_of s) ls d)
    same-unified p c r x =
        let before : InRange (view_of s) p c = record {
          at = solved ls d r.at;
          agrees = λ k h. solved_off ls d r.at k (constant_away (view_of s) st.good ls are-free k h) ∙ r.agrees k h;
          gives = r.gives;
        } in
        at_point (unified (view_of s) ls d) good-unified ((unified (view_of s) ls d).values x) (good-unified.fit x) p c r
        ∙ sym (at_point (view_of s) st.good ((view_of s).values x) (st.good.fit x) p c before)

    -- the store with these values
    module _ (vs : List Node) (cs : List Change) (t : Store) (at : (x : ℕ) (p : Bits) → value_in t.triples vs x p ≡ value_in s.nodes.triples s.slots x (solved ls d p)) where
      view-unified : view_of (record s { slots = vs; trail = cs; nodes = t }) ≡ unified (view_of s) ls d
      unfolding view_of
      view-unified = ap (λ (v : ℕ → Function). with_values s v) (fun_ext (λ x. fun_ext (λ p. at x p)))

      pub is-left : (p c : Bits) → InRange (view_of (record s { slots = vs; trail = cs; nodes = t })) p c ↔ (InRange (view_of s) p c × (d (point (view_of s).stands p c) ≡ false))
      is-left p c = subst (λ (T : View). InRange T p c ↔ (InRange (view_of s) p c × (d (point (view_of s).stands p c) ≡ false))) (sym view-unified) (left-unified p c)

      pub is-some : (p : Bits) → (c : Bits) × InRange (view_of (record s { slots = vs; trail = cs; nodes = t })) p c
      is-some p = subst (λ (T : View). (c : Bits) × InRange T p c) (sym view-unified) (some-unified p)

      pub is-same : HasSameValues (view_of s) (view_of (record s { slots = vs; trail = cs; nodes = t }))
      is-same = subst (λ (T : View). HasSameValues (view_of s) T) (sym view-unified) same-unified

      pub store-solved : AreThere t.triples vs → length vs ≡ length s.slots → Each (λ c. c.slot < length s.slots) cs → Each (λ c. IsNode t.triples c.value.0) cs → IsStore (record s { slots = vs; trail = cs; nodes = t })
      store-solved there number within changed = record {
        good = subst IsGood (sym view-unified) good-unified;
        form = subst IsForm (sym view-unified) form-unified;
        slots = λ x h. let w : x < length s.slots = st.slots x h in omega arith;
        levels = st.levels;
        constants = st.constants;
        nodes = there;
        trail = subst (λ n. Each (λ c. c.slot < n) cs) (sym number) within;
        changed = changed;
      }

module _ (s : Seen) (st : IsStore s) (f g : ℕ) (a : IsArgument s f) (b : IsArgument s g) where
  fit-differ : IsFit (view_of s) (differ s.nodes.triples f g)
  fit-differ = fit_two (view_of s) xor (function_of s.nodes.triples f) (function_of s.nodes.triples g) a.fit b.fit

  module _ (ls : List ℕ) (el : IsElimination s.constants (differ s.nodes.triples f g) ls) where
    are-free : AreFree (view_of s) ls
    unfolding view_of
    are-free = free-all (view_of s) (differ s.nodes.triples f g) fit-differ ls el.free el.needed

    are-held : DependsOnly (IsHeld s.constants ls) (differ s.nodes.triples f g)
    are-held = weaker (λ l. (l < s.constants) ⊎ IsListed ls l) (IsHeld s.constants ls) (differ s.nodes.triples f g) el.whole (λ l h. held-from s.constants ls l h)

    pub has-none : (p : Bits) → rest ls (differ s.nodes.triples f g) p ≡ true → HasNone (view_of s) (function_of s.nodes.triples f) (function_of s.nodes.triples g)
    has-none p h = record {
      at = p;
      none = λ c r e. true≢false
          (sym (refuted s st (differ s.nodes.triples f g) fit-differ ls are-free are-held p h c r)
          ∙ xor-equal (function_of s.nodes.triples f (point (view_of s).stands p c)) (function_of s.nodes.triples g (point (view_of s).stands p c)) e);
    }

    module _ (none_left : (p : Bits) → rest ls (differ s.nodes.triples f g) p ≡ false) (vs : List Node) (cs : List Change) (t : Store)
        (at : (x : ℕ) (p : Bits) → value_in t.triples vs x p ≡ value_in s.nodes.triples s.slots x (solved ls (differ s.nodes.triples f g) p)) where
      pub is-solved : IsSolved (view_of s) (view_of (record s { slots = vs; trail = cs; nodes = t })) (function_of s.nodes.triples f) (function_of s.nodes.triples g)
      is-solved = record {
        left = λ p c.
            let w = is-left s st (differ s.nodes.triples f g) fit-differ ls are-free are-held (falls ls el.falls) none_left vs cs t at p c in
            ((λ r. let x = w.0 r in (x.0, xor-agree _ _ x.1)), (λ x. w.1 (x.0, xor-equal _ _ x.1)));
        some = is-some s st (differ s.nodes.triples f g) fit-differ ls are-free are-held (falls ls el.falls) none_left vs cs t at;
      }

      pub same-slots-at : HasSameValues (view_of s) (view_of (record s { slots = vs; trail = cs; nodes = t }))
      same-slots-at = is-same s st (differ s.nodes.triples f g) fit-differ ls are-free are-held (falls ls el.falls) none_left vs cs t at

      pub store-at : AreThere t.triples vs → length vs ≡ length s.slots → Each (λ c. c.slot < length s.slots) cs → Each (λ c. IsNode t.triples c.value.0) cs → IsStore (record s { slots = vs; trail = cs; nodes = t })
      store-at = store-solved s st (differ s.nodes.triples f g) fit-differ ls are-free are-held (falls ls el.falls) none_left vs cs t at

-- ---- as the code leaves the store

module _ (now s : Seen) (is : s ≡ now) (st : IsStore now) (f g : ℕ) (a : IsArgument now f) (b : IsArgument now g) where
  inside : IsStore s
  inside = subst IsStore (sym is) st

  argument : (n : ℕ) → IsArgument now n → IsArgument s n
  argument n h = subst (λ (o : Seen). IsArgument o n) (sym is) h

  pub solve-none : HasNoSolution s.nodes.triples s.constants f g → HasNone (view_of now) (function_of now.nodes.triples f) (function_of now.nodes.triples g)
  solve-none h = subst (λ (o : Seen). HasNone (view_of o) (function_of o.nodes.triples f) (function_of o.nodes.triples g)) is
      (has-none s inside f g (argument f a) (argument g b) h.levels h.elimination h.at h.left)

  module _ (vs : List Node) (cs : List Change) (t : Store) (gen : IsGeneral s.nodes.triples t.triples s.constants s.slots f g vs) where
    pub solve-solved : IsSolved (view_of now) (view_of (record s { slots = vs; trail = cs; nodes = t })) (function_of now.nodes.triples f) (function_of now.nodes.triples g)
    solve-solved = subst (λ (o : Seen). IsSolved (view_of o) (view_of (record s { slots = vs; trail = cs; nodes = t })) (function_of o.nodes.triples f) (function_of o.nodes.triples g)) is
        (is-solved s inside f g (argument f a) (argument g b) gen.levels gen.elimination gen.none_left vs cs t gen.at)

    pub solve-same : HasSameValues (view_of now) (view_of (record s { slots = vs; trail = cs; nodes = t }))
    solve-same = subst (λ (o : Seen). HasSameValues (view_of o) (view_of (record s { slots = vs; trail = cs; nodes = t }))) is
        (same-slots-at s inside f g (argument f a) (argument g b) gen.levels gen.elimination gen.none_left vs cs t gen.at)

    pub solve-solution : IsSolutionOf (view_of now) (view_of (record s { slots = vs; trail = cs; nodes = t })) (function_of now.nodes.triples f) (function_of now.nodes.triples g)
    unfolding view_of
    solve-solution = subst (λ (o : Seen). IsSolutionOf (view_of o) (view_of (record s { slots = vs; trail = cs; nodes = t })) (function_of o.nodes.triples f) (function_of o.nodes.triples g)) is
        (record { levels = gen.levels; elimination = gen.elimination; none_left = gen.none_left; values = gen.at })

    module _ (trail : cs ≡ s.trail ++ changes_from 0 s.slots vs) where
      pub solve-store : Each (λ c. IsNode t.triples c.value.0) cs → IsStore (record s { slots = vs; trail = cs; nodes = t })
      solve-store changed = store-at s inside f g (argument f a) (argument g b) gen.levels gen.elimination gen.none_left vs cs t gen.at gen.there gen.number
          (subst (λ (xs : List Change). Each (λ c. c.slot < length s.slots) xs) (sym trail)
          (each-append (length s.slots) s.trail (changes_from 0 s.slots vs) inside.trail (changes-within 0 s.slots vs (length s.slots) (omega arith)))) changed

      pub solve-values : Grows s.nodes t → OnlyValues now (record s { slots = vs; trail = cs; nodes = t })
      solve-values grows = subst (λ (o : Seen). OnlyValues o (record s { slots = vs; trail = cs; nodes = t })) is (record {
        constants = refl;
        drawn = refl;
        free = refl;
        number = gen.number;
        changes = changes_from 0 s.slots vs;
        trail = trail;
        listed = refl;
        slots = undone-from [] s.slots vs (sym gen.number);
        nodes = grows;
      })

-- the same, where the images were put in by a call
module _ (now s : Seen) (is : s ≡ now) (st : IsStore now) (f g : ℕ) (a : IsArgument now f) (b : IsArgument now g) (t : Store) (st' : Grows s.nodes t) (images : Images) (gen : AreGeneral s.nodes.triples t.triples s.constants f g images)
    (new : Seen) (moved : AreMoved t.triples new.nodes.triples images s.slots new.slots) (v : OnlyValues (record s { nodes = t }) new) where
  general : IsGeneral s.nodes.triples new.nodes.triples s.constants s.slots f g new.slots
  general = general-at s.nodes t new.nodes st' s.constants s.slots (inside now s is st f g a b).nodes f g images gen new.slots moved

  new-is : record s { slots = new.slots; trail = new.trail; nodes = new.nodes } ≡ new
  new-is = λ i. record {
    constants = sym v.constants i;
    drawn = sym v.drawn i;
    free = sym v.free i;
    slots = new.slots;
    trail = new.trail;
    nodes = new.nodes;
  }

  trail-is : new.trail ≡ s.trail ++ changes_from 0 s.slots new.slots
  trail-is = v.trail ∙ ap (λ cs. s.trail ++ cs) v.listed

  put-solved : IsSolved (view_of now) (view_of new) (function_of now.nodes.triples f) (function_of now.nodes.triples g)
  put-solved = subst (λ (o : Seen). IsSolved (view_of now) (view_of o) (function_of now.nodes.triples f) (function_of now.nodes.triples g)) new-is (solve-solved now s is st f g a b new.slots new.trail new.nodes general)

  put-solution : IsSolutionOf (view_of now) (view_of new) (function_of now.nodes.triples f) (function_of now.nodes.triples g)
  put-solution = subst (λ (o : Seen). IsSolutionOf (view_of now) (view_of o) (function_of now.nodes.triples f) (function_of now.nodes.triples g)) new-is (solve-solution now s is st f g a b new.slots new.trail new.nodes general)

  put-same : HasSameValues (view_of now) (view_of new)
  put-same = subst (λ (o : Seen). HasSameValues (view_of now) (view_of o)) new-is (solve-same now s is st f g a b new.slots new.trail new.nodes general)

  pub put-store : Each (λ c. IsNode new.nodes.triples c.value.0) new.trail → IsStore new
  put-store changed = subst IsStore new-is (solve-store now s is st f g a b new.slots new.trail new.nodes general trail-is changed)

  put-values : OnlyValues now new
  put-values = subst (λ (o : Seen). OnlyValues now o) new-is (solve-values now s is st f g a b new.slots new.trail new.nodes general trail-is (Grows-then s.nodes t new.nodes st' v.nodes))

  pub put-unified : IsUnified now new f g
  put-unified = record { solved = put-solved; solution = put-solution; values = put-values; slots = put-same }

-- nodes were added twice
pub only-then : (now s : Seen) (is : s ≡ now) (st : IsStore now) (t : Store) → Grows s.nodes t → (new : Seen) → OnlyNodes (record s { nodes = t }) new → OnlyNodes now new
only-then now s is st t g new o = record {
  same = o.same ∙ ap (λ (p : Seen). record p { nodes = new.nodes }) is;
  grows = subst (λ (p : Seen). Grows p.nodes new.nodes) is (Grows-then s.nodes t new.nodes g o.grows);
  arguments = λ n a. o.arguments n ((only-nodes now s is st t g).arguments n a);
}

-- rewritten values are undone
pub keeps-values : (old new : Seen) → OnlyValues old new → KeepsMoments old new
keeps-values old new v = keeps old new (record {
  constants = v.constants;
  drawn = let e = v.drawn in omega arith;
  more = [];
  free = v.free ∙ sym (append-nil old.free);
  changes = v.changes;
  trail = v.trail;
  number = let e = v.number in omega arith;
  slots = ap (λ k. undone v.changes (take k new.slots)) (sym v.number) ∙ ap (λ ns. undone v.changes ns) (take-length new.slots) ∙ v.slots;
  nodes = v.nodes;
})

-- ---- as before

pub store-before : (old new : Seen) → IsStore old → IsAsBefore old new → IsStore new
store-before old new st b = subst IsStore (sym b.same) (store-fulls new.nodes.fulls old st)

pub keeps-before : (old new : Seen) → IsAsBefore old new → KeepsMoments old new
keeps-before old new b = subst (λ (o : Seen). KeepsMoments old o) (sym b.same) (keeps old (with_fulls new.nodes.fulls old) (record {
  constants = refl;
  drawn = omega arith;
  more = [];
  free = sym (append-nil old.free);
  changes = [];
  trail = sym (append-nil old.trail);
  number = omega arith;
  slots = take-length old.slots;
  nodes = record { budget = refl; more = []; triples = sym (append-nil old.nodes.triples); fulls = b.fulls };
}))

-- what was added is cut away
pub cut-before : (old mid s : Seen) → s ≡ mid → OnlyNodes old mid → (n : ℕ) → n ≡ length old.nodes.triples → (u : Store) → u.triples ≡ take n s.nodes.triples → u.budget ≡ s.nodes.budget → u.fulls ≡ s.nodes.fulls →
    IsAsBefore old (record s { nodes = u })
cut-before old mid s is o n same u cut budget fulls = record {
  same = ap (λ (v : Seen). record v { nodes = u }) (is ∙ o.same) ∙ (λ i. record old { nodes = record { budget = b i; triples = t i; fulls = u.fulls } });
  fulls = let e = fulls in let d = ap (λ (v : Seen). v.nodes.fulls) is in let h = o.grows.fulls in omega arith;
}
  where
    b : u.budget ≡ old.nodes.budget
    b = budget ∙ ap (λ (v : Seen). v.nodes.budget) is ∙ o.grows.budget

    t : u.triples ≡ old.nodes.triples
    t = cut ∙ ap (λ (v : Seen). take n v.nodes.triples) is ∙ ap (λ k. take k mid.nodes.triples) same ∙ ap (λ ts. take (length old.nodes.triples) ts) o.grows.triples
        ∙ take-append-le (length old.nodes.triples) old.nodes.triples o.grows.more (omega arith) ∙ take-length old.nodes.triples

pub only-before : (old new : Seen) → IsAsBefore old new → OnlyNodes old new
only-before old new b = subst (λ (o : Seen). OnlyNodes old o) (sym b.same) (record {
  same = refl;
  grows = record { budget = refl; more = []; triples = sym (append-nil old.nodes.triples); fulls = b.fulls };
  arguments = λ n a. argument-fulls new.nodes.fulls old n a;
})

-- nodes that were made are cut away again
pub nodes-cut : (now s : Seen) → s ≡ now → IsStore now → (t u : Store) → Grows s.nodes t → (n : ℕ) → n ≡ length s.nodes.triples → u.triples ≡ take n t.triples → u.budget ≡ t.budget → u.fulls ≡ t.fulls →
    IsAsBefore now (record s { nodes = u })
nodes-cut now s is st t u g n e cut budget fulls =
    cut-before now (record s { nodes = t }) (record s { nodes = t }) refl (only-nodes now s is st t g) n (e ∙ ap (λ (o : Seen). length o.nodes.triples) is) u cut budget fulls

-- an equation of a node with itself
same-solved : (s : Seen) (f g : ℕ) → f ≡ g → IsSolved (view_of s) (view_of s) (function_of s.nodes.triples f) (function_of s.nodes.triples g)
same-solved s f g e = record {
  left = λ a b. ((λ r. (r, ap (λ n. function_of s.nodes.triples n (point (view_of s).stands a b)) e)), (λ w. w.0));
  some = λ a. ((λ x. (view_of s).values x a), record { at = a; agrees = λ k h. refl; gives = λ x v. refl });
}

same-solution : (s : Seen) (f g : ℕ) → f ≡ g → IsSolutionOf (view_of s) (view_of s) (function_of s.nodes.triples f) (function_of s.nodes.triples g)
unfolding rest solved
same-solution s f g e = record {
  levels = [];
  elimination = record {
    falls = tt;
    free = λ l h. absurd (true≢false (sym h));
    needed = λ l h. absurd (true≢false (sym h));
    whole = λ p q h. none p ∙ sym (none q);
  };
  none_left = none;
  values = λ x p. refl;
}
  where
    none : (p : Bits) → xor (function_of s.nodes.triples f p) (function_of s.nodes.triples g p) ≡ false
    none p = xor-equal (function_of s.nodes.triples f p) (function_of s.nodes.triples g p) (ap (λ n. function_of s.nodes.triples n p) e)

pub same-values : (s : Seen) → OnlyValues s s
same-values s = record {
  constants = refl;
  drawn = refl;
  free = refl;
  number = refl;
  changes = [];
  trail = sym (append-nil s.trail);
  listed = sym (changes-same 0 s.slots);
  slots = refl;
  nodes = record { budget = refl; more = []; triples = sym (append-nil s.nodes.triples); fulls = omega arith };
}

pub same-slots : (s : Seen) → HasSameValues (view_of s) (view_of s)
same-slots s a b r x = refl

pub same-node : (s : Seen) (f g : ℕ) → f ≡ g → IsUnified s s f g
same-node s f g e = record { solved = same-solved s f g e; solution = same-solution s f g e; values = same-values s; slots = same-slots s }

-- ---- what the invariant gives

pub most-general : (s : Seen) → IsStore s → IsMostGeneral (view_of s)
most-general s st short table sol x v a = is_instance (view_of s) st.good Bits short table sol x v a

pub reproductive : (s : Seen) → IsStore s → IsReproductive (view_of s)
reproductive s st a b r x v = got_back (view_of s) st.good a b r x v

pub not-true : (r : Result Bool Stop) (b : Bool) → r ≡ Ok b → b ≡ false → r ≡ Ok true → ⊥
not-true r b e f h = cc

pub stop-not-true : (r : Result Bool Stop) (e : Stop) → r ≡ Err e → r ≡ Ok true → ⊥
stop-not-true r e d h = cc
