-- One slot more, and one variable more.
use Rattle.std.proofs.Common.{◌≡◌, ◌≢◌, ◌⊎◌, inl, inr, ℕ, zero, suc, ◌+◌, ◌<◌, ◌≤◌, List, [], ◌∷◌, ◌++◌, length, take, nat_eq, Option, Some, None, if◌then◌else◌, refl, sym, ap, subst, ◌∙◌, arith, length-append, eq-eqb}
use Rattle.std.proofs.lemmas.Bool.{cases_eq, cases_Bool, ne_eqb}
use Rattle.std.proofs.lemmas.List.{append-nil, take-append-le}
use Rattle.std.proofs.Math.Seq.{take-length}
use Rattle.std.proofs.Math.Path.{fun_ext}
use Rattle.cb_model.specs.Bits.{Bits, Each}
use Rattle.cb_dd.specs.declared.Node.{Node}
use Rattle.cb_dd.specs.declared.Triple.{Triple}
use Rattle.cb_dd.specs.Diagram.{Store, IsNode, function_of}
use Rattle.cb_ops.specs.Ops.{Grows, StandsFor}
use Rattle.cb_boole.specs.Elimination.{Function}
use Rattle.cb_boole.specs.View.{View, IsGood, IsFit, InRange, point, with_at, with_slot, with_variable}
use Rattle.cb_boole.specs.Form.{IsForm}
use Rattle.cb_boole.proofs.Form.{form_variables, form_with_slot, form_with_variable}
use Rattle.cb_boole.proofs.Grow.{with_same, with_other, good_with_slot, fit_with_slot, good_with_variable, fit_with_variable, good_variables, range_new, range_old}
use Rattle.cb_elim.specs.declared.Free.{Free}
use Rattle.cb_elim.specs.declared.Change.{Change}
use Rattle.cb_elim.specs.Store.{Seen, AddsSlot, AddsVariable, IsStore, IsArgument, AreThere, IsVariableOf, IsNewVariable, HasSameRange, KeepsArguments, stands_in, value_in, view_of}
use Rattle.cb_elim.specs.Moments.{KeepsMoments}
use Rattle.cb_elim.proofs.Views.{with_values, store-still, store-fulls, view-still, argument-still}
use Rattle.cb_elim.proofs.Back.{keeps}
use Rattle.cb_elim.proofs.Added.{slot-adds, variable-adds}

-- ---- values, one more at the end

pub value-last : (ts : List Triple) (ns : List Node) (n : Node) → value_in ts (ns ++ n ∷ []) (length ns) ≡ function_of ts n.0
value-last ts [] n = refl
value-last ts (m ∷ ns) n = value-last ts ns n

pub value-other : (ts : List Triple) (ns : List Node) (n : Node) (x : ℕ) → x ≢ length ns → value_in ts (ns ++ n ∷ []) x ≡ value_in ts ns x
value-other ts [] n zero h = absurd (h refl)
value-other ts [] n (suc x) h = refl
value-other ts (m ∷ ns) n zero h = refl
value-other ts (m ∷ ns) n (suc x) h = value-other ts ns n x (λ e. h (ap suc e))

value-more : (ts : List Triple) (ns : List Node) (n : Node) (x : ℕ) → (x ≡ length ns) ⊎ (x ≡ length ns → ⊥) → value_in ts (ns ++ n ∷ []) x ≡ with_at (value_in ts ns) (length ns) (function_of ts n.0) x
value-more ts ns n x (inl e) =
    subst (λ y. value_in ts (ns ++ n ∷ []) y ≡ with_at (value_in ts ns) (length ns) (function_of ts n.0) y) (sym e)
    (value-last ts ns n ∙ sym (with_same (value_in ts ns) (length ns) (function_of ts n.0)))
value-more ts ns n x (inr ne) = value-other ts ns n x ne ∙ sym (with_other (value_in ts ns) (length ns) (function_of ts n.0) x ne)

pub there-more : (ts : List Triple) (ns : List Node) (n : Node) → AreThere ts ns → IsNode ts n.0 → AreThere ts (ns ++ n ∷ [])
there-more ts [] n h w = (w, tt)
there-more ts (m ∷ ns) n h w = (h.0, there-more ts ns n h.1 w)

wider : (cs : List Change) (n m : ℕ) → n ≤ m → Each (λ c. c.slot < n) cs → Each (λ c. c.slot < m) cs
wider [] n m h all = tt
wider (c ∷ cs) n m h all = (let w : c.slot < n = all.0 in omega arith, wider cs n m h all.1)

no-slot : (s : Seen) → IsStore s → IsVariableOf s.free (length s.slots) → ⊥
no-slot s st h = let w : length s.slots < length s.slots = st.slots (length s.slots) h in omega arith

-- ---- a slot that is no variable

view-held : (s : Seen) (f : Node) → view_of (record s { slots = s.slots ++ f ∷ [] }) ≡ with_slot (view_of s) (length s.slots) (function_of s.nodes.triples f.0)
unfolding view_of
view-held s f = ap (λ (v : ℕ → Function). with_values s v) (fun_ext (λ x. value-more s.nodes.triples s.slots f x (cases_eq x (length s.slots))))

pub store-held : (s : Seen) (f : Node) → IsStore s → IsArgument s f.0 → IsStore (record s { slots = s.slots ++ f ∷ [] })
unfolding view_of
store-held s f st a = record {
  good = subst IsGood (sym (view-held s f)) (good_with_slot (view_of s) st.good (length s.slots) (function_of s.nodes.triples f.0) (no-slot s st) a.fit);
  form = subst IsForm (sym (view-held s f)) (form_with_slot (view_of s) st.good st.form (length s.slots) (function_of s.nodes.triples f.0) (no-slot s st));
  slots = λ x h. let w : x < length s.slots = st.slots x h in omega (arith, length-append s.slots (f ∷ []));
  levels = st.levels;
  constants = st.constants;
  nodes = there-more s.nodes.triples s.slots f st.nodes a.node;
  trail = wider s.trail (length s.slots) (length (s.slots ++ f ∷ [])) (omega (arith, length-append s.slots (f ∷ []))) st.trail;
  changed = st.changed;
}

pub held-argument : (s : Seen) (f : Node) → IsStore s → (n : ℕ) → IsArgument s n → IsArgument (record s { slots = s.slots ++ f ∷ [] }) n
unfolding view_of
held-argument s f st n a = record {
  node = a.node;
  fit = subst (λ (S : View). IsFit S (function_of s.nodes.triples n)) (sym (view-held s f)) (fit_with_slot (view_of s) st.good (length s.slots) (function_of s.nodes.triples f.0) (no-slot s st) (function_of s.nodes.triples n) a.fit);
}

pub held-range : (s : Seen) (f : Node) → IsStore s → HasSameRange (view_of s) (view_of (record s { slots = s.slots ++ f ∷ [] }))
unfolding view_of
held-range s f st a b = (
  λ r. subst (λ (S : View). InRange S a b) (sym (view-held s f)) (record { at = r.at; agrees = r.agrees; gives = λ y v. still y v r.at ∙ r.gives y v }),
  λ r. let q = subst (λ (S : View). InRange S a b) (view-held s f) r in record { at = q.at; agrees = q.agrees; gives = λ y v. sym (still y v q.at) ∙ q.gives y v },
)
  where
    still : (y : ℕ) → IsVariableOf s.free y → (p : Bits) → with_at (value_in s.nodes.triples s.slots) (length s.slots) (function_of s.nodes.triples f.0) y p ≡ value_in s.nodes.triples s.slots y p
    still y v p = ap (λ (g : Function). g p) (with_other (value_in s.nodes.triples s.slots) (length s.slots) (function_of s.nodes.triples f.0) y (λ e. no-slot s st (subst (λ x. IsVariableOf s.free x) e v)))

pub held-adds : (s : Seen) (f : Node) → IsStore s →
    AddsSlot (view_of s) (view_of (record s { slots = s.slots ++ f ∷ [] })) (length s.slots) (λ a w. function_of s.nodes.triples f.0 (point (view_of s).stands a w))
unfolding view_of
held-adds s f st = subst (λ (S : View). AddsSlot (view_of s) S (length s.slots) (λ a w. function_of s.nodes.triples f.0 (point (stands_in s.free) a w))) (sym (view-held s f))
    (slot-adds (view_of s) st.good (length s.slots) (no-slot s st) (function_of s.nodes.triples f.0))

take-first : (ns : List Node) (n : Node) → take (length ns) (ns ++ n ∷ []) ≡ ns
take-first ns n = take-append-le (length ns) ns (n ∷ []) (omega arith) ∙ take-length ns

pub keeps-held : (s : Seen) (f : Node) → KeepsMoments s (record s { slots = s.slots ++ f ∷ [] })
keeps-held s f = keeps s (record s { slots = s.slots ++ f ∷ [] }) (record {
  constants = refl;
  drawn = omega arith;
  more = [];
  free = sym (append-nil s.free);
  changes = [];
  trail = sym (append-nil s.trail);
  number = omega (arith, length-append s.slots (f ∷ []));
  slots = take-first s.slots f;
  nodes = record { budget = refl; more = []; triples = sym (append-nil s.nodes.triples); fulls = omega arith };
})

-- ---- a variable

module _ (l x : ℕ) where
  one : Free
  one = record { level = l; slot = x }

  stands-new : (fs : List Free) → stands_in fs l ≡ None → stands_in (fs ++ record { level = l; slot = x } ∷ []) l ≡ Some x
  stands-new [] e = ap (λ b. if b then Some x else None) (eq-eqb l l refl)
  stands-new (f ∷ fs) e = elim (cases_Bool (nat_eq f.level l)) [
    | inl same ↦ absurd (let d : Some f.slot ≡ None = sym (ap (λ b. if b then Some f.slot else stands_in fs l) same) ∙ e in cc)
    | inr other ↦
        ap (λ b. if b then Some f.slot else stands_in (fs ++ record { level = l; slot = x } ∷ []) l) other
        ∙ stands-new fs (sym (ap (λ b. if b then Some f.slot else stands_in fs l) other) ∙ e)
  ]

  stands-old : (fs : List Free) (k : ℕ) → (k ≡ l → ⊥) → stands_in (fs ++ record { level = l; slot = x } ∷ []) k ≡ stands_in fs k
  stands-old [] k h = ap (λ b. if b then Some x else None) (ne_eqb l k (λ e. h (sym e)))
  stands-old (f ∷ fs) k h = ap (λ o. if nat_eq f.level k then Some f.slot else o) (stands-old fs k h)

  stands-more : (fs : List Free) → stands_in fs l ≡ None → (k : ℕ) → (k ≡ l) ⊎ (k ≡ l → ⊥) → stands_in (fs ++ record { level = l; slot = x } ∷ []) k ≡ with_at (stands_in fs) l (Some x) k
  stands-more fs e k (inl same) =
      subst (λ j. stands_in (fs ++ record { level = l; slot = x } ∷ []) j ≡ with_at (stands_in fs) l (Some x) j) (sym same) (stands-new fs e ∙ sym (with_same (stands_in fs) l (Some x)))
  stands-more fs e k (inr other) = stands-old fs k other ∙ sym (with_other (stands_in fs) l (Some x) k other)

  variable-into : (fs : List Free) (y : ℕ) → IsVariableOf fs y ⊎ (y ≡ x) → IsVariableOf (fs ++ record { level = l; slot = x } ∷ []) y
  variable-into [] y (inl h) = absurd h
  variable-into [] y (inr e) = inl e
  variable-into (f ∷ fs) y (inl (inl e)) = inl e
  variable-into (f ∷ fs) y (inl (inr h)) = inr (variable-into fs y (inl h))
  variable-into (f ∷ fs) y (inr e) = inr (variable-into fs y (inr e))

  variable-from : (fs : List Free) (y : ℕ) → IsVariableOf (fs ++ record { level = l; slot = x } ∷ []) y → IsVariableOf fs y ⊎ (y ≡ x)
  variable-from [] y (inl e) = inr e
  variable-from [] y (inr h) = absurd h
  variable-from (f ∷ fs) y (inl e) = inl (inl e)
  variable-from (f ∷ fs) y (inr h) = elim (variable-from fs y h) [ inl w ↦ inl (inr w) | inr e ↦ inr e ]

cases-option : (o : Option ℕ) → (o ≡ None) ⊎ ((x : ℕ) × (o ≡ Some x))
cases-option None = inl refl
cases-option (Some x) = inr (x, refl)

-- the next level stands for nothing yet
unused : (s : Seen) → IsStore s → stands_in s.free s.drawn ≡ None
unused s st = elim (cases-option (stands_in s.free s.drawn)) [
  | inl e ↦ e
  | inr w ↦ absurd (let h : s.drawn < s.drawn = st.levels s.drawn w.0 w.1 in omega arith)
]

-- the store with one variable more, whose value is this node
abbrev pub with_new : Seen → Node → Seen
with_new s n = record {
  constants = s.constants;
  drawn = s.drawn + 1;
  free = s.free ++ record { level = s.drawn; slot = length s.slots } ∷ [];
  slots = s.slots ++ n ∷ [];
  trail = s.trail;
  nodes = s.nodes;
}

module _ (s : Seen) (n : Node) (st : IsStore s) (w : IsNode s.nodes.triples n.0) (own : StandsFor s.nodes.triples n.0 (λ p. p s.drawn)) where
  x : ℕ
  x = length s.slots

  above : s.drawn < s.constants → ⊥
  above h = let c : s.constants ≤ s.drawn = st.constants in omega arith

  view-new : view_of (with_new s n) ≡ record (with_variable (view_of s) s.drawn (length s.slots)) { IsVariable = IsVariableOf (s.free ++ record { level = s.drawn; slot = length s.slots } ∷ []) }
  unfolding view_of
  view-new = λ i. record {
    constants = s.constants;
    stands = stands i;
    IsVariable = IsVariableOf (s.free ++ record { level = s.drawn; slot = length s.slots } ∷ []);
    values = values i;
  }
    where
      stands : stands_in (s.free ++ record { level = s.drawn; slot = length s.slots } ∷ []) ≡ with_at (stands_in s.free) s.drawn (Some (length s.slots))
      stands = fun_ext (λ k. stands-more s.drawn (length s.slots) s.free (unused s st) k (cases_eq k s.drawn))

      values : value_in s.nodes.triples (s.slots ++ n ∷ []) ≡ with_at (value_in s.nodes.triples s.slots) (length s.slots) (λ p. p s.drawn)
      values = fun_ext (λ y.
          value-more s.nodes.triples s.slots n y (cases_eq y (length s.slots))
          ∙ ap (λ (f : Function). with_at (value_in s.nodes.triples s.slots) (length s.slots) f y) (fun_ext (λ p. own.at p)))

  pub store-new : IsStore (with_new s n)
  unfolding view_of
  store-new = record {
    good = subst IsGood (sym view-new) (good_variables (with_variable (view_of s) s.drawn (length s.slots)) (IsVariableOf (s.free ++ record { level = s.drawn; slot = length s.slots } ∷ []))
        (good_with_variable (view_of s) st.good s.drawn (length s.slots) (no-slot s st) (unused s st) above) (λ y h. variable-into s.drawn (length s.slots) s.free y h));
    form = subst IsForm (sym view-new) (form_variables (with_variable (view_of s) s.drawn (length s.slots)) (IsVariableOf (s.free ++ record { level = s.drawn; slot = length s.slots } ∷ []))
        (form_with_variable (view_of s) st.good st.form s.drawn (length s.slots) (no-slot s st) (unused s st)));
    slots = λ y h. elim (variable-from s.drawn (length s.slots) s.free y h) [
      | inl old ↦ let r : y < length s.slots = st.slots y old in omega (arith, length-append s.slots (n ∷ []))
      | inr e ↦ omega (arith, length-append s.slots (n ∷ []))
    ];
    levels = λ k y h. elim (cases_eq k s.drawn) [
      | inl e ↦ omega arith
      | inr ne ↦ let r : k < s.drawn = st.levels k y (sym (stands-old s.drawn (length s.slots) s.free k ne) ∙ h) in omega arith
    ];
    constants = let c : s.constants ≤ s.drawn = st.constants in omega arith;
    nodes = there-more s.nodes.triples s.slots n st.nodes w;
    trail = wider s.trail (length s.slots) (length (s.slots ++ n ∷ [])) (omega (arith, length-append s.slots (n ∷ []))) st.trail;
    changed = st.changed;
  }

  pub range-new : HasSameRange (view_of s) (view_of (with_new s n))
  unfolding view_of
  range-new a b = (
    λ r. subst (λ (S : View). InRange S a b) (sym view-new) (let q = range_new (view_of s) st.good s.drawn (length s.slots) (no-slot s st) (unused s st) above a b r in record {
      at = q.at;
      agrees = q.agrees;
      gives = λ y h. q.gives y (variable-from s.drawn (length s.slots) s.free y h);
    }),
    λ r. let q = subst (λ (S : View). InRange S a b) view-new r in range_old (view_of s) s.drawn (length s.slots) (no-slot s st) a b (record {
      at = q.at;
      agrees = q.agrees;
      gives = λ y h. q.gives y (variable-into s.drawn (length s.slots) s.free y h);
    }),
  )

  pub new-adds : AddsSlot (view_of s) (view_of (with_new s n)) (length s.slots) (λ a w. w (length s.slots))
  unfolding view_of
  new-adds = subst (λ (S : View). AddsSlot (view_of s) S (length s.slots) (λ a w. w (length s.slots))) (sym view-new)
      (let q = variable-adds (view_of s) st.good (length s.slots) (no-slot s st) s.drawn (unused s st) above in record { stays = q.stays; added = q.added })

  pub new-argument : (m : ℕ) → IsArgument s m → IsArgument (with_new s n) m
  unfolding view_of
  new-argument m a = record {
    node = a.node;
    fit = subst (λ (S : View). IsFit S (function_of s.nodes.triples m)) (sym view-new)
        (let q = fit_with_variable (view_of s) st.good s.drawn (length s.slots) (no-slot s st) (unused s st) above (function_of s.nodes.triples m) a.fit in record { only = q.only; kept = q.kept });
  }

pub keeps-new : (s : Seen) (n : Node) → KeepsMoments s (with_new s n)
keeps-new s n = keeps s (with_new s n) (record {
  constants = refl;
  drawn = omega arith;
  more = record { level = s.drawn; slot = length s.slots } ∷ [];
  free = refl;
  changes = [];
  trail = sym (append-nil s.trail);
  number = omega (arith, length-append s.slots (n ∷ []));
  slots = take-first s.slots n;
  nodes = record { budget = refl; more = []; triples = sym (append-nil s.nodes.triples); fulls = omega arith };
})

-- the slots as the code leaves them
pub store-pushed : (now s : Seen) → s ≡ now → IsStore now → (f : Node) → IsArgument now f.0 → (items : List Node) → items ≡ s.slots ++ f ∷ [] → IsStore (record s { slots = items })
store-pushed now s is st f a items e =
    subst (λ (ns : List Node). IsStore (record s { slots = ns })) (sym e)
    (store-held s f (subst IsStore (sym is) st) (subst (λ (o : Seen). IsArgument o f.0) (sym is) a))

pub range-pushed : (now s : Seen) → s ≡ now → IsStore now → (f : Node) (items : List Node) → items ≡ s.slots ++ f ∷ [] → HasSameRange (view_of now) (view_of (record s { slots = items }))
range-pushed now s is st f items e =
    subst (λ (ns : List Node). HasSameRange (view_of now) (view_of (record s { slots = ns }))) (sym e)
    (subst (λ (o : Seen). HasSameRange (view_of o) (view_of (record s { slots = s.slots ++ f ∷ [] }))) is (held-range s f (subst IsStore (sym is) st)))

pub arguments-pushed : (now s : Seen) → s ≡ now → IsStore now → (f : Node) (items : List Node) → items ≡ s.slots ++ f ∷ [] → (n : ℕ) → IsArgument now n → IsArgument (record s { slots = items }) n
arguments-pushed now s is st f items e n a =
    subst (λ (ns : List Node). IsArgument (record s { slots = ns }) n) (sym e)
    (held-argument s f (subst IsStore (sym is) st) n (subst (λ (o : Seen). IsArgument o n) (sym is) a))

pub adds-pushed : (now s : Seen) → s ≡ now → IsStore now → (f : Node) (items : List Node) → items ≡ s.slots ++ f ∷ [] →
    AddsSlot (view_of now) (view_of (record s { slots = items })) (length now.slots) (λ a w. function_of now.nodes.triples f.0 (point (view_of now).stands a w))
adds-pushed now s is st f items e =
    subst (λ (ns : List Node). AddsSlot (view_of now) (view_of (record s { slots = ns })) (length now.slots) (λ a w. function_of now.nodes.triples f.0 (point (view_of now).stands a w))) (sym e)
    (subst (λ (o : Seen). AddsSlot (view_of o) (view_of (record s { slots = s.slots ++ f ∷ [] })) (length o.slots) (λ a w. function_of o.nodes.triples f.0 (point (view_of o).stands a w))) is
    (held-adds s f (subst IsStore (sym is) st)))

-- a variable more, as the code leaves it
module _ (now s : Seen) (is : s ≡ now) (st : IsStore now) (t : Store) (g : Grows s.nodes t) (n : Node) (w : IsNode t.triples n.0) (own : StandsFor t.triples n.0 (λ p. p s.drawn))
    (x : ℕ) (xe : x ≡ length s.slots) (free : List Free) (fe : free ≡ s.free ++ record { level = s.drawn; slot = x } ∷ []) (slots : List Node) (se : slots ≡ s.slots ++ n ∷ []) where
  grown : Seen
  grown = record s { nodes = t }

  new-is : with_new (record s { nodes = t }) n ≡ record { constants = s.constants; drawn = s.drawn + 1; free = free; slots = slots; trail = s.trail; nodes = t }
  new-is = λ i. record {
    constants = s.constants;
    drawn = s.drawn + 1;
    free = sym (fe ∙ ap (λ y. s.free ++ record { level = s.drawn; slot = y } ∷ []) xe) i;
    slots = sym se i;
    trail = s.trail;
    nodes = t;
  }

  inside : IsStore s
  inside = subst IsStore (sym is) st

  grown-store : IsStore (record s { nodes = t })
  grown-store = store-still s t inside g

  pub variable-store : IsStore (record { constants = s.constants; drawn = s.drawn + 1; free = free; slots = slots; trail = s.trail; nodes = t })
  variable-store = subst IsStore new-is (store-new (record s { nodes = t }) n grown-store w own)

  variable-range : HasSameRange (view_of now) (view_of (record { constants = s.constants; drawn = s.drawn + 1; free = free; slots = slots; trail = s.trail; nodes = t }))
  variable-range = subst (λ (o : Seen). HasSameRange (view_of now) (view_of o)) new-is
      (subst (λ (S : View). HasSameRange S (view_of (with_new (record s { nodes = t }) n))) (view-still s t g inside.nodes ∙ ap view_of is)
      (range-new (record s { nodes = t }) n grown-store w own))

  variable-adding : AddsSlot (view_of now) (view_of (record { constants = s.constants; drawn = s.drawn + 1; free = free; slots = slots; trail = s.trail; nodes = t })) (length now.slots) (λ a w. w (length now.slots))
  variable-adding = subst (λ (o : Seen). AddsSlot (view_of now) (view_of o) (length now.slots) (λ a w. w (length now.slots))) new-is
      (subst (λ k. AddsSlot (view_of now) (view_of (with_new (record s { nodes = t }) n)) k (λ a w. w k)) (ap (λ (o : Seen). length o.slots) is)
      (subst (λ (S : View). AddsSlot S (view_of (with_new (record s { nodes = t }) n)) (length s.slots) (λ a w. w (length s.slots))) (view-still s t g inside.nodes ∙ ap view_of is)
      (new-adds (record s { nodes = t }) n grown-store w own)))

  variable-arguments : (m : ℕ) → IsArgument now m → IsArgument (record { constants = s.constants; drawn = s.drawn + 1; free = free; slots = slots; trail = s.trail; nodes = t }) m
  variable-arguments m a = subst (λ (o : Seen). IsArgument o m) new-is
      (new-argument (record s { nodes = t }) n grown-store w own m (argument-still s t inside g m (subst (λ (o : Seen). IsArgument o m) (sym is) a)))

  pub variable-new : IsNewVariable now (record { constants = s.constants; drawn = s.drawn + 1; free = free; slots = slots; trail = s.trail; nodes = t }) x
  variable-new = subst (λ (o : Seen). IsNewVariable o (record { constants = s.constants; drawn = s.drawn + 1; free = free; slots = slots; trail = s.trail; nodes = t }) x) is (record {
    next = xe;
    drawn = refl;
    free = fe;
    node = n;
    slots = se;
    function = own.at;
    constants = refl;
    trail = refl;
    nodes = g;
    range = subst (λ (o : Seen). HasSameRange (view_of o) (view_of (record { constants = s.constants; drawn = s.drawn + 1; free = free; slots = slots; trail = s.trail; nodes = t }))) (sym is) variable-range;
    stays = subst (λ (o : Seen). AddsVariable o (record { constants = s.constants; drawn = s.drawn + 1; free = free; slots = slots; trail = s.trail; nodes = t })) (sym is) variable-adding;
    arguments = subst (λ (o : Seen). KeepsArguments o (record { constants = s.constants; drawn = s.drawn + 1; free = free; slots = slots; trail = s.trail; nodes = t })) (sym is) variable-arguments;
  })

-- nodes that were made are cut away again
pub store-cut : (now s : Seen) → s ≡ now → IsStore now → (t u : Store) → Grows s.nodes t → u.triples ≡ take (length s.nodes.triples) t.triples → u.budget ≡ t.budget →
    (free : List Free) → free ≡ s.free → (slots : List Node) → slots ≡ s.slots → IsStore (record { constants = s.constants; drawn = s.drawn; free = free; slots = slots; trail = s.trail; nodes = u })
store-cut now s is st t u g cut budget free fe slots se =
    subst IsStore (λ i. record {
      constants = s.constants;
      drawn = s.drawn;
      free = sym fe i;
      slots = sym se i;
      trail = s.trail;
      nodes = record {
        budget = sym (budget ∙ g.budget) i;
        triples = sym (cut ∙ ap (λ ts. take (length s.nodes.triples) ts) g.triples ∙ take-append-le (length s.nodes.triples) s.nodes.triples g.more (omega arith) ∙ take-length s.nodes.triples) i;
        fulls = u.fulls;
      };
    }) (store-fulls u.fulls s (subst IsStore (sym is) st))
