-- The way back to moments.
use Rattle.std.proofs.Common.{◌≡◌, inl, inr, ℕ, zero, suc, ◌+◌, ◌<◌, ◌≤◌, List, [], ◌∷◌, ◌++◌, length, take, drop, map, Option, nat_eq, ◌||◌, true, refl, sym, ap, subst, ◌∙◌, arith, length-append}
use Rattle.std.specs.Prelude.{slice_set, slice_get, Contains}
use Rattle.std.specs.List.{list_any}
use Rattle.std.specs.Option.{option_map}
use Rattle.std.proofs.lemmas.Option.{slice_get-map}
use Rattle.std.proofs.lemmas.Map.Views.{Contains-from_any}
use Rattle.std.proofs.lemmas.Bool.{cases_lt, cases_Bool, eqb-true, eqb-false}
use Rattle.std.proofs.lemmas.List.{take-set-le, set_past, take-append-le, drop-append-le, length-take, length-set, take-take, append-nil}
use Rattle.std.proofs.Math.Seq.{take-set-lt, take-length, drop-length}
use Rattle.cb_model.specs.Bits.{Each}
use Rattle.cb_dd.specs.declared.Node.{Node}
use Rattle.cb_dd.specs.Diagram.{Store}
use Rattle.cb_ops.specs.Ops.{Grows}
use Rattle.cb_elim.specs.declared.Free.{Free}
use Rattle.cb_elim.specs.declared.Change.{Change}
use Rattle.cb_elim.specs.Store.{Seen, IsStore, IsArgument, view_of, with_fulls}
use Rattle.cb_elim.specs.Moments.{Moment, IsMoment, KeepsMoments, moment_of, reverted, undone}
use Rattle.cb_elim.proofs.Views.{store-fulls}

take-set-any : (k : ℕ) (ns : List Node) (i : ℕ) (n : Node) → take k (slice_set ns i n) ≡ slice_set (take k ns) i n
take-set-any k ns i n = elim (cases_lt i k) [
  | inl less ↦ take-set-lt k ns i n less
  | inr more ↦ take-set-le k ns i n more ∙ sym (set_past (take k ns) i n (omega (arith, short k ns)))
]
  where
    short : (k : ℕ) (ns : List Node) → length (take k ns) ≤ k
    short k ns = omega (arith, length-take k ns)

pub take-undone : (k : ℕ) (cs : List Change) (ns : List Node) → take k (undone cs ns) ≡ undone cs (take k ns)
take-undone k [] ns = refl
take-undone k (c ∷ cs) ns = take-set-any k (undone cs ns) c.slot c.value ∙ ap (λ xs. slice_set xs c.slot c.value) (take-undone k cs ns)

pub undone-append : (xs ys : List Change) (ns : List Node) → undone (xs ++ ys) ns ≡ undone xs (undone ys ns)
undone-append [] ys ns = refl
undone-append (c ∷ xs) ys ns = ap (λ zs. slice_set zs c.slot c.value) (undone-append xs ys ns)

pub length-undone : (cs : List Change) (ns : List Node) → length (undone cs ns) ≡ length ns
length-undone [] ns = refl
length-undone (c ∷ cs) ns = length-set (undone cs ns) c.slot c.value ∙ length-undone cs ns

-- what was added and rewritten since
pub record Later (old new : Seen) : Type 0 where
  pub constants : new.constants ≡ old.constants
  pub drawn : old.drawn ≤ new.drawn
  pub more : List Free
  pub free : new.free ≡ old.free ++ more
  pub changes : List Change
  pub trail : new.trail ≡ old.trail ++ changes
  pub number : length old.slots ≤ length new.slots
  pub slots : undone changes (take (length old.slots) new.slots) ≡ old.slots
  pub nodes : Grows old.nodes new.nodes

module _ (old new : Seen) (l : Later old new) (m : Moment) (w : IsMoment m old) where
  slots-back : undone (drop m.trail new.trail) (take m.slots new.slots) ≡ undone (drop m.trail old.trail) (take m.slots old.slots)
  slots-back =
      ap (λ t. undone (drop m.trail t) (take m.slots new.slots)) l.trail
      ∙ ap (λ cs. undone cs (take m.slots new.slots)) (drop-append-le m.trail old.trail l.changes w.trail)
      ∙ undone-append (drop m.trail old.trail) l.changes (take m.slots new.slots)
      ∙ ap (λ ns. undone (drop m.trail old.trail) ns)
      (ap (λ ns. undone l.changes ns) (sym (take-take m.slots (length old.slots) new.slots w.slots))
      ∙ sym (take-undone m.slots l.changes (take (length old.slots) new.slots))
      ∙ ap (λ ns. take m.slots ns) l.slots)

  budget-back : new.nodes.budget ≡ old.nodes.budget
  budget-back = l.nodes.budget

  free-back : take m.free new.free ≡ take m.free old.free
  free-back = ap (λ fs. take m.free fs) l.free ∙ take-append-le m.free old.free l.more w.free

  trail-back : take m.trail new.trail ≡ take m.trail old.trail
  trail-back = ap (λ cs. take m.trail cs) l.trail ∙ take-append-le m.trail old.trail l.changes w.trail

  triples-back : take m.nodes new.nodes.triples ≡ take m.nodes old.nodes.triples
  triples-back = ap (λ ts. take m.nodes ts) l.nodes.triples ∙ take-append-le m.nodes old.nodes.triples l.nodes.more w.nodes

  pub same-back : reverted m new ≡ with_fulls new.nodes.fulls (reverted m old)
  same-back = λ i. record {
    constants = l.constants i;
    drawn = m.drawn;
    free = free-back i;
    slots = slots-back i;
    trail = trail-back i;
    nodes = record { budget = budget-back i; triples = triples-back i; fulls = new.nodes.fulls };
  }

  pub moment-back : IsMoment m new
  moment-back = record {
    nodes = let h = w.nodes in let e = ap length l.nodes.triples in omega (arith, length-append old.nodes.triples l.nodes.more);
    drawn = let h = w.drawn in let d = l.drawn in omega arith;
    free = let h = w.free in let e = ap length l.free in omega (arith, length-append old.free l.more);
    slots = let h = w.slots in let n = l.number in omega arith;
    trail = let h = w.trail in let e = ap length l.trail in omega (arith, length-append old.trail l.changes);
    store = subst IsStore (sym same-back) (store-fulls new.nodes.fulls (reverted m old) w.store);
  }

pub keeps : (old new : Seen) → Later old new → KeepsMoments old new
keeps old new l = record { moments = λ m w. moment-back old new l m w; same = λ m w. same-back old new l m w }

-- only nodes were added
pub keeps-nodes : (now s : Seen) (t : Store) → s ≡ now → Grows s.nodes t → KeepsMoments now (record s { nodes = t })
keeps-nodes now s t is g = subst (λ (o : Seen). KeepsMoments o (record s { nodes = t })) is (keeps s (record s { nodes = t }) (record {
  constants = refl;
  drawn = omega arith;
  more = [];
  free = sym (append-nil s.free);
  changes = [];
  trail = sym (append-nil s.trail);
  number = omega arith;
  slots = take-length s.slots;
  nodes = g;
}))

-- going back to now
pub back-now : (s : Seen) → reverted (moment_of s) s ≡ s
back-now s = λ i. record {
  constants = s.constants;
  drawn = s.drawn;
  free = take-length s.free i;
  slots = slots i;
  trail = take-length s.trail i;
  nodes = record { budget = s.nodes.budget; triples = take-length s.nodes.triples i; fulls = s.nodes.fulls };
}
  where
    slots : undone (drop (length s.trail) s.trail) (take (length s.slots) s.slots) ≡ s.slots
    slots = ap (λ cs. undone cs (take (length s.slots) s.slots)) (drop-length s.trail) ∙ take-length s.slots

pub moment-now : (s : Seen) → IsStore s → IsMoment (moment_of s) s
moment-now s st = record {
  nodes = omega arith;
  drawn = omega arith;
  free = omega arith;
  slots = omega arith;
  trail = omega arith;
  store = subst IsStore (sym (back-now s)) st;
}

-- the moments are those of the store, whatever its count of refusals
pub keeps-fulls : (s : Seen) (n : ℕ) → KeepsMoments s (with_fulls n s)
keeps-fulls s n = record {
  moments = λ m w. record { nodes = w.nodes; drawn = w.drawn; free = w.free; slots = w.slots; trail = w.trail; store = store-fulls n (reverted m s) w.store };
  same = λ m w. refl;
}

-- going back to the moment of a store whose moments were kept since
pub back-to : (s now : Seen) (m : Moment) → IsStore s → m ≡ moment_of s → KeepsMoments s now → reverted m now ≡ with_fulls now.nodes.fulls s
back-to s now m st e k =
    k.same m (subst (λ (n : Moment). IsMoment n s) (sym e) (moment-now s st))
    ∙ ap (λ (n : Moment). with_fulls now.nodes.fulls (reverted n s)) e
    ∙ ap (λ (o : Seen). with_fulls now.nodes.fulls o) (back-now s)

pub keeps-back : (s now new : Seen) (m : Moment) → new ≡ reverted m now → IsStore s → m ≡ moment_of s → KeepsMoments s now → KeepsMoments s new
keeps-back s now new m r st e k = subst (λ (o : Seen). KeepsMoments s o) (sym (r ∙ back-to s now m st e k)) (keeps-fulls s now.nodes.fulls)

-- ---- one change taken back

pub slots-step : (to : ℕ) (trail new : List Change) (slots : List Node) (c : Change) → trail ≡ new ++ c ∷ [] → to < length trail → undone (drop to new) (slice_set slots c.slot c.value) ≡ undone (drop to trail) slots
slots-step to trail new slots c e h =
    sym (ap (λ cs. undone (drop to cs) slots) e
    ∙ ap (λ cs. undone cs slots) (drop-append-le to new (c ∷ []) (let d = ap length e in omega (arith, length-append new (c ∷ []))))
    ∙ undone-append (drop to new) (c ∷ []) slots)

pub trail-step : (to : ℕ) (trail new : List Change) (c : Change) → trail ≡ new ++ c ∷ [] → to < length trail → take to new ≡ take to trail
trail-step to trail new c e h = sym (ap (λ cs. take to cs) e ∙ take-append-le to new (c ∷ []) (let d = ap length e in omega (arith, length-append new (c ∷ []))))

pub mark-step : (to : ℕ) (trail new : List Change) (c : Change) → trail ≡ new ++ c ∷ [] → to < length trail → to ≤ length new
mark-step to trail new c e h = let d = ap length e in omega (arith, length-append new (c ∷ []))

within-first : (n : ℕ) (new : List Change) (c : Change) → Each (λ x. x.slot < n) (new ++ c ∷ []) → Each (λ x. x.slot < n) new
within-first n [] c h = tt
within-first n (x ∷ new) c h = (h.0, within-first n new c h.1)

pub within-step : (n m : ℕ) (trail new : List Change) (c : Change) → trail ≡ new ++ c ∷ [] → m ≡ n → Each (λ x. x.slot < n) trail → Each (λ x. x.slot < m) new
within-step n m trail new c e same h = subst (λ k. Each (λ x. x.slot < k) new) (sym same) (within-first n new c (subst (λ (cs : List Change). Each (λ x. x.slot < n) cs) e h))

-- ---- the whole way back

pub undo-is : (now s : Seen) → s ≡ now → (m n : Moment) → n ≡ m → (t : List Change) → t ≡ take n.trail s.trail → (x : List Node) → x ≡ take n.slots (undone (drop n.trail s.trail) s.slots) →
    (f : List Free) → f ≡ take n.free s.free → (u : Store) → u.triples ≡ take n.nodes s.nodes.triples → u.budget ≡ s.nodes.budget → u.fulls ≡ s.nodes.fulls →
    record { constants = s.constants; drawn = n.drawn; free = f; slots = x; trail = t; nodes = u } ≡ reverted m now
undo-is now s is m n im t te x xe f fe u ut ub uf =
    (λ i. record {
      constants = s.constants;
      drawn = n.drawn;
      free = fe i;
      slots = slots i;
      trail = te i;
      nodes = record { budget = ub i; triples = ut i; fulls = uf i };
    })
    ∙ (λ i. reverted (im i) (is i))
  where
    slots : x ≡ undone (drop n.trail s.trail) (take n.slots s.slots)
    slots = xe ∙ take-undone n.slots (drop n.trail s.trail) s.slots

-- ---- the slots rewritten since

slice_get-drop : (n : ℕ) (cs : List Change) (k : ℕ) → slice_get (drop n cs) k ≡ slice_get cs (n + k)
slice_get-drop zero cs k = ap (λ j. slice_get cs j) (let e : k ≡ 0 + k = omega arith in e)
slice_get-drop (suc n) [] k = refl
slice_get-drop (suc n) (c ∷ cs) k = slice_get-drop n cs k ∙ ap (λ j. slice_get (c ∷ cs) j) (let e : suc (n + k) ≡ suc n + k = omega arith in e)

slice_get-set_other : (ns : List Node) (i x : ℕ) (n : Node) → (x ≡ i → ⊥) → slice_get (slice_set ns i n) x ≡ slice_get ns x
slice_get-set_other [] i x n h = refl
slice_get-set_other (m ∷ ns) zero zero n h = absurd (h refl)
slice_get-set_other (m ∷ ns) zero (suc x) n h = refl
slice_get-set_other (m ∷ ns) (suc i) zero n h = refl
slice_get-set_other (m ∷ ns) (suc i) (suc x) n h = slice_get-set_other ns i x n (λ e. h (ap suc e))

pub listed-rewritten : (n : ℕ) (cs : List Change) (k : ℕ) → slice_get (map (λ (c : Change). c.slot) (drop n cs)) k ≡ option_map (λ (c : Change). c.slot) (slice_get cs (n + k))
listed-rewritten n cs k = slice_get-map (λ (c : Change). c.slot) (drop n cs) k ∙ ap (λ (o : Option Change). option_map (λ (c : Change). c.slot) o) (slice_get-drop n cs k)

changed-listed : (cs : List Change) (ns : List Node) (x : ℕ) → (slice_get (undone cs ns) x ≡ slice_get ns x → ⊥) → list_any (nat_eq x) (map (λ (c : Change). c.slot) cs) ≡ true
changed-listed [] ns x h = absurd (h refl)
changed-listed (c ∷ cs) ns x h = elim (cases_Bool (nat_eq x c.slot)) [
  | inl same ↦ ap (λ b. b || list_any (nat_eq x) (map (λ (d : Change). d.slot) cs)) same
  | inr other ↦
      let e : slice_get (slice_set (undone cs ns) c.slot c.value) x ≡ slice_get (undone cs ns) x = slice_get-set_other (undone cs ns) c.slot x c.value (eqb-false x c.slot other) in
      ap (λ b. b || list_any (nat_eq x) (map (λ (d : Change). d.slot) cs)) other ∙ changed-listed cs ns x (λ d. h (e ∙ d))
]

pub changed-contains : (cs : List Change) (ns : List Node) (x : ℕ) → (slice_get (undone cs ns) x ≡ slice_get ns x → ⊥) → Contains (map (λ (c : Change). c.slot) cs) x
changed-contains cs ns x h = Contains-from_any {eq = nat_eq} (λ a b d. eqb-true a b d) x (map (λ (c : Change). c.slot) cs) (changed-listed cs ns x h)

-- levels drawn
pub keeps-drawn : (s : Seen) (n : ℕ) → KeepsMoments s (record s { drawn = s.drawn + n })
keeps-drawn s n = keeps s (record s { drawn = s.drawn + n }) (record {
  constants = refl;
  drawn = omega arith;
  more = [];
  free = sym (append-nil s.free);
  changes = [];
  trail = sym (append-nil s.trail);
  number = omega arith;
  slots = take-length s.slots;
  nodes = record { budget = refl; more = []; triples = sym (append-nil s.nodes.triples); fulls = omega arith };
})

pub store-drawn : (s : Seen) (n : ℕ) → IsStore s → IsStore (record s { drawn = s.drawn + n })
unfolding view_of
store-drawn s n st = record {
  good = st.good;
  form = st.form;
  slots = st.slots;
  levels = λ l x h. let w : l < s.drawn = st.levels l x h in omega arith;
  constants = let w : s.constants ≤ s.drawn = st.constants in omega arith;
  nodes = st.nodes;
  trail = st.trail;
  changed = st.changed;
}

pub argument-drawn : (s : Seen) (n f : ℕ) → IsArgument s f → IsArgument (record s { drawn = s.drawn + n }) f
unfolding view_of
argument-drawn s n f a = record { node = a.node; fit = a.fit }
