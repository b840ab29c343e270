-- The way back to moments.
use Rattle.std.proofs.Common.{◌≡◌, inl, inr, ℕ, zero, suc, ◌+◌, ◌<◌, ◌≤◌, List, [], ◌∷◌, ◌++◌, length, take, drop, map, Option, nat_eq, ◌||◌, true, refl, sym, ap, subst, ◌∙◌, arith, length-append}
use Rattle.std.specs.Prelude.{slice_set, slice_get, Contains}
use Rattle.std.specs.List.{list_any}
use Rattle.std.specs.Option.{option_map}
use Rattle.std.proofs.lemmas.Option.{slice_get-map}
use Rattle.std.proofs.lemmas.Map.Views.{Contains-from_any}
use Rattle.std.proofs.lemmas.Bool.{cases_lt, cases_Bool, eqb-true, eqb-false}
use Rattle.std.proofs.lemmas.List.{take-set-le, set_past, take-append-le, drop-append-le, length-take, take-take}
use Rattle.std.proofs.Math.Seq.{take-set-lt, take-length, drop-length}
use Rattle.cb_model.specs.declared.Sort.{Sort}
use Rattle.cb_model.specs.Bits.{Each}
use Rattle.cb_heap.specs.declared.Stored.{Stored}
use Rattle.cb_heap.specs.declared.Change.{Change}
use Rattle.cb_heap.specs.Heap.{Terms, IsHeap}
use Rattle.cb_heap.specs.Moments.{Moment, IsMoment, KeepsMoments, moment_of, reverted, undone}
use Rattle.cb_heap.proofs.Steps.{get-set-other}

take-set-any : (k : ℕ) (cs : List Stored) (i : ℕ) (c : Stored) → take k (slice_set cs i c) ≡ slice_set (take k cs) i c
take-set-any k cs i c = elim (cases_lt i k) [
  | inl less ↦ take-set-lt k cs i c less
  | inr more ↦ take-set-le k cs i c more ∙ sym (set_past (take k cs) i c (omega (arith, short k cs)))
]
  where
    short : (k : ℕ) (cs : List Stored) → length (take k cs) ≤ k
    short k cs = omega (arith, length-take k cs)

pub take-undone : (k : ℕ) (xs : List Change) (cs : List Stored) → take k (undone xs cs) ≡ undone xs (take k cs)
take-undone k [] cs = refl
take-undone k (x ∷ xs) cs = take-set-any k (undone xs cs) x.cell x.old ∙ ap (λ ds. slice_set ds x.cell x.old) (take-undone k xs cs)

pub undone-append : (xs ys : List Change) (cs : List Stored) → undone (xs ++ ys) cs ≡ undone xs (undone ys cs)
undone-append [] ys cs = refl
undone-append (x ∷ xs) ys cs = ap (λ zs. slice_set zs x.cell x.old) (undone-append xs ys cs)

-- what was added and rewritten since
pub record Later (old new : Terms) : Type 0 where
  pub number : length old.cells ≤ length new.cells
  pub more : List Sort
  pub sorts : new.sorts ≡ old.sorts ++ more
  pub changes : List Change
  pub trail : new.trail ≡ old.trail ++ changes
  pub cells : undone changes (take (length old.cells) new.cells) ≡ old.cells

module _ (old new : Terms) (l : Later old new) (h : IsHeap old) (m : Moment) (w : IsMoment m old) where
  cells-back : undone (drop m.trail new.trail) (take m.cells new.cells) ≡ undone (drop m.trail old.trail) (take m.cells old.cells)
  cells-back =
      ap (λ t. undone (drop m.trail t) (take m.cells new.cells)) l.trail
      ∙ ap (λ xs. undone xs (take m.cells new.cells)) (drop-append-le m.trail old.trail l.changes w.trail)
      ∙ undone-append (drop m.trail old.trail) l.changes (take m.cells new.cells)
      ∙ ap (λ cs. undone (drop m.trail old.trail) cs)
      (ap (λ cs. undone l.changes cs) (sym (take-take m.cells (length old.cells) new.cells w.cells))
      ∙ sym (take-undone m.cells l.changes (take (length old.cells) new.cells))
      ∙ ap (λ cs. take m.cells cs) l.cells)

  sorts-back : take m.cells new.sorts ≡ take m.cells old.sorts
  sorts-back = ap (λ ss. take m.cells ss) l.sorts ∙ take-append-le m.cells old.sorts l.more (let a = w.cells in let b = h.number in omega arith)

  trail-back : take m.trail new.trail ≡ take m.trail old.trail
  trail-back = ap (λ xs. take m.trail xs) l.trail ∙ take-append-le m.trail old.trail l.changes w.trail

  same-back : reverted m new ≡ reverted m old
  same-back = λ i. record { cells = cells-back i; sorts = sorts-back i; trail = trail-back i }

  moment-back : IsMoment m new
  moment-back = record {
    cells = let a = w.cells in let n = l.number in omega arith;
    trail = let a = w.trail in let e = ap length l.trail in omega (arith, length-append old.trail l.changes);
    heap = subst IsHeap (sym same-back) w.heap;
  }

pub keeps : (old new : Terms) → Later old new → IsHeap old → KeepsMoments old new
keeps old new l h = record { moments = λ m w. moment-back old new l h m w; same = λ m w. same-back old new l h m w }

pub keeps-none : (t : Terms) → KeepsMoments t t
keeps-none t = record { moments = λ m w. w; same = λ m w. refl }

-- going back to now
pub back-now : (t : Terms) → IsHeap t → reverted (moment_of t) t ≡ t
back-now t h = λ i. record { cells = cells i; sorts = sorts i; trail = take-length t.trail i }
  where
    cells : undone (drop (length t.trail) t.trail) (take (length t.cells) t.cells) ≡ t.cells
    cells = ap (λ xs. undone xs (take (length t.cells) t.cells)) (drop-length t.trail) ∙ take-length t.cells

    sorts : take (length t.cells) t.sorts ≡ t.sorts
    sorts = ap (λ n. take n t.sorts) (sym h.number) ∙ take-length t.sorts

pub moment-now : (t : Terms) → IsHeap t → IsMoment (moment_of t) t
moment-now t h = record { cells = omega arith; trail = omega arith; heap = subst IsHeap (sym (back-now t h)) h }

-- going back to the moment of a heap whose moments were kept since
pub back-to : (t now : Terms) (m : Moment) → IsHeap t → m ≡ moment_of t → KeepsMoments t now → reverted m now ≡ t
back-to t now m h e k =
    k.same m (subst (λ (n : Moment). IsMoment n t) (sym e) (moment-now t h))
    ∙ ap (λ (n : Moment). reverted n t) e
    ∙ back-now t h

pub keeps-back : (t now new : Terms) (m : Moment) → new ≡ reverted m now → IsHeap t → m ≡ moment_of t → KeepsMoments t now → KeepsMoments t new
keeps-back t now new m r h e k = subst (λ (o : Terms). KeepsMoments t o) (sym (r ∙ back-to t now m h e k)) (keeps-none t)

-- ---- one change taken back

pub cells-step : (to : ℕ) (trail new : List Change) (cells : List Stored) (c : Change) → trail ≡ new ++ c ∷ [] → to < length trail → undone (drop to new) (slice_set cells c.cell c.old) ≡ undone (drop to trail) cells
cells-step to trail new cells c e h =
    sym (ap (λ xs. undone (drop to xs) cells) e
    ∙ ap (λ xs. undone xs cells) (drop-append-le to new (c ∷ []) (let d = ap length e in omega (arith, length-append new (c ∷ []))))
    ∙ undone-append (drop to new) (c ∷ []) cells)

pub trail-step : (to : ℕ) (trail new : List Change) (c : Change) → trail ≡ new ++ c ∷ [] → to < length trail → take to new ≡ take to trail
trail-step to trail new c e h = sym (ap (λ xs. take to xs) e ∙ take-append-le to new (c ∷ []) (let d = ap length e in omega (arith, length-append new (c ∷ []))))

pub mark-step : (to : ℕ) (trail new : List Change) (c : Change) → trail ≡ new ++ c ∷ [] → to < length trail → to ≤ length new
mark-step to trail new c e h = let d = ap length e in omega (arith, length-append new (c ∷ []))

within-first : (n : ℕ) (new : List Change) (c : Change) → Each (λ x. x.cell < n) (new ++ c ∷ []) → Each (λ x. x.cell < n) new
within-first n [] c h = tt
within-first n (x ∷ new) c h = (h.0, within-first n new c h.1)

pub within-step : (n m : ℕ) (trail new : List Change) (c : Change) → trail ≡ new ++ c ∷ [] → m ≡ n → Each (λ x. x.cell < n) trail → Each (λ x. x.cell < m) new
within-step n m trail new c e same h = subst (λ k. Each (λ x. x.cell < k) new) (sym same) (within-first n new c (subst (λ (xs : List Change). Each (λ x. x.cell < n) xs) e h))

-- ---- the whole way back

pub undo-is : (now t : Terms) → t ≡ now → (m n : Moment) → n ≡ m → (xs : List Change) → xs ≡ take n.trail t.trail → (cs : List Stored) → cs ≡ take n.cells (undone (drop n.trail t.trail) t.cells) →
    (ss : List Sort) → ss ≡ take n.cells t.sorts → record { cells = cs; sorts = ss; trail = xs } ≡ reverted m now
undo-is now t is m n im xs xe cs ce ss se =
    (λ i. record { cells = cells i; sorts = se i; trail = xe i })
    ∙ (λ i. reverted (im i) (is i))
  where
    cells : cs ≡ undone (drop n.trail t.trail) (take n.cells t.cells)
    cells = ce ∙ take-undone n.cells (drop n.trail t.trail) t.cells

-- ---- the cells rewritten since

pub slice_get-drop : (n : ℕ) (xs : List Change) (k : ℕ) → slice_get (drop n xs) k ≡ slice_get xs (n + k)
slice_get-drop zero xs k = ap (λ j. slice_get xs j) (let e : k ≡ 0 + k = omega arith in e)
slice_get-drop (suc n) [] k = refl
slice_get-drop (suc n) (x ∷ xs) k = slice_get-drop n xs k ∙ ap (λ j. slice_get (x ∷ xs) j) (let e : suc (n + k) ≡ suc n + k = omega arith in e)

pub cell-listed : (xs : List Change) (k : ℕ) (o : Option Change) → o ≡ slice_get xs k → option_map (λ (c : Change). c.cell) o ≡ slice_get (map (λ (c : Change). c.cell) xs) k
cell-listed xs k o e = ap (λ (x : Option Change). option_map (λ (c : Change). c.cell) x) e ∙ sym (slice_get-map (λ (c : Change). c.cell) xs k)

changed-listed : (xs : List Change) (cs : List Stored) (r : ℕ) → (slice_get (undone xs cs) r ≡ slice_get cs r → ⊥) → list_any (nat_eq r) (map (λ (c : Change). c.cell) xs) ≡ true
changed-listed [] cs r h = absurd (h refl)
changed-listed (x ∷ xs) cs r h = elim (cases_Bool (nat_eq r x.cell)) [
  | inl same ↦ ap (λ b. b || list_any (nat_eq r) (map (λ (d : Change). d.cell) xs)) same
  | inr other ↦
      let e : slice_get (slice_set (undone xs cs) x.cell x.old) r ≡ slice_get (undone xs cs) r = get-set-other (undone xs cs) x.cell r x.old (eqb-false r x.cell other) in
      ap (λ b. b || list_any (nat_eq r) (map (λ (d : Change). d.cell) xs)) other ∙ changed-listed xs cs r (λ d. h (e ∙ d))
]

pub changed-contains : (xs : List Change) (cs : List Stored) (r : ℕ) → (slice_get (undone xs cs) r ≡ slice_get cs r → ⊥) → Contains (map (λ (c : Change). c.cell) xs) r
changed-contains xs cs r h = Contains-from_any {eq = nat_eq} (λ a b d. eqb-true a b d) r (map (λ (c : Change). c.cell) xs) (changed-listed xs cs r h)
