-- The cells from which a search for cycles begins.
use Rattle.std.proofs.Common.{◌≡◌, ◌⊎◌, inl, inr, ℕ, zero, suc, ◌+◌, ◌<◌, ◌≤◌, List, [], ◌∷◌, length, take, drop, Option, Some, None, refl, sym, ap, subst, ◌∙◌, arith}
use Rattle.std.specs.Prelude.{slice_get, slice_set, get_or}
use Rattle.std.proofs.lemmas.Bool.{cases_eq, cases_lt}
use Rattle.std.proofs.lemmas.Option.{slice_get_within, slice_get-get_or}
use Rattle.std.proofs.lemmas.List.{length-set}
use Rattle.std.proofs.Math.Seq.{take-length}
use Rattle.cb_model.specs.Bits.{Each}
use Rattle.cb_heap.specs.declared.Stored.{Stored}
use Rattle.cb_heap.specs.declared.Stored.TheVariants as cell
use Rattle.cb_heap.specs.declared.Change.{Change}
use Rattle.cb_heap.specs.declared.Ref.{Ref}
use Rattle.cb_heap.specs.Finite.{AllFinite, IsChild, IsFinite, Names, ends}
use Rattle.cb_heap.specs.Heap.{IsHeap, Terms}
use Rattle.cb_heap.specs.Links.{link_of}
use Rattle.cb_heap.specs.Moments.{IsMoment, Moment, changes_since, reverted, undone}
use Rattle.cb_heap.proofs.Chains.{leads-finite, links-name}
use Rattle.cb_heap.proofs.Steps.{get-set-other, get-set-same, no_some, some-inj}
use Rattle.cb_join.specs.Cycle.{AreFinite, IsClosed, RootsEnd}
use Rattle.cb_join.specs.Joins.{KeepsEnds}
use Rattle.cb_join.proofs.Ends.{leads-down, link-has-end}
use Rattle.cb_join.proofs.Ways.{past-finite}

-- ---- changes

each-at : (P : Change → Type 0) (xs : List Change) (k : ℕ) (x : Change) → Each P xs → slice_get xs k ≡ Some x → P x
each-at P [] k x h e = absurd (no_some _ x refl e)
each-at P (y ∷ xs) zero x h e = subst P (some-inj y x e) h.0
each-at P (y ∷ xs) (suc k) x h e = each-at P xs k x h.1 e

each-drop : (P : Change → Type 0) (n : ℕ) (xs : List Change) → Each P xs → Each P (drop n xs)
each-drop P zero xs h = h
each-drop P (suc n) [] h = h
each-drop P (suc n) (x ∷ xs) h = each-drop P n xs h.1

-- the cell that was changed is there
pub changed-within : (t : Terms) (m : Moment) → IsHeap t → (k : ℕ) (o : Option Change) → o ≡ slice_get (changes_since m t) k → (c : Change) → o ≡ Some c → c.cell < length t.cells
changed-within t m h k o e c is = each-at (λ x. x.cell < length t.cells) (changes_since m t) k c (each-drop _ m.trail t.trail h.trail) (sym e ∙ is)

-- one root more
pub more-ends : (t : Terms) (m : Moment) (k below : ℕ) (o : Option Ref) → ((c : Change) → slice_get (changes_since m t) k ≡ Some c → link_of c.old ≡ None → o ≡ Some (record { 0 = c.cell })) →
    ((j : ℕ) (c : Change) → j < k → slice_get (changes_since m t) j ≡ Some c → link_of c.old ≡ None → c.cell < below → IsFinite t.cells c.cell) →
    ((r : Ref) → o ≡ Some r → r.0 < below → IsFinite t.cells r.0) →
    (j : ℕ) (c : Change) → j < k + 1 → slice_get (changes_since m t) j ≡ Some c → link_of c.old ≡ None → c.cell < below → IsFinite t.cells c.cell
more-ends t m k below o root before new j c less at none small = elim (cases_eq j k) [
  | inl same ↦ new (record { 0 = c.cell }) (root c (ap (λ q. slice_get (changes_since m t) q) (sym same) ∙ at) none) small
  | inr other ↦ before j c (omega (arith, less, other)) at none small
]

pub ends-all : (t : Terms) (m : Moment) (n below : ℕ) → length (changes_since m t) ≤ n →
    ((j : ℕ) (c : Change) → j < n → slice_get (changes_since m t) j ≡ Some c → link_of c.old ≡ None → c.cell < below → IsFinite t.cells c.cell) → RootsEnd t m below
ends-all t m n below h before k c at none small = before k c (let a = slice_get_within (changes_since m t) k c at in omega (arith, a, h)) at none small

-- ---- what stood in a cell

set-is : (cs : List Stored) (v : ℕ) (c d : Stored) → slice_get (slice_set cs v c) v ≡ Some d → c ≡ d
set-is cs v c d is =
    let a = slice_get_within (slice_set cs v c) v d is in
    let n = length-set cs v c in
    some-inj c d (sym (get-set-same cs v (get_or cs v (cell.Leaf 0)) c (slice_get-get_or cs v (cell.Leaf 0) (omega (arith, a, n)))) ∙ is)

length-undone : (xs : List Change) (cs : List Stored) → length (undone xs cs) ≡ length cs
length-undone [] cs = refl
length-undone (x ∷ xs) cs = length-set (undone xs cs) x.cell x.old ∙ length-undone xs cs

-- it was changed and stood there until then, or it stands there
first-change : (xs : List Change) (cs : List Stored) (r : ℕ) (c : Stored) → slice_get (undone xs cs) r ≡ Some c →
    ((k : ℕ) × (x : Change) × (slice_get xs k ≡ Some x) × (x.cell ≡ r) × (x.old ≡ c)) ⊎ (slice_get cs r ≡ Some c)
first-change [] cs r c is = inr is
first-change (x ∷ xs) cs r c is = elim (cases_eq r x.cell) [
  | inl same ↦ inl (0, x, refl, sym same, set-is (undone xs cs) x.cell x.old c (ap (λ q. slice_get (slice_set (undone xs cs) x.cell x.old) q) (sym same) ∙ is))
  | inr other ↦ elim (first-change xs cs r c (sym (get-set-other (undone xs cs) x.cell r x.old other) ∙ is)) [
    | inl h ↦ inl (suc h.0, h.1, h.2, h.3, h.4)
    | inr e ↦ inr e
  ]
]

module _ (t : Terms) (m : Moment) (is : IsMoment m t) (number : m.cells ≡ length t.cells) (before : AllFinite (reverted m t).cells) (keeps : KeepsEnds (reverted m t).cells t.cells) where
  abbrev then_is : List Stored
  then_is = (reverted m t).cells

  all-taken : take m.cells t.cells ≡ t.cells
  all-taken = ap (λ n. take n t.cells) number ∙ take-length t.cells

  then-number : length then_is ≡ length t.cells
  then-number = length-undone (changes_since m t) (take m.cells t.cells) ∙ ap (λ (x : List Stored). length x) all-taken

  changed-or : (r : ℕ) (c : Stored) → slice_get then_is r ≡ Some c → ((k : ℕ) × (x : Change) × (slice_get (changes_since m t) k ≡ Some x) × (x.cell ≡ r) × (x.old ≡ c)) ⊎ (slice_get t.cells r ≡ Some c)
  changed-or r c at = first-change (changes_since m t) t.cells r c (ap (λ (x : List Stored). slice_get (undone (changes_since m t) x) r) (sym all-taken) ∙ at)

  module _ (n : ℕ) (closed : IsClosed n then_is) (roots : RootsEnd t m n) where
    -- a link has the end that it had with the cell that it led to
    by-form : (r : ℕ) (c : Stored) → slice_get then_is r ≡ Some c → r < n → ((j : ℕ) → IsChild then_is r j → IsFinite t.cells j) → (o : Option Ref) → link_of c ≡ o → IsFinite t.cells r
    by-form r c at less below (Some to) l =
        let one = keeps r to.0 (link-has-end then_is is.heap.linked r c to at l (before to.0)) in
        leads-finite t.cells r one.0 one.1 (leads-down t.cells to.0 one.0 one.2 (below to.0 (c, at, links-name r c to l)))
    by-form r c at less below None l = elim (changed-or r c at) [
      | inl h ↦ subst (IsFinite t.cells) h.3 (roots h.0 h.1 h.2 (ap link_of h.4 ∙ l) (subst (λ q. q < n) (sym h.3) less))
      | inr same ↦ ends (λ j child. below j (c, at, subst (λ (x : Stored). Names r x j) (some-inj child.0 c (sym child.1 ∙ same)) child.2))
    ]

    by-place : (r : ℕ) → r < n → ((j : ℕ) → IsChild then_is r j → IsFinite t.cells j) → IsFinite t.cells r
    by-place r less below = elim (cases_lt r (length then_is)) [
      | inl there ↦ by-form r (get_or then_is r (cell.Leaf 0)) (slice_get-get_or then_is r (cell.Leaf 0) there) less below (link_of (get_or then_is r (cell.Leaf 0))) refl
      | inr past ↦ past-finite t.cells r (let e = then-number in omega (arith, e, past))
    ]

    low : (r : ℕ) → IsFinite then_is r → r < n → IsFinite t.cells r
    low r (ends f) less = by-place r less (λ j child. low j (f j child) (closed r j less child))

    pub settled-finite : AreFinite t.cells n
    settled-finite r less = low r (before r) less

  pub whole-finite : (n : ℕ) → n ≡ length t.cells → RootsEnd t m n → AllFinite t.cells
  whole-finite n e roots r = elim (cases_lt r n) [
    | inl less ↦ settled-finite n (λ q j _ child. let a = is.heap.linked.within q j child in let d = then-number in omega (arith, a, d, e)) roots r less
    | inr past ↦ past-finite t.cells r (omega (arith, past, e))
  ]
