-- One cell rewritten: links and sorts.
use Rattle.std.proofs.Common.{◌≡◌, inl, inr, ℕ, ◌<◌, List, length, Some, None, refl, sym, subst, ◌∙◌}
use Rattle.std.specs.Prelude.{slice_get, slice_set}
use Rattle.std.proofs.lemmas.Bool.{cases_eq}
use Rattle.std.proofs.lemmas.List.{length-set}
use Rattle.cb_model.specs.declared.Sort.{Sort}
use Rattle.cb_model.specs.Values.{Sorts}
use Rattle.cb_heap.specs.declared.Stored.{Stored}
use Rattle.cb_heap.specs.declared.Stored.TheVariants as cell
use Rattle.cb_heap.specs.Reading.{IsUnbound}
use Rattle.cb_heap.specs.Finite.{IsSorted, CellSorted, Names}
use Rattle.cb_heap.specs.Links.{IsLinked, LinkFalls, IsSolid, IsSolidAt, link_of}
use Rattle.cb_heap.proofs.Steps.{some-inj, no_some, get-set-same, get-set-other}

module _ (cs : List Stored) (v : ℕ) (c d : Stored) (is : slice_get cs v ≡ Some d) where
  pub solid-stays : (IsSolid d → IsSolid c) → (j : ℕ) → IsSolidAt cs j → IsSolidAt (slice_set cs v c) j
  solid-stays f j s = elim (cases_eq j v) [
    | inl same ↦
        let at : slice_get cs j ≡ Some d = subst (λ q. slice_get cs q ≡ Some d) (sym same) is in
        (c, subst (λ q. slice_get (slice_set cs v c) q ≡ Some c) (sym same) (get-set-same cs v d c is), f (subst IsSolid (some-inj s.0 d (sym s.1 ∙ at)) s.2))
    | inr other ↦ (s.0, get-set-other cs v j c other ∙ s.1, s.2)
  ]

  falls-stays : (IsSolid d → IsSolid c) → (q : ℕ) (e : Stored) → LinkFalls cs q e → LinkFalls (slice_set cs v c) q e
  falls-stays f q (cell.Bound to) (inl l) = inl l
  falls-stays f q (cell.Bound to) (inr s) = inr (solid-stays f to.0 s)
  falls-stays f q (cell.Same to) h = (h.0, solid-stays f to.0 h.1)
  falls-stays f q (cell.Leaf s) h = tt
  falls-stays f q cell.BusVar h = tt
  falls-stays f q cell.BusNil h = tt
  falls-stays f q (cell.BusCons a b) h = tt
  falls-stays f q cell.TermVar h = tt
  falls-stays f q (cell.Int z) h = tt
  falls-stays f q (cell.Node n k) h = tt

  new-cell : (q : ℕ) (e : Stored) → q ≡ v → slice_get (slice_set cs v c) q ≡ Some e → c ≡ e
  new-cell q e same at = some-inj c e (sym (subst (λ k. slice_get (slice_set cs v c) k ≡ Some c) (sym same) (get-set-same cs v d c is)) ∙ at)

  pub linked-set : IsLinked cs → (IsSolid d → IsSolid c) → LinkFalls (slice_set cs v c) v c → ((j : ℕ) → Names v c j → j < length cs) → IsLinked (slice_set cs v c)
  linked-set h f new names = record {
    falls = λ q e at. elim (cases_eq q v) [
      | inl same ↦ subst (λ k. LinkFalls (slice_set cs v c) k e) (sym same) (subst (λ x. LinkFalls (slice_set cs v c) v x) (new-cell q e same at) new)
      | inr other ↦ falls-stays f q e (h.falls q e (sym (get-set-other cs v q c other) ∙ at))
    ];
    within = λ q j child. subst (λ n. j < n) (sym (length-set cs v c)) (elim (cases_eq q v) [
      | inl same ↦ names j (subst (λ k. Names k c j) same (subst (λ x. Names q x j) (sym (new-cell q child.0 same child.1)) child.2))
      | inr other ↦ h.within q j (child.0, sym (get-set-other cs v q c other) ∙ child.1, child.2)
    ]);
  }

  pub sorted-set : (t : Sorts) (ss : List Sort) → IsSorted t ss cs → CellSorted t ss v c → IsSorted t ss (slice_set cs v c)
  sorted-set t ss h new = record {
    number = h.number ∙ sym (length-set cs v c);
    cells = λ q e at. elim (cases_eq q v) [
      | inl same ↦ subst (λ k. CellSorted t ss k e) (sym same) (subst (λ x. CellSorted t ss v x) (new-cell q e same at) new)
      | inr other ↦ h.cells q e (sym (get-set-other cs v q c other) ∙ at)
    ];
  }

pub unbound-no-solid : (d c : Stored) → IsUnbound d → IsSolid d → IsSolid c
unbound-no-solid cell.BusVar c u s = absurd s
unbound-no-solid cell.TermVar c u s = absurd s
unbound-no-solid (cell.Leaf z) c u s = absurd u
unbound-no-solid cell.BusNil c u s = absurd u
unbound-no-solid (cell.BusCons a b) c u s = absurd u
unbound-no-solid (cell.Int z) c u s = absurd u
unbound-no-solid (cell.Node n k) c u s = absurd u
unbound-no-solid (cell.Bound to) c u s = absurd u
unbound-no-solid (cell.Same to) c u s = absurd u

pub solid-of : (c : Stored) → link_of c ≡ None → (IsUnbound c → ⊥) → IsSolid c
solid-of cell.BusVar e n = absurd (n tt)
solid-of cell.TermVar e n = absurd (n tt)
solid-of (cell.Leaf z) e n = tt
solid-of cell.BusNil e n = tt
solid-of (cell.BusCons a b) e n = tt
solid-of (cell.Int z) e n = tt
solid-of (cell.Node m k) e n = tt
solid-of (cell.Bound to) e n = absurd (no_some _ to e refl)
solid-of (cell.Same to) e n = tt
