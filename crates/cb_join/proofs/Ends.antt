-- Cells from which links lead to one end.
use Rattle.std.proofs.Common.{◌≡◌, ◌≢◌, inl, inr, ℕ, ◌<◌, List, length, Option, Some, None, refl, sym, ap, subst, ◌∙◌}
use Rattle.std.specs.Prelude.{slice_get, slice_set, get_or}
use Rattle.std.proofs.lemmas.Bool.{cases_eq}
use Rattle.std.proofs.lemmas.Option.{slice_get-get_or}
use Rattle.cb_heap.specs.declared.Stored.{Stored}
use Rattle.cb_heap.specs.declared.Stored.TheVariants as cell
use Rattle.cb_heap.specs.declared.Ref.{Ref}
use Rattle.cb_heap.specs.Finite.{IsFinite, ends}
use Rattle.cb_heap.specs.Links.{IsLinked, LeadsTo, arrives, goes, link_of}
use Rattle.cb_heap.proofs.Chains.{leads-on, link-within, links-name}
use Rattle.cb_heap.proofs.Steps.{get-set-other, get-set-same, no_some, some-inj}
use Rattle.cb_join.specs.Cycle.{IsLinkTo}
use Rattle.cb_join.specs.Joins.{HaveOneEnd, IsEnd, KeepsEnds}

-- what links lead to is finite with the cell that they lead from
pub leads-down : (cs : List Stored) (r e : ℕ) → LeadsTo cs r e → IsFinite cs r → IsFinite cs e
leads-down cs r e arrives f = f
leads-down cs r e (goes c to is l k) (ends f) = leads-down cs to.0 e k (f to.0 (c, is, links-name r c to l))

-- what is known of a way that leads through a link
pub way-on : (cs : List Stored) (at e : ℕ) (to : Ref) → LeadsTo cs at e → IsEnd cs e → IsLinkTo cs at to → LeadsTo cs to.0 e
way-on cs at e to arrives end link = absurd (no_some (link_of link.0) to (subst (λ x. link_of x ≡ None) (some-inj end.0 link.0 (sym end.1 ∙ link.1)) end.2) link.2)
way-on cs at e to (goes c x is l k) end link =
    let same : c ≡ link.0 = some-inj c link.0 (sym is ∙ link.1) in
    let one : x ≡ to = some-inj x to (sym l ∙ ap link_of same ∙ link.2) in
    subst (λ (y : Ref). LeadsTo cs y.0 e) one k

-- no link leads from an end
from-end : (cs : List Stored) (e x : ℕ) → LeadsTo cs e x → IsEnd cs e → e ≡ x
from-end cs e x arrives end = refl
from-end cs e x (goes c to is l k) end = absurd (no_some (link_of c) to (ap link_of (some-inj c end.0 (sym is ∙ end.1)) ∙ end.2) l)

-- a cell has one end
pub one-end : (cs : List Stored) (r e x : ℕ) → LeadsTo cs r e → IsEnd cs e → LeadsTo cs r x → IsEnd cs x → e ≡ x
one-end cs r e x arrives he k hx = from-end cs e x k he
one-end cs r e x (goes c to is l j) he k hx = one-end cs to.0 e x j he (way-on cs r x to k hx (c, is, l)) hx

-- ---- each cell that is finite has an end

end-by : (cs : List Stored) (r : ℕ) (c : Stored) → slice_get cs r ≡ Some c → (o : Option Ref) → link_of c ≡ o → ((to : Ref) → link_of c ≡ Some to → (e : ℕ) × LeadsTo cs to.0 e × IsEnd cs e) → (e : ℕ) × LeadsTo cs r e × IsEnd cs e
end-by cs r c at None e rec = (r, arrives, (c, at, e))
end-by cs r c at (Some to) e rec = let x = rec to e in (x.0, goes c to at e x.1, x.2)

end-from : (cs : List Stored) → IsLinked cs → (r : ℕ) → IsFinite cs r → r < length cs → (e : ℕ) × LeadsTo cs r e × IsEnd cs e
end-from cs h r (ends f) less =
    let c = get_or cs r (cell.Leaf 0) in
    let at : slice_get cs r ≡ Some c = slice_get-get_or cs r (cell.Leaf 0) less in
    end-by cs r c at (link_of c) refl (λ to e. end-from cs h to.0 (f to.0 (c, at, links-name r c to e)) (link-within cs h r c to at e))

-- a link has the end of the cell that it leads to
pub link-has-end : (cs : List Stored) → IsLinked cs → (r : ℕ) (c : Stored) (to : Ref) → slice_get cs r ≡ Some c → link_of c ≡ Some to → IsFinite cs to.0 → HaveOneEnd cs r to.0
link-has-end cs h r c to is l f = let x = end-from cs h to.0 f (link-within cs h r c to is l) in (x.0, goes c to is l x.1, x.1, x.2)

-- ---- an end that is led to another

module _ (cs : List Stored) (v : ℕ) (c new : Stored) (to : Ref) (is : slice_get cs v ≡ Some c) (none : link_of c ≡ None) (l : link_of new ≡ Some to) where
  still-way : (r e : ℕ) → LeadsTo cs r e → LeadsTo (slice_set cs v new) r e
  still-way r e arrives = arrives
  still-way r e (goes d x at n k) =
      let apart : r ≢ v = λ same. no_some (link_of c) x none (ap link_of (sym (some-inj d c (sym at ∙ ap (λ q. slice_get cs q) same ∙ is))) ∙ n) in
      goes d x (get-set-other cs v r new apart ∙ at) n (still-way x.0 e k)

  way-to : (r : ℕ) → LeadsTo cs r v → LeadsTo (slice_set cs v new) r to.0
  way-to r k = leads-on (slice_set cs v new) r v new to (still-way r v k) (get-set-same cs v c new is) l

  still-end : (e : ℕ) → e ≢ v → IsEnd cs e → IsEnd (slice_set cs v new) e
  still-end e apart h = (h.0, get-set-other cs v e new apart ∙ h.1, h.2)

  pub ends-bound : to.0 ≢ v → IsEnd cs to.0 → KeepsEnds cs (slice_set cs v new)
  ends-bound other end r j h = elim (cases_eq h.0 v) [
    | inl same ↦ (to.0, way-to r (subst (LeadsTo cs r) same h.1), way-to j (subst (LeadsTo cs j) same h.2), still-end to.0 other end)
    | inr apart ↦ (h.0, still-way r h.0 h.1, still-way j h.0 h.2, still-end h.0 apart h.3)
  ]

-- ---- a link that is led to the end of its way

module _ (cs : List Stored) (at : ℕ) (c new : Stored) (to e : Ref) (is : slice_get cs at ≡ Some c) (li : link_of c ≡ Some to) (ln : link_of new ≡ Some e) (leads : LeadsTo cs to.0 e.0) (end : IsEnd cs e.0) where
  short-way : (r x : ℕ) → LeadsTo cs r x → IsEnd cs x → LeadsTo (slice_set cs at new) r x
  short-way r x arrives hx = arrives
  short-way r x (goes d q k l w) hx = elim (cases_eq r at) [
    | inl same ↦
        let one : e.0 ≡ x = one-end cs to.0 e.0 x leads end (way-on cs at x to (subst (λ y. LeadsTo cs y x) same (goes d q k l w)) hx (c, is, li)) hx in
        goes new e (ap (λ y. slice_get (slice_set cs at new) y) same ∙ get-set-same cs at c new is) ln (subst (LeadsTo (slice_set cs at new) e.0) one arrives)
    | inr other ↦ goes d q (get-set-other cs at r new other ∙ k) l (short-way q.0 x w hx)
  ]

  pub ends-short : ((x : ℕ) → IsEnd cs x → IsEnd (slice_set cs at new) x) → KeepsEnds cs (slice_set cs at new)
  ends-short still r j h = (h.0, short-way r h.0 h.1 h.3, short-way j h.0 h.2 h.3, still h.0 h.3)
