-- From the cells below a cell to what the words of a delay say of it, and back.
use Rattle.std.proofs.Common.{◌≡◌, ◌≢◌, ◌↔◌, ℕ, ◌<◌, Bool, true, false, not, List, length, Option, Some, None, Result, Ok, Err, refl, sym, ap, subst, ◌∙◌}
use Rattle.std.specs.Prelude.{slice_get, get_or, IsTrue, IfOk}
use Rattle.std.specs.Option.{is_some}
use Rattle.std.proofs.lemmas.Bool.{true≢false}
use Rattle.std.proofs.lemmas.Option.{get_or_from_slice_get}
use Rattle.cb_model.specs.declared.Sort.{Sort}
use Rattle.cb_model.specs.declared.Sort.TheVariants as sort
use Rattle.cb_model.specs.declared.When.{When}
use Rattle.cb_model.specs.declared.When.TheVariants as when
use Rattle.cb_model.specs.Bits.{Bits}
use Rattle.cb_model.specs.Derivation.{Outermost, ABit, Empty, NotEmpty, AnInt, ANode, outermost}
use Rattle.cb_model.specs.Values.{Sorts, Fits}
use Rattle.cb_boole.specs.Elimination.{Function}
use Rattle.cb_boole.specs.View.{Agrees, InRange}
use Rattle.cb_boole.proofs.Unify.{at_point}
use Rattle.cb_elim.specs.Store.{slot_bits, view_of}
use Rattle.cb_heap.specs.declared.Stored.{Stored}
use Rattle.cb_heap.specs.declared.Stored.TheVariants as cell
use Rattle.cb_heap.specs.Reading.{Reading, IsUnbound, form_of}
use Rattle.cb_heap.specs.Finite.{CellSorted, IsChild}
use Rattle.cb_join.specs.Joins.{SlotsBelow}
use Rattle.cb_heap.specs.Below.{IsBelow}
use Rattle.cb_heap.specs.Links.{IsLast, link_of}
use Rattle.cb_heap.proofs.Facts.{below-same, one-below, two-forms}
use Rattle.cb_heap.proofs.Steps.{bit-inj, form-tells, no_some, some-inj}
use Rattle.cb_heap.proofs.Values.{has-reading}
use Rattle.cb_unify.specs.State.{Seen, FitsTable, IsState, Reads}
use Rattle.cb_unify.specs.Delays.{AreSettled, HoldsAt, Settles}
use Rattle.cb_unify.proofs.Cells.{rise-below}
use Rattle.cb_unify.proofs.Solving.{any-fits, any-value}

-- ---- of one cell

-- an unbound cell is no truth value
unbound-sort : (t : Sorts) (ss : List Sort) (r : ℕ) (c : Stored) → CellSorted t ss r c → IsUnbound c → (z : Sort) × (slice_get ss r ≡ Some z) × (z ≢ sort.Bool)
unbound-sort t ss r cell.BusVar h u = (sort.Bus, h, λ e. cc)
unbound-sort t ss r cell.TermVar h u = (sort.Term, h, λ e. cc)
unbound-sort t ss r (cell.Leaf x) h u = absurd u
unbound-sort t ss r cell.BusNil h u = absurd u
unbound-sort t ss r (cell.BusCons x y) h u = absurd u
unbound-sort t ss r (cell.Int z) h u = absurd u
unbound-sort t ss r (cell.Node n k) h u = absurd u
unbound-sort t ss r (cell.Bound to) h u = absurd u
unbound-sort t ss r (cell.Same to) h u = absurd u

-- what stands at the end of the links has a form, or is unbound
form-some : (c : Stored) → link_of c ≡ None → (IsUnbound c → ⊥) → (f : Outermost) × (form_of c ≡ Some f)
form-some (cell.Leaf x) e n = (ABit, refl)
form-some cell.BusNil e n = (Empty, refl)
form-some (cell.BusCons x y) e n = (NotEmpty, refl)
form-some (cell.Int z) e n = (AnInt z, refl)
form-some (cell.Node m k) e n = (ANode m, refl)
form-some cell.BusVar e n = absurd (n tt)
form-some cell.TermVar e n = absurd (n tt)
form-some (cell.Bound to) e n = absurd (no_some (link_of (cell.Bound to)) to e refl)
form-some (cell.Same to) e n = absurd (no_some (link_of (cell.Same to)) to e refl)

settled-bound : (s : Seen) (d : When) (c : Stored) → Settles s.store d c → IsUnbound c → ⊥
settled-bound s d cell.BusVar h u = h
settled-bound s d cell.TermVar h u = h
settled-bound s d (cell.Leaf x) h u = u
settled-bound s d cell.BusNil h u = u
settled-bound s d (cell.BusCons x y) h u = u
settled-bound s d (cell.Int z) h u = u
settled-bound s d (cell.Node n k) h u = u
settled-bound s d (cell.Bound to) h u = u
settled-bound s d (cell.Same to) h u = u

-- a cell settles, where it isn't unbound and its bit is settled if it is a leaf
settles-where : (s : Seen) (d : When) (c : Stored) → (IsUnbound c → ⊥) → ((x : ℕ) → c ≡ cell.Leaf x → Settles s.store d (cell.Leaf x)) → Settles s.store d c
settles-where s d cell.BusVar n l = n tt
settles-where s d cell.TermVar n l = n tt
settles-where s d (cell.Leaf x) n l = l x refl
settles-where s d cell.BusNil n l = tt
settles-where s d (cell.BusCons x y) n l = tt
settles-where s d (cell.Int z) n l = tt
settles-where s d (cell.Node m k) n l = tt
settles-where s d (cell.Bound to) n l = tt
settles-where s d (cell.Same to) n l = tt

-- ---- answers

-- a constant node is told by its bit
pub some-constant : (o : Option Bool) (f : Function) → ((b : Bool) → (o ≡ Some b) ↔ ((p : Bits) → f p ≡ b)) → IsTrue (is_some o) ↔ ((b : Bool) × ((p : Bits) → f p ≡ b))
some-constant None f h = ((λ e. absurd (true≢false (sym e))), (λ q. absurd (no_some None q.0 refl ((h q.0).1 q.1))))
some-constant (Some b) f h = ((λ e. (b, (h b).0 refl)), (λ q. refl))

not-true : (b : Bool) (P : Type 0) → (IsTrue b ↔ P) → IsTrue (not b) ↔ (P → ⊥)
not-true true P h = ((λ e. absurd (true≢false (sym e))), (λ n. absurd (n (h.0 refl))))
not-true false P h = ((λ e p. true≢false (sym (h.1 p))), (λ n. refl))

ok-same : {E : Type 0} (o : Result Bool E) (P Q : Type 0) → (P ↔ Q) → IfOk o (λ b. IsTrue b ↔ P) → IfOk o (λ b. IsTrue b ↔ Q)
ok-same (Ok b) P Q e h = ((λ x. e.0 (h.0 x)), (λ q. h.1 (e.1 q)))
ok-same (Err x) P Q e h = h

-- ---- values of the state

module _ (s : Seen) (is : IsState s) where
  -- the bits of the slots at a point
  abbrev bits : Bits → Bits
  bits p = λ x. (view_of s.store).values x p

  slot-at : (a w : Bits) (r : InRange (view_of s.store) a w) (x : ℕ) → slot_bits (view_of s.store) a w x ≡ (view_of s.store).values x r.at
  slot-at a w r x = at_point (view_of s.store) is.store.good ((view_of s.store).values x) (is.store.good.fit x) a w r

  bits-at : (a p : Bits) → Agrees (view_of s.store) a p → (x : ℕ) → slot_bits (view_of s.store) a (bits p) x ≡ (view_of s.store).values x p
  bits-at a p h x = slot-at a (bits p) (record { at = p; agrees = h; gives = λ y v. refl }) x

  inside : (j i : ℕ) → j < length s.heap.cells → IsChild s.heap.cells j i → i < length s.heap.cells
  inside j i l n = is.heap.linked.within j i n

  module _ (t : Sorts) (fits : FitsTable t s) where
    reads-at : (a p : Bits) → Agrees (view_of s.store) a p → (g : Reading) × Reads t s a (bits p) g
    reads-at a p h =
        let r = has-reading t (slot_bits (view_of s.store) a (bits p)) (λ r. any-value (get_or s.heap.sorts r sort.Bool)) s.heap.sorts s.heap.cells is.finite fits
        (λ r z e. subst (λ x. Fits t z (any-value x)) (sym (get_or_from_slice_get s.heap.sorts r z sort.Bool e)) (any-fits t z)) in
        (r.0, record { range = record { at = p; agrees = h; gives = λ x v. refl }; reading = r.1 })

    -- two values of different forms of an unbound cell
    two-reads : (v : ℕ) (c : Stored) → slice_get s.heap.cells v ≡ Some c → IsUnbound c → (a : Bits) →
        (g k : Reading) × Reads t s a (bits a) g × Reads t s a (bits a) k × (outermost (g v) ≢ outermost (k v))
    two-reads v c at u a =
        let z = unbound-sort t s.heap.sorts v c (fits.cells v c at) u in
        let q = two-forms t (slot_bits (view_of s.store) a (bits a)) s.heap.sorts s.heap.cells is.finite fits v c at u z.0 z.1 z.2 in
        let range : InRange (view_of s.store) a (bits a) = record { at = a; agrees = λ k l. refl; gives = λ x v. refl } in
        (q.0, q.1, record { range = range; reading = q.2 }, record { range = range; reading = q.3 }, q.4)

    -- one value of a cell at two readings is one value of each cell below it
    same-below : (r j : ℕ) → IsBelow s.heap.cells r j → (a b w v : Bits) (g k : Reading) → Reads t s a w g → Reads t s b v k → g r ≡ k r → g j ≡ k j
    same-below r j below a b w v g k p q e = below-same (slot_bits (view_of s.store) a w) (slot_bits (view_of s.store) b v) s.heap.cells g k p.reading.holds q.reading.holds inside r j below e

    -- so the bit of a leaf below it is one
    same-bit : (r j x : ℕ) → IsBelow s.heap.cells r j → slice_get s.heap.cells j ≡ Some (cell.Leaf x) → (a b w v : Bits) (g k : Reading) → Reads t s a w g → Reads t s b v k → g r ≡ k r →
        slot_bits (view_of s.store) a w x ≡ slot_bits (view_of s.store) b v x
    same-bit r j x below at a b w v g k p q e =
        bit-inj (slot_bits (view_of s.store) a w x) (slot_bits (view_of s.store) b v x)
        (sym (p.reading.holds j (cell.Leaf x) at) ∙ same-below r j below a b w v g k p q e ∙ q.reading.holds j (cell.Leaf x) at)

    -- and what settles below it determines its value
    settled-same : (r : ℕ) → r < length s.heap.cells → (d : When) → AreSettled s.store d s.heap.cells r → (a b w v : Bits) (g k : Reading) (p : Reads t s a w g) (q : Reads t s b v k) →
        ((j x : ℕ) → IsBelow s.heap.cells r j → slice_get s.heap.cells j ≡ Some (cell.Leaf x) → (view_of s.store).values x p.range.at ≡ (view_of s.store).values x q.range.at) → g r ≡ k r
    settled-same r less d all a b w v g k p q same =
        one-below (slot_bits (view_of s.store) a w) (slot_bits (view_of s.store) b v) s.heap.cells g k p.reading.holds q.reading.holds inside r less (is.finite r)
        (λ j c below at u. absurd (settled-bound s d c (all j c below at) u))
        (λ j x below at. slot-at a w p.range x ∙ same j x below at ∙ sym (slot-at b v q.range x))

    -- ---- known

    known-holds : (r : ℕ) → r < length s.heap.cells → AreSettled s.store when.Known s.heap.cells r → HoldsAt t s when.Known r
    unfolding view_of
    known-holds r less all a w w' g g' p q = settled-same r less when.Known all a a w w' g g' p q
        (λ j x below at. all j (cell.Leaf x) below at p.range.at q.range.at (λ l h. p.range.agrees l h ∙ sym (q.range.agrees l h)))

    known-settles : (r : ℕ) → HoldsAt t s when.Known r → AreSettled s.store when.Known s.heap.cells r
    unfolding view_of
    known-settles r holds j c below at = settles-where s when.Known c
        (λ u.
        let a : Bits = λ k. false in
        let q = two-reads j c at u a in
        q.4 (ap outermost (same-below r j below a a (bits a) (bits a) q.0 q.1 q.2 q.3 (holds a (bits a) (bits a) q.0 q.1 q.2 q.3))))
        (λ x e p q alike.
        let k = reads-at p p (λ l h. refl) in
        let n = reads-at p q (λ l h. sym (alike l h)) in
        sym (bits-at p p (λ l h. refl) x)
        ∙ same-bit r j x below (at ∙ ap Some e) p p (bits p) (bits q) k.0 n.0 k.1 n.1 (holds p (bits p) (bits q) k.0 n.0 k.1 n.1)
        ∙ bits-at p q (λ l h. sym (alike l h)) x)

    -- ---- const

    fixed-holds : (r : ℕ) → r < length s.heap.cells → AreSettled s.store when.Fixed s.heap.cells r → HoldsAt t s when.Fixed r
    unfolding view_of
    fixed-holds r less all =
        let a : Bits = λ k. false in
        let o = reads-at a a (λ l h. refl) in (
          o.0 r,
          λ b w g p. settled-same r less when.Fixed all b a w (bits a) g o.0 p o.1 (λ j x below at.
              let same = all j (cell.Leaf x) below at in
              same.1 p.range.at ∙ sym (same.1 o.1.range.at)),
        )

    fixed-settles : (r : ℕ) → HoldsAt t s when.Fixed r → AreSettled s.store when.Fixed s.heap.cells r
    unfolding view_of
    fixed-settles r holds j c below at = settles-where s when.Fixed c
        (λ u.
        let a : Bits = λ k. false in
        let q = two-reads j c at u a in
        q.4 (ap outermost (same-below r j below a a (bits a) (bits a) q.0 q.1 q.2 q.3 (holds.1 a (bits a) q.0 q.2 ∙ sym (holds.1 a (bits a) q.1 q.3)))))
        (λ x e.
        let a : Bits = λ k. false in
        let o = reads-at a a (λ l h. refl) in (
          (view_of s.store).values x a,
          λ p.
              let k = reads-at p p (λ l h. refl) in
              sym (bits-at p p (λ l h. refl) x)
              ∙ same-bit r j x below (at ∙ ap Some e) p a (bits p) (bits a) k.0 o.0 k.1 o.1 (holds.1 p (bits p) k.0 k.1 ∙ sym (holds.1 a (bits a) o.0 o.1))
              ∙ bits-at a a (λ l h. refl) x,
        ))

    settled-holds : (r : ℕ) → r < length s.heap.cells → (d : When) → (d ≡ when.Any → ⊥) → (d ≡ when.Nonvar → ⊥) → AreSettled s.store d s.heap.cells r ↔ HoldsAt t s d r
    settled-holds r less when.Any n m = absurd (n refl)
    settled-holds r less when.Known n m = ((λ h. known-holds r less h), (λ h. known-settles r h))
    settled-holds r less when.Fixed n m = ((λ h. fixed-holds r less h), (λ h. fixed-settles r h))
    settled-holds r less when.Nonvar n m = absurd (m refl)

    -- ---- nonvar

    form-holds : (r e : ℕ) (c : Stored) → IsLast s.heap.cells r e → slice_get s.heap.cells e ≡ Some c → (IsUnbound c → ⊥) ↔ HoldsAt t s when.Nonvar r
    form-holds r e c last at = (
      (λ n.
          let same : last.cell ≡ c = some-inj last.cell c (sym last.there ∙ at) in
          let f = form-some c (sym (ap link_of same) ∙ last.no_link) n in
          (f.0, λ a w g q. ap outermost (last.value (slot_bits (view_of s.store) a w) g q.reading.holds) ∙ form-tells (slot_bits (view_of s.store) a w) g e c f.0 (q.reading.holds e c at) f.1)),
      (λ holds u.
          let a : Bits = λ k. false in
          let q = two-reads e c at u a in
          let one : (g : Reading) → Reads t s a (bits a) g → outermost (g e) ≡ holds.0 = λ g p. sym (ap outermost (last.value (slot_bits (view_of s.store) a (bits a)) g p.reading.holds)) ∙ holds.1 a (bits a) g p in
          q.4 (one q.0 q.2 ∙ sym (one q.1 q.3))),
    )

-- ---- by the fields

module _ (s now : Seen) (same : s ≡ now) (is : IsState now) where
  pub slots-below : SlotsBelow (length s.store.slots) s.heap.cells
  slots-below = let o : IsState s = subst IsState (sym same) is in rise-below (length s.store.slots) 0 s.heap.cells o.rise

  pub holds-settled : (d : When) → (d ≡ when.Any → ⊥) → (d ≡ when.Nonvar → ⊥) → (r : ℕ) → r < length now.heap.cells → {E : Type 0} (o : Result Bool E) → IfOk o (λ b. IsTrue b ↔ AreSettled s.store d s.heap.cells r) →
      (t : Sorts) → FitsTable t now → IfOk o (λ b. IsTrue b ↔ HoldsAt t now d r)
  holds-settled d n m r less o h t fits =
      ok-same o (AreSettled now.store d now.heap.cells r) (HoldsAt t now d r) (settled-holds now is t fits r less d n m) (subst (λ (u : Seen). IfOk o (λ b. IsTrue b ↔ AreSettled u.store d u.heap.cells r)) same h)

  pub holds-form : (r e : ℕ) (c : Stored) → IsLast s.heap.cells r e → slice_get s.heap.cells e ≡ Some c → (b : Bool) → (IsTrue b ↔ IsUnbound c) → (t : Sorts) → FitsTable t now → IsTrue (not b) ↔ HoldsAt t now when.Nonvar r
  holds-form r e c last at b h t fits =
      let x = not-true b (IsUnbound c) h in
      let y = form-holds now is t fits r e c (subst (λ (u : Seen). IsLast u.heap.cells r e) same last) (subst (λ (u : Seen). slice_get u.heap.cells e ≡ Some c) same at) in
      ((λ k. y.0 (x.0 k)), (λ k. x.1 (y.1 k)))
