-- A variable that is bound.
use Rattle.std.proofs.Common.{◌≡◌, ◌≢◌, inl, inr, ℕ, zero, suc, ◌<◌, List, [], ◌∷◌, ◌++◌, length, take, Some, None, refl, sym, ap, subst, ◌∙◌, arith, append-nil}
use Rattle.std.specs.Prelude.{slice_get, slice_set, get_or}
use Rattle.std.proofs.lemmas.Bool.{cases_eq, cases_lt}
use Rattle.std.specs.Global.{Vec}
use Rattle.std.specs.Vec.{with_items}
use Rattle.std.proofs.lemmas.List.{length-set, set-set, with_items_is}
use Rattle.std.proofs.Math.Seq.{take-length}
use Rattle.std.proofs.lemmas.Option.{slice_get_within, slice_get-get_or}
use Rattle.cb_model.specs.declared.Sort.{Sort}
use Rattle.cb_model.specs.declared.Sort.TheVariants as sort
use Rattle.cb_model.specs.Bits.{Each}
use Rattle.cb_model.specs.Values.{Sorts}
use Rattle.cb_heap.specs.declared.Ref.{Ref}
use Rattle.cb_heap.specs.declared.Change.{Change}
use Rattle.cb_heap.specs.declared.Stored.{Stored}
use Rattle.cb_heap.specs.declared.Stored.TheVariants as cell
use Rattle.cb_heap.specs.Reading.{IsUnbound}
use Rattle.cb_heap.specs.Finite.{IsFinite, ends, Names, AllFinite, IsSorted, CellSorted}
use Rattle.cb_heap.specs.Below.{IsBelow, here, down}
use Rattle.cb_heap.specs.Links.{IsLinked, LinkFalls, link_of, LeadsTo, arrives, goes, IsLast}
use Rattle.cb_heap.specs.Heap.{Terms, IsHeap, IsBound, IsUnboundAt, with_rewritten}
use Rattle.cb_heap.specs.Moments.{KeepsMoments}
use Rattle.cb_heap.proofs.Steps.{some-inj, no_some, get-set-same, get-set-other, bound-step}
use Rattle.cb_heap.proofs.Chains.{links-name, last-is}
use Rattle.cb_heap.proofs.Rewriting.{linked-set, sorted-set, unbound-no-solid, solid-of}
use Rattle.cb_heap.proofs.Back.{keeps}

set-own : (cs : List Stored) (r : ℕ) (c : Stored) → slice_get cs r ≡ Some c → slice_set cs r c ≡ cs
set-own [] r c is = refl
set-own (x ∷ cs) zero c is = ap (λ y. y ∷ cs) (sym (some-inj x c is))
set-own (x ∷ cs) (suc r) c is = ap (λ l. x ∷ l) (set-own cs r c is)

-- ---- the cells that aren't below a rewritten one

leads-below : (cs : List Stored) (r e : ℕ) → LeadsTo cs r e → IsBelow cs r e
leads-below cs r e arrives = here
leads-below cs r e (goes c to is l k) = down (c, is, links-name r c to l) (leads-below cs to.0 e k)

below-then : (cs : List Stored) (r j k : ℕ) → IsBelow cs r j → IsBelow cs j k → IsBelow cs r k
below-then cs r j k here b = b
below-then cs r j k (down c a) b = down c (below-then cs _ j k a b)

module _ (cs : List Stored) (v : ℕ) (c : Stored) where
  other-than : (r : ℕ) → (IsBelow cs r v → ⊥) → r ≢ v
  other-than r n e = n (subst (λ q. IsBelow cs r q) e here)

  finite-apart : (r : ℕ) → IsFinite cs r → (IsBelow cs r v → ⊥) → IsFinite (slice_set cs v c) r
  finite-apart r (ends f) n = ends (λ j child.
      let is : slice_get cs r ≡ Some child.0 = sym (get-set-other cs v r c (other-than r n)) ∙ child.1 in
      finite-apart j (f j (child.0, is, child.2)) (λ b. n (down (child.0, is, child.2) b)))

  leads-apart : (r e : ℕ) → LeadsTo cs r e → (IsBelow cs r v → ⊥) → LeadsTo (slice_set cs v c) r e
  leads-apart r e arrives n = arrives
  leads-apart r e (goes d to is l k) n = goes d to (get-set-other cs v r c (other-than r n) ∙ is) l (leads-apart to.0 e k (λ b. n (down (d, is, links-name r d to l) b)))

-- the end of the links leads on
leads-past : (cs : List Stored) (r e : ℕ) (c : Stored) (to : Ref) → slice_get cs e ≡ Some c → link_of c ≡ None → LeadsTo cs r e → LeadsTo (slice_set cs e (cell.Bound to)) r to.0
leads-past cs r e c to is n arrives = goes (cell.Bound to) to (get-set-same cs e c (cell.Bound to) is) refl arrives
leads-past cs r e c to is n (goes d x a b k) =
    let other : r ≢ e = λ same. no_some (link_of c) x n (ap link_of (some-inj c d (sym (subst (λ q. slice_get cs q ≡ Some c) (sym same) is) ∙ a)) ∙ b) in
    goes d x (get-set-other cs e r (cell.Bound to) other ∙ a) b (leads-past cs x.0 e c to is n k)

unbound-link : (c : Stored) → IsUnbound c → link_of c ≡ None
unbound-link cell.BusVar u = refl
unbound-link cell.TermVar u = refl
unbound-link (cell.Leaf s) u = absurd u
unbound-link cell.BusNil u = absurd u
unbound-link (cell.BusCons a b) u = absurd u
unbound-link (cell.Int z) u = absurd u
unbound-link (cell.Node n k) u = absurd u
unbound-link (cell.Bound to) u = absurd u
unbound-link (cell.Same to) u = absurd u

unbound-names : (r j : ℕ) (c : Stored) → IsUnbound c → Names r c j → ⊥
unbound-names r j cell.BusVar u n = n
unbound-names r j cell.TermVar u n = n
unbound-names r j (cell.Leaf s) u n = u
unbound-names r j cell.BusNil u n = u
unbound-names r j (cell.BusCons a b) u n = u
unbound-names r j (cell.Int z) u n = u
unbound-names r j (cell.Node m k) u n = u
unbound-names r j (cell.Bound to) u n = u
unbound-names r j (cell.Same to) u n = u

-- ---- sorts

link-sort : (t : Sorts) (ss : List Sort) (r : ℕ) (c : Stored) (to : Ref) → link_of c ≡ Some to → CellSorted t ss r c → slice_get ss r ≡ slice_get ss to.0
link-sort t ss r (cell.Bound x) to e h = h.1 ∙ sym h.2 ∙ ap (λ (y : Ref). slice_get ss y.0) (some-inj x to e)
link-sort t ss r (cell.Same x) to e h = h.1 ∙ sym h.2 ∙ ap (λ (y : Ref). slice_get ss y.0) (some-inj x to e)
link-sort t ss r (cell.Leaf s) to e h = absurd (no_some _ to refl e)
link-sort t ss r cell.BusVar to e h = absurd (no_some _ to refl e)
link-sort t ss r cell.BusNil to e h = absurd (no_some _ to refl e)
link-sort t ss r (cell.BusCons a b) to e h = absurd (no_some _ to refl e)
link-sort t ss r cell.TermVar to e h = absurd (no_some _ to refl e)
link-sort t ss r (cell.Int z) to e h = absurd (no_some _ to refl e)
link-sort t ss r (cell.Node n k) to e h = absurd (no_some _ to refl e)

leads-sort : (t : Sorts) (ss : List Sort) (cs : List Stored) → IsSorted t ss cs → (r e : ℕ) → LeadsTo cs r e → slice_get ss r ≡ slice_get ss e
leads-sort t ss cs h r e arrives = refl
leads-sort t ss cs h r e (goes c to is l k) = link-sort t ss r c to l (h.cells r c is) ∙ leads-sort t ss cs h to.0 e k

unbound-sort : (t : Sorts) (ss : List Sort) (r : ℕ) (c : Stored) → IsUnbound c → CellSorted t ss r c → (s : Sort) × (slice_get ss r ≡ Some s)
unbound-sort t ss r cell.BusVar u h = (sort.Bus, h)
unbound-sort t ss r cell.TermVar u h = (sort.Term, h)
unbound-sort t ss r (cell.Leaf s) u h = absurd u
unbound-sort t ss r cell.BusNil u h = absurd u
unbound-sort t ss r (cell.BusCons a b) u h = absurd u
unbound-sort t ss r (cell.Int z) u h = absurd u
unbound-sort t ss r (cell.Node n k) u h = absurd u
unbound-sort t ss r (cell.Bound to) u h = absurd u
unbound-sort t ss r (cell.Same to) u h = absurd u

-- ---- one cell is rewritten

module _ (t : Terms) (h : IsHeap t) (v : ℕ) (d c : Stored) (is : slice_get t.cells v ≡ Some d) where
  trail-one : (n : ℕ) (xs : List Change) → v < n → Each (λ x. x.cell < n) xs → Each (λ x. x.cell < n) (xs ++ record { cell = v; old = d } ∷ [])
  trail-one n [] a h = (a, tt)
  trail-one n (x ∷ xs) a h = (h.0, trail-one n xs a h.1)

  pub heap-set : IsLinked (slice_set t.cells v c) → IsHeap (with_rewritten t v d c)
  heap-set linked = record {
    number = h.number ∙ sym (length-set t.cells v c);
    linked = linked;
    trail = subst (λ n. Each (λ x. x.cell < n) (t.trail ++ record { cell = v; old = d } ∷ [])) (sym (length-set t.cells v c)) (trail-one (length t.cells) t.trail (slice_get_within t.cells v d is) h.trail);
  }

  pub keeps-set : KeepsMoments t (with_rewritten t v d c)
  keeps-set = keeps t (with_rewritten t v d c) (record {
    number = let n = length-set t.cells v c in omega arith;
    more = [];
    sorts = sym (append-nil t.sorts);
    changes = record { cell = v; old = d } ∷ [];
    trail = refl;
    cells =
        ap (λ cs. slice_set cs v d) (ap (λ n. take n (slice_set t.cells v c)) (sym (length-set t.cells v c)) ∙ take-length (slice_set t.cells v c))
        ∙ set-set t.cells v c d
        ∙ set-own t.cells v d is;
  }) h

-- ---- what rewriting gives

abbrev pub Writes : Terms → Terms → ℕ → Stored → Type 0
Writes old new v c = ((d : Stored) → slice_get old.cells v ≡ Some d → new ≡ with_rewritten old v d c) × IsHeap new × KeepsMoments old new

module _ (now t : Terms) (eq : t ≡ now) (v : ℕ) (c : Stored) (cs : List Stored) (xs : List Change) where
  abbrev left_is : Terms
  left_is = record { cells = cs; sorts = t.sorts; trail = xs }

  pub writes : IsHeap now → v < length now.cells → IsLinked (slice_set now.cells v c) → cs ≡ slice_set t.cells v c → ((d : Stored) → slice_get t.cells v ≡ Some d → xs ≡ t.trail ++ record { cell = v; old = d } ∷ []) →
      Writes now left_is v c
  writes h less linked ce xe = subst (λ (o : Terms). IsHeap o → v < length o.cells → IsLinked (slice_set o.cells v c) → Writes o left_is v c) eq (λ k l n.
      let d = get_or t.cells v c in
      let is : slice_get t.cells v ≡ Some d = slice_get-get_or t.cells v c l in
      let same : with_rewritten t v d c ≡ left_is = λ i. record { cells = sym ce i; sorts = t.sorts; trail = sym (xe d is) i } in
      subst (λ (o : Terms). Writes t o v c) same (
        λ e at. ap (λ x. with_rewritten t v x c) (some-inj d e (sym is ∙ at)),
        heap-set t k v d c is n,
        keeps-set t k v d c is,
      )) h less linked

-- ---- an unbound cell is bound to the end of links

module _ (t : Terms) (h : IsHeap t) (v : ℕ) (d : Stored) (is : slice_get t.cells v ≡ Some d) (u : IsUnbound d) (to : Ref) (less : to.0 < length t.cells) where
  abbrev rewritten : List Stored
  rewritten = slice_set t.cells v (cell.Bound to)

  pub heap-bound : LinkFalls rewritten v (cell.Bound to) → IsHeap (with_rewritten t v d (cell.Bound to))
  heap-bound falls = heap-set t h v d (cell.Bound to) is (linked-set t.cells v (cell.Bound to) d is h.linked (unbound-no-solid d (cell.Bound to) u) falls (λ j n. subst (λ k. k < length t.cells) (sym n) less))

  pub keeps-bound : KeepsMoments t (with_rewritten t v d (cell.Bound to))
  keeps-bound = keeps-set t h v d (cell.Bound to) is

  fits-bound : (q : Sorts) → slice_get t.sorts v ≡ slice_get t.sorts to.0 → IsSorted q t.sorts t.cells → IsSorted q t.sorts rewritten
  fits-bound q e o =
      let s = unbound-sort q t.sorts v d u (o.cells v d is) in
      sorted-set t.cells v (cell.Bound to) d is q t.sorts o (s.0, s.1, sym e ∙ s.1)

-- a variable is bound to the end of the links from a cell that it isn't below
module _ (t : Terms) (h : IsHeap t) (v : ℕ) (d : Stored) (is : slice_get t.cells v ≡ Some d) (u : IsUnbound d) (to e : ℕ) (last : IsLast t.cells to e)
    (sorts : slice_get t.sorts v ≡ slice_get t.sorts to) (apart : IsBelow t.cells to v → ⊥) where
  end-apart : IsBelow t.cells e v → ⊥
  end-apart b = apart (below-then t.cells to e v (leads-below t.cells to e last.leads) b)

  pub end-other : e ≢ v
  end-other = other-than t.cells v d e end-apart

  pub end-within : e < length t.cells
  end-within = slice_get_within t.cells e last.cell last.there

  module _ (old : (v < e) → IsUnbound last.cell → ⊥) where
    pub falls-to : LinkFalls (slice_set t.cells v (cell.Bound (record { 0 = e }))) v (cell.Bound (record { 0 = e }))
    falls-to = elim (cases_lt e v) [
      | inl less ↦ inl less
      | inr more ↦ inr (
        last.cell,
        get-set-other t.cells v e (cell.Bound (record { 0 = e })) end-other ∙ last.there,
        solid-of last.cell last.no_link (old (let n = end-other in omega (arith, n))),
      )
    ]

    pub bound-to : IsBound t (with_rewritten t v d (cell.Bound (record { 0 = e }))) v to
    bound-to = record {
      reads = λ q w g. (
        λ n. let p = (bound-step q w t.sorts t.cells g v (record { 0 = e }) d is u).1 n in (p.0, p.1 ∙ sym (last.value w g p.0.holds)),
        λ p. (bound-step q w t.sorts t.cells g v (record { 0 = e }) d is u).0 (p.0, p.1 ∙ last.value w g p.0.holds),
      );
      sorts = refl;
      fits = λ q o. fits-bound t h v d is u (record { 0 = e }) end-within q (sorts ∙ leads-sort q t.sorts t.cells o to e last.leads) o;
      finite = finite;
      end = e;
      one = (
        last-is new v e last.cell there last.no_link (goes (cell.Bound (record { 0 = e })) (record { 0 = e }) (get-set-same t.cells v d (cell.Bound (record { 0 = e })) is) refl arrives),
        last-is new to e last.cell there last.no_link (leads-apart t.cells v (cell.Bound (record { 0 = e })) to e last.leads apart),
      );
    }
      where
        new : List Stored
        new = slice_set t.cells v (cell.Bound (record { 0 = e }))

        there : slice_get new e ≡ Some last.cell
        there = get-set-other t.cells v e (cell.Bound (record { 0 = e })) end-other ∙ last.there

        finite : AllFinite t.cells → AllFinite new
        finite all r = elim (cases_eq r v) [ inl same ↦ at-v r same | inr other ↦ elsewhere r (all r) ]
          where
            at-v : (r : ℕ) → r ≡ v → IsFinite new r
            at-v r same = ends (λ j child.
                let c : cell.Bound (record { 0 = e }) ≡ child.0 = some-inj _ child.0 (sym (get-set-same t.cells v d (cell.Bound (record { 0 = e })) is) ∙ subst (λ q. slice_get new q ≡ Some child.0) same child.1) in
                let n : j ≡ e = subst (λ x. Names r x j) (sym c) child.2 in
                subst (λ q. IsFinite new q) (sym n) (finite-apart t.cells v (cell.Bound (record { 0 = e })) e (all e) end-apart))

            elsewhere : (r : ℕ) → IsFinite t.cells r → IsFinite new r
            elsewhere r (ends f) = elim (cases_eq r v) [
              | inl same ↦ at-v r same
              | inr other ↦ ends (λ j child. elsewhere j (f j (child.0, sym (get-set-other t.cells v r (cell.Bound (record { 0 = e })) other) ∙ child.1, child.2)))
            ]

  -- the end is a younger variable: it is bound instead
  module _ (young : v < e) (open_end : IsUnbound last.cell) where
    pub bound-from : IsBound t (with_rewritten t e last.cell (cell.Bound (record { 0 = v }))) v to
    bound-from = record {
      reads = λ q w g. (
        λ n. let p = (bound-step q w t.sorts t.cells g e (record { 0 = v }) last.cell last.there open_end).1 n in (p.0, sym p.1 ∙ sym (last.value w g p.0.holds)),
        λ p. (bound-step q w t.sorts t.cells g e (record { 0 = v }) last.cell last.there open_end).0 (p.0, sym (last.value w g p.0.holds) ∙ sym p.1),
      );
      sorts = refl;
      fits = λ q o. fits-bound t h e last.cell last.there open_end (record { 0 = v }) (slice_get_within t.cells v d is) q (sym (sorts ∙ leads-sort q t.sorts t.cells o to e last.leads)) o;
      finite = finite;
      end = v;
      one = (last-is new v v d there (unbound-link d u) arrives, last-is new to v d there (unbound-link d u) (leads-past t.cells to e last.cell (record { 0 = v }) last.there last.no_link last.leads));
    }
      where
        new : List Stored
        new = slice_set t.cells e (cell.Bound (record { 0 = v }))

        there : slice_get new v ≡ Some d
        there = get-set-other t.cells e v (cell.Bound (record { 0 = v })) (λ x. end-other (sym x)) ∙ is

        at-v : IsFinite new v
        at-v = ends (λ j child. absurd (unbound-names v j child.0 (subst IsUnbound (some-inj d child.0 (sym there ∙ child.1)) u) child.2))

        finite : AllFinite t.cells → AllFinite new
        finite all r = elsewhere r (all r)
          where
            elsewhere : (r : ℕ) → IsFinite t.cells r → IsFinite new r
            elsewhere r (ends f) = elim (cases_eq r e) [
              | inl same ↦ ends (λ j child.
                  let c : cell.Bound (record { 0 = v }) ≡ child.0 = some-inj _ child.0 (sym (get-set-same t.cells e last.cell (cell.Bound (record { 0 = v })) last.there) ∙ subst (λ q. slice_get new q ≡ Some child.0) same child.1) in
                  let n : j ≡ v = subst (λ x. Names r x j) (sym c) child.2 in
                  subst (λ q. IsFinite new q) (sym n) at-v)
              | inr other ↦ ends (λ j child. elsewhere j (f j (child.0, sym (get-set-other t.cells e r (cell.Bound (record { 0 = v })) other) ∙ child.1, child.2)))
            ]

-- ---- what binding gives

abbrev pub Binds : Terms → Terms → ℕ → ℕ → Type 0
Binds old new v to = IsBound old new v to × IsHeap new × KeepsMoments old new

module _ (now t : Terms) (eq : t ≡ now) (v to e : ℕ) (last : IsLast t.cells to e) (cs : List Stored) (xs : List Change)
    (h : IsHeap now) (unbound : IsUnboundAt now.cells v) (sorts : slice_get now.sorts v ≡ slice_get now.sorts to) (apart : IsBelow now.cells to v → ⊥) where
  abbrev now_is : Terms
  now_is = record { cells = cs; sorts = t.sorts; trail = xs }

  abbrev Given : Terms → Type 0
  Given o = IsHeap o → IsUnboundAt o.cells v → slice_get o.sorts v ≡ slice_get o.sorts to → (IsBelow o.cells to v → ⊥) → Binds o now_is v to

  pub binds-to : ((v < e) → IsUnboundAt t.cells e → ⊥) → cs ≡ slice_set t.cells v (cell.Bound (record { 0 = e })) → ((c : Stored) → slice_get t.cells v ≡ Some c → xs ≡ t.trail ++ record { cell = v; old = c } ∷ []) → Binds now now_is v to
  binds-to old ce xe = subst Given eq (λ k u s a.
      let d = u.0 in
      let same : with_rewritten t v d (cell.Bound (record { 0 = e })) ≡ now_is = λ i. record { cells = sym ce i; sorts = t.sorts; trail = sym (xe d u.1) i } in
      let young : (v < e) → IsUnbound last.cell → ⊥ = λ l x. old l (last.cell, last.there, x) in
      subst (λ (o : Terms). Binds t o v to) same (
        bound-to t k v d u.1 u.2 to e last s a young,
        heap-bound t k v d u.1 u.2 (record { 0 = e }) (end-within t k v d u.1 u.2 to e last s a) (falls-to t k v d u.1 u.2 to e last s a young),
        keeps-bound t k v d u.1 u.2 (record { 0 = e }) (end-within t k v d u.1 u.2 to e last s a),
      )) h unbound sorts apart

  pub binds-from : v < e → IsUnboundAt t.cells e → cs ≡ slice_set t.cells e (cell.Bound (record { 0 = v })) → ((c : Stored) → slice_get t.cells e ≡ Some c → xs ≡ t.trail ++ record { cell = e; old = c } ∷ []) → Binds now now_is v to
  binds-from less open_end ce xe = subst Given eq (λ k u s a.
      let d = last.cell in
      let same : with_rewritten t e d (cell.Bound (record { 0 = v })) ≡ now_is = λ i. record { cells = sym ce i; sorts = t.sorts; trail = sym (xe d last.there) i } in
      let x : IsUnbound d = subst IsUnbound (some-inj open_end.0 d (sym open_end.1 ∙ last.there)) open_end.2 in
      let there : v < length t.cells = slice_get_within t.cells v u.0 u.1 in
      subst (λ (o : Terms). Binds t o v to) same (
        bound-from t k v u.0 u.1 u.2 to e last s a less x,
        heap-bound t k e d last.there x (record { 0 = v }) there (inl less),
        keeps-bound t k e d last.there x (record { 0 = v }) there,
      )) h unbound sorts apart

-- the items of a list that was written to in place
pub written : (v : Vec Stored) (r : ℕ) (c : Stored) (cs : List Stored) → cs ≡ slice_set v.items r c → (with_items v cs).items ≡ slice_set v.items r c
written v r c cs e = with_items_is v cs (ap length e ∙ length-set v.items r c ∙ sym v.ok.0) ∙ e
