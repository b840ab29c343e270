-- Every cell of a heap whose cells are sorted, and without cycles, is a term.
use Rattle.std.proofs.Common.{◌≡◌, inl, inr, ℕ, zero, suc, ◌+◌, ◌<◌, ◌≤◌, arith, length, List, [], ◌∷◌, Option, Some, None, get_or, refl, sym, ap, subst, ◌∙◌}
use Rattle.std.specs.Prelude.{slice_get}
use Rattle.std.proofs.lemmas.Option.{slice_get_within, slice_get-get_or}
use Rattle.cb_model.specs.declared.Sort.{Sort}
use Rattle.cb_model.specs.declared.Sort.TheVariants as sort
use Rattle.cb_model.specs.Bits.{Each}
use Rattle.cb_model.specs.Values.{Sorts}
use Rattle.cb_laws.proofs.OpenTrees.{Plain, Plains, ALeaf, ABus, AVar, AnInt, ANode, Nil, Cons}
use Rattle.cb_heap.specs.declared.Ref.{Ref}
use Rattle.cb_heap.specs.declared.Stored.{Stored}
use Rattle.cb_heap.specs.declared.Stored.TheVariants as cell
use Rattle.cb_heap.specs.Finite.{IsFinite, ends, IsSorted, HaveSorts, AllFinite}
use Rattle.cb_heap.specs.Links.{arrives, goes, link_of}
use Rattle.cb_heap.proofs.Steps.{some-inj}
use Rattle.cb_shape.specs.declared.Root.{Root}
use Rattle.cb_shape.specs.declared.Root.TheVariants as root
use Rattle.cb_shape.specs.Terms.{EndsAt, IsLeaf, IsBus, IsTerm, AreCells, AreTerms, IsRoot, AreRoots, IsRootThere, how_many}

-- what a cell of a sort is
abbrev TermOf : List Stored → ℕ → Sort → Type 0
TermOf cs r sort.Bool = (s : ℕ) × IsLeaf cs r s
TermOf cs r sort.Bus = (ss : List ℕ) × (t : Option ℕ) × IsBus cs r ss t
TermOf cs r sort.Term = (p : Plain) × IsTerm cs r p

term-of : (cs : List Stored) (r : ℕ) (z : Sort) → TermOf cs r z → (p : Plain) × IsTerm cs r p
term-of cs r sort.Bool h = (ALeaf h.0, h.1)
term-of cs r sort.Bus h = (ABus h.0 h.1, h.2)
term-of cs r sort.Term h = h

-- ---- a link

module _ (cs : List Stored) (r : ℕ) (c : Stored) (to : Ref) (is : slice_get cs r ≡ Some c) (link : link_of c ≡ Some to) where
  ends-on : (e : ℕ) (d : Stored) → EndsAt cs to.0 e d → EndsAt cs r e d
  ends-on e d h = record { leads = goes c to is link h.leads; there = h.there }

  bus-on : (ss : List ℕ) (t : Option ℕ) → IsBus cs to.0 ss t → IsBus cs r ss t
  bus-on [] None h = (h.0, ends-on h.0 cell.BusNil h.1)
  bus-on [] (Some x) h = ends-on x cell.BusVar h
  bus-on (s ∷ ss) t h = (h.0, h.1, h.2, ends-on h.0 (cell.BusCons h.1 h.2) h.3, h.4, h.5)

  term-on : (p : Plain) → IsTerm cs to.0 p → IsTerm cs r p
  term-on (ALeaf s) h = (h.0, ends-on h.0 (cell.Leaf s) h.1)
  term-on (ABus ss t) h = bus-on ss t h
  term-on (AVar x) h = ends-on x cell.TermVar h
  term-on (AnInt z) h = (h.0, ends-on h.0 (cell.Int z) h.1)
  term-on (ANode n ps) h = (h.0, ends-on h.0 (cell.Node n (how_many ps)) h.1, h.2)

  of-on : (z : Sort) → TermOf cs to.0 z → TermOf cs r z
  of-on sort.Bool h = (h.0, term-on (ALeaf h.0) h.1)
  of-on sort.Bus h = (h.0, h.1, bus-on h.0 h.1 h.2)
  of-on sort.Term h = (h.0, term-on h.0 h.1)

-- ---- arguments

arguments : (ss : List Sort) (cs : List Stored) (r k : ℕ) (zs : List Sort) → HaveSorts ss r k zs →
    ((j : ℕ) → r ≤ j → j < r + k → (z : Sort) → slice_get ss j ≡ Some z → TermOf cs j z) → (ps : Plains) × (k ≡ how_many ps) × AreTerms cs r ps
arguments ss cs r zero [] h f = (Nil, refl, tt)
arguments ss cs r zero (z ∷ zs) h f = absurd h
arguments ss cs r (suc k) [] h f = absurd h
arguments ss cs r (suc k) (z ∷ zs) h f =
    let p = term-of cs r z (f r (omega arith) (omega arith) z h.0) in
    let rest = arguments ss cs (suc r) k zs h.1 (λ j lo hi x at. f j (omega (arith, lo)) (omega (arith, hi)) x at) in
    (Cons p.0 rest.0, ap suc rest.1, (p.1, rest.2))

-- ---- each cell

here : (cs : List Stored) (r : ℕ) (c : Stored) → slice_get cs r ≡ Some c → EndsAt cs r r c
here cs r c is = record { leads = arrives; there = is }

module _ (t : Sorts) (ss : List Sort) (cs : List Stored) (sorted : IsSorted t ss cs) where
  cell-at : (j : ℕ) (z : Sort) → slice_get ss j ≡ Some z → slice_get cs j ≡ Some (get_or cs j cell.BusNil)
  cell-at j z at = let w = slice_get_within ss j z at in let n = sorted.number in slice_get-get_or cs j cell.BusNil (omega (arith, w, n))

  as-sort : (r : ℕ) (y z : Sort) → slice_get ss r ≡ Some y → slice_get ss r ≡ Some z → TermOf cs r y → TermOf cs r z
  as-sort r y z a b h = subst (λ x. TermOf cs r x) (some-inj y z (sym a ∙ b)) h

  standing : (r : ℕ) → IsFinite cs r → (c : Stored) → slice_get cs r ≡ Some c → (z : Sort) → slice_get ss r ≡ Some z → TermOf cs r z
  standing r (ends f) (cell.Leaf s) is z at = as-sort r sort.Bool z (sorted.cells r (cell.Leaf s) is) at (s, (r, here cs r (cell.Leaf s) is))
  standing r (ends f) cell.BusVar is z at = as-sort r sort.Bus z (sorted.cells r cell.BusVar is) at ([], Some r, here cs r cell.BusVar is)
  standing r (ends f) cell.BusNil is z at = as-sort r sort.Bus z (sorted.cells r cell.BusNil is) at ([], None, (r, here cs r cell.BusNil is))
  standing r (ends f) (cell.BusCons h l) is z at =
      let w = sorted.cells r (cell.BusCons h l) is in
      let x = standing h.0 (f h.0 (cell.BusCons h l, is, inl refl)) (get_or cs h.0 cell.BusNil) (cell-at h.0 sort.Bool w.1) sort.Bool w.1 in
      let y = standing l.0 (f l.0 (cell.BusCons h l, is, inr refl)) (get_or cs l.0 cell.BusNil) (cell-at l.0 sort.Bus w.2) sort.Bus w.2 in
      as-sort r sort.Bus z w.0 at (x.0 ∷ y.0, y.1, (r, h, l, here cs r (cell.BusCons h l) is, x.1, y.2))
  standing r (ends f) cell.TermVar is z at = as-sort r sort.Term z (sorted.cells r cell.TermVar is) at (AVar r, here cs r cell.TermVar is)
  standing r (ends f) (cell.Int i) is z at = as-sort r sort.Term z (sorted.cells r (cell.Int i) is).0 at (AnInt i, (r, here cs r (cell.Int i) is))
  standing r (ends f) (cell.Node n k) is z at =
      let w = sorted.cells r (cell.Node n k) is in
      let a = arguments ss cs (suc r) k (get_or t n []) w.1 (λ j lo hi x there.
      standing j (f j (cell.Node n k, is, (omega (arith, lo), omega (arith, hi)))) (get_or cs j cell.BusNil) (cell-at j x there) x there) in
      as-sort r sort.Term z w.0 at (ANode n a.0, (r, subst (λ m. EndsAt cs r r (cell.Node n m)) a.1 (here cs r (cell.Node n k) is), a.2))
  standing r (ends f) (cell.Bound to) is z at =
      let w = sorted.cells r (cell.Bound to) is in
      as-sort r w.0 z w.1 at (of-on cs r (cell.Bound to) to is refl w.0 (standing to.0 (f to.0 (cell.Bound to, is, refl)) (get_or cs to.0 cell.BusNil) (cell-at to.0 w.0 w.2) w.0 w.2))
  standing r (ends f) (cell.Same to) is z at =
      let w = sorted.cells r (cell.Same to) is in
      as-sort r w.0 z w.1 at (of-on cs r (cell.Same to) to is refl w.0 (standing to.0 (f to.0 (cell.Same to, is, refl)) (get_or cs to.0 cell.BusNil) (cell-at to.0 w.0 w.2) w.0 w.2))

  one : AllFinite cs → (r : ℕ) → r < length cs → (p : Plain) × IsTerm cs r p
  one finite r lt =
      let n = sorted.number in
      let z = get_or ss r sort.Bool in
      let at : slice_get ss r ≡ Some z = slice_get-get_or ss r sort.Bool (omega (arith, lt, n)) in
      term-of cs r z (standing r (finite r) (get_or cs r cell.BusNil) (cell-at r z at) z at)

  pub cells-stand : AllFinite cs → (rs : List Ref) → Each (λ r. r.0 < length cs) rs → (ps : Plains) × AreCells cs rs ps
  cells-stand finite [] h = (Nil, tt)
  cells-stand finite (r ∷ rs) h =
      let p = one finite r.0 h.0 in
      let ps = cells-stand finite rs h.1 in
      (Cons p.0 ps.0, (p.1, ps.1))

  root-stands : AllFinite cs → (r : Root) → IsRootThere (length cs) r → (p : Plain) × IsRoot cs r p
  root-stands finite (root.Term r) h = one finite r.0 h
  root-stands finite (root.Goal args) h = let ps = cells-stand finite args.now h in (ANode 0 ps.0, ps.1)

  pub roots-stand : AllFinite cs → (rs : List Root) → Each (IsRootThere (length cs)) rs → (ps : Plains) × AreRoots cs rs ps
  roots-stand finite [] h = (Nil, tt)
  roots-stand finite (r ∷ rs) h =
      let p = root-stands finite r h.0 in
      let ps = roots-stand finite rs h.1 in
      (Cons p.0 ps.0, (p.1, ps.1))
