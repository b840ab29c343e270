-- Cells added behind those of a state.
use Rattle.std.proofs.Common.{◌≡◌, inl, inr, ℕ, zero, suc, ◌+◌, ◌<◌, ◌≤◌, Bool, false, List, [], ◌∷◌, ◌++◌, length, Option, Some, None, pos, rules, refl, sym, ap, subst, ◌∙◌, arith, length-append, append-nil, append_assoc}
use Rattle.std.specs.Prelude.{slice_get, get_or, FitsSigned}
use Rattle.std.specs.Int.{w64}
use Rattle.std.proofs.lemmas.Bool.{cases_lt}
use Rattle.std.proofs.lemmas.Option.{slice_get_within, slice_get-get_or, get_or_from_slice_get, slice_get_past}
use Rattle.cb_model.specs.declared.Sort.{Sort}
use Rattle.cb_model.specs.declared.Sort.TheVariants as sort
use Rattle.cb_model.specs.Bits.{Bits}
use Rattle.cb_model.specs.Values.{Ground, Bit, Word, Int, Sorts, Fits}
use Rattle.cb_elim.specs.Store.{Seen as Booleans, IsArgument, slot_bits, view_of}
use Rattle.cb_elim.specs.Moments.{KeepsMoments as KeepsBools}
use Rattle.cb_heap.specs.declared.Ref.{Ref}
use Rattle.cb_heap.specs.declared.Cell.{Cell}
use Rattle.cb_heap.specs.declared.Stored.{Stored}
use Rattle.cb_heap.specs.declared.Stored.TheVariants as cell
use Rattle.cb_heap.specs.Heap.{Terms, IsHeap, sort_of, stored_as, with_cell}
use Rattle.cb_heap.specs.Moments.{KeepsMoments as KeepsTerms}
use Rattle.cb_heap.specs.Reading.{Reading, CellHolds}
use Rattle.cb_heap.specs.Finite.{AllFinite, CellSorted, HaveSorts, IsSorted, Names}
use Rattle.cb_heap.proofs.Adding.{get-behind, get-front}
use Rattle.cb_heap.proofs.Back.{keeps-none as keeps-terms}
use Rattle.cb_heap.proofs.Steps.{bit-inj, some-inj, word-inj}
use Rattle.cb_heap.proofs.Values.{has-reading, one-value}
use Rattle.cb_join.specs.Joins.{Rising}
use Rattle.cb_unify.specs.State.{Seen, FitsTable, IsState, Reads}
use Rattle.cb_unify.specs.Lending.{IsLent, with_store}
use Rattle.cb_unify.specs.Growth.{IsAdded, IsGrown, IsPut}
use Rattle.cb_unify.proofs.Back.{keeps-both, keeps-none, keeps-then}
use Rattle.cb_unify.proofs.Lent.{lent-extended, lent-state}
use Rattle.cb_unify.proofs.Making.{each-more}
use Rattle.cb_unify.proofs.Opened.{cell-sorted-more, get-left, grown-same, grown-then, more-sorts, sorted-more}

-- ---- what stood before fits the tables that all fits

module _ (t : Sorts) (ss zs : List Sort) where
  sort-less : (r : ℕ) (z : Sort) → r < length ss → slice_get (ss ++ zs) r ≡ Some z → slice_get ss r ≡ Some z
  sort-less r z less e = sym (get-front ss zs r less) ∙ e

  have-less : (r k : ℕ) (ts : List Sort) → ((j : ℕ) → r ≤ j → j < r + k → j < length ss) → HaveSorts (ss ++ zs) r k ts → HaveSorts ss r k ts
  have-less r zero [] f h = tt
  have-less r (suc k) (s ∷ ts) f h = (sort-less r s (f r (omega arith) (omega arith)) h.0, have-less (suc r) k ts (λ j a b. f j (omega arith) (omega arith)) h.1)
  have-less r zero (s ∷ ts) f h = absurd h
  have-less r (suc k) [] f h = absurd h

  cell-sorted-less : (r : ℕ) (d : Stored) → r < length ss → ((j : ℕ) → Names r d j → j < length ss) → CellSorted t (ss ++ zs) r d → CellSorted t ss r d
  cell-sorted-less r (cell.Leaf x) less f h = sort-less r _ less h
  cell-sorted-less r cell.BusVar less f h = sort-less r _ less h
  cell-sorted-less r cell.BusNil less f h = sort-less r _ less h
  cell-sorted-less r (cell.BusCons x y) less f h = (sort-less r _ less h.0, sort-less x.0 _ (f x.0 (inl refl)) h.1, sort-less y.0 _ (f y.0 (inr refl)) h.2)
  cell-sorted-less r cell.TermVar less f h = sort-less r _ less h
  cell-sorted-less r (cell.Int z) less f h = (sort-less r _ less h.0, h.1)
  cell-sorted-less r (cell.Node n k) less f h = (sort-less r _ less h.0, have-less (suc r) k _ (λ j a b. f j (omega arith, omega arith)) h.1)
  cell-sorted-less r (cell.Bound to) less f h = (h.0, sort-less r _ less h.1, sort-less to.0 _ (f to.0 refl) h.2)
  cell-sorted-less r (cell.Same to) less f h = (h.0, sort-less r _ less h.1, sort-less to.0 _ (f to.0 refl) h.2)

pub sorted-front : (t : Sorts) (h : Terms) → IsHeap h → (ss : List Sort) (cs : List Stored) → IsSorted t (h.sorts ++ ss) (h.cells ++ cs) → IsSorted t h.sorts h.cells
sorted-front t h is ss cs o = record {
  number = is.number;
  cells = λ r c e.
      let less : r < length h.cells = slice_get_within h.cells r c e in
      let n = is.number in
      cell-sorted-less t h.sorts ss r c (omega arith) (λ j m. let w = is.linked.within r j (c, e, m) in omega arith) (o.cells r c (get-left h.cells cs r c e));
}

pub fits-front : (t : Sorts) (u v : Seen) → IsState u → (cs : List Stored) → v.heap.cells ≡ u.heap.cells ++ cs → IsGrown u v → FitsTable t v → FitsTable t u
fits-front t u v is cs e g o = sorted-front t u.heap is.heap g.sorts.0 cs
    (subst (λ (l : List Sort). IsSorted t l (u.heap.cells ++ cs)) g.sorts.1 (subst (λ (l : List Stored). IsSorted t v.heap.sorts l) e o))

-- ---- one after the other

pub added-then : (s u v : Seen) (m n k : ℕ) → m + n ≤ k → IsAdded s u m → IsAdded u v n → IsAdded s v k
added-then s u v m n k l p q = record {
  extended = record {
    grown = grown-then s u v p.extended.grown q.extended.grown;
    made = q.extended.made ∙ p.extended.made;
    any = λ t fits a w g h.
        let i = p.extended.any t (fits-front t u v p.state q.cells.0 q.cells.1 q.extended.grown fits) a w g h in
        let j = q.extended.any t fits a w i.0 i.1 in
        (j.0, j.1, λ r less. j.2 r (let x = more-sorts s u p.extended.grown in omega arith) ∙ i.2 r less);
  };
  adds = record {
    constants = q.adds.constants ∙ p.adds.constants;
    drawn = q.adds.drawn ∙ p.adds.drawn;
    free = q.adds.free ∙ p.adds.free;
    slots = let a = p.adds.slots in let b = q.adds.slots in omega arith;
    nodes = record {
      budget = q.adds.nodes.budget ∙ p.adds.nodes.budget;
      more = p.adds.nodes.more ++ q.adds.nodes.more;
      triples = q.adds.nodes.triples ∙ ap (λ ts. ts ++ q.adds.nodes.more) p.adds.nodes.triples ∙ append_assoc s.store.nodes.triples p.adds.nodes.more q.adds.nodes.more;
      fulls = let a = p.adds.nodes.fulls in let b = q.adds.nodes.fulls in omega arith;
    };
  };
  cells = (p.cells.0 ++ q.cells.0, q.cells.1 ∙ ap (λ cs. cs ++ q.cells.0) p.cells.1 ∙ append_assoc s.heap.cells p.cells.0 q.cells.0);
  arguments = λ f a. q.arguments f (p.arguments f a);
  moments = keeps-then s u v p.moments q.moments;
  state = q.state;
}

pub added-none : (s : Seen) → IsState s → IsAdded s s 0
added-none s is = record {
  extended = record { grown = grown-same s; made = refl; any = λ t fits a w g h. (g, h, λ r less. refl) };
  adds = record {
    constants = refl;
    drawn = refl;
    free = refl;
    slots = omega arith;
    nodes = record { budget = refl; more = []; triples = sym (append-nil s.store.nodes.triples); fulls = omega arith };
  };
  cells = ([], sym (append-nil s.heap.cells));
  arguments = λ f a. a;
  moments = keeps-none s;
  state = is;
}

-- the store was lent
pub store-added : (s : Seen) (b : Booleans) (most : ℕ) → IsState s → (l : IsLent s.store b) → b.drawn ≡ s.store.drawn → length b.slots ≤ length s.store.slots + most → ((n : ℕ) → IsArgument s.store n → IsArgument b n) → IsAdded s (with_store b s) most
store-added s b most is l drawn slots args = record {
  extended = lent-extended s b is l;
  adds = record { constants = l.constants; drawn = drawn; free = l.free; slots = slots; nodes = l.nodes };
  cells = ([], sym (append-nil s.heap.cells));
  arguments = args;
  moments = keeps-both s (with_store b s) l.moments (keeps-terms s.heap) [] (sym (append-nil s.made));
  state = lent-state s b is l;
}

-- ---- cells

-- a value of each sort
any_value : Sort → Ground
any_value sort.Bool = Bit false
any_value sort.Bus = Word []
any_value sort.Term = Int (pos 0)

zero_fits : FitsSigned w64 (pos 0)
zero_fits = search rules

any-fits : (t : Sorts) (z : Sort) → Fits t z (any_value z)
unfolding any_value
any-fits t sort.Bool = tt
any-fits t sort.Bus = tt
any-fits t sort.Term = zero_fits

-- the old value where there is a sort
or_any : Option Sort → Ground → Sort → Ground
or_any (Some z) x y = x
or_any None x y = any_value y

module _ (s : Seen) (is : IsState s) (h : Terms) (more : List Stored) (zs : List Sort) (cells : h.cells ≡ s.heap.cells ++ more) (sorts : h.sorts ≡ s.heap.sorts ++ zs)
    (heap : IsHeap h) (finite : AllFinite h.cells) (moments : KeepsTerms s.heap h) (rise : Rising (length s.store.slots) 0 h.cells) where
  abbrev with_heap : Seen
  with_heap = record { heap = h; store = s.store; made = s.made }

  cell-left : (r : ℕ) (d : Stored) → slice_get s.heap.cells r ≡ Some d → slice_get h.cells r ≡ Some d
  cell-left r d e = ap (λ (l : List Stored). slice_get l r) cells ∙ get-left s.heap.cells more r d e

  sort-left : (r : ℕ) (d : Sort) → slice_get s.heap.sorts r ≡ Some d → slice_get h.sorts r ≡ Some d
  sort-left r d e = ap (λ (l : List Sort). slice_get l r) sorts ∙ get-left s.heap.sorts zs r d e

  reads-back : (t : Sorts) (a w : Bits) (g : Reading) → Reads t with_heap a w g → Reads t s a w g
  reads-back t a w g q = record {
    range = q.range;
    reading = record { fits = λ r d e. q.reading.fits r d (sort-left r d e); holds = λ r d e. q.reading.holds r d (cell-left r d e) };
  }

  module _ (t : Sorts) (fits : IsSorted t h.sorts h.cells) (a w : Bits) (g : Reading) (q : Reads t s a w g) where
    wanted : Reading
    wanted r = or_any (slice_get s.heap.sorts r) (g r) (get_or h.sorts r sort.Bool)

    wanted-old : (r : ℕ) → r < length s.heap.sorts → wanted r ≡ g r
    unfolding wanted or_any
    wanted-old r less = ap (λ o. or_any o (g r) (get_or h.sorts r sort.Bool)) (slice_get-get_or s.heap.sorts r sort.Bool less)

    wanted-fits : (r : ℕ) (z : Sort) → slice_get h.sorts r ≡ Some z → Fits t z (wanted r)
    unfolding wanted or_any
    wanted-fits r z e = elim (cases_lt r (length s.heap.sorts)) [
      | inl less ↦
          let y = slice_get-get_or s.heap.sorts r sort.Bool less in
          let same : get_or s.heap.sorts r sort.Bool ≡ z = some-inj _ z (sym (sort-left r _ y) ∙ e) in
          subst (λ x. Fits t z x) (sym (wanted-old r less)) (q.reading.fits r z (y ∙ ap Some same))
      | inr past ↦
          subst (λ x. Fits t z x) (sym (ap (λ o. or_any o (g r) (get_or h.sorts r sort.Bool)) (slice_get_past s.heap.sorts r past)))
          (subst (λ (x : Sort). Fits t z (any_value x)) (sym (get_or_from_slice_get h.sorts r z sort.Bool e)) (any-fits t z))
    ]

    abbrev bits : Bits
    bits = slot_bits (view_of s.store) a w

    goes-on : (g' : Reading) × Reads t with_heap a w g' × ((r : ℕ) → r < length s.heap.sorts → g' r ≡ g r)
    goes-on =
        let i = has-reading t bits wanted h.sorts h.cells finite fits wanted-fits in (
          i.0,
          record { range = q.range; reading = i.1 },
          λ r less.
              one-value bits s.heap.cells i.0 g (λ j d e. i.1.holds j d (cell-left j d e)) q.reading.holds
              (λ j d e u. i.2 j d (cell-left j d e) u ∙ wanted-old j (let l = slice_get_within s.heap.cells j d e in let n = is.heap.number in omega arith))
              r (let n = is.heap.number in omega arith) (λ j k l c. is.heap.linked.within j k c) (is.finite r),
        )

  pub cells-added : IsAdded s with_heap 0
  cells-added = record {
    extended = record {
      grown = record { reads = reads-back; made = ([], sym (append-nil s.made)); sorts = (zs, sorts) };
      made = refl;
      any = goes-on;
    };
    adds = record {
      constants = refl;
      drawn = refl;
      free = refl;
      slots = omega arith;
      nodes = record { budget = refl; more = []; triples = sym (append-nil s.store.nodes.triples); fulls = omega arith };
    };
    cells = (more, cells);
    arguments = λ n a. a;
    moments = keeps-both s with_heap (keeps-bool-none s.store) moments [] (sym (append-nil s.made));
    state = record {
      store = is.store;
      heap = heap;
      finite = finite;
      rise = rise;
      made = each-more (length s.heap.cells) (length h.cells) s.made (let n = ap (λ (l : List Stored). length l) cells ∙ length-append s.heap.cells more in omega arith) is.made;
    };
  }
    where
      keeps-bool-none : (b : Booleans) → KeepsBools b b
      keeps-bool-none b = record { moments = λ m w. w; same = λ m w. refl }

-- ---- one cell

module _ (s : Seen) (is : IsState s) (c : Cell) (h : Terms) (e : h ≡ with_cell s.heap c) (heap : IsHeap h) (finite : AllFinite s.heap.cells → AllFinite h.cells) (moments : KeepsTerms s.heap h)
    (rise : Rising (length s.store.slots) 0 (s.heap.cells ++ stored_as c ∷ [])) where
  put-cells : h.cells ≡ s.heap.cells ++ stored_as c ∷ []
  put-cells = ap (λ (o : Terms). o.cells) e

  put-sorts : h.sorts ≡ s.heap.sorts ++ sort_of c ∷ []
  put-sorts = ap (λ (o : Terms). o.sorts) e

  at-end : {A : Type 0} (xs : List A) (x : A) (n : ℕ) → n ≡ length xs → slice_get (xs ++ x ∷ []) n ≡ Some x
  at-end xs x n m = ap (λ k. slice_get (xs ++ x ∷ []) k) (let k : n ≡ length xs + 0 = omega arith in k) ∙ get-behind xs (x ∷ []) 0

  pub cell-put : IsPut s (record { heap = h; store = s.store; made = s.made }) c (length s.heap.cells)
  cell-put = record {
    added = cells-added s is h (stored_as c ∷ []) (sort_of c ∷ []) put-cells put-sorts heap (finite is.finite) moments (subst (λ (l : List Stored). Rising (length s.store.slots) 0 l) (sym put-cells) rise);
    nodes = refl;
    cell = ap (λ (l : List Stored). slice_get l (length s.heap.cells)) put-cells ∙ at-end s.heap.cells (stored_as c) (length s.heap.cells) refl;
    sort = ap (λ (l : List Sort). slice_get l (length s.heap.cells)) put-sorts ∙ at-end s.heap.sorts (sort_of c) (length s.heap.cells) (sym is.heap.number);
    fits = λ t o q. subst (λ (l : List Sort). IsSorted t l h.cells) (sym put-sorts) (subst (λ (l : List Stored). IsSorted t (s.heap.sorts ++ sort_of c ∷ []) l) (sym put-cells)
        (sorted-more t s.heap.sorts s.heap.cells (sort_of c) (stored_as c) o (subst (λ (l : List Sort). CellSorted t l (length s.heap.cells) (stored_as c)) put-sorts q)
        (cell-sorted-more t s.heap.sorts (sort_of c ∷ []))));
  }

-- ---- buses

pub cons-value : (w : Bits) (g : Reading) (r : ℕ) (head tail : Ref) (x : Bool) (xs : List Bool) → CellHolds w g r (cell.BusCons head tail) → g head.0 ≡ Bit x → g tail.0 ≡ Word xs → g r ≡ Word (x ∷ xs)
cons-value w g r head tail x xs h e f =
    let d = bit-inj h.0 x (sym h.2 ∙ e) in
    let k = word-inj h.1 xs (sym h.3 ∙ f) in
    h.4 ∙ ap (λ y. Word (y ∷ h.1)) d ∙ ap (λ ys. Word (x ∷ ys)) k
