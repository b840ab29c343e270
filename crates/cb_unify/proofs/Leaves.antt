-- Cells with the truth values of nodes, and buses of them.
use Rattle.std.proofs.Common.{◌≡◌, ℕ, zero, suc, ◌+◌, ◌<◌, ◌≤◌, Bool, List, [], ◌∷◌, ◌++◌, length, map, drop, Some, refl, sym, ap, subst, ◌∙◌, arith, length-append, append-nil}
use Rattle.std.specs.Prelude.{slice_get, get_or}
use Rattle.std.proofs.lemmas.Option.{slice_get_within}
use Rattle.std.proofs.Math.Path.{fun_ext}
use Rattle.cb_model.specs.declared.Sort.{Sort}
use Rattle.cb_model.specs.declared.Sort.TheVariants as sort
use Rattle.cb_model.specs.Bits.{Bits, Each}
use Rattle.cb_model.specs.Values.{Bit, Sorts, Word}
use Rattle.cb_dd.specs.declared.Node.{Node}
use Rattle.cb_dd.specs.Diagram.{function_of}
use Rattle.cb_boole.specs.View.{point}
use Rattle.cb_elim.specs.Store.{Seen as Booleans, AddsSlot, IsArgument, IsStore, slot_bits, stands_in, view_of}
use Rattle.cb_elim.specs.Moments.{KeepsMoments as KeepsBools}
use Rattle.cb_heap.specs.declared.Ref.{Ref}
use Rattle.cb_heap.specs.declared.Cell.{Cell}
use Rattle.cb_heap.specs.declared.Cell.TheVariants as shown
use Rattle.cb_heap.specs.declared.Stored.TheVariants as cell
use Rattle.cb_heap.specs.Heap.{Terms, IsHeap, stored_as, with_cell}
use Rattle.cb_heap.specs.Moments.{KeepsMoments as KeepsTerms}
use Rattle.cb_heap.specs.Finite.{AllFinite}
use Rattle.cb_heap.specs.Reading.{Reading}
use Rattle.cb_join.specs.Joins.{Rising}
use Rattle.cb_unify.specs.State.{Seen, HasValue, IsState, Reads, node_bit}
use Rattle.cb_unify.specs.Lending.{IsLent, with_store}
use Rattle.cb_unify.specs.Growth.{IsAdded, IsBusOf, IsGrown, IsLeafOf, IsNoLeaf, IsPut}
use Rattle.cb_unify.proofs.Added.{added-then, cell-put, cons-value, store-added}
use Rattle.cb_unify.proofs.Lent.{lent-state}
use Rattle.cb_unify.proofs.Opened.{get-left, leaf-rises, none-rises}

-- a slot was added to the store
pub held-lent : (s b : Booleans) (f : Node) → b ≡ record s { slots = s.slots ++ f ∷ [] } → IsStore b → KeepsBools s b → IsLent s b
held-lent s b f e st k = record {
  store = st;
  moments = k;
  constants = ap (λ (o : Booleans). o.constants) e;
  free = ap (λ (o : Booleans). o.free) e;
  drawn = let d = ap (λ (o : Booleans). o.drawn) e in omega arith;
  more = f ∷ [];
  slots = ap (λ (o : Booleans). o.slots) e;
  nodes = record {
    budget = ap (λ (o : Booleans). o.nodes.budget) e;
    more = [];
    triples = ap (λ (o : Booleans). o.nodes.triples) e ∙ sym (append-nil s.nodes.triples);
    fulls = let d = ap (λ (o : Booleans). o.nodes.fulls) e in omega arith;
  };
}

module _ (now s : Seen) (same : s ≡ now) (is : IsState now) (f : Node) (b : Booleans) (held : b ≡ record s.store { slots = s.store.slots ++ f ∷ [] }) (st : IsStore b) (ks : KeepsBools s.store b)
    (args : (n : ℕ) → IsArgument s.store n → IsArgument b n) (x : ℕ) (next : x ≡ length s.store.slots)
    (adds : AddsSlot (view_of s.store) (view_of b) (length s.store.slots) (λ a w. function_of s.store.nodes.triples f.0 (point (view_of s.store).stands a w)))
    (h : Terms) (e : h ≡ with_cell s.heap (shown.Leaf x)) (heap : IsHeap h) (finite : AllFinite s.heap.cells → AllFinite h.cells) (kh : KeepsTerms s.heap h) where
  inside : IsState s
  inside = subst IsState (sym same) is

  lent : IsLent s.store b
  lent = held-lent s.store b f held st ks

  one-slot : length b.slots ≡ length s.store.slots + 1
  one-slot = ap (λ (o : Booleans). length o.slots) held ∙ length-append s.store.slots (f ∷ [])

  rises : Rising (length b.slots) 0 (s.heap.cells ++ cell.Leaf x ∷ [])
  rises = subst (λ m. Rising m 0 (s.heap.cells ++ cell.Leaf x ∷ [])) (sym one-slot)
      (subst (λ y. Rising (length s.store.slots + 1) 0 (s.heap.cells ++ cell.Leaf y ∷ [])) (sym next) (leaf-rises (length s.store.slots) 0 s.heap.cells inside.rise))

  abbrev end : Seen
  end = record { heap = h; store = b; made = s.made }

  put : IsPut (with_store b s) end (shown.Leaf x) (length s.heap.cells)
  put = cell-put (with_store b s) (lent-state s b inside lent) (shown.Leaf x) h e heap finite kh rises

  value : (t : Sorts) (a w : Bits) (g : Reading) → Reads t end a w g → g (length s.heap.cells) ≡ Bit (node_bit s a w f.0)
  value t a w g q = q.reading.holds (length s.heap.cells) (cell.Leaf x) put.cell ∙ ap Bit (ap (slot_bits (view_of b) a w) next ∙ adds.added a w)

  leaf-inside : IsLeafOf s end f.0 (length s.heap.cells)
  leaf-inside = record {
    added = added-then s (with_store b s) end 1 0 1 (omega arith) (store-added s b 1 inside lent (ap (λ (o : Booleans). o.drawn) held) (let d = one-slot in omega arith) args) put.added;
    placed = record { sort = put.sort; fits = λ t o. put.fits t o put.sort };
    value = value;
  }

  pub leaf-of : (r : ℕ) → r ≡ length s.heap.cells → IsLeafOf now end f.0 r
  leaf-of r at = subst (λ (o : Seen). IsLeafOf o end f.0 r) same (subst (λ q. IsLeafOf s end f.0 q) (sym at) leaf-inside)

-- ---- a cell that is no leaf

no-leaf-rises : (n j : ℕ) (c : Cell) → IsNoLeaf c → j ≤ n → Rising n j (stored_as c ∷ [])
no-leaf-rises n j (shown.Leaf x) a l = absurd a
no-leaf-rises n j shown.BusVar a l = l
no-leaf-rises n j shown.BusNil a l = l
no-leaf-rises n j (shown.BusCons x y) a l = l
no-leaf-rises n j shown.TermVar a l = l
no-leaf-rises n j (shown.Int z) a l = l
no-leaf-rises n j (shown.Node x y) a l = l
no-leaf-rises n j (shown.Bound x) a l = l

pub puts : (now s : Seen) → s ≡ now → IsState now → (c : Cell) → IsNoLeaf c → (h : Terms) → h ≡ with_cell s.heap c → IsHeap h → (AllFinite s.heap.cells → AllFinite h.cells) → KeepsTerms s.heap h → (r : ℕ) → r ≡ length s.heap.cells →
    IsPut now (record { heap = h; store = s.store; made = s.made }) c r
puts now s same is c a h e heap finite kh r at =
    let inside : IsState s = subst IsState (sym same) is in
    let end : Seen = record { heap = h; store = s.store; made = s.made } in
    subst (λ (o : Seen). IsPut o end c r) same (subst (λ q. IsPut s end c q) (sym at)
    (cell-put s inside c h e heap finite kh (none-rises (length s.store.slots) 0 (stored_as c) s.heap.cells (λ j l. no-leaf-rises (length s.store.slots) j c a l) inside.rise)))

-- ---- buses

-- the bits of nodes stay
pub same-bits : (s u : Seen) → u.store.nodes ≡ s.store.nodes → u.store.free ≡ s.store.free → (a w : Bits) (n : ℕ) → node_bit u a w n ≡ node_bit s a w n
unfolding view_of
same-bits s u e f a w n = λ i. function_of (e i).triples n (point (stands_in (f i)) a w)

pub nil-bus : (s u : Seen) (r : ℕ) → IsState s → IsPut s u shown.BusNil r → IsBusOf s u [] r
nil-bus s u r is p = record {
  added = p.added;
  placed = record { sort = p.sort; fits = λ t o. p.fits t o p.sort };
  nodes = p.nodes;
  value = λ t a w g q. q.reading.holds r cell.BusNil p.cell;
}

pub drop-step : {A : Type 0} (xs : List A) (k : ℕ) (d : A) → k < length xs → drop k xs ≡ get_or xs k d ∷ drop (k + 1) xs
drop-step [] k d less = absurd (omega arith)
drop-step (y ∷ xs) zero d less = refl
drop-step (y ∷ xs) (suc k) d less = drop-step xs k d (omega arith) ∙ ap (λ n. get_or xs k d ∷ drop n (y ∷ xs)) (let e : suc (k + 1) ≡ suc k + 1 = omega arith in e)

-- an element more in front
pub cons-bus : (s u v z : Seen) (ns : List Node) (n : Node) (head tail : Ref) (r : ℕ) → IsBusOf s u ns tail.0 → IsLeafOf u v n.0 head.0 → v.store.nodes ≡ u.store.nodes → IsPut v z (shown.BusCons head tail) r → IsBusOf s z (n ∷ ns) r
cons-bus s u v z ns n head tail r b l same p =
    let av : IsAdded s v (length (n ∷ ns)) = added-then s u v (length ns) 1 (length (n ∷ ns)) (omega arith) b.added l.added in
    let az : IsAdded s z (length (n ∷ ns)) = added-then s v z (length (n ∷ ns)) 0 (length (n ∷ ns)) (omega arith) av p.added in
    let tv : slice_get v.heap.sorts tail.0 ≡ Some sort.Bus = ap (λ (q : List Sort). slice_get q tail.0) l.added.extended.grown.sorts.1 ∙ get-left u.heap.sorts l.added.extended.grown.sorts.0 tail.0 sort.Bus b.placed.sort in
    let more = p.added.extended.grown.sorts in
    record {
      added = az;
      placed = record {
        sort = p.sort;
        fits = λ t o. p.fits t (l.placed.fits t (b.placed.fits t o)) (
          p.sort,
          ap (λ (q : List Sort). slice_get q head.0) more.1 ∙ get-left v.heap.sorts more.0 head.0 sort.Bool l.placed.sort,
          ap (λ (q : List Sort). slice_get q tail.0) more.1 ∙ get-left v.heap.sorts more.0 tail.0 sort.Bus tv,
        );
      };
      nodes = p.nodes ∙ same ∙ b.nodes;
      value = λ t a w g q.
          let qv : Reads t v a w g = p.added.extended.grown.reads t a w g q in
          let qu : Reads t u a w g = l.added.extended.grown.reads t a w g qv in
          cons-value (slot_bits (view_of z.store) a w) g r head tail (node_bit s a w n.0) (map (λ (m : Node). node_bit s a w m.0) ns) (q.reading.holds r (cell.BusCons head tail) p.cell)
          (l.value t a w g qv ∙ ap Bit (same-bits s u b.nodes b.added.adds.free a w n.0)) (b.value t a w g qu);
    }

-- where the element is one of a list
pub cons-of : (s u v z : Seen) (ns : List Node) (k : ℕ) (d : Node) (head tail : Ref) (r : ℕ) → k < length ns → IsBusOf s u (drop (k + 1) ns) tail.0 → IsLeafOf u v (get_or ns k d).0 head.0 → v.store.nodes ≡ u.store.nodes → IsPut v z (shown.BusCons head tail) r →
    IsBusOf s z (drop k ns) r
cons-of s u v z ns k d head tail r less b l same p = subst (λ (m : List Node). IsBusOf s z m r) (sym (drop-step ns k d less)) (cons-bus s u v z (drop (k + 1) ns) (get_or ns k d) head tail r b l same p)

pub each-get : {A : Type 0} (P : A → Type 0) (xs : List A) (k : ℕ) (d : A) → k < length xs → Each P xs → P (get_or xs k d)
each-get P [] k d less h = absurd (omega arith)
each-get P (y ∷ xs) zero d less h = h.0
each-get P (y ∷ xs) (suc k) d less h = each-get P xs k d (omega arith) h.1

-- where a sort is, a cell is
pub cell-there : (s : Seen) (r : ℕ) (z : Sort) → IsState s → slice_get s.heap.sorts r ≡ Some z → r < length s.heap.cells
cell-there s r z is e = let l = slice_get_within s.heap.sorts r z e in let n = is.heap.number in omega arith

pub sort-later : (s u : Seen) (r : ℕ) (z : Sort) → IsGrown s u → slice_get s.heap.sorts r ≡ Some z → slice_get u.heap.sorts r ≡ Some z
sort-later s u r z g e = ap (λ (q : List Sort). slice_get q r) g.sorts.1 ∙ get-left s.heap.sorts g.sorts.0 r z e

-- the bus by the nodes as they are now
pub bus-now : (s u : Seen) (ns : List Node) (r : ℕ) → IsBusOf s u ns r → HasValue u r (λ a w. Word (map (λ n. node_bit u a w n.0) ns))
bus-now s u ns r b t a w g q = b.value t a w g q ∙ ap (λ (f : ℕ → Bool). Word (map (λ (n : Node). f n.0) ns)) (sym (fun_ext (same-bits s u b.nodes b.added.adds.free a w)))
