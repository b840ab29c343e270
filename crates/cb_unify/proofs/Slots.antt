-- The slots of the cells of truth values.
use Rattle.std.proofs.Common.{◌≡◌, ℕ, List, length, Option, Some, None, refl, sym, ap, subst, ◌∙◌}
use Rattle.std.specs.Prelude.{slice_get}
use Rattle.std.specs.Option.{option_map}
use Rattle.cb_model.specs.declared.Sort.{Sort}
use Rattle.cb_model.specs.declared.Sort.TheVariants as sort
use Rattle.cb_model.specs.Values.{Bit, Sorts}
use Rattle.cb_boole.specs.View.{point}
use Rattle.cb_dd.specs.Diagram.{function_of}
use Rattle.cb_elim.specs.Store.{slot_bits, value_in, view_of}
use Rattle.cb_heap.specs.declared.Ref.{Ref}
use Rattle.cb_heap.specs.declared.Cell.{Cell}
use Rattle.cb_heap.specs.declared.Cell.TheVariants as shown
use Rattle.cb_heap.specs.declared.Stored.{Stored}
use Rattle.cb_heap.specs.declared.Stored.TheVariants as cell
use Rattle.cb_heap.specs.Heap.{shown_as}
use Rattle.cb_heap.specs.Finite.{CellSorted, IsSorted}
use Rattle.cb_heap.specs.Links.{IsLast, LeadsTo, arrives, goes, link_of}
use Rattle.cb_heap.proofs.Steps.{no_some, some-inj}
use Rattle.cb_unify.specs.State.{Seen, HasValue, IsState, node_bit}
use Rattle.cb_unify.specs.Growth.{HasSlot}
use Rattle.cb_unify.proofs.Cells.{rise-below}

-- where a link leads, the sort is the same
link-sort : (t : Sorts) (ss : List Sort) (r : ℕ) (c : Stored) (to : Ref) (z : Sort) → CellSorted t ss r c → link_of c ≡ Some to → slice_get ss r ≡ Some z → slice_get ss to.0 ≡ Some z
link-sort t ss r (cell.Bound x) to z h e at =
    subst (λ (y : Ref). slice_get ss y.0 ≡ Some z) (some-inj x to e) (h.2 ∙ ap Some (some-inj h.0 z (sym h.1 ∙ at)))
link-sort t ss r (cell.Same x) to z h e at =
    subst (λ (y : Ref). slice_get ss y.0 ≡ Some z) (some-inj x to e) (h.2 ∙ ap Some (some-inj h.0 z (sym h.1 ∙ at)))
link-sort t ss r (cell.Leaf x) to z h e at = absurd (no_some _ to refl e)
link-sort t ss r cell.BusVar to z h e at = absurd (no_some _ to refl e)
link-sort t ss r cell.BusNil to z h e at = absurd (no_some _ to refl e)
link-sort t ss r (cell.BusCons x y) to z h e at = absurd (no_some _ to refl e)
link-sort t ss r cell.TermVar to z h e at = absurd (no_some _ to refl e)
link-sort t ss r (cell.Int x) to z h e at = absurd (no_some _ to refl e)
link-sort t ss r (cell.Node x y) to z h e at = absurd (no_some _ to refl e)

leads-sort : (t : Sorts) (ss : List Sort) (cs : List Stored) → IsSorted t ss cs → (z : Sort) {r e : ℕ} → LeadsTo cs r e → slice_get ss r ≡ Some z → slice_get ss e ≡ Some z
leads-sort t ss cs o z arrives h = h
leads-sort t ss cs o z {r} (goes c to is link more) h = leads-sort t ss cs o z more (link-sort t ss r c to z (o.cells r c is) link h)

bus-is-none : Some sort.Bus ≡ Some sort.Bool → ⊥
bus-is-none e = let d = some-inj sort.Bus sort.Bool e in cc

term-is-none : Some sort.Term ≡ Some sort.Bool → ⊥
term-is-none e = let d = some-inj sort.Term sort.Bool e in cc

-- a cell of a truth value in which no link stands is a leaf
bool-leaf : (t : Sorts) (ss : List Sort) (r : ℕ) (c : Stored) → CellSorted t ss r c → link_of c ≡ None → slice_get ss r ≡ Some sort.Bool → (x : ℕ) × (c ≡ cell.Leaf x)
bool-leaf t ss r (cell.Leaf x) h e at = (x, refl)
bool-leaf t ss r cell.BusVar h e at = absurd (bus-is-none (sym h ∙ at))
bool-leaf t ss r cell.BusNil h e at = absurd (bus-is-none (sym h ∙ at))
bool-leaf t ss r (cell.BusCons x y) h e at = absurd (bus-is-none (sym h.0 ∙ at))
bool-leaf t ss r cell.TermVar h e at = absurd (term-is-none (sym h ∙ at))
bool-leaf t ss r (cell.Int x) h e at = absurd (term-is-none (sym h.0 ∙ at))
bool-leaf t ss r (cell.Node x y) h e at = absurd (term-is-none (sym h.0 ∙ at))
bool-leaf t ss r (cell.Bound x) h e at = absurd (no_some (link_of (cell.Bound x)) x e refl)
bool-leaf t ss r (cell.Same x) h e at = absurd (no_some (link_of (cell.Same x)) x e refl)

-- the end of the links from a truth value is a leaf
pub last-leaf : (t : Sorts) (ss : List Sort) (cs : List Stored) (r e : ℕ) → IsSorted t ss cs → IsLast cs r e → slice_get ss r ≡ Some sort.Bool → (x : ℕ) × (slice_get cs e ≡ Some (cell.Leaf x))
last-leaf t ss cs r e o last at =
    let l = bool-leaf t ss e last.cell (o.cells e last.cell last.there) last.no_link (leads-sort t ss cs o sort.Bool last.leads at) in
    (l.0, last.there ∙ ap Some l.1)

-- what is shown as a leaf is one
shown-leaf : (c : Stored) (x : ℕ) → shown_as c ≡ shown.Leaf x → c ≡ cell.Leaf x
shown-leaf (cell.Leaf y) x e = ap cell.Leaf (ap slot-of e)
  where
    slot-of : Cell → ℕ
    slot-of (shown.Leaf z) = z
    slot-of _ = x
shown-leaf cell.BusVar x e = absurd (cc)
shown-leaf cell.BusNil x e = absurd (cc)
shown-leaf (cell.BusCons y z) x e = absurd (cc)
shown-leaf cell.TermVar x e = absurd (cc)
shown-leaf (cell.Int z) x e = absurd (cc)
shown-leaf (cell.Node y z) x e = absurd (cc)
shown-leaf (cell.Bound y) x e = absurd (cc)
shown-leaf (cell.Same y) x e = absurd (cc)

pub has-slot : (s : Seen) → IsState s → (r e x : ℕ) → IsLast s.heap.cells r e → Some (shown.Leaf x) ≡ option_map shown_as (slice_get s.heap.cells e) → HasSlot s r x
has-slot s is r e x last shows =
    let c : shown_as last.cell ≡ shown.Leaf x = some-inj (shown_as last.cell) (shown.Leaf x) (sym (shows ∙ ap (λ (o : Option Stored). option_map shown_as o) last.there)) in
    let at : slice_get s.heap.cells e ≡ Some (cell.Leaf x) = last.there ∙ ap Some (shown-leaf last.cell x c) in
    record {
      there = rise-below (length s.store.slots) 0 s.heap.cells is.rise e x at;
      bit = λ w g h. last.value w g h ∙ h e (cell.Leaf x) at;
    }

pub not-leaf : (t : Sorts) (ss : List Sort) (cs : List Stored) (r e : ℕ) (d : Cell) → IsSorted t ss cs → IsLast cs r e → Some d ≡ option_map shown_as (slice_get cs e) → slice_get ss r ≡ Some sort.Bool →
    ((x : ℕ) → d ≡ shown.Leaf x → ⊥) → ⊥
not-leaf t ss cs r e d o last shows at never =
    let l = last-leaf t ss cs r e o last at in
    never l.0 (some-inj d (shown.Leaf l.0) (shows ∙ ap (λ (o : Option Stored). option_map shown_as o) l.1))

-- the value of a cell that has a slot is the bit of the slot's value
pub slot-value : (s : Seen) (r x : ℕ) → HasSlot s r x → (n : ℕ) → function_of s.store.nodes.triples n ≡ value_in s.store.nodes.triples s.store.slots x →
    HasValue s r (λ a w. Bit (node_bit s a w n))
unfolding view_of
slot-value s r x h n f t a w g q = h.bit (slot_bits (view_of s.store) a w) g q.reading.holds ∙ ap Bit (sym (λ i. f i (point (view_of s.store).stands a w)))
