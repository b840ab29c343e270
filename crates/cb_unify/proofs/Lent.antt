-- What is left of a loan of the store.
use Rattle.std.proofs.Common.{◌≡◌, ℕ, zero, suc, ◌<◌, ◌≤◌, List, [], ◌∷◌, ◌++◌, length, refl, sym, ap, subst, ◌∙◌, arith, length-append, append-nil}
use Rattle.cb_model.specs.Bits.{Bits}
use Rattle.cb_model.specs.Values.{Sorts}
use Rattle.cb_dd.specs.declared.Triple.{Triple}
use Rattle.cb_dd.specs.declared.Node.{Node}
use Rattle.cb_dd.specs.Diagram.{Store as Nodes}
use Rattle.cb_ops.specs.Ops.{Grows}
use Rattle.cb_boole.specs.View.{InRange, point}
use Rattle.cb_elim.specs.declared.Free.{Free}
use Rattle.cb_elim.specs.Store.{Seen as Booleans, IsStore, IsVariableOf, slot_bits, stands_in, value_in, view_of}
use Rattle.cb_elim.proofs.Views.{store-still, value-still}
use Rattle.cb_elim.proofs.Back.{keeps-nodes}
use Rattle.cb_heap.specs.Reading.{Reading}
use Rattle.cb_heap.proofs.Back.{keeps-none as keeps-terms}
use Rattle.cb_unify.specs.State.{Seen, IsState, Reads}
use Rattle.cb_unify.specs.Growth.{IsExtended}
use Rattle.cb_unify.specs.Lending.{IsLent, with_store}
use Rattle.cb_unify.specs.Laws.{OpsAreLent, StoreIsLent}
use Rattle.cb_unify.proofs.Back.{keeps-both}
use Rattle.cb_unify.proofs.Cells.{reading-bits, rise-below, rise-more}

value-front : (ts : List Triple) (ns more : List Node) (x : ℕ) → x < length ns → value_in ts (ns ++ more) x ≡ value_in ts ns x
value-front ts [] more x less = absurd (omega arith)
value-front ts (n ∷ ns) more zero less = refl
value-front ts (n ∷ ns) more (suc x) less = value-front ts ns more x (omega arith)

module _ (old new : Booleans) (st : IsStore old) (l : IsLent old new) where
  value-same : (x : ℕ) → x < length old.slots → value_in new.nodes.triples new.slots x ≡ value_in old.nodes.triples old.slots x
  value-same x less =
      ap (λ ns. value_in new.nodes.triples ns x) l.slots
      ∙ value-front new.nodes.triples old.slots l.more x less
      ∙ value-still old.nodes new.nodes l.nodes old.slots st.nodes x

  pub bits-same : (a w : Bits) (x : ℕ) → x < length old.slots → slot_bits (view_of new) a w x ≡ slot_bits (view_of old) a w x
  unfolding view_of
  bits-same a w x less = λ i. value-same x less i (point (stands_in (l.free i)) a w)

  pub range-back : (a w : Bits) → InRange (view_of new) a w → InRange (view_of old) a w
  unfolding view_of
  range-back a w r = record {
    at = r.at;
    agrees = λ k h. r.agrees k (subst (λ n. k < n) (sym l.constants) h);
    gives = λ x u. sym (λ i. value-same x (st.slots x u) i r.at) ∙ r.gives x (subst (λ (fs : List Free). IsVariableOf fs x) (sym l.free) u);
  }

  pub range-on : (a w : Bits) → InRange (view_of old) a w → InRange (view_of new) a w
  unfolding view_of
  range-on a w r = record {
    at = r.at;
    agrees = λ k h. r.agrees k (subst (λ n. k < n) l.constants h);
    gives = λ x v. let u : IsVariableOf old.free x = subst (λ (fs : List Free). IsVariableOf fs x) l.free v in (λ i. value-same x (st.slots x u) i r.at) ∙ r.gives x u;
  }

  pub more-slots : length old.slots ≤ length new.slots
  more-slots = let e = ap length l.slots in omega (arith, length-append old.slots l.more)

module _ (s : Seen) (b : Booleans) (is : IsState s) (l : IsLent s.store b) where
  lent-reads : (t : Sorts) (a w : Bits) (g : Reading) → Reads t (with_store b s) a w g → Reads t s a w g
  lent-reads t a w g r = record {
    range = range-back s.store b is.store l a w r.range;
    reading = reading-bits t (slot_bits (view_of b) a w) (slot_bits (view_of s.store) a w) s.heap.sorts s.heap.cells g
        (λ q x at. sym (bits-same s.store b is.store l a w x (rise-below (length s.store.slots) 0 s.heap.cells is.rise q x at))) r.reading;
  }

  lent-back : (t : Sorts) (a w : Bits) (g : Reading) → Reads t s a w g → Reads t (with_store b s) a w g
  lent-back t a w g r = record {
    range = range-on s.store b is.store l a w r.range;
    reading = reading-bits t (slot_bits (view_of s.store) a w) (slot_bits (view_of b) a w) s.heap.sorts s.heap.cells g
        (λ q x at. bits-same s.store b is.store l a w x (rise-below (length s.store.slots) 0 s.heap.cells is.rise q x at)) r.reading;
  }

  pub lent-extended : IsExtended s (with_store b s)
  lent-extended = record {
    grown = record { reads = lent-reads; made = ([], sym (append-nil s.made)); sorts = ([], sym (append-nil s.heap.sorts)) };
    made = refl;
    any = λ t fits a w g r. (g, lent-back t a w g r, λ q less. refl);
  }

  pub lent-state : IsState (with_store b s)
  lent-state = record {
    store = l.store;
    heap = is.heap;
    finite = is.finite;
    rise = rise-more (length s.store.slots) (length b.slots) 0 s.heap.cells (more-slots s.store b is.store l) is.rise;
    made = is.made;
  }

pub store-lent : StoreIsLent
store-lent s b is l = record {
  state = lent-state s b is l;
  moments = keeps-both s (with_store b s) l.moments (keeps-terms s.heap) [] (sym (append-nil s.made));
  extended = lent-extended s b is l;
}

-- only nodes were added
pub nodes-lent : (s : Booleans) (n : Nodes) → IsStore s → Grows s.nodes n → IsLent s (record s { nodes = n })
nodes-lent s n st g = record {
  store = store-still s n st g;
  moments = keeps-nodes s s n refl g;
  constants = refl;
  free = refl;
  drawn = omega arith;
  more = [];
  slots = sym (append-nil s.slots);
  nodes = g;
}

pub ops-lent : OpsAreLent
ops-lent s n is g = store-lent s (record s.store { nodes = n }) is (nodes-lent s.store n is.store g)
