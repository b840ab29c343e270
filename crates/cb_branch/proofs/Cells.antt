-- What the goals of a branch make of its terms.
use Rattle.std.proofs.Common.{◌≡◌, Bool, ℕ, ◌+◌, ◌<◌, ◌≤◌, true, List, [], ◌∷◌, length, map, Some, refl, sym, ap, subst, ◌∙◌, arith}
use Rattle.std.specs.Prelude.{Result, Ok, Err, IfOk, OnOk, suc, slice_get}
use Rattle.cb_model.specs.Bits.{Each}
use Rattle.cb_model.specs.declared.Sort.{Sort}
use Rattle.cb_model.specs.declared.Sort.TheVariants as sort
use Rattle.cb_model.specs.declared.Tree.{Tree}
use Rattle.cb_model.specs.declared.Tree.TheVariants as tree
use Rattle.cb_model.specs.Outside.{Rose}
use Rattle.cb_model.specs.Program.{bools, shift_tree}
use Rattle.cb_model.specs.Values.{Sorts, World, tree_in_scope}
use Rattle.cb_model.specs.Equations.{Item, Pair}
use Rattle.cb_unify.specs.State.{Seen, FitsTable, IsState}
use Rattle.cb_unify.specs.Growth.{AddsSlots, IsExtended, IsGrown, IsSortedFrame}
use Rattle.cb_unify.specs.Moments.{KeepsMoments}
use Rattle.cb_unify.specs.Trees.{IsWritten}
use Rattle.cb_dd.specs.declared.Stop.{Stop}
use Rattle.cb_heap.specs.declared.Ref.{Ref}
use Rattle.cb_unify.proofs.Opened.{get-left, grown-then}
use Rattle.cb_items.specs.Items.{AddsFrame, AddsItem, AddsPair, Refuses, RefutesPair, StaysBut}
use Rattle.cb_items.specs.Shifted.{IsShifted}
use Rattle.cb_items.specs.Standing.{Stands, IsFrame, IsVals}
use Rattle.cb_items.proofs.Bridges.{built-stands, extended-items, frame-later, head-shifted, made-there, stands-later}
use Rattle.cb_items.proofs.Additions.{keeps-budget}
use Rattle.cb_items.proofs.Lists.{got-within, length-append, some-of, some-one}
use Rattle.cb_branch.specs.Terms.{Adds, ForHead, IsBuildable, IsHead, IsHeaded, IsRenamed, IsUnheaded, Makes, NoItem}

pub stays-then : (s u v : Seen) (m n : ℕ) → StaysBut s u m → StaysBut u v n → StaysBut s v (m + n)
stays-then s u v m n p q = record {
  constants = q.constants ∙ p.constants;
  budget = q.budget ∙ p.budget;
  drawn = let a = p.drawn in let b = q.drawn in omega arith;
}

-- what can be built stays so
pub buildable-later : (t : Sorts) (s u : Seen) (zs : List Sort) (frame : List ℕ) (z : Sort) (x : Tree) → IsGrown s u → FitsTable t u → u.store.constants ≡ s.store.constants →
    IsBuildable s t zs frame z x → IsBuildable u t zs frame z x
buildable-later t s u zs frame z x g fit e b = record {
  table = fit;
  frame_is = record {
    number = b.frame_is.number;
    sorts = λ k r y h i. ap (λ (ss : List Sort). slice_get ss r) g.sorts.1 ∙ get-left s.heap.sorts g.sorts.0 r y (b.frame_is.sorts k r y h i);
  };
  scope = subst (λ n. tree_in_scope n (length zs) x ≡ true) (sym e) b.scope;
  fits = b.fits;
}

pub sort-there : (s : Seen) (r : ℕ) (z : Sort) → slice_get s.heap.sorts r ≡ Some z → r < length s.heap.sorts
sort-there s r z e = got-within s.heap.sorts r z e

pub there-later : (s u : Seen) (r : ℕ) → IsGrown s u → r < length s.heap.sorts → r < length u.heap.sorts
there-later s u r g h = let e = ap length g.sorts.1 in let l = length-append s.heap.sorts g.sorts.0 in omega arith

rose-from : (a b c : ℕ) → a ≤ b → Rose b c → Rose a c
rose-from a b c h r = grind arith

pub refuses-then : (s u v : Seen) (b : Bool) → s.store.nodes.fulls ≤ u.store.nodes.fulls → u.store.nodes.budget ≡ s.store.nodes.budget → Refuses u v b → Refuses s v b
refuses-then s u v b le e h = record {
  more = let m = h.more in omega arith;
  rose = λ t. rose-from s.store.nodes.fulls u.store.nodes.fulls v.store.nodes.fulls le (h.rose t);
  bounded = λ t x. h.bounded t (e ∙ x);
}

-- an item that was added after what it stands on
module _ (w : World) (s u v : Seen) (n : ℕ) (x : Item) (grown : IsGrown s u) (stays : StaysBut s u n) (vals : (es : List Item) → IsVals w s es → IsVals w u es) where
  pub adds-after : IsState v → AddsItem w u v x → Adds w s v n x
  adds-after is a = record {
    state = is;
    grown = grown-then s u v grown a.grown;
    fits = a.fits;
    stays = let k = stays-then s u v n 0 stays a.stays in record { constants = k.constants; budget = k.budget; drawn = let d = k.drawn in omega arith };
    vals = λ es h. a.vals es (vals es h);
    solvable = λ es h. a.solvable es (vals es h);
  }

-- an equation
module _ (w : World) (s s1 s2 : Seen) (zs : List Sort) (frame : List ℕ) (z : Sort) (base l r : ℕ) (x y x' y' : Tree) (is : IsState s) (is1 : IsState s1)
    (m1 : Makes w.arguments s s1 zs frame z x l) (m2 : Makes w.arguments s1 s2 zs frame z y r) (f : IsFrame s base zs frame) (hx : IsShifted base x x') (hy : IsShifted base y y') where
  grown2 : IsGrown s s2
  grown2 = grown-then s s1 s2 m1.extended.grown m2.extended.grown

  stays2 : StaysBut s s2 0
  stays2 = stays-then s s1 s2 0 0 m1.stays m2.stays

  vals2 : (es : List Item) → IsVals w s es → IsVals w s2 es
  vals2 es h = extended-items s1 s2 m2.extended (made-there s1 is1) w m2.fits es (extended-items s s1 m1.extended (made-there s is) w m1.fits es h)

  left2 : Stands w.arguments s2 l x'
  left2 = stands-later w.arguments s1 s2 l x' m2.extended.grown (built-stands w.arguments s s1 zs frame x x' l m1.built m1.extended.grown base f hx)

  right2 : Stands w.arguments s2 r y'
  right2 = built-stands w.arguments s1 s2 zs frame y y' r m2.built m2.extended.grown base (frame-later s s1 base zs frame m1.extended.grown f) hy

  pub equation-adds : (v : Seen) → IsState v → AddsPair s2 v l r → Adds w s v 0 (Pair x' y')
  equation-adds v isv a = adds-after w s s2 v 0 (Pair x' y') grown2 stays2 vals2 isv (a w x' y' m2.fits left2 right2)

  pub equation-none : RefutesPair s2 l r → NoItem w s (Pair x' y')
  equation-none h = λ es i. h w es x' y' left2 right2 (vals2 es i)

  pub equation-made : (v : Seen) → AddsPair s2 v l r → v.made ≡ s.made
  equation-made v a = (a w x' y' m2.fits left2 right2).made ∙ m2.extended.made ∙ m1.extended.made

-- the variables of a clause, and its head with a call
module _ (w : World) (s s1 s2 : Seen) (zs : List Sort) (frame : List ℕ) (pred head call : ℕ) (hs args : List Tree) (is1 : IsState s1)
    (opened : AddsFrame s s1 zs frame) (m : Makes w.arguments s1 s2 zs frame sort.Term (tree.Node pred hs) head) (st : Stands w.arguments s call (tree.Node pred args)) where
  abbrev Renamed : Tree
  Renamed = tree.Node pred (map (shift_tree (length s.made)) hs)

  opened-grown : IsGrown s s2
  opened-grown = grown-then s s1 s2 opened.grown m.extended.grown

  opened-stays : StaysBut s s2 (bools zs)
  opened-stays = let j = stays-then s s1 s2 (bools zs) 0 opened.stays m.stays in record { constants = j.constants; budget = j.budget; drawn = let d = j.drawn in omega arith }

  opened-vals2 : (es : List Item) → IsVals w s es → IsVals w s2 es
  opened-vals2 es h = extended-items s1 s2 m.extended (made-there s1 is1) w m.fits es (opened.vals w es h)

  head-stands : Stands w.arguments s2 head Renamed
  head-stands = built-stands w.arguments s1 s2 zs frame (tree.Node pred hs) Renamed head m.built m.extended.grown (length s.made) opened.frame_is (head-shifted (length s.made) pred hs)

  call-stands : Stands w.arguments s2 call (tree.Node pred args)
  call-stands = stands-later w.arguments s s2 call (tree.Node pred args) opened-grown st

  pub head-adds : (v : Seen) → IsState v → AddsPair s2 v head call → Adds w s v (bools zs) (Pair Renamed (tree.Node pred args))
  head-adds v isv a = adds-after w s s2 v (bools zs) (Pair Renamed (tree.Node pred args)) opened-grown opened-stays opened-vals2 isv (a w Renamed (tree.Node pred args) m.fits head-stands call-stands)

  pub head-none : RefutesPair s2 head call → NoItem w s (Pair Renamed (tree.Node pred args))
  head-none h = λ es i. h w es Renamed (tree.Node pred args) head-stands call-stands (opened-vals2 es i)

  pub head-renamed : (v : Seen) → AddsPair s2 v head call → IsRenamed s v zs frame
  head-renamed v a =
      let k = a w Renamed (tree.Node pred args) m.fits head-stands call-stands in
      record {
        made = k.made ∙ m.extended.made ∙ opened.made;
        frame_is = frame-later s1 v (length s.made) zs frame (grown-then s1 s2 v m.extended.grown k.grown) opened.frame_is;
      }

pub head-buildable : (t : Sorts) (s u : Seen) (zs : List Sort) (frame : List ℕ) (name : ℕ) (head : List Tree) → AddsFrame s u zs frame → IsHead s t zs name head → IsBuildable u t zs frame sort.Term (tree.Node name head)
head-buildable t s u zs frame name head o h = record {
  table = o.fits t h.table;
  frame_is = record {
    number = o.frame_is.number;
    sorts = λ k r z e f. let p = o.frame_is.places k z e in let same : p.cell ≡ r = some-one p.cell r (sym p.at ∙ f) in subst (λ q. slice_get u.heap.sorts q ≡ Some z) same p.sort;
  };
  scope = subst (λ n. tree_in_scope n (length zs) (tree.Node name head) ≡ true) (sym o.stays.constants) h.scope;
  fits = h.fits;
}

module _ (s u v : Seen) (zs : List Sort) (frame : List ℕ) (name call : ℕ) (head : List Tree) (is1 : IsState u) (isv : IsState v) (o : AddsFrame s u zs frame) where
  pub renamed-yes : ((t : Sorts) (ss : List Sort) → IsBuildable u t ss frame sort.Term (tree.Node name head) → IsHeaded t u v ss frame (tree.Node name head) call) →
      ForHead s zs name head call (λ w x. Adds w s v (bools zs) x × IsRenamed s v zs frame)
  renamed-yes f = λ w args h st.
      let k = f w.arguments zs (head-buildable w.arguments s u zs frame name head o h) in
      (head-adds w s u k.mid zs frame name k.cell call head args is1 o k.makes st v isv k.pair, head-renamed w s u k.mid zs frame name k.cell call head args is1 o k.makes st v k.pair)

  pub renamed-no : ((t : Sorts) (ss : List Sort) → IsBuildable u t ss frame sort.Term (tree.Node name head) → IsUnheaded t u ss frame (tree.Node name head) call) →
      ForHead s zs name head call (λ w x. NoItem w s x)
  renamed-no f = λ w args h st.
      let k = f w.arguments zs (head-buildable w.arguments s u zs frame name head o h) in
      head-none w s u k.mid zs frame name k.cell call head args is1 o k.makes st k.none

-- ---- trees that were written

each-by : (P : ℕ → Type 0) (xs : List ℕ) → ((k x : ℕ) → slice_get xs k ≡ Some x → P x) → Each P xs
each-by P [] f = tt
each-by P (x ∷ xs) f = (f 0 x refl, each-by P xs (λ k y e. f (suc k) y e))

-- the cells of a frame are there
pub frame-there : (t : Sorts) (s : Seen) (zs : List Sort) (frame : List ℕ) → FitsTable t s → IsSortedFrame s zs frame → Each (λ r. r < length s.heap.cells) frame
frame-there t s zs frame h f = each-by (λ r. r < length s.heap.cells) frame (λ k r e.
    let n = f.number in
    let z = some-of zs k (let l = got-within frame k r e in omega arith) in
    let i = sort-there s r z.0 (f.sorts k r z.0 z.1 e) in
    let m = h.number in
    omega arith)

written-makes : (s u : Seen) (frame : List ℕ) (x : Tree) (r n : ℕ) → IsState s → KeepsMoments s u → IsWritten s u frame x r → IsExtended s u → AddsSlots s u n → (t : Sorts) (zs : List Sort) (z : Sort) →
    IsBuildable s t zs frame z x → Makes t s u zs frame z x r
written-makes s u frame x r n is k w e a t zs z b =
    let h = w t zs z b.table b.frame_is b.fits in
    record {
      built = h.0.value;
      extended = e;
      sort = subst (λ (y : Sort). slice_get u.heap.sorts r ≡ Some y) h.1 h.0.sort;
      fits = h.0.fits;
      stays = record { constants = a.constants; budget = keeps-budget s u is k; drawn = let d = a.drawn in omega arith };
    }

pub all-makes : (s u : Seen) (frame : List ℕ) (x : Tree) (o : Result Ref Stop) (n : ℕ) → IsState s → KeepsMoments s u → IfOk o (λ r. IsWritten s u frame x r.0) → OnOk o (IsExtended s u) → OnOk o (AddsSlots s u n) →
    IfOk o (λ r. (t : Sorts) (zs : List Sort) (z : Sort) → IsBuildable s t zs frame z x → Makes t s u zs frame z x r.0)
all-makes s u frame x (Ok r) n is k w e a = λ t zs z b. written-makes s u frame x r.0 n is k w e a t zs z b
all-makes s u frame x (Err stop) n is k w e a = tt

pub term-makes : (s u : Seen) (frame : List ℕ) (x : Tree) (o : Result Ref Stop) (n : ℕ) → IsState s → KeepsMoments s u → IfOk o (λ r. IsWritten s u frame x r.0) → OnOk o (IsExtended s u) → OnOk o (AddsSlots s u n) →
    IfOk o (λ r. (t : Sorts) (zs : List Sort) → IsBuildable s t zs frame sort.Term x → Makes t s u zs frame sort.Term x r.0)
term-makes s u frame x (Ok r) n is k w e a = λ t zs b. written-makes s u frame x r.0 n is k w e a t zs sort.Term b
term-makes s u frame x (Err stop) n is k w e a = tt
