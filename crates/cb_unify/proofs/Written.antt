-- Trees written as cells.
use Rattle.std.proofs.Common.{◌≡◌, ◌≢◌, inl, inr, ℕ, zero, suc, ◌+◌, ◌-◌, ◌<◌, ◌≤◌, Bool, true, false, ◌&&◌, nat_lt, List, [], ◌∷◌, ◌++◌, length, map, drop, take, Option, Some, None, Result, Ok, Err, refl, sym, ap, subst, ◌∙◌, arith, rules, ℤ, length-append, append-nil}
use Rattle.std.specs.Prelude.{IfOk, IfSome, slice_get, get_or, option_to_list, sum_by, FitsSigned}
use Rattle.std.specs.Int.{w64}
use Rattle.std.specs.List.{list_all}
use Rattle.std.specs.Option.{option_map_or}
use Rattle.std.proofs.lemmas.Bool.{and_parts}
use Rattle.std.proofs.lemmas.List.{length-take-le, take-append-drop}
use Rattle.std.proofs.lemmas.List.Sums.{sum-map, sum_by-append, sum_by_push}
use Rattle.std.proofs.lemmas.Option.{slice_get_within, get_or_from_slice_get}
use Rattle.cb_model.specs.declared.Sort.{Sort}
use Rattle.cb_model.specs.declared.Sort.TheVariants as sort
use Rattle.cb_model.specs.declared.Expr.{Expr}
use Rattle.cb_model.specs.declared.Expr.TheOpen.{Expr-F}
use Rattle.cb_model.specs.declared.Expr.TheVariants as expr
use Rattle.cb_model.specs.declared.Expr.TheFolds.{fold-roll-Expr}
use Rattle.cb_model.specs.declared.Tree.{Tree}
use Rattle.cb_model.specs.declared.Tree.TheOpen.{Tree-F}
use Rattle.cb_model.specs.declared.Tree.TheVariants as tree
use Rattle.cb_model.specs.declared.Tree.TheFolds.{fold-Tree, fold-roll-Tree}
use Rattle.cb_model.specs.Bits.{Bits, Each, all_of}
use Rattle.cb_model.specs.Sorted.{are_boolean, arguments_fit, same_sort, same_sorts, tree_sort, variable_has, variables_fit, variables_fit_step}
use Rattle.cb_model.specs.Values.{Bit, Name, Sorts, Valuation, expr_value, grounds, in_scope, in_scope_step, tail_of, tree_in_scope, tree_in_scope_step, tree_value}
use Rattle.cb_laws.proofs.SortedTrees.{args-bus, args-leaf, args-node, fit-node, sort-bus, sort-int, sort-leaf, sort-node, sort-term}
use Rattle.cb_laws.proofs.Values.{value-bus, value-int, value-leaf, value-node, value-term, value-var}
use Rattle.cb_boole.specs.View.{point}
use Rattle.cb_boole.proofs.Unify.{point_other}
use Rattle.cb_elim.specs.declared.Slot.{Slot}
use Rattle.cb_elim.specs.Expression.{variable_bits}
use Rattle.cb_dd.specs.declared.Node.{Node}
use Rattle.cb_dd.specs.declared.Stop.{Stop}
use Rattle.cb_dd.specs.Diagram.{function_of}
use Rattle.cb_elim.specs.Store.{Seen as Booleans, IsArgument, IsStore, OnlyNodes, slot_bits, stands_in, value_in, view_of}
use Rattle.cb_heap.specs.declared.Ref.{Ref}
use Rattle.cb_heap.specs.declared.Cell.TheVariants as shown
use Rattle.cb_heap.specs.declared.Stored.TheVariants as cell
use Rattle.cb_heap.specs.Finite.{IsSorted}
use Rattle.cb_heap.specs.Heap.{Terms}
use Rattle.cb_heap.specs.Reading.{Reading}
use Rattle.cb_heap.proofs.Adding.{get-front, there-more}
use Rattle.cb_heap.proofs.Steps.{bit-inj, no_some, some-inj}
use Rattle.cb_unify.specs.State.{Seen, FitsTable, IsState, Reads, node_bit}
use Rattle.cb_unify.specs.Growth.{FrameGives, HasSlot, IsAdded, IsGrown, IsLeafOf, IsPut, IsSortedFrame}
use Rattle.cb_unify.specs.Moments.{KeepsMoments}
use Rattle.cb_elim.specs.Moments.{KeepsMoments as KeepsBools}
use Rattle.cb_heap.proofs.Back.{keeps-none as keeps-terms}
use Rattle.cb_unify.proofs.Back.{keeps-both}
use Rattle.cb_unify.specs.Lending.{IsLent, with_store}
use Rattle.cb_unify.specs.Trees.{AreTreesOf, HasCompound, HasTree, HaveCompounds, HaveSlots, HaveTrees, IsCompoundAt, IsCompoundOf, IsNodeOf, IsTreeOf, IsWritten, bit_places, bit_places_step}
use Rattle.cb_unify.proofs.Added.{added-none, added-then, cons-value, fits-front, store-added}
use Rattle.cb_unify.proofs.Exprs.{boolean-var, reads-same}
use Rattle.cb_unify.proofs.Lent.{lent-state, nodes-lent}
use Rattle.cb_unify.proofs.Leaves.{cell-there, drop-step, sort-later}
use Rattle.cb_unify.proofs.Opened.{get-left, last-of}

-- ---- one equation for each form of tree

module _ (ss : List Sort) where
  fit-leaf : (e : Expr) → variables_fit ss (tree.Leaf e) ≡ are_boolean ss e
  fit-leaf e = ap (variables_fit ss) (sym (tree.rolls-Leaf e)) ∙ fold-roll-Tree Bool (variables_fit_step ss) (Tree-F.Leaf e)

  fit-bus : (es : List Expr) (t : Option ℕ) → variables_fit ss (tree.Bus es t) ≡ (list_all (are_boolean ss) es && list_all (variable_has ss sort.Bus) (option_to_list t))
  fit-bus es t = ap (variables_fit ss) (sym (tree.rolls-Bus es t)) ∙ fold-roll-Tree Bool (variables_fit_step ss) (Tree-F.Bus es t)

  fit-term : (n : ℕ) → variables_fit ss (tree.Var n) ≡ variable_has ss sort.Term n
  fit-term n = ap (variables_fit ss) (sym (tree.rolls-Var n)) ∙ fold-roll-Tree Bool (variables_fit_step ss) (Tree-F.Var n)

module _ (c v : ℕ) where
  pub scope-leaf : (e : Expr) → tree_in_scope c v (tree.Leaf e) ≡ in_scope c v e
  scope-leaf e = ap (tree_in_scope c v) (sym (tree.rolls-Leaf e)) ∙ fold-roll-Tree Bool (tree_in_scope_step c v) (Tree-F.Leaf e)

  pub scope-bus : (es : List Expr) (t : Option ℕ) → tree_in_scope c v (tree.Bus es t) ≡ (list_all (in_scope c v) es && list_all (λ n. nat_lt n v) (option_to_list t))
  scope-bus es t = ap (tree_in_scope c v) (sym (tree.rolls-Bus es t)) ∙ fold-roll-Tree Bool (tree_in_scope_step c v) (Tree-F.Bus es t)

  pub scope-term : (n : ℕ) → tree_in_scope c v (tree.Var n) ≡ nat_lt n v
  scope-term n = ap (tree_in_scope c v) (sym (tree.rolls-Var n)) ∙ fold-roll-Tree Bool (tree_in_scope_step c v) (Tree-F.Var n)

  pub scope-node : (n : ℕ) (ts : List Tree) → tree_in_scope c v (tree.Node n ts) ≡ all_of (map (tree_in_scope c v) ts)
  scope-node n ts = ap (tree_in_scope c v) (sym (tree.rolls-Node n ts)) ∙ fold-roll-Tree Bool (tree_in_scope_step c v) (Tree-F.Node n ts)

below : (k n : ℕ) → nat_lt k n ≡ true → k < n
below k n h = search rules

pub tail-scope : (c v n : ℕ) (tail : Option ℕ) → tail ≡ Some n → tree_in_scope c v (tree.Bus [] tail) ≡ true → n < v
tail-scope c v n tail e h = below n v (and_parts (nat_lt n v) true (ap (λ o. list_all (λ m. nat_lt m v) (option_to_list o)) (sym e) ∙ sym (scope-bus c v [] tail) ∙ h)).0

pub elements-scope : (c v : ℕ) (es : List Expr) (tail : Option ℕ) → tree_in_scope c v (tree.Bus es tail) ≡ true → (list_all (in_scope c v) es ≡ true) × (tree_in_scope c v (tree.Bus [] tail) ≡ true)
elements-scope c v es tail h =
    let p = and_parts (list_all (in_scope c v) es) (list_all (λ n. nat_lt n v) (option_to_list tail)) (sym (scope-bus c v es tail) ∙ h) in
    (p.0, scope-bus c v [] tail ∙ p.1)

pub element-scope : (c v : ℕ) (es : List Expr) (k : ℕ) (d : Expr) → k < length es → list_all (in_scope c v) es ≡ true → in_scope c v (get_or es k d) ≡ true
element-scope c v [] k d l h = absurd (omega arith)
element-scope c v (e ∷ es) zero d l h = (and_parts (in_scope c v e) (list_all (in_scope c v) es) h).0
element-scope c v (e ∷ es) (suc k) d l h = element-scope c v es k d (omega arith) (and_parts (in_scope c v e) (list_all (in_scope c v) es) h).1

pub argument-scope : (c v : ℕ) (xs : List Tree) (k : ℕ) (d : Tree) → k < length xs → all_of (map (tree_in_scope c v) xs) ≡ true → tree_in_scope c v (get_or xs k d) ≡ true
argument-scope c v [] k d l h = absurd (omega arith)
argument-scope c v (x ∷ xs) zero d l h = (and_parts (tree_in_scope c v x) (all_of (map (tree_in_scope c v) xs)) h).0
argument-scope c v (x ∷ xs) (suc k) d l h = argument-scope c v xs k d (omega arith) (and_parts (tree_in_scope c v x) (all_of (map (tree_in_scope c v) xs)) h).1

pub variable-scope : (c v n : ℕ) (e : Expr) → e ≡ expr.Var n → in_scope c v e ≡ true → n < v
variable-scope c v n e is h = below n v (sym (ap (in_scope c v) is ∙ ap (in_scope c v) (sym (expr.rolls-Var n)) ∙ fold-roll-Expr Bool (in_scope_step c v) (Expr-F.Var n)) ∙ h)

pub term-scope : (c v n : ℕ) (x : Tree) → x ≡ tree.Var n → tree_in_scope c v x ≡ true → n < v
term-scope c v n x is h = below n v (sym (ap (tree_in_scope c v) is ∙ scope-term c v n) ∙ h)

bits-leaf : (e : Expr) → bit_places (tree.Leaf e) ≡ 1
bits-leaf e = ap bit_places (sym (tree.rolls-Leaf e)) ∙ fold-roll-Tree ℕ bit_places_step (Tree-F.Leaf e)

bits-bus : (es : List Expr) (t : Option ℕ) → bit_places (tree.Bus es t) ≡ length es
bits-bus es t = ap bit_places (sym (tree.rolls-Bus es t)) ∙ fold-roll-Tree ℕ bit_places_step (Tree-F.Bus es t)

bits-node : (n : ℕ) (ts : List Tree) → bit_places (tree.Node n ts) ≡ sum_by bit_places ts
bits-node n ts = ap bit_places (sym (tree.rolls-Node n ts)) ∙ fold-roll-Tree ℕ bit_places_step (Tree-F.Node n ts) ∙ sum-map bit_places ts

-- the name of a compound, the number of its arguments, and whether a tree is one
name_step : Tree-F ℕ → ℕ
name_step (Tree-F.Node n xs) = n
name_step _ = 0

count_step : Tree-F ℕ → ℕ
count_step (Tree-F.Node n xs) = suc (length xs)
count_step _ = 0

name_in : Tree → ℕ
name_in = fold-Tree ℕ name_step

count_in : Tree → ℕ
count_in = fold-Tree ℕ count_step

count-map : {A B : Type 0} (f : A → B) (xs : List A) → length (map f xs) ≡ length xs
count-map f [] = refl
count-map f (x ∷ xs) = ap suc (count-map f xs)

name-node : (n : ℕ) (ts : List Tree) → name_in (tree.Node n ts) ≡ n
unfolding name_in name_step
name-node n ts = ap (fold-Tree ℕ name_step) (sym (tree.rolls-Node n ts)) ∙ fold-roll-Tree ℕ name_step (Tree-F.Node n ts)

count-node : (n : ℕ) (ts : List Tree) → count_in (tree.Node n ts) ≡ suc (length ts)
unfolding count_in count_step
count-node n ts = ap (fold-Tree ℕ count_step) (sym (tree.rolls-Node n ts)) ∙ fold-roll-Tree ℕ count_step (Tree-F.Node n ts) ∙ ap suc (count-map (fold-Tree ℕ count_step) ts)

count-leaf : (e : Expr) → count_in (tree.Leaf e) ≡ 0
unfolding count_in count_step
count-leaf e = ap (fold-Tree ℕ count_step) (sym (tree.rolls-Leaf e)) ∙ fold-roll-Tree ℕ count_step (Tree-F.Leaf e)

count-bus : (es : List Expr) (t : Option ℕ) → count_in (tree.Bus es t) ≡ 0
unfolding count_in count_step
count-bus es t = ap (fold-Tree ℕ count_step) (sym (tree.rolls-Bus es t)) ∙ fold-roll-Tree ℕ count_step (Tree-F.Bus es t)

count-term : (n : ℕ) → count_in (tree.Var n) ≡ 0
unfolding count_in count_step
count-term n = ap (fold-Tree ℕ count_step) (sym (tree.rolls-Var n)) ∙ fold-roll-Tree ℕ count_step (Tree-F.Var n)

count-int : (z : ℤ) → count_in (tree.Int z) ≡ 0
unfolding count_in count_step
count-int z = ap (fold-Tree ℕ count_step) (sym (tree.rolls-Int z)) ∙ fold-roll-Tree ℕ count_step (Tree-F.Int z)

no-compound : (s : Seen) (x : Tree) (r : ℕ) → count_in x ≡ 0 → HasCompound s x r
no-compound s x r none name xs e = let a = sym none ∙ ap count_in e ∙ count-node name xs in absurd (omega (arith, a))

-- ---- sorts

is-sort : (s z : Sort) → same_sort s z ≡ true → s ≡ z
is-sort sort.Bool sort.Bool h = refl
is-sort sort.Bus sort.Bus h = refl
is-sort sort.Term sort.Term h = refl
is-sort sort.Bool sort.Bus h = absurd (cc)
is-sort sort.Bool sort.Term h = absurd (cc)
is-sort sort.Bus sort.Bool h = absurd (cc)
is-sort sort.Bus sort.Term h = absurd (cc)
is-sort sort.Term sort.Bool h = absurd (cc)
is-sort sort.Term sort.Bus h = absurd (cc)

are-sorts : (ss zs : List Sort) → same_sorts ss zs ≡ true → ss ≡ zs
are-sorts [] [] h = refl
are-sorts (s ∷ ss) (z ∷ zs) h = let p = and_parts (same_sort s z) (same_sorts ss zs) h in ap (λ x. x ∷ ss) (is-sort s z p.0) ∙ ap (λ xs. z ∷ xs) (are-sorts ss zs p.1)
are-sorts [] (z ∷ zs) h = absurd (cc)
are-sorts (s ∷ ss) [] h = absurd (cc)

-- a variable that has a sort is one of the sorts in its place
has-sort : (zs : List Sort) (s : Sort) (n : ℕ) → variable_has zs s n ≡ true → slice_get zs n ≡ Some s
has-sort [] s n h = absurd (cc)
has-sort (z ∷ zs) s zero h = ap Some (sym (is-sort s z h))
has-sort (z ∷ zs) s (suc n) h = has-sort zs s n h

frame-later : (s u : Seen) (zs : List Sort) (frame : List ℕ) → IsGrown s u → IsSortedFrame s zs frame → IsSortedFrame u zs frame
frame-later s u zs frame g f = record { number = f.number; sorts = λ k r z e at. sort-later s u r z g (f.sorts k r z e at) }

-- ---- slots

pub each-of : (n : ℕ) (xs : List ℕ) (k r : ℕ) → Each (λ q. q < n) xs → slice_get xs k ≡ Some r → r < n
each-of n [] k r h e = absurd (no_some _ r refl e)
each-of n (x ∷ xs) zero r h e = subst (λ q. q < n) (some-inj x r e) h.0
each-of n (x ∷ xs) (suc k) r h e = each-of n xs k r h.1 e

pub slots-later : (s u : Seen) (n : ℕ) (frame : List ℕ) (slots : List (Option Slot)) → IsState s → IsAdded s u n → Each (λ r. r < length s.heap.cells) frame → HaveSlots s frame slots → HaveSlots u frame slots
slots-later s u n frame slots is p there h = record {
  number = h.number;
  some = λ k r x e at w g holds. h.some k r x e at w g (λ q d i. holds q d (ap (λ l. slice_get l q) p.cells.1 ∙ get-left s.heap.cells p.cells.0 q d i));
  none = λ t k r fits e at z.
      let less : r < length s.heap.cells = each-of (length s.heap.cells) frame k r there e in
      let same : slice_get u.heap.sorts r ≡ slice_get s.heap.sorts r = ap (λ l. slice_get l r) p.extended.grown.sorts.1 ∙ get-front s.heap.sorts p.extended.grown.sorts.0 r (let m = is.heap.number in omega arith) in
      h.none t k r (fits-front t s u is p.cells.0 p.cells.1 p.extended.grown fits) e at (sym same ∙ z);
}

pub no-slots : (s : Seen) (frame : List ℕ) → HaveSlots s frame []
no-slots s frame = record {
  number = omega arith;
  some = λ k r x e at w g holds. absurd (no_some _ (Some x) refl at);
  none = λ t k r fits e at z. no_some _ None refl at;
}

pub one-slot : (s : Seen) (frame : List ℕ) (slots : List (Option Slot)) (r : ℕ) (o : Option Slot) → HaveSlots s frame slots → slice_get frame (length slots) ≡ Some r → IfSome o (λ x. HasSlot s r x.0) →
    ((t : Sorts) → FitsTable t s → slice_get s.heap.sorts r ≡ Some sort.Bool → o ≢ None) → HaveSlots s frame (slots ++ o ∷ [])
one-slot s frame slots r o h at has none = record {
  number = let l = slice_get_within frame (length slots) r at in omega (arith, l, length-append slots (o ∷ []));
  some = λ k q x e i w g holds. elim (last-of slots o k (Some x) i) [
    | inl old ↦ h.some k q x e old.1 w g holds
    | inr new ↦
        let same : r ≡ q = some-inj r q (sym at ∙ ap (λ n. slice_get frame n) (sym new.0) ∙ e) in
        subst (λ y. g y ≡ Bit (w x.0)) same ((subst (λ (y : Option Slot). IfSome y (λ z. HasSlot s r z.0)) new.1 has).bit w g holds)
  ];
  none = λ t k q fits e i z. elim (last-of slots o k None i) [
    | inl old ↦ h.none t k q fits e old.1 z
    | inr new ↦
        let same : q ≡ r = some-inj q r (sym e ∙ ap (λ n. slice_get frame n) new.0 ∙ at) in
        none t fits (ap (λ y. slice_get s.heap.sorts y) (sym same) ∙ z) new.1
  ];
}

pub frame-more : (n m : ℕ) (xs : List ℕ) → n ≤ m → Each (λ r. r < n) xs → Each (λ r. r < m) xs
frame-more n m [] l h = tt
frame-more n m (x ∷ xs) l h = (let a = h.0 in omega arith, frame-more n m xs l h.1)

pub more-cells : (s u : Seen) (n : ℕ) → IsAdded s u n → length s.heap.cells ≤ length u.heap.cells
more-cells s u n p = let e = ap length p.cells.1 in omega (arith, e, length-append s.heap.cells p.cells.0)

-- ---- expressions

low-point : (s : Seen) → IsStore s.store → (a w : Bits) (k : ℕ) → k < s.store.constants → point (view_of s.store).stands a w k ≡ a k
unfolding view_of
low-point s st a w k less = by (stands_in s.store.free k) refl
  where
    by : (o : Option ℕ) → stands_in s.store.free k ≡ o → point (stands_in s.store.free) a w k ≡ a k
    by None e = point_other (stands_in s.store.free) a w k e
    by (Some x) e = absurd (st.good.above k x e less)

index-at : (slots : List (Option Slot)) (n : ℕ) (o : Option Slot) → slice_get slots n ≡ Some o → get_or slots n None ≡ o
index-at slots n o e = get_or_from_slice_get slots n o None e

-- a list has something in each place
has-place : {A : Type 0} (xs : List A) (n : ℕ) → n < length xs → (x : A) × (slice_get xs n ≡ Some x)
has-place [] n less = absurd (omega arith)
has-place (x ∷ xs) zero less = (x, refl)
has-place (x ∷ xs) (suc n) less = has-place xs n (omega arith)

module _ (t : Sorts) (zs : List Sort) (s : Seen) (frame : List ℕ) (slots : List (Option Slot)) (fits : FitsTable t s) (f : IsSortedFrame s zs frame) (h : HaveSlots s frame slots) (all : length slots ≡ length frame)
    (t' : Sorts) (a w : Bits) (g : Reading) (v : Valuation) (q : Reads t' s a w g) (gives : FrameGives zs frame g v) where
  abbrev p : Bits
  p = point (view_of s.store).stands a w

  var-bit : (n : ℕ) → n < length frame → variable_has zs sort.Bool n ≡ true → variable_bits s.store.nodes.triples s.store.slots slots p n ≡ v.bits n
  unfolding view_of
  var-bit n less has =
      let z : slice_get zs n ≡ Some sort.Bool = has-sort zs sort.Bool n has in
      let r = has-place frame n less in
      let o = has-place slots n (let e = all in omega arith) in
      by o.0 o.1 r.0 r.1 z
    where
      by : (o : Option Slot) → slice_get slots n ≡ Some o → (r : ℕ) → slice_get frame n ≡ Some r → slice_get zs n ≡ Some sort.Bool →
          variable_bits s.store.nodes.triples s.store.slots slots p n ≡ v.bits n
      by None e r at z = absurd (h.none t n r fits at e (f.sorts n r sort.Bool z at))
      by (Some x) e r at z =
          ap (λ (i : Option Slot). option_map_or (λ (y : Slot). value_in s.store.nodes.triples s.store.slots y.0 p) i false) (index-at slots n (Some x) e)
          ∙ bit-inj (slot_bits (view_of s.store) a w x.0) (v.bits n) (sym (h.some n r x at e (slot_bits (view_of s.store) a w) g q.reading.holds) ∙ sym (gives n r sort.Bool z at))

  pub expr-bit : IsStore s.store → (e : Expr) → in_scope s.store.constants (length frame) e ≡ true → are_boolean zs e ≡ true →
      expr_value p (variable_bits s.store.nodes.triples s.store.slots slots p) e ≡ expr_value a v.bits e
  expr-bit st e scope boolean = reads-same s.store.constants (length frame) zs p a (variable_bits s.store.nodes.triples s.store.slots slots p) v.bits (low-point s st a w) var-bit e scope boolean

-- ---- nodes

module _ (now s : Seen) (same : s ≡ now) (is : IsState now) (b : Booleans) (only : OnlyNodes s.store b) (st : IsStore b) where
  lent : IsLent s.store b
  lent = subst (λ (o : Booleans). IsLent s.store o) (sym only.same) (nodes-lent s.store b.nodes (subst IsState (sym same) is).store only.grows)

  pub node-state : IsState (record { heap = s.heap; store = b; made = s.made })
  node-state = lent-state s b (subst IsState (sym same) is) lent

  node-bits : (a w : Bits) (n : ℕ) → node_bit (with_store b s) a w n ≡ function_of b.nodes.triples n (point (view_of s.store).stands a w)
  unfolding view_of
  node-bits a w n = ap (λ fs. function_of b.nodes.triples n (point (stands_in fs) a w)) lent.free

  pub node-moments : KeepsBools s.store b → KeepsMoments now (record { heap = s.heap; store = b; made = s.made })
  node-moments k = subst (λ (o : Seen). KeepsMoments o (with_store b s)) same (keeps-both s (with_store b s) k (keeps-terms s.heap) [] (sym (append-nil s.made)))

  pub node-is : (slots : List (Option Slot)) (e : Expr) (n : ℕ) → IsArgument b n →
      ((p : Bits) → function_of b.nodes.triples n p ≡ expr_value p (variable_bits s.store.nodes.triples s.store.slots slots p) e) → IsNodeOf now (record { heap = s.heap; store = b; made = s.made }) slots e n
  node-is slots e n arg f = subst (λ (o : Seen). IsNodeOf o (with_store b s) slots e n) same (record {
    added = store-added s b 0 (subst IsState (sym same) is) lent (ap (λ (o : Booleans). o.drawn) only.same) (let k = ap (λ (o : Booleans). length o.slots) only.same in omega (arith, k)) only.arguments;
    heap = refl;
    argument = arg;
    value = λ a w. node-bits a w n ∙ f (point (view_of s.store).stands a w);
  })

  pub node-ok : (slots : List (Option Slot)) (e : Expr) (r : Result Node Stop) → IfOk r (λ n. IsArgument b n.0) →
      IfOk r (λ n. (p : Bits) → function_of b.nodes.triples n.0 p ≡ expr_value p (variable_bits s.store.nodes.triples s.store.slots slots p) e) → IfOk r (λ n. IsNodeOf now (record { heap = s.heap; store = b; made = s.made }) slots e n.0)
  node-ok slots e (Ok n) arg f = node-is slots e n.0 arg f
  node-ok slots e (Err x) arg f = tt

pub ok-err : {A E : Type 0} (a : A) (x : E) → ◌≡◌ {A = Result A E} (Ok a) (Err x) → ⊥
ok-err a x h = absurd (cc)

-- ---- trees

-- a variable's own cell
pub own-leaf : (s : Seen) (frame : List ℕ) (n r : ℕ) → IsState s → Each (λ q. q < length s.heap.cells) frame → slice_get frame n ≡ Some r → r < length s.heap.cells → IsTreeOf s s frame (tree.Leaf (expr.Var n)) r
own-leaf s frame n r is there at less = record {
  added = added-then s s s 0 0 (bit_places (tree.Leaf (expr.Var n))) (omega arith) (added-none s is) (added-none s is);
  there = less;
  compound = no-compound s (tree.Leaf (expr.Var n)) r (count-leaf (expr.Var n));
  stands = λ t zs fits f vf af.
      let z : slice_get zs n ≡ Some sort.Bool = has-sort zs sort.Bool n (sym (boolean-var zs n) ∙ sym (fit-leaf zs (expr.Var n)) ∙ vf) in
      record {
        value = λ t' a w g v q gives. sym (gives n r sort.Bool z at) ∙ ap Bit (sym (value-var a v.bits n)) ∙ sym (value-leaf a v (expr.Var n));
        sort = f.sorts n r sort.Bool z at ∙ ap Some (sym (sort-leaf (expr.Var n)));
        fits = fits;
      };
}

pub own-term : (s : Seen) (frame : List ℕ) (n r : ℕ) → IsState s → slice_get frame n ≡ Some r → r < length s.heap.cells → IsTreeOf s s frame (tree.Var n) r
own-term s frame n r is at less = record {
  added = added-then s s s 0 0 (bit_places (tree.Var n)) (omega arith) (added-none s is) (added-none s is);
  there = less;
  compound = no-compound s (tree.Var n) r (count-term n);
  stands = λ t zs fits f vf af.
      let z : slice_get zs n ≡ Some sort.Term = has-sort zs sort.Term n (sym (fit-term zs n) ∙ vf) in
      record {
        value = λ t' a w g v q gives. sym (gives n r sort.Term z at) ∙ sym (value-term a v n);
        sort = f.sorts n r sort.Term z at ∙ ap Some (sym (sort-term n));
        fits = fits;
      };
}

pub own-bus : (s : Seen) (frame : List ℕ) (n r : ℕ) → IsState s → slice_get frame n ≡ Some r → r < length s.heap.cells → IsTreeOf s s frame (tree.Bus [] (Some n)) r
own-bus s frame n r is at less = record {
  added = added-then s s s 0 0 (bit_places (tree.Bus [] (Some n))) (omega arith) (added-none s is) (added-none s is);
  there = less;
  compound = no-compound s (tree.Bus [] (Some n)) r (count-bus [] (Some n));
  stands = λ t zs fits f vf af.
      let z : slice_get zs n ≡ Some sort.Bus = has-sort zs sort.Bus n (and_parts (variable_has zs sort.Bus n) true (sym (fit-bus zs [] (Some n)) ∙ vf)).0 in
      record {
        value = λ t' a w g v q gives. sym (gives n r sort.Bus z at) ∙ sym (value-bus a v [] (Some n));
        sort = f.sorts n r sort.Bus z at ∙ ap Some (sym (sort-bus [] (Some n)));
        fits = fits;
      };
}

pub nil-bus : (s u : Seen) (frame : List ℕ) (r : ℕ) → IsPut s u shown.BusNil r → IsTreeOf s u frame (tree.Bus [] None) r
nil-bus s u frame r p = record {
  added = added-then s u u 0 0 (bit_places (tree.Bus [] None)) (omega arith) p.added (added-none u p.added.state);
  there = slice_get_within u.heap.cells r _ p.cell;
  compound = no-compound u (tree.Bus [] None) r (count-bus [] None);
  stands = λ t zs fits f vf af. record {
    value = λ t' a w g v q gives. q.reading.holds r cell.BusNil p.cell ∙ sym (value-bus a v [] None);
    sort = p.sort ∙ ap Some (sym (sort-bus [] None));
    fits = p.fits t fits p.sort;
  };
}

pub int-term : (s u : Seen) (frame : List ℕ) (z : ℤ) (r : ℕ) → FitsSigned w64 z → IsPut s u (shown.Int z) r → IsTreeOf s u frame (tree.Int z) r
int-term s u frame z r small p = record {
  added = added-then s u u 0 0 (bit_places (tree.Int z)) (omega arith) p.added (added-none u p.added.state);
  there = slice_get_within u.heap.cells r _ p.cell;
  compound = no-compound u (tree.Int z) r (count-int z);
  stands = λ t zs fits f vf af. record {
    value = λ t' a w g v q gives. q.reading.holds r (cell.Int z) p.cell ∙ sym (value-int a v z);
    sort = p.sort ∙ ap Some (sym (sort-int z));
    fits = p.fits t fits (p.sort, small);
  };
}

pub node-leaf : (s u y : Seen) (frame : List ℕ) (slots : List (Option Slot)) (e : Expr) (n r : ℕ) → IsState s → HaveSlots s frame slots → length slots ≡ length frame → in_scope s.store.constants (length frame) e ≡ true →
    IsNodeOf s u slots e n → IsLeafOf u y n r → IsTreeOf s y frame (tree.Leaf e) r
node-leaf s u y frame slots e n r is h all scope p l = record {
  added = added-then s u y 0 1 (bit_places (tree.Leaf e)) (let b = bits-leaf e in omega (arith, b)) p.added l.added;
  there = cell-there y r sort.Bool l.added.state l.placed.sort;
  compound = no-compound y (tree.Leaf e) r (count-leaf e);
  stands = λ t zs fits f vf af. record {
    value = λ t' a w g v q gives.
        let qu : Reads t' u a w g = l.added.extended.grown.reads t' a w g q in
        let qs : Reads t' s a w g = p.added.extended.grown.reads t' a w g qu in
        l.value t' a w g q
        ∙ ap Bit (p.value a w ∙ expr-bit t zs s frame slots fits f h all t' a w g v qs gives is.store e scope (sym (fit-leaf zs e) ∙ vf))
        ∙ sym (value-leaf a v e);
    sort = l.placed.sort ∙ ap Some (sym (sort-leaf e));
    fits = l.placed.fits t (subst (λ (o : Terms). IsSorted t o.sorts o.cells) (sym p.heap) fits);
  };
}

-- an element more in front
pub cons-bus : (s u v z : Seen) (frame : List ℕ) (e : Expr) (es : List Expr) (tail : Option ℕ) (head at : Ref) (r : ℕ) → IsTreeOf s u frame (tree.Bus es tail) at.0 → IsTreeOf u v frame (tree.Leaf e) head.0 → IsPut v z (shown.BusCons head at) r →
    IsTreeOf s z frame (tree.Bus (e ∷ es) tail) r
cons-bus s u v z frame e es tail head at r b l p = record {
  added =
      let uv = added-then s u v (bit_places (tree.Bus es tail)) (bit_places (tree.Leaf e)) (bit_places (tree.Bus (e ∷ es) tail)) (let i = bits-bus es tail in let j = bits-leaf e in let k = bits-bus (e ∷ es) tail in omega (arith, i, j, k)) b.added l.added in
      added-then s v z (bit_places (tree.Bus (e ∷ es) tail)) 0 (bit_places (tree.Bus (e ∷ es) tail)) (omega arith) uv p.added;
  there = slice_get_within z.heap.cells r _ p.cell;
  compound = no-compound z (tree.Bus (e ∷ es) tail) r (count-bus (e ∷ es) tail);
  stands = λ t zs fits f vf af.
      let parts = and_parts (list_all (are_boolean zs) (e ∷ es)) (list_all (variable_has zs sort.Bus) (option_to_list tail)) (sym (fit-bus zs (e ∷ es) tail) ∙ vf) in
      let heads = and_parts (are_boolean zs e) (list_all (are_boolean zs) es) parts.0 in
      let hb = b.stands t zs fits f (fit-bus zs es tail ∙ ap (λ x. x && list_all (variable_has zs sort.Bus) (option_to_list tail)) heads.1 ∙ parts.1) (args-bus t es tail) in
      let hl = l.stands t zs hb.fits (frame-later s u zs frame b.added.extended.grown f) (fit-leaf zs e ∙ heads.0) (args-leaf t e) in
      record {
        value = λ t' a w g x q gives.
            let qv : Reads t' v a w g = p.added.extended.grown.reads t' a w g q in
            let qu : Reads t' u a w g = l.added.extended.grown.reads t' a w g qv in
            cons-value (slot_bits (view_of z.store) a w) g r head at (expr_value a x.bits e) (map (expr_value a x.bits) es ++ tail_of x tail) (q.reading.holds r (cell.BusCons head at) p.cell)
            (hl.value t' a w g x qv gives ∙ value-leaf a x e) (hb.value t' a w g x qu gives ∙ value-bus a x es tail)
            ∙ sym (value-bus a x (e ∷ es) tail);
        sort = p.sort ∙ ap Some (sym (sort-bus (e ∷ es) tail));
        fits = p.fits t hl.fits (
          p.sort,
          sort-later v z head.0 sort.Bool p.added.extended.grown (hl.sort ∙ ap Some (sort-leaf e)),
          sort-later v z at.0 sort.Bus p.added.extended.grown (sort-later u v at.0 sort.Bus l.added.extended.grown (hb.sort ∙ ap Some (sort-bus es tail))),
        );
      };
}

-- where the element is one of a list
pub cons-at : (s u v z : Seen) (frame : List ℕ) (es : List Expr) (tail : Option ℕ) (k : ℕ) (x : Expr) (head at : Ref) (r : ℕ) → x ≡ get_or es (k - 1) x → k ≤ length es → 0 < k → IsTreeOf s u frame (tree.Bus (drop k es) tail) at.0 →
    IsTreeOf u v frame (tree.Leaf x) head.0 → IsPut v z (shown.BusCons head at) r → IsTreeOf s z frame (tree.Bus (drop (k - 1) es) tail) r
cons-at s u v z frame es tail k x head at r is within some b l p =
    let e : k ≡ k - 1 + 1 = omega arith in
    let less : k - 1 < length es = omega arith in
    subst (λ (xs : List Expr). IsTreeOf s z frame (tree.Bus xs tail) r) (sym (drop-step es (k - 1) x less ∙ ap (λ (y : Expr). y ∷ drop (k - 1 + 1) es) (sym is)))
    (cons-bus s u v z frame x (drop (k - 1 + 1) es) tail head at r (subst (λ m. IsTreeOf s u frame (tree.Bus (drop m es) tail) at.0) e b) l p)

pub take-past : {A : Type 0} (xs : List A) (n : ℕ) → length xs ≤ n → take n xs ≡ xs
take-past [] zero l = refl
take-past [] (suc n) l = refl
take-past (x ∷ xs) zero l = absurd (omega arith)
take-past (x ∷ xs) (suc n) l = ap (λ ys. x ∷ ys) (take-past xs n (omega arith))

pub node-scope : (c v : ℕ) (x : Tree) (n : ℕ) (xs ys : List Tree) → x ≡ tree.Node n xs → ys ≡ xs → tree_in_scope c v x ≡ true → all_of (map (tree_in_scope c v) ys) ≡ true
node-scope c v x n xs ys is same h = ap (λ (l : List Tree). all_of (map (tree_in_scope c v) l)) same ∙ sym (scope-node c v n xs) ∙ sym (ap (tree_in_scope c v) is) ∙ h

pub int-at : (s u : Seen) (frame : List ℕ) (z : ℤ) (r : ℕ) → IsPut s u (shown.Int z) r → (x : Tree) (v : ℤ) → x ≡ tree.Int v → z ≡ v → FitsSigned w64 v → IsTreeOf s u frame x r
int-at s u frame z r p x v is e small =
    subst (λ (y : Tree). IsTreeOf s u frame y r) (ap tree.Int e ∙ sym is) (int-term s u frame z r (subst (λ y. FitsSigned w64 y) (sym e) small) p)

-- ---- arguments

tree-later : (t : Sorts) (zs : List Sort) (s u : Seen) (frame : List ℕ) (x : Tree) (r : ℕ) → IsGrown s u → FitsTable t u → HasTree t zs s frame x r → HasTree t zs u frame x r
tree-later t zs s u frame x r g fits h = record {
  value = λ t' a w k v q gives. h.value t' a w k v (g.reads t' a w k q) gives;
  sort = sort-later s u r (tree_sort x) g h.sort;
  fits = fits;
}

trees-later : (t : Sorts) (zs : List Sort) (s u : Seen) (frame : List ℕ) (xs : List Tree) (rs : List Ref) → IsGrown s u → FitsTable t u → HaveTrees t zs s frame xs rs → HaveTrees t zs u frame xs rs
trees-later t zs s u frame [] [] g fits h = tt
trees-later t zs s u frame (x ∷ xs) (r ∷ rs) g fits h = (tree-later t zs s u frame x r.0 g fits h.0, trees-later t zs s u frame xs rs g fits h.1)
trees-later t zs s u frame [] (r ∷ rs) g fits h = absurd h
trees-later t zs s u frame (x ∷ xs) [] g fits h = absurd h

trees-last : (t : Sorts) (zs : List Sort) (s : Seen) (frame : List ℕ) (xs : List Tree) (rs : List Ref) (x : Tree) (r : Ref) → HaveTrees t zs s frame xs rs → HasTree t zs s frame x r.0 → HaveTrees t zs s frame (xs ++ x ∷ []) (rs ++ r ∷ [])
trees-last t zs s frame [] [] x r h k = (k, tt)
trees-last t zs s frame (y ∷ xs) (q ∷ rs) x r h k = (h.0, trees-last t zs s frame xs rs x r h.1 k)
trees-last t zs s frame [] (q ∷ rs) x r h k = absurd h
trees-last t zs s frame (y ∷ xs) [] x r h k = absurd h

all-front : (f : Tree → Bool) (xs : List Tree) (x : Tree) → all_of (map f (xs ++ x ∷ [])) ≡ true → (all_of (map f xs) ≡ true) × (f x ≡ true)
all-front f [] x h = (refl, (and_parts (f x) true h).0)
all-front f (y ∷ xs) x h =
    let p = and_parts (f y) (all_of (map f (xs ++ x ∷ []))) h in
    let q = all-front f xs x p.1 in
    (ap (λ b. b && all_of (map f xs)) p.0 ∙ q.0, q.1)

each-last : (m : ℕ) (xs : List Ref) (x : Ref) → Each (λ r. r.0 < m) xs → x.0 < m → Each (λ r. r.0 < m) (xs ++ x ∷ [])
each-last m [] x h l = (l, tt)
each-last m (y ∷ xs) x h l = (h.0, each-last m xs x h.1 l)

-- what stands in a cell stays there
compound-later : (s u : Seen) (n : ℕ) (x : Tree) (r : ℕ) → IsAdded s u n → HasCompound s x r → HasCompound u x r
compound-later s u n x r p h name xs e =
    let at = h name xs e in
    record {
      cell = ap (λ l. slice_get l r) p.cells.1 ∙ get-left s.heap.cells p.cells.0 r (cell.Node name (length xs)) at.cell;
      behind = let a = at.behind in let m = more-cells s u n p in omega (arith, a, m);
    }

compounds-later : (s u : Seen) (n : ℕ) (xs : List Tree) (rs : List Ref) → IsAdded s u n → HaveCompounds s xs rs → HaveCompounds u xs rs
compounds-later s u n [] [] p h = tt
compounds-later s u n (x ∷ xs) (r ∷ rs) p h = (compound-later s u n x r.0 p h.0, compounds-later s u n xs rs p h.1)
compounds-later s u n [] (r ∷ rs) p h = absurd h
compounds-later s u n (x ∷ xs) [] p h = absurd h

compounds-last : (s : Seen) (xs : List Tree) (rs : List Ref) (x : Tree) (r : Ref) → HaveCompounds s xs rs → HasCompound s x r.0 → HaveCompounds s (xs ++ x ∷ []) (rs ++ r ∷ [])
compounds-last s [] [] x r h k = (k, tt)
compounds-last s (y ∷ xs) (q ∷ rs) x r h k = (h.0, compounds-last s xs rs x r h.1 k)
compounds-last s [] (q ∷ rs) x r h k = absurd h
compounds-last s (y ∷ xs) [] x r h k = absurd h

compounds-front : (s : Seen) (xs ys : List Tree) (rs qs : List Ref) → length rs ≡ length xs → HaveCompounds s (xs ++ ys) (rs ++ qs) → HaveCompounds s xs rs
compounds-front s [] ys [] qs n h = tt
compounds-front s (x ∷ xs) ys (r ∷ rs) qs n h = (h.0, compounds-front s xs ys rs qs (omega (arith, n)) h.1)
compounds-front s [] ys (r ∷ rs) qs n h = absurd (omega (arith, n))
compounds-front s (x ∷ xs) ys [] qs n h = absurd (omega (arith, n))

trees-split : (t : Sorts) (zs : List Sort) (s : Seen) (frame : List ℕ) (xs ys : List Tree) (rs qs : List Ref) → length rs ≡ length xs → HaveTrees t zs s frame (xs ++ ys) (rs ++ qs) → HaveTrees t zs s frame xs rs × HaveTrees t zs s frame ys qs
trees-split t zs s frame [] ys [] qs n h = (tt, h)
trees-split t zs s frame (x ∷ xs) ys (r ∷ rs) qs n h = let k = trees-split t zs s frame xs ys rs qs (omega (arith, n)) h.1 in ((h.0, k.0), k.1)
trees-split t zs s frame [] ys (r ∷ rs) qs n h = absurd (omega (arith, n))
trees-split t zs s frame (x ∷ xs) ys [] qs n h = absurd (omega (arith, n))

all-both : (f : Tree → Bool) (xs ys : List Tree) → all_of (map f xs) ≡ true → all_of (map f ys) ≡ true → all_of (map f (xs ++ ys)) ≡ true
all-both f [] ys h k = k
all-both f (x ∷ xs) ys h k =
    let p = and_parts (f x) (all_of (map f xs)) h in
    ap (λ b. b && all_of (map f (xs ++ ys))) p.0 ∙ all-both f xs ys p.1 k

each-front : (m : ℕ) (xs ys : List Ref) → Each (λ r. r.0 < m) (xs ++ ys) → Each (λ r. r.0 < m) xs
each-front m [] ys h = tt
each-front m (x ∷ xs) ys h = (h.0, each-front m xs ys h.1)

pub no-trees : (s : Seen) (frame : List ℕ) → IsState s → AreTreesOf s s frame [] []
no-trees s frame is = record { added = added-none s is; there = tt; number = refl; compounds = tt; stand = λ t zs fits f vf af. (fits, tt) }

pub one-more : (s u v : Seen) (frame : List ℕ) (xs : List Tree) (rs : List Ref) (x : Tree) (r : Ref) → AreTreesOf s u frame xs rs → IsTreeOf u v frame x r.0 → AreTreesOf s v frame (xs ++ x ∷ []) (rs ++ r ∷ [])
one-more s u v frame xs rs x r m p = record {
  added = added-then s u v (sum_by bit_places xs) (bit_places x) (sum_by bit_places (xs ++ x ∷ [])) (let e = sum_by_push bit_places xs x in omega (arith, e)) m.added p.added;
  there = each-last (length v.heap.cells) rs r (there-more (length u.heap.cells) (length v.heap.cells) rs (more-cells u v (bit_places x) p.added) m.there) p.there;
  number = length-append rs (r ∷ []) ∙ (let n = m.number in let e : length rs + 1 ≡ length xs + 1 = omega (arith, n) in e) ∙ sym (length-append xs (x ∷ []));
  compounds = compounds-last v xs rs x r (compounds-later u v (bit_places x) xs rs p.added m.compounds) p.compound;
  stand = λ t zs fits f vf af.
      let i = all-front (variables_fit zs) xs x vf in
      let j = all-front (arguments_fit t) xs x af in
      let k = m.stand t zs fits f i.0 j.0 in
      let l = p.stands t zs k.0 (frame-later s u zs frame m.added.extended.grown f) i.1 j.1 in
      (l.fits, trees-last t zs v frame xs rs x r (trees-later t zs u v frame xs rs p.added.extended.grown l.fits k.1) l);
}

-- a single tree
pub one-tree : (s u : Seen) (frame : List ℕ) (x : Tree) (r : Ref) → AreTreesOf s u frame (x ∷ []) (r ∷ []) → IsTreeOf s u frame x r.0
one-tree s u frame x r m = record {
  added = added-then s u u (sum_by bit_places (x ∷ [])) 0 (bit_places x) (omega arith) m.added (added-none u m.added.state);
  there = m.there.0;
  compound = m.compounds.0;
  stands = λ t zs fits f vf af. (m.stand t zs fits f (ap (λ b. b && true) vf) (ap (λ b. b && true) af)).1.0;
}

-- the values and the sorts of the cells are those of their trees
trees-values : (t : Sorts) (zs : List Sort) (s : Seen) (frame : List ℕ) (xs : List Tree) (rs : List Ref) → HaveTrees t zs s frame xs rs → (t' : Sorts) (a w : Bits) (g : Reading) (v : Valuation) → Reads t' s a w g → FrameGives zs frame g v →
    map (λ (q : Ref). g q.0) rs ≡ map (tree_value a v) xs
trees-values t zs s frame [] [] h t' a w g v q gives = refl
trees-values t zs s frame (x ∷ xs) (r ∷ rs) h t' a w g v q gives =
    ap (λ y. y ∷ map (λ (i : Ref). g i.0) rs) (h.0.value t' a w g v q gives) ∙ ap (λ ys. tree_value a v x ∷ ys) (trees-values t zs s frame xs rs h.1 t' a w g v q gives)
trees-values t zs s frame [] (r ∷ rs) h t' a w g v q gives = absurd h
trees-values t zs s frame (x ∷ xs) [] h t' a w g v q gives = absurd h

trees-sorts : (t : Sorts) (zs : List Sort) (s : Seen) (frame : List ℕ) (xs : List Tree) (rs : List Ref) → HaveTrees t zs s frame xs rs → map (λ (q : Ref). get_or s.heap.sorts q.0 sort.Bool) rs ≡ map tree_sort xs
trees-sorts t zs s frame [] [] h = refl
trees-sorts t zs s frame (x ∷ xs) (r ∷ rs) h =
    ap (λ y. y ∷ map (λ (q : Ref). get_or s.heap.sorts q.0 sort.Bool) rs) (get_or_from_slice_get s.heap.sorts r.0 (tree_sort x) sort.Bool h.0.sort) ∙ ap (λ ys. tree_sort x ∷ ys) (trees-sorts t zs s frame xs rs h.1)
trees-sorts t zs s frame [] (r ∷ rs) h = absurd h
trees-sorts t zs s frame (x ∷ xs) [] h = absurd h

-- the cell of a compound has its value and its sort
node-tree : (t : Sorts) (zs : List Sort) (u v : Seen) (frame : List ℕ) (name : ℕ) (xs : List Tree) (rs : List Ref) (r : ℕ) → FitsTable t u → HaveTrees t zs u frame xs rs → same_sorts (get_or t name []) (map tree_sort xs) ≡ true →
    IsCompoundOf u v name rs r → HasTree t zs v frame (tree.Node name xs) r
node-tree t zs u v frame name xs rs r fits h same p = record {
  value = λ t' a w g x q gives.
      let qu : Reads t' u a w g = p.added.extended.grown.reads t' a w g q in
      p.value t' a w g q ∙ ap (λ ys. Name name (grounds ys)) (trees-values t zs u frame xs rs h t' a w g x qu gives) ∙ sym (value-node a x name xs);
  sort = p.sort ∙ ap Some (sym (sort-node name xs));
  fits = p.fits t fits (trees-sorts t zs u frame xs rs h ∙ sym (are-sorts (get_or t name []) (map tree_sort xs) same));
}

-- the last trees become the arguments of a compound
closed : (s u v : Seen) (frame : List ℕ) (name : ℕ) (ys xs : List Tree) (qs rs : List Ref) (r : Ref) → length qs ≡ length ys → AreTreesOf s u frame (ys ++ xs) (qs ++ rs) → IsCompoundOf u v name rs r.0 →
    AreTreesOf s v frame (ys ++ tree.Node name xs ∷ []) (qs ++ r ∷ [])
closed s u v frame name ys xs qs rs r n m p = record {
  added = added-then s u v (sum_by bit_places (ys ++ xs)) 0 (sum_by bit_places (ys ++ tree.Node name xs ∷ []))
      (let e = bits-node name xs in let i = sum_by-append bit_places ys xs in let j = sum_by_push bit_places ys (tree.Node name xs) in omega (arith, e, i, j)) m.added p.added;
  there = each-last (length v.heap.cells) qs r (there-more (length u.heap.cells) (length v.heap.cells) qs (more-cells u v 0 p.added) (each-front (length u.heap.cells) qs rs m.there)) (let b = p.at.behind in omega arith);
  number = length-append qs (r ∷ []) ∙ (let e : length qs + 1 ≡ length ys + 1 = omega (arith, n) in e) ∙ sym (length-append ys (tree.Node name xs ∷ []));
  compounds = compounds-last v ys qs (tree.Node name xs) r (compounds-later u v 0 ys qs p.added (compounds-front u ys xs qs rs n m.compounds)) (λ k zs e.
      let same : name ≡ k = sym (name-node name xs) ∙ ap name_in e ∙ name-node k zs in
      let count : suc (length xs) ≡ suc (length zs) = sym (count-node name xs) ∙ ap count_in e ∙ count-node k zs in
      let number : length rs ≡ length zs = (let i = m.number in let a = length-append qs rs in let b = length-append ys xs in omega (arith, i, a, b, n, count)) in
      subst (λ i. IsCompoundAt v k i r.0) number (subst (λ i. IsCompoundAt v i (length rs) r.0) same p.at));
  stand = λ t zs fits f vf af.
      let i = all-front (variables_fit zs) ys (tree.Node name xs) vf in
      let j = all-front (arguments_fit t) ys (tree.Node name xs) af in
      let parts = and_parts (same_sorts (get_or t name []) (map tree_sort xs)) (all_of (map (arguments_fit t) xs)) (sym (args-node t name xs) ∙ j.1) in
      let k = m.stand t zs fits f (all-both (variables_fit zs) ys xs i.0 (sym (fit-node zs name xs) ∙ i.1)) (all-both (arguments_fit t) ys xs j.0 parts.1) in
      let both = trees-split t zs u frame ys xs qs rs n k.1 in
      let l = node-tree t zs u v frame name xs rs r.0 k.0 both.1 parts.0 p in
      (l.fits, trees-last t zs v frame ys qs (tree.Node name xs) r (trees-later t zs u v frame ys qs p.added.extended.grown l.fits both.0) l);
}

-- those from a place on
pub closed-at : (s u v : Seen) (frame : List ℕ) (name start : ℕ) (xs : List Tree) (rs : List Ref) (r : Ref) → start ≤ length rs → AreTreesOf s u frame xs rs → IsCompoundOf u v name (drop start rs) r.0 →
    AreTreesOf s v frame (take start xs ++ tree.Node name (drop start xs) ∷ []) (take start rs ++ r ∷ [])
closed-at s u v frame name start xs rs r l m p =
    let n : length (take start rs) ≡ length (take start xs) = (let i = m.number in length-take-le start rs l ∙ sym (length-take-le start xs (omega (arith, i, l)))) in
    closed s u v frame name (take start xs) (drop start xs) (take start rs) (drop start rs) r n
    (subst (λ (ys : List Tree). AreTreesOf s u frame ys (take start rs ++ drop start rs)) (sym (take-append-drop start xs))
    (subst (λ (qs : List Ref). AreTreesOf s u frame xs qs) (sym (take-append-drop start rs)) m)) p

-- ---- the whole

pub is-written : (s u : Seen) (frame : List ℕ) (x : Tree) (r : ℕ) → IsTreeOf s u frame x r → IsWritten s u frame x r
is-written s u frame x r p t zs z fits f fit =
    let i = and_parts (same_sort z (tree_sort x)) (variables_fit zs x && arguments_fit t x) fit in
    let j = and_parts (variables_fit zs x) (arguments_fit t x) i.1 in
    (p.stands t zs fits f j.0 j.1, sym (is-sort z (tree_sort x) i.0))
