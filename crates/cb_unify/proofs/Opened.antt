-- New variables.
use Rattle.std.proofs.Common.{◌≡◌, ◌≢◌, ◌⊎◌, inl, inr, ℕ, zero, suc, ◌+◌, ◌<◌, ◌≤◌, Bool, List, [], ◌∷◌, ◌++◌, length, Some, if◌then◌else◌, refl, sym, ap, subst, ◌∙◌, arith, length-append, append-nil, append_assoc}
use Rattle.std.specs.Prelude.{slice_get, ◌==◌}
use Rattle.std.proofs.lemmas.Bool.{eq-eqb, ne_eqb}
use Rattle.std.proofs.lemmas.List.Sums.{sum_by-append}
use Rattle.std.proofs.lemmas.Option.{slice_get_within}
use Rattle.cb_model.specs.declared.Sort.{Sort}
use Rattle.cb_model.specs.declared.Sort.TheVariants as sort
use Rattle.cb_model.specs.Bits.{Bits, put}
use Rattle.cb_model.specs.Program.{bools}
use Rattle.cb_model.specs.Values.{Ground, Bit, Word, Int, Name, Sorts, Fits}
use Rattle.cb_boole.specs.View.{InRange}
use Rattle.cb_elim.specs.declared.Free.{Free}
use Rattle.cb_dd.specs.declared.Node.{Node}
use Rattle.cb_elim.specs.Store.{Seen as Booleans, AddsSlot, HasSameRange, IsNewVariable, IsStore, slot_bits, view_of}
use Rattle.cb_heap.specs.declared.Cell.{Cell}
use Rattle.cb_heap.specs.declared.Cell.TheVariants as shown
use Rattle.cb_heap.specs.declared.Stored.{Stored}
use Rattle.cb_heap.specs.declared.Stored.TheVariants as cell
use Rattle.cb_heap.specs.Heap.{Terms, stored_as, with_cell}
use Rattle.cb_heap.specs.Reading.{Reading, CellHolds}
use Rattle.cb_heap.specs.Finite.{CellSorted, HaveSorts, IsSorted}
use Rattle.cb_heap.proofs.Adding.{get-behind, get-front}
use Rattle.cb_heap.proofs.Steps.{some-inj, no_some}
use Rattle.cb_join.specs.Joins.{Rising}
use Rattle.cb_unify.specs.State.{Seen, IsState, Reads}
use Rattle.cb_unify.specs.Growth.{AreMade, IsGrown, IsOpened, IsUnknown}
use Rattle.cb_unify.proofs.Cells.{holds-same, rise-append, rise-below}

-- ---- lists

pub get-left : {A : Type 0} (xs ys : List A) (k : ℕ) (x : A) → slice_get xs k ≡ Some x → slice_get (xs ++ ys) k ≡ Some x
get-left xs ys k x e = get-front xs ys k (slice_get_within xs k x e) ∙ e

-- where an element of two lists stands
pub where-is : {A : Type 0} (xs ys : List A) (k : ℕ) (y : A) → slice_get (xs ++ ys) k ≡ Some y →
    ((k < length xs) × (slice_get xs k ≡ Some y)) ⊎ ((j : ℕ) × (k ≡ length xs + j) × (slice_get ys j ≡ Some y))
where-is [] ys k y e = inr (k, omega arith, e)
where-is (x ∷ xs) ys zero y e = inl (omega arith, e)
where-is (x ∷ xs) ys (suc k) y e = elim (where-is xs ys k y e) [
  | inl h ↦ inl (let l = h.0 in omega arith, h.1)
  | inr h ↦ inr (h.0, (let l = h.1 in omega arith), h.2)
]

pub last-of : {A : Type 0} (xs : List A) (y : A) (r : ℕ) (d : A) → slice_get (xs ++ y ∷ []) r ≡ Some d → ((r < length xs) × (slice_get xs r ≡ Some d)) ⊎ ((r ≡ length xs) × (y ≡ d))
last-of [] y zero d e = inr (refl, some-inj y d e)
last-of [] y (suc r) d e = absurd (no_some _ d refl e)
last-of (q ∷ xs) y zero d e = inl (omega arith, e)
last-of (q ∷ xs) y (suc r) d e = elim (last-of xs y r d e) [
  | inl h ↦ inl (let l = h.0 in omega arith, h.1)
  | inr h ↦ inr (ap suc h.0, h.1)
]

-- ---- growth

pub grown-same : (s : Seen) → IsGrown s s
grown-same s = record { reads = λ t a w g h. h; made = ([], sym (append-nil s.made)); sorts = ([], sym (append-nil s.heap.sorts)) }

pub grown-then : (s u v : Seen) → IsGrown s u → IsGrown u v → IsGrown s v
grown-then s u v p q = record {
  reads = λ t a w g h. p.reads t a w g (q.reads t a w g h);
  made = (p.made.0 ++ q.made.0, q.made.1 ∙ ap (λ xs. xs ++ q.made.0) p.made.1 ∙ append_assoc s.made p.made.0 q.made.0);
  sorts = (p.sorts.0 ++ q.sorts.0, q.sorts.1 ∙ ap (λ xs. xs ++ q.sorts.0) p.sorts.1 ∙ append_assoc s.heap.sorts p.sorts.0 q.sorts.0);
}

pub more-sorts : (s u : Seen) → IsGrown s u → length s.heap.sorts ≤ length u.heap.sorts
more-sorts s u p = let l = ap (λ (xs : List Sort). length xs) p.sorts.1 ∙ length-append s.heap.sorts p.sorts.0 in omega arith

-- ---- what the store has for a new cell

bool-bit : (t : Sorts) (v : Ground) → Fits t sort.Bool v → (q : Bool) × (v ≡ Bit q)
bool-bit t (Bit q) h = (q, refl)
bool-bit t (Word q) h = absurd h
bool-bit t (Int q) h = absurd h
bool-bit t (Name n q) h = absurd h

other-bits : (x : ℕ) (w : Bits) (q : Bool) (y : ℕ) → y ≢ x → w y ≡ put x q w y
other-bits x w q y ne = sym (ap (λ b. if b then q else w y) (ne_eqb y x ne))

own-bit : (x : ℕ) (w : Bits) (q : Bool) → put x q w x ≡ q
own-bit x w q = ap (λ b. if b then q else w x) (eq-eqb x x refl)

pub leaf-rises : (n : ℕ) (k : ℕ) (cs : List Stored) → Rising n k cs → Rising (n + 1) k (cs ++ cell.Leaf n ∷ [])
leaf-rises n k cs h = rise-append n (n + 1) k cs (cell.Leaf n ∷ []) h (omega arith, omega arith) (λ j less. (less, omega arith))

module _ (old new : Booleans) (st : IsStore old) (x : ℕ) (v : IsNewVariable old new x) (range : HasSameRange (view_of old) (view_of new))
    (adds : AddsSlot (view_of old) (view_of new) (length old.slots) (λ a w. w (length old.slots))) where
  -- the range doesn't look at what is no variable
  range-other : (a w w' : Bits) → ((y : ℕ) → y ≢ length old.slots → w y ≡ w' y) → InRange (view_of old) a w → InRange (view_of old) a w'
  unfolding view_of
  range-other a w w' same r = record {
    at = r.at;
    agrees = r.agrees;
    gives = λ y h. r.gives y h ∙ same y (λ e. let l = st.slots y h in omega arith);
  }

  count-slots : length new.slots ≡ length old.slots + 1
  count-slots = ap (λ (ns : List Node). length ns) v.slots ∙ length-append old.slots (v.node ∷ [])

  pub unknown-bool : IsUnknown old new sort.Bool (shown.Leaf x)
  unknown-bool = record {
    addable = λ n. tt;
    sort = refl;
    sorted = λ t ss r e. e;
    rise = λ k cs h.
        let n : length old.slots + 1 ≡ length new.slots = sym count-slots in
        subst (λ m. Rising m k (cs ++ cell.Leaf x ∷ [])) n (subst (λ y. Rising (length old.slots + 1) k (cs ++ cell.Leaf y ∷ [])) (sym v.next) (leaf-rises (length old.slots) k cs h));
    lose = λ a w h. ((range a w).1 h, λ y less. adds.stays a w w (λ z ne. refl) y less);
    gain = λ t a w h q fit.
        let b = bool-bit t q fit in (
          put (length old.slots) b.0 w,
          (range a (put (length old.slots) b.0 w)).0 (range-other a w (put (length old.slots) b.0 w) (other-bits (length old.slots) w b.0) h),
          λ y less. adds.stays a w (put (length old.slots) b.0 w) (other-bits (length old.slots) w b.0) y less,
          λ g r e. e ∙ b.1 ∙ ap Bit (sym (ap (slot_bits (view_of new) a (put (length old.slots) b.0 w)) v.next ∙ adds.added a (put (length old.slots) b.0 w) ∙ own-bit (length old.slots) w b.0)),
        );
    constants = v.constants;
    budget = v.nodes.budget;
    drawn = v.drawn;
    free = ap (λ (fs : List Free). length fs) v.free ∙ length-append old.free _;
    slots = count-slots;
  }

pub none-rises : (n k : ℕ) (c : Stored) (cs : List Stored) → ((j : ℕ) → j ≤ n → Rising n j (c ∷ [])) → Rising n k cs → Rising n k (cs ++ c ∷ [])
none-rises n k c cs low h = rise-append n n k cs (c ∷ []) h (low n (omega arith)) low

pub unknown-bus : (s : Booleans) → IsUnknown s s sort.Bus shown.BusVar
unknown-bus s = record {
  addable = λ n. tt;
  sort = refl;
  sorted = λ t ss r e. e;
  rise = λ k cs h. none-rises (length s.slots) k cell.BusVar cs (λ j less. less) h;
  lose = λ a w h. (h, λ y less. refl);
  gain = λ t a w h q fit. (w, h, λ y less. refl, λ g r e. tt);
  constants = refl;
  budget = refl;
  drawn = omega arith;
  free = omega arith;
  slots = omega arith;
}

pub unknown-term : (s : Booleans) → IsUnknown s s sort.Term shown.TermVar
unknown-term s = record {
  addable = λ n. tt;
  sort = refl;
  sorted = λ t ss r e. e;
  rise = λ k cs h. none-rises (length s.slots) k cell.TermVar cs (λ j less. less) h;
  lose = λ a w h. (h, λ y less. refl);
  gain = λ t a w h q fit. (w, h, λ y less. refl, λ g r e. tt);
  constants = refl;
  budget = refl;
  drawn = omega arith;
  free = omega arith;
  slots = omega arith;
}

-- ---- a variable more

-- another value at one cell
abbrev put_at : ℕ → Ground → Reading → Reading
put_at n x g r = if r == n then x else g r

put-here : (n : ℕ) (x : Ground) (g : Reading) → put_at n x g n ≡ x
put-here n x g = ap (λ q. if q then x else g n) (eq-eqb n n refl)

put-there : (n : ℕ) (x : Ground) (g : Reading) (r : ℕ) → r ≢ n → put_at n x g r ≡ g r
put-there n x g r ne = ap (λ q. if q then x else g r) (ne_eqb r n ne)

-- the terms of a state fit the table where a cell is added whose parts are sorted
pub sorted-more : (t : Sorts) (ss : List Sort) (cs : List Stored) (z : Sort) (c : Stored) → IsSorted t ss cs → CellSorted t (ss ++ z ∷ []) (length cs) c →
    ((r : ℕ) (d : Stored) → CellSorted t ss r d → CellSorted t (ss ++ z ∷ []) r d) → IsSorted t (ss ++ z ∷ []) (cs ++ c ∷ [])
sorted-more t ss cs z c o new old = record {
  number = length-append ss (z ∷ []) ∙ ap (λ n. n + 1) o.number ∙ sym (length-append cs (c ∷ []));
  cells = λ r d e. elim (last-of cs c r d e) [
    | inl h ↦ old r d (o.cells r d h.1)
    | inr h ↦ subst (λ q. CellSorted t (ss ++ z ∷ []) q d) (sym h.0) (subst (λ (q : Stored). CellSorted t (ss ++ z ∷ []) (length cs) q) h.1 new)
  ];
}

have-more : (ss more : List Sort) (r k : ℕ) (ts : List Sort) → HaveSorts ss r k ts → HaveSorts (ss ++ more) r k ts
have-more ss more r zero [] h = tt
have-more ss more r (suc k) (s ∷ ts) h = (get-left ss more r s h.0, have-more ss more (suc r) k ts h.1)
have-more ss more r zero (s ∷ ts) h = absurd h
have-more ss more r (suc k) [] h = absurd h

pub cell-sorted-more : (t : Sorts) (ss more : List Sort) (r : ℕ) (d : Stored) → CellSorted t ss r d → CellSorted t (ss ++ more) r d
cell-sorted-more t ss more r (cell.Leaf x) h = get-left ss more r _ h
cell-sorted-more t ss more r cell.BusVar h = get-left ss more r _ h
cell-sorted-more t ss more r cell.BusNil h = get-left ss more r _ h
cell-sorted-more t ss more r (cell.BusCons x y) h = (get-left ss more r _ h.0, get-left ss more x.0 _ h.1, get-left ss more y.0 _ h.2)
cell-sorted-more t ss more r cell.TermVar h = get-left ss more r _ h
cell-sorted-more t ss more r (cell.Int z) h = (get-left ss more r _ h.0, h.1)
cell-sorted-more t ss more r (cell.Node n k) h = (get-left ss more r _ h.0, have-more ss more (suc r) k _ h.1)
cell-sorted-more t ss more r (cell.Bound to) h = (h.0, get-left ss more r _ h.1, get-left ss more to.0 _ h.2)
cell-sorted-more t ss more r (cell.Same to) h = (h.0, get-left ss more r _ h.1, get-left ss more to.0 _ h.2)

module _ (s s' : Seen) (z : Sort) (c : Cell) (is : IsState s) (u : IsUnknown s.store s'.store z c) (heap : s'.heap ≡ with_cell s.heap c) (made : s'.made ≡ s.made ++ length s.heap.cells ∷ []) where
  abbrev at : ℕ
  at = length s.heap.cells

  number : length s.heap.sorts ≡ length s.heap.cells
  number = is.heap.number

  cells-are : s'.heap.cells ≡ s.heap.cells ++ stored_as c ∷ []
  cells-are = ap (λ (h : Terms). h.cells) heap

  sorts-are : s'.heap.sorts ≡ s.heap.sorts ++ z ∷ []
  sorts-are = ap (λ (h : Terms). h.sorts) heap ∙ ap (λ (y : Sort). s.heap.sorts ++ y ∷ []) u.sort

  slot-there : (r y : ℕ) → slice_get s.heap.cells r ≡ Some (cell.Leaf y) → y < length s.store.slots
  slot-there r y e = rise-below (length s.store.slots) 0 s.heap.cells is.rise r y e

  cell-left : (r : ℕ) (d : Stored) → slice_get s.heap.cells r ≡ Some d → slice_get s'.heap.cells r ≡ Some d
  cell-left r d e = ap (λ (l : List Stored). slice_get l r) cells-are ∙ get-left s.heap.cells (stored_as c ∷ []) r d e

  sort-left : (r : ℕ) (d : Sort) → slice_get s.heap.sorts r ≡ Some d → slice_get s'.heap.sorts r ≡ Some d
  sort-left r d e = ap (λ (l : List Sort). slice_get l r) sorts-are ∙ get-left s.heap.sorts (z ∷ []) r d e

  reads-back : (t : Sorts) (a w : Bits) (g : Reading) → Reads t s' a w g → Reads t s a w g
  reads-back t a w g h =
      let l = u.lose a w h.range in
      record {
        range = l.0;
        reading = record {
          fits = λ r d e. h.reading.fits r d (sort-left r d e);
          holds = λ r d e. holds-same (slot_bits (view_of s'.store) a w) (slot_bits (view_of s.store) a w) g g r d refl (λ j n. refl)
              (λ y same. sym (l.1 y (slot-there r y (e ∙ ap Some same)))) (h.reading.holds r d (cell-left r d e));
        };
      }

  module _ (t : Sorts) (a w : Bits) (g : Reading) (h : Reads t s a w g) (v : Ground) (fit : Fits t z v)
      (w' : Bits) (ranged : InRange (view_of s'.store) a w') (stays : (y : ℕ) → y < length s.store.slots → slot_bits (view_of s'.store) a w' y ≡ slot_bits (view_of s.store) a w y)
      (new : (k : Reading) (r : ℕ) → k r ≡ v → CellHolds (slot_bits (view_of s'.store) a w') k r (stored_as c)) where
    abbrev g' : Reading
    g' = put_at (length s.heap.cells) v g

    old-same : (r : ℕ) → r < length s.heap.cells → g' r ≡ g r
    old-same r less = put-there (length s.heap.cells) v g r (λ e. omega arith)

    fits-all : (r : ℕ) (d : Sort) → slice_get s'.heap.sorts r ≡ Some d → Fits t d (g' r)
    fits-all r d e = elim (last-of s.heap.sorts z r d (ap (λ (l : List Sort). slice_get l r) (sym sorts-are) ∙ e)) [
      | inl k ↦ subst (λ q. Fits t d q) (sym (old-same r (let l = k.0 in let n = number in omega arith))) (h.reading.fits r d k.1)
      | inr k ↦
          let same : r ≡ length s.heap.cells = k.0 ∙ number in
          subst (λ q. Fits t d (g' q)) (sym same) (subst (λ q. Fits t d q) (sym (put-here (length s.heap.cells) v g)) (subst (λ (q : Sort). Fits t q v) k.1 fit))
    ]

    holds-all : (r : ℕ) (d : Stored) → slice_get s'.heap.cells r ≡ Some d → CellHolds (slot_bits (view_of s'.store) a w') g' r d
    holds-all r d e = elim (last-of s.heap.cells (stored_as c) r d (ap (λ (l : List Stored). slice_get l r) (sym cells-are) ∙ e)) [
      | inl k ↦ holds-same (slot_bits (view_of s.store) a w) (slot_bits (view_of s'.store) a w') g g' r d (old-same r k.0)
          (λ j n. old-same j (is.heap.linked.within r j (d, k.1, n))) (λ y same. stays y (slot-there r y (k.1 ∙ ap Some same))) (h.reading.holds r d k.1)
      | inr k ↦
          let last : CellHolds (slot_bits (view_of s'.store) a w') g' (length s.heap.cells) (stored_as c) = new g' (length s.heap.cells) (put-here (length s.heap.cells) v g) in
          subst (λ q. CellHolds (slot_bits (view_of s'.store) a w') g' q d) (sym k.0) (subst (λ (q : Stored). CellHolds (slot_bits (view_of s'.store) a w') g' (length s.heap.cells) q) k.1 last)
    ]

    reads-on : Reads t s' a w' g'
    reads-on = record { range = ranged; reading = record { fits = fits-all; holds = holds-all } }

  frame-at : (k r : ℕ) → slice_get (length s.heap.cells ∷ []) k ≡ Some r → (k ≡ 0) × (r ≡ length s.heap.cells)
  frame-at zero r e = (refl, sym (some-inj (length s.heap.cells) r e))
  frame-at (suc k) r e = absurd (no_some _ r refl e)

  sort-here : slice_get s'.heap.sorts (length s.heap.cells) ≡ Some z
  sort-here =
      let n : length s.heap.sorts + 0 ≡ length s.heap.cells = (let e = number in omega arith) in
      ap (λ (l : List Sort). slice_get l (length s.heap.cells)) sorts-are ∙ ap (λ q. slice_get (s.heap.sorts ++ z ∷ []) q) (sym n) ∙ get-behind s.heap.sorts (z ∷ []) 0

  sort-of-frame : (k r : ℕ) (y : Sort) → slice_get (z ∷ []) k ≡ Some y → slice_get (length s.heap.cells ∷ []) k ≡ Some r → slice_get s'.heap.sorts r ≡ Some y
  sort-of-frame zero r y e f = ap (λ q. slice_get s'.heap.sorts q) (sym (some-inj (length s.heap.cells) r f)) ∙ sort-here ∙ e
  sort-of-frame (suc k) r y e f = absurd (no_some _ y refl e)

  pub opened-one : IsOpened s s' (z ∷ []) (length s.heap.cells ∷ [])
  opened-one = record {
    grown = record { reads = reads-back; made = (length s.heap.cells ∷ [], made); sorts = (z ∷ [], sorts-are) };
    made = made;
    number = refl;
    sorts = sort-of-frame;
    any = λ t a w g h x fit.
        let v = x 0 in
        let fv : Fits t z v = fit 0 z refl in
        let i = u.gain t a w h.range v fv in (
          i.0,
          put_at (length s.heap.cells) v g,
          reads-on t a w g h v fv i.0 i.1 i.2 i.3,
          λ r less. put-there (length s.heap.cells) v g r (λ e. let n = number in omega arith),
          λ k r e. let p = frame-at k r e in ap (put_at (length s.heap.cells) v g) p.1 ∙ put-here (length s.heap.cells) v g ∙ ap x (sym p.0),
        );
  }

  pub made-one : AreMade s s' (z ∷ []) (length s.heap.cells ∷ [])
  made-one = record {
    opened = opened-one;
    there = λ k r e. let p = frame-at k r e in slice_get_within s'.heap.sorts r z (ap (λ q. slice_get s'.heap.sorts q) p.1 ∙ sort-here);
    adds = record { constants = u.constants; budget = u.budget; drawn = u.drawn; free = u.free; slots = u.slots };
    fits = λ t o. subst (λ (l : List Sort). IsSorted t l s'.heap.cells) (sym sorts-are) (subst (λ (l : List Stored). IsSorted t (s.heap.sorts ++ z ∷ []) l) (sym cells-are)
        (sorted-more t s.heap.sorts s.heap.cells z (stored_as c) o
        (u.sorted t (s.heap.sorts ++ z ∷ []) (length s.heap.cells) (ap (λ (l : List Sort). slice_get l (length s.heap.cells)) (sym sorts-are) ∙ sort-here))
        (cell-sorted-more t s.heap.sorts (z ∷ []))));
  }

-- ---- one after the other

pub made-none : (s : Seen) → AreMade s s [] []
made-none s = record {
  opened = record {
    grown = grown-same s;
    made = sym (append-nil s.made);
    number = refl;
    sorts = λ k r z e f. absurd (no_some _ z refl e);
    any = λ t a w g h u fit. (w, g, h, λ r less. refl, λ k r e. absurd (no_some _ r refl e));
  };
  there = λ k r e. absurd (no_some _ r refl e);
  adds = record { constants = refl; budget = refl; drawn = omega arith; free = omega arith; slots = omega arith };
  fits = λ t o. o;
}

pub bools-append : (xs ys : List Sort) → bools (xs ++ ys) ≡ bools xs + bools ys
bools-append xs ys = sum_by-append _ xs ys

module _ (s u v : Seen) (zs ys : List Sort) (f h : List ℕ) (p : AreMade s u zs f) (q : AreMade u v ys h) where
  sorts-both : (k r : ℕ) (z : Sort) → slice_get (zs ++ ys) k ≡ Some z → slice_get (f ++ h) k ≡ Some r → slice_get v.heap.sorts r ≡ Some z
  sorts-both k r z e d = elim (where-is zs ys k z e) [
    | inl i ↦
        let n = p.opened.number in
        let d0 : slice_get f k ≡ Some r = sym (get-front f h k (let l = i.0 in omega arith)) ∙ d in
        ap (λ (l : List Sort). slice_get l r) q.opened.grown.sorts.1 ∙ get-left u.heap.sorts q.opened.grown.sorts.0 r z (p.opened.sorts k r z i.1 d0)
    | inr i ↦
        let n = p.opened.number in
        let same : length f + i.0 ≡ k = (let l = i.1 in omega arith) in
        q.opened.sorts i.0 r z i.2 (sym (get-behind f h i.0) ∙ ap (λ m. slice_get (f ++ h) m) same ∙ d)
  ]

  opened-then : IsOpened s v (zs ++ ys) (f ++ h)
  opened-then = record {
    grown = grown-then s u v p.opened.grown q.opened.grown;
    made = q.opened.made ∙ ap (λ xs. xs ++ h) p.opened.made ∙ append_assoc s.made f h;
    number = length-append f h ∙ (let a = p.opened.number in let b = q.opened.number in let c = length-append zs ys in omega arith);
    sorts = sorts-both;
    any = λ t a w g rd x fit.
        let i = p.opened.any t a w g rd x (λ k z e. fit k z (get-left zs ys k z e)) in
        let j = q.opened.any t a i.0 i.1 i.2 (λ k. x (length zs + k)) (λ k z e. fit (length zs + k) z (get-behind zs ys k ∙ e)) in (
          j.0,
          j.1,
          j.2,
          λ r less. j.3 r (let m = more-sorts s u p.opened.grown in omega arith) ∙ i.3 r less,
          λ k r e. elim (where-is f h k r e) [
            | inl d ↦ j.3 r (p.there k r d.1) ∙ i.4 k r d.1
            | inr d ↦ j.4 d.0 r d.2 ∙ (let n = p.opened.number in let l = d.1 in let same : length zs + d.0 ≡ k = omega arith in ap x same)
          ],
        );
  }

  pub made-then : AreMade s v (zs ++ ys) (f ++ h)
  made-then = record {
    opened = opened-then;
    there = λ k r e. elim (where-is f h k r e) [
      | inl d ↦ let l = p.there k r d.1 in let m = more-sorts u v q.opened.grown in omega arith
      | inr d ↦ q.there d.0 r d.2
    ];
    adds = record {
      constants = q.adds.constants ∙ p.adds.constants;
      budget = q.adds.budget ∙ p.adds.budget;
      drawn = let a = p.adds.drawn in let b = q.adds.drawn in let n = bools-append zs ys in omega arith;
      free = let a = p.adds.free in let b = q.adds.free in let n = bools-append zs ys in omega arith;
      slots = let a = p.adds.slots in let b = q.adds.slots in let n = bools-append zs ys in omega arith;
    };
    fits = λ t o. q.fits t (p.fits t o);
  }
