-- A heap without cycles has a value for each choice of bits and of values for its unbound variables, and one only.
use Rattle.std.proofs.Common.{◌≡◌, inl, inr, ℕ, zero, suc, ◌+◌, ◌<◌, ◌≤◌, Bool, List, [], ◌∷◌, length, map, Option, Some, None, refl, sym, ap, subst, ◌∙◌, arith}
use Rattle.std.specs.Prelude.{slice_get, get_or}
use Rattle.std.proofs.lemmas.Option.{slice_get_within, slice_get-get_or}
use Rattle.std.proofs.Math.Path.{fun_ext}
use Rattle.cb_model.specs.declared.Sort.{Sort}
use Rattle.cb_model.specs.declared.Sort.TheVariants as sort
use Rattle.cb_model.specs.Bits.{Bits, numbers_from}
use Rattle.cb_model.specs.Values.{Ground, Bit, Word, Int, Name, grounds, Sorts, Fits, FitAll}
use Rattle.cb_heap.specs.declared.Stored.{Stored}
use Rattle.cb_heap.specs.declared.Stored.TheVariants as cell
use Rattle.cb_heap.specs.Reading.{Reading, CellHolds, CellsHold, IsReading, IsUnbound}
use Rattle.cb_heap.specs.Finite.{IsFinite, ends, IsChild, Names, AllFinite, IsSorted, CellSorted, HaveSorts}
use Rattle.cb_heap.proofs.Steps.{some-inj, no_some, bit-inj, word-inj}

bit_in : Ground → Bool
bit_in (Bit x) = x
bit_in _ = Bool.false

word_in : Ground → List Bool
word_in (Word xs) = xs
word_in _ = []

-- the values of k cells from j on, of cells that r names
few : (j k : ℕ) → ((i : ℕ) → j ≤ i → i < j + k → Ground) → List Ground
few j zero f = []
few j (suc k) f = f j (omega arith) (omega arith) ∷ few (suc j) k (λ i a b. f i (omega arith) (omega arith))

-- the value of a cell from those of the cells that it names
cell_value : (w : Bits) (u : Reading) (r : ℕ) (c : Stored) → ((j : ℕ) → Names r c j → Ground) → Ground
cell_value w u r (cell.Leaf s) f = Bit (w s)
cell_value w u r cell.BusVar f = u r
cell_value w u r cell.BusNil f = Word []
cell_value w u r (cell.BusCons h l) f = Word (bit_in (f h.0 (inl refl)) ∷ word_in (f l.0 (inr refl)))
cell_value w u r cell.TermVar f = u r
cell_value w u r (cell.Int z) f = Int z
cell_value w u r (cell.Node n k) f = Name n (grounds (few (suc r) k (λ i a b. f i (omega arith, omega arith))))
cell_value w u r (cell.Bound to) f = f to.0 refl
cell_value w u r (cell.Same to) f = f to.0 refl

opt_value : (w : Bits) (u : Reading) (cs : List Stored) (r : ℕ) (o : Option Stored) → slice_get cs r ≡ o → ((j : ℕ) → IsChild cs r j → Ground) → Ground
opt_value w u cs r None e f = Bit Bool.false
opt_value w u cs r (Some c) e f = cell_value w u r c (λ j n. f j (c, e, n))

value : (w : Bits) (u : Reading) (cs : List Stored) (r : ℕ) → IsFinite cs r → Ground
value w u cs r (ends f) = opt_value w u cs r (slice_get cs r) refl (λ j n. value w u cs j (f j n))

irrelevant : (w : Bits) (u : Reading) (cs : List Stored) (r : ℕ) (p q : IsFinite cs r) → value w u cs r p ≡ value w u cs r q
unfolding value
irrelevant w u cs r (ends f) (ends h) = ap (λ (k : (j : ℕ) → IsChild cs r j → Ground). opt_value w u cs r (slice_get cs r) refl k) (fun_ext (λ j. fun_ext (λ n. irrelevant w u cs j (f j n) (h j n))))

few_map : (g : Reading) (j k : ℕ) → few j k (λ i a b. g i) ≡ map g (numbers_from j k)
unfolding few
few_map g j zero = refl
few_map g j (suc k) = ap (λ xs. g j ∷ xs) (few_map g (suc j) k)

module _ (w : Bits) (u : Reading) (cs : List Stored) (all : AllFinite cs) where
  reading : Reading
  reading r = value w u cs r (all r)

  tells-opt : (r : ℕ) (p : IsFinite cs r) → value w u cs r p ≡ opt_value w u cs r (slice_get cs r) refl (λ j n. reading j)
  unfolding value reading
  tells-opt r (ends f) = ap (λ (k : (j : ℕ) → IsChild cs r j → Ground). opt_value w u cs r (slice_get cs r) refl k) (fun_ext (λ j. fun_ext (λ n. irrelevant w u cs j (f j n) (all j))))

  opt-cell : (r : ℕ) (c : Stored) (o : Option Stored) (e : slice_get cs r ≡ o) → o ≡ Some c → opt_value w u cs r o e (λ j n. reading j) ≡ cell_value w u r c (λ j n. reading j)
  unfolding opt_value
  opt-cell r c None e h = absurd (no_some _ c refl h)
  opt-cell r c (Some d) e h = ap (λ x. cell_value w u r x (λ j n. reading j)) (some-inj d c h)

  tells : (r : ℕ) (c : Stored) → slice_get cs r ≡ Some c → reading r ≡ cell_value w u r c (λ j n. reading j)
  unfolding reading
  tells r c is = tells-opt r (all r) ∙ opt-cell r c (slice_get cs r) refl is

  unbound : (r : ℕ) (c : Stored) → slice_get cs r ≡ Some c → IsUnbound c → reading r ≡ u r
  unfolding cell_value
  unbound r cell.BusVar is h = tells r cell.BusVar is
  unbound r cell.TermVar is h = tells r cell.TermVar is
  unbound r (cell.Leaf s) is h = absurd h
  unbound r cell.BusNil is h = absurd h
  unbound r (cell.BusCons a b) is h = absurd h
  unbound r (cell.Int z) is h = absurd h
  unbound r (cell.Node n k) is h = absurd h
  unbound r (cell.Bound to) is h = absurd h
  unbound r (cell.Same to) is h = absurd h

  module _ (t : Sorts) (ss : List Sort) (sorted : IsSorted t ss cs) (good : (r : ℕ) (s : Sort) → slice_get ss r ≡ Some s → Fits t s (u r)) where
    sort-is : (r : ℕ) (s z : Sort) (x : Ground) → slice_get ss r ≡ Some s → slice_get ss r ≡ Some z → Fits t z x → Fits t s x
    sort-is r s z x a b h = subst (λ y. Fits t y x) (some-inj z s (sym b ∙ a)) h

    fit-all : (j k : ℕ) (ts : List Sort) → HaveSorts ss j k ts → ((i : ℕ) → j ≤ i → i < j + k → (z : Sort) → slice_get ss i ≡ Some z → Fits t z (reading i)) →
        FitAll t ts (grounds (map reading (numbers_from j k)))
    fit-all j zero [] h f = tt
    fit-all j (suc k) (s ∷ ts) h f = (f j (omega arith) (omega arith) s h.0, fit-all (suc j) k ts h.1 (λ i a b. f i (omega arith) (omega arith)))
    fit-all j zero (s ∷ ts) h f = absurd h
    fit-all j (suc k) [] h f = absurd h

    fits-cell : (r : ℕ) (c : Stored) → CellSorted t ss r c → ((j : ℕ) → Names r c j → (z : Sort) → slice_get ss j ≡ Some z → Fits t z (reading j)) →
        (s : Sort) → slice_get ss r ≡ Some s → Fits t s (cell_value w u r c (λ j n. reading j))
    unfolding cell_value
    fits-cell r (cell.Leaf z) h f s e = sort-is r s sort.Bool (Bit (w z)) e h tt
    fits-cell r cell.BusVar h f s e = good r s e
    fits-cell r cell.BusNil h f s e = sort-is r s sort.Bus (Word []) e h tt
    fits-cell r (cell.BusCons a b) h f s e = sort-is r s sort.Bus (Word (bit_in (reading a.0) ∷ word_in (reading b.0))) e h.0 tt
    fits-cell r cell.TermVar h f s e = good r s e
    fits-cell r (cell.Int z) h f s e = sort-is r s sort.Term (Int z) e h.0 h.1
    fits-cell r (cell.Node n k) h f s e =
        sort-is r s sort.Term (cell_value w u r (cell.Node n k) (λ j z. reading j)) e h.0
        (subst (λ xs. FitAll t (get_or t n []) (grounds xs)) (sym (few_map reading (suc r) k))
        (fit-all (suc r) k (get_or t n []) h.1 (λ i a b. f i (omega arith, omega arith))))
    fits-cell r (cell.Bound to) h f s e = f to.0 refl s (h.2 ∙ sym h.1 ∙ e)
    fits-cell r (cell.Same to) h f s e = f to.0 refl s (h.2 ∙ sym h.1 ∙ e)

    cell-there : (r : ℕ) (s : Sort) → slice_get ss r ≡ Some s → (c : Stored) × (slice_get cs r ≡ Some c)
    cell-there r s e = let less : r < length cs = (let l = slice_get_within ss r s e in let n = sorted.number in omega arith) in (get_or cs r cell.BusNil, slice_get-get_or cs r cell.BusNil less)

    fits-at : (r : ℕ) → IsFinite cs r → (s : Sort) → slice_get ss r ≡ Some s → Fits t s (reading r)
    fits-at r (ends f) s e =
        let there = cell-there r s e in
        subst (λ x. Fits t s x) (sym (tells r there.0 there.1))
        (fits-cell r there.0 (sorted.cells r there.0 there.1) (λ j n. fits-at j (f j (there.0, there.1, n))) s e)

    is-bit : (x : Ground) → Fits t sort.Bool x → x ≡ Bit (bit_in x)
    unfolding bit_in
    is-bit (Bit x) h = refl
    is-bit (Word x) h = absurd h
    is-bit (Int x) h = absurd h
    is-bit (Name n x) h = absurd h

    is-word : (x : Ground) → Fits t sort.Bus x → x ≡ Word (word_in x)
    unfolding word_in
    is-word (Word x) h = refl
    is-word (Bit x) h = absurd h
    is-word (Int x) h = absurd h
    is-word (Name n x) h = absurd h

    holds-cell : (r : ℕ) (c : Stored) → CellSorted t ss r c → reading r ≡ cell_value w u r c (λ j n. reading j) → CellHolds w reading r c
    unfolding cell_value
    holds-cell r (cell.Leaf s) h e = e
    holds-cell r cell.BusVar h e = tt
    holds-cell r cell.BusNil h e = e
    holds-cell r (cell.BusCons a b) h e = (bit_in (reading a.0), word_in (reading b.0), is-bit (reading a.0) (fits-at a.0 (all a.0) sort.Bool h.1), is-word (reading b.0) (fits-at b.0 (all b.0) sort.Bus h.2), e)
    holds-cell r cell.TermVar h e = tt
    holds-cell r (cell.Int z) h e = e
    holds-cell r (cell.Node n k) h e = e ∙ ap (λ xs. Name n (grounds xs)) (few_map reading (suc r) k)
    holds-cell r (cell.Bound to) h e = e
    holds-cell r (cell.Same to) h e = e

    is-reading : IsReading t w ss cs reading
    is-reading = record { fits = λ r s e. fits-at r (all r) s e; holds = λ r c is. holds-cell r c (sorted.cells r c is) (tells r c is) }

-- there is a reading with any values of the unbound variables
pub has-reading : (t : Sorts) (w : Bits) (u : Reading) (ss : List Sort) (cs : List Stored) → AllFinite cs → IsSorted t ss cs →
    ((r : ℕ) (s : Sort) → slice_get ss r ≡ Some s → Fits t s (u r)) →
    (g : Reading) × IsReading t w ss cs g × ((r : ℕ) (c : Stored) → slice_get cs r ≡ Some c → IsUnbound c → g r ≡ u r)
has-reading t w u ss cs all sorted good = (reading w u cs all, is-reading w u cs all t ss sorted good, unbound w u cs all)

-- ---- and one only

module _ (w : Bits) (cs : List Stored) (g h : Reading) (hg : CellsHold w cs g) (hh : CellsHold w cs h)
    (same : (r : ℕ) (c : Stored) → slice_get cs r ≡ Some c → IsUnbound c → g r ≡ h r) where
  same-map : (j k : ℕ) → ((i : ℕ) → j ≤ i → i < j + k → g i ≡ h i) → map g (numbers_from j k) ≡ map h (numbers_from j k)
  same-map j zero f = refl
  same-map j (suc k) f = ap (λ x. x ∷ map g (numbers_from (suc j) k)) (f j (omega arith) (omega arith)) ∙ ap (λ xs. h j ∷ xs) (same-map (suc j) k (λ i a b. f i (omega arith) (omega arith)))

  one-cell : (r : ℕ) (c : Stored) → slice_get cs r ≡ Some c → ((j : ℕ) → Names r c j → g j ≡ h j) → CellHolds w g r c → CellHolds w h r c → g r ≡ h r
  one-cell r (cell.Leaf s) is f a b = a ∙ sym b
  one-cell r cell.BusVar is f a b = same r cell.BusVar is tt
  one-cell r cell.BusNil is f a b = a ∙ sym b
  one-cell r (cell.BusCons x y) is f a b =
      let e = bit-inj a.0 b.0 (sym a.2 ∙ f x.0 (inl refl) ∙ b.2) in
      let d = word-inj a.1 b.1 (sym a.3 ∙ f y.0 (inr refl) ∙ b.3) in
      a.4 ∙ ap (λ z. Word (z ∷ a.1)) e ∙ ap (λ zs. Word (b.0 ∷ zs)) d ∙ sym b.4
  one-cell r cell.TermVar is f a b = same r cell.TermVar is tt
  one-cell r (cell.Int z) is f a b = a ∙ sym b
  one-cell r (cell.Node n k) is f a b = a ∙ ap (λ xs. Name n (grounds xs)) (same-map (suc r) k (λ i x y. f i (omega arith, omega arith))) ∙ sym b
  one-cell r (cell.Bound to) is f a b = a ∙ f to.0 refl ∙ sym b
  one-cell r (cell.Same to) is f a b = a ∙ f to.0 refl ∙ sym b

  pub one-value : (r : ℕ) → r < length cs → ((j i : ℕ) → j < length cs → IsChild cs j i → i < length cs) → IsFinite cs r → g r ≡ h r
  one-value r less closed (ends f) =
      let c = get_or cs r cell.BusNil in
      let is = slice_get-get_or cs r cell.BusNil less in
      one-cell r c is (λ j n. one-value j (closed r j less (c, is, n)) closed (f j (c, is, n))) (hg r c is) (hh r c is)
