-- A compound added to a state.
use Rattle.std.proofs.Common.{◌≡◌, inl, inr, ℕ, zero, suc, ◌+◌, ◌<◌, ◌≤◌, List, [], ◌∷◌, ◌++◌, length, map, Some, refl, sym, ap, subst, ◌∙◌, arith, length-append}
use Rattle.std.specs.Prelude.{slice_get, get_or}
use Rattle.std.proofs.lemmas.Bool.{cases_lt}
use Rattle.std.proofs.lemmas.Option.{slice_get_within, slice_get-get_or}
use Rattle.cb_model.specs.declared.Sort.{Sort}
use Rattle.cb_model.specs.declared.Sort.TheVariants as sort
use Rattle.cb_model.specs.Bits.{Bits, Each, numbers_from}
use Rattle.cb_model.specs.Values.{Name, Sorts, grounds}
use Rattle.cb_heap.specs.declared.Ref.{Ref}
use Rattle.cb_heap.specs.declared.Stored.{Stored}
use Rattle.cb_heap.specs.declared.Stored.TheVariants as cell
use Rattle.cb_heap.specs.Heap.{Terms, IsHeap, with_node}
use Rattle.cb_heap.specs.Moments.{KeepsMoments as KeepsTerms}
use Rattle.cb_heap.specs.Reading.{Reading, CellsHold}
use Rattle.cb_heap.specs.Finite.{AllFinite, CellSorted, HaveSorts, IsSorted}
use Rattle.cb_heap.proofs.Adding.{at-new, get-behind, get-front}
use Rattle.cb_heap.proofs.Steps.{no_some, some-inj}
use Rattle.cb_join.specs.Joins.{Rising}
use Rattle.cb_unify.specs.State.{Seen, FitsTable, IsState, Reads}
use Rattle.cb_unify.specs.Trees.{IsCompoundOf}
use Rattle.cb_unify.proofs.Added.{cells-added}
use Rattle.cb_unify.proofs.Cells.{rise-append}
use Rattle.cb_unify.proofs.Opened.{cell-sorted-more}

abbrev links : List Ref → List Stored
links rs = map (λ r. cell.Bound r) rs

length-links : (rs : List Ref) → length (links rs) ≡ length rs
length-links [] = refl
length-links (r ∷ rs) = ap suc (length-links rs)

links-rise : (n j : ℕ) (rs : List Ref) → j ≤ n → Rising n j (links rs)
links-rise n j [] l = l
links-rise n j (r ∷ rs) l = links-rise n j rs l

-- the values of links are those of the cells that they lead to
links-values : (w : Bits) (g : Reading) (cs : List Stored) (n : ℕ) (rs : List Ref) → CellsHold w cs g → ((k : ℕ) (d : Stored) → slice_get (links rs) k ≡ Some d → slice_get cs (n + k) ≡ Some d) →
    map g (numbers_from n (length rs)) ≡ map (λ (q : Ref). g q.0) rs
links-values w g cs n [] h at = refl
links-values w g cs n (r ∷ rs) h at =
    let here : g n ≡ g r.0 = h n (cell.Bound r) (ap (λ q. slice_get cs q) (let e : n ≡ n + 0 = omega arith in e) ∙ at 0 (cell.Bound r) refl) in
    ap (λ x. x ∷ map g (numbers_from (suc n) (length rs))) here
    ∙ ap (λ xs. g r.0 ∷ xs) (links-values w g cs (suc n) rs h (λ k d e. ap (λ q. slice_get cs q) (let m : suc n + k ≡ n + suc k = omega arith in m) ∙ at (suc k) d e))

-- the sorts of links
link-sorts : (ss zs : List Sort) (n : ℕ) → ((k : ℕ) (z : Sort) → slice_get zs k ≡ Some z → slice_get ss (n + k) ≡ Some z) → HaveSorts ss n (length zs) zs
link-sorts ss [] n at = tt
link-sorts ss (z ∷ zs) n at = (
  ap (λ q. slice_get ss q) (let e : n ≡ n + 0 = omega arith in e) ∙ at 0 z refl,
  link-sorts ss zs (suc n) (λ k y e. ap (λ q. slice_get ss q) (let m : suc n + k ≡ n + suc k = omega arith in m) ∙ at (suc k) y e),
)

link-there : (n : ℕ) (ss : List Sort) (rs : List Ref) (k : ℕ) (d : Stored) → n ≤ length ss → Each (λ r. r.0 < n) rs → slice_get (links rs) k ≡ Some d →
    (r : Ref) × (d ≡ cell.Bound r) × (slice_get ss r.0 ≡ Some (get_or ss r.0 sort.Bool)) × (slice_get (map (λ (q : Ref). get_or ss q.0 sort.Bool) rs) k ≡ Some (get_or ss r.0 sort.Bool))
link-there n ss [] k d l h e = absurd (no_some _ d refl e)
link-there n ss (r ∷ rs) zero d l h e = (r, sym (some-inj (cell.Bound r) d e), slice_get-get_or ss r.0 sort.Bool (let a = h.0 in omega arith), refl)
link-there n ss (r ∷ rs) (suc k) d l h e = link-there n ss rs k d l h.1 e

count-map : {A B : Type 0} (f : A → B) (xs : List A) → length (map f xs) ≡ length xs
count-map f [] = refl
count-map f (x ∷ xs) = ap suc (count-map f xs)

module _ (now s : Seen) (same : s ≡ now) (is : IsState now) (name : ℕ) (args : List Ref) (there : Each (λ r. r.0 < length s.heap.cells) args) (h : Terms) (e : h ≡ with_node s.heap name args) (heap : IsHeap h)
    (finite : AllFinite s.heap.cells → AllFinite h.cells) (kh : KeepsTerms s.heap h) where
  inside : IsState s
  inside = subst IsState (sym same) is

  abbrev old-sorts : List Sort
  old-sorts = map (λ (q : Ref). get_or s.heap.sorts q.0 sort.Bool) args

  abbrev new-cells : List Stored
  new-cells = cell.Node name (length args) ∷ links args

  cells : h.cells ≡ s.heap.cells ++ new-cells
  cells = ap (λ (o : Terms). o.cells) e

  sorts : h.sorts ≡ s.heap.sorts ++ sort.Term ∷ old-sorts
  sorts = ap (λ (o : Terms). o.sorts) e

  abbrev end : Seen
  end = record { heap = h; store = s.store; made = s.made }

  abbrev r : ℕ
  r = length s.heap.cells

  number : length s.heap.sorts ≡ length s.heap.cells
  number = inside.heap.number

  behind : (k : ℕ) (d : Stored) → slice_get new-cells k ≡ Some d → slice_get h.cells (r + k) ≡ Some d
  behind k d at = ap (λ (l : List Stored). slice_get l (r + k)) cells ∙ get-behind s.heap.cells new-cells k ∙ at

  sort-behind : (k : ℕ) (z : Sort) → slice_get (sort.Term ∷ old-sorts) k ≡ Some z → slice_get (s.heap.sorts ++ sort.Term ∷ old-sorts) (r + k) ≡ Some z
  sort-behind k z at =
      ap (λ q. slice_get (s.heap.sorts ++ sort.Term ∷ old-sorts) q) (let n = number in let m : r + k ≡ length s.heap.sorts + k = omega arith in m)
      ∙ get-behind s.heap.sorts (sort.Term ∷ old-sorts) k ∙ at

  first : slice_get h.cells r ≡ Some (cell.Node name (length args))
  first = ap (λ q. slice_get h.cells q) (let m : r ≡ r + 0 = omega arith in m) ∙ behind 0 (cell.Node name (length args)) refl

  rises : Rising (length s.store.slots) 0 h.cells
  rises = subst (λ (l : List Stored). Rising (length s.store.slots) 0 l) (sym cells)
      (rise-append (length s.store.slots) (length s.store.slots) 0 s.heap.cells new-cells inside.rise (links-rise (length s.store.slots) (length s.store.slots) args (omega arith)) (λ j l. links-rise (length s.store.slots) j args l))

  value : (t : Sorts) (a w : Bits) (g : Reading) → Reads t end a w g → g r ≡ Name name (grounds (map (λ (q : Ref). g q.0) args))
  value t a w g q =
      q.reading.holds r (cell.Node name (length args)) first
      ∙ ap (λ xs. Name name (grounds xs)) (links-values _ g h.cells (suc r) args q.reading.holds (λ k d at. ap (λ i. slice_get h.cells i) (let m : suc r + k ≡ r + suc k = omega arith in m) ∙ behind (suc k) d at))

  module _ (t : Sorts) (o : FitsTable t s) (table : old-sorts ≡ get_or t name []) where
    abbrev ss : List Sort
    ss = s.heap.sorts ++ sort.Term ∷ old-sorts

    new-sorted : (k : ℕ) (d : Stored) → slice_get new-cells k ≡ Some d → CellSorted t ss (r + k) d
    new-sorted zero d at = subst (λ (x : Stored). CellSorted t ss (r + 0) x) (some-inj (cell.Node name (length args)) d at) (
      sort-behind 0 sort.Term refl,
      subst (λ (zs : List Sort). HaveSorts ss (suc (r + 0)) (length args) zs) table
          (subst (λ n. HaveSorts ss (suc (r + 0)) n old-sorts) (count-map (λ (q : Ref). get_or s.heap.sorts q.0 sort.Bool) args)
          (link-sorts ss old-sorts (suc (r + 0)) (λ k z at2. ap (λ i. slice_get ss i) (let m : suc (r + 0) + k ≡ r + suc k = omega arith in m) ∙ sort-behind (suc k) z at2))),
    )
    new-sorted (suc k) d at =
        let l = link-there (length s.heap.cells) s.heap.sorts args k d (let n = number in omega arith) there at in
        let less = slice_get_within s.heap.sorts l.0.0 _ l.2 in
        subst (λ (x : Stored). CellSorted t ss (r + suc k) x) (sym l.1) (get_or s.heap.sorts l.0.0 sort.Bool, sort-behind (suc k) _ l.3, get-front s.heap.sorts (sort.Term ∷ old-sorts) l.0.0 less ∙ l.2)

    fits-inside : IsSorted t ss (s.heap.cells ++ new-cells)
    fits-inside = record {
      number =
          length-append s.heap.sorts (sort.Term ∷ old-sorts)
          ∙ (let n = number in let a = count-map (λ (q : Ref). get_or s.heap.sorts q.0 sort.Bool) args in let b = length-links args in
          let m : length s.heap.sorts + suc (length old-sorts) ≡ length s.heap.cells + suc (length (links args)) = omega (arith, n, a, b) in m)
          ∙ sym (length-append s.heap.cells new-cells);
      cells = λ q d at. elim (cases_lt q (length s.heap.cells)) [
        | inl less ↦ cell-sorted-more t s.heap.sorts (sort.Term ∷ old-sorts) q d (o.cells q d (sym (get-front s.heap.cells new-cells q less) ∙ at))
        | inr ge ↦ let p = at-new s.heap.cells new-cells q d ge at in subst (λ i. CellSorted t ss i d) (sym p.1) (new-sorted p.0 d p.2)
      ];
    }

    fits-new : FitsTable t end
    fits-new = subst (λ (l : List Sort). IsSorted t l h.cells) (sym sorts) (subst (λ (l : List Stored). IsSorted t ss l) (sym cells) fits-inside)

  compound-inside : IsCompoundOf s end name args r
  compound-inside = record {
    added = cells-added s inside h new-cells (sort.Term ∷ old-sorts) cells sorts heap (finite inside.finite) kh rises;
    nodes = refl;
    at = record { cell = first; behind = let n = ap (λ (l : List Stored). length l) cells ∙ length-append s.heap.cells new-cells in let m = length-links args in omega (arith, n, m) };
    sort = ap (λ (l : List Sort). slice_get l r) sorts ∙ ap (λ q. slice_get (s.heap.sorts ++ sort.Term ∷ old-sorts) q) (let m : r ≡ r + 0 = omega arith in m) ∙ sort-behind 0 sort.Term refl;
    value = value;
    fits = fits-new;
  }

  pub compound-of : (q : ℕ) → q ≡ length s.heap.cells → IsCompoundOf now end name args q
  compound-of q at = subst (λ (o : Seen). IsCompoundOf o end name args q) same (subst (λ i. IsCompoundOf s end name args i) (sym at) compound-inside)
