-- Cells added behind those that are there.
use Rattle.std.proofs.Common.{◌≡◌, inl, inr, ℕ, zero, suc, ◌+◌, ◌-◌, ◌<◌, ◌≤◌, List, [], ◌∷◌, ◌++◌, length, map, take, Some, refl, sym, ap, subst, ◌∙◌, arith, length-append, append-nil, append_assoc}
use Rattle.std.specs.Prelude.{slice_get, get_or}
use Rattle.std.proofs.lemmas.Bool.{cases_lt}
use Rattle.std.proofs.lemmas.List.{take-append-le, take-take}
use Rattle.std.proofs.Math.Seq.{take-length}
use Rattle.std.proofs.lemmas.Option.{slice_get_within}
use Rattle.cb_model.specs.declared.Sort.{Sort}
use Rattle.cb_model.specs.declared.Sort.TheVariants as sort
use Rattle.cb_model.specs.Bits.{Each}
use Rattle.cb_heap.specs.declared.Ref.{Ref}
use Rattle.cb_heap.specs.declared.Change.{Change}
use Rattle.cb_heap.specs.declared.Cell.{Cell}
use Rattle.cb_heap.specs.declared.Cell.TheVariants as shown
use Rattle.cb_heap.specs.declared.Stored.{Stored}
use Rattle.cb_heap.specs.declared.Stored.TheVariants as cell
use Rattle.cb_heap.specs.Finite.{IsFinite, ends, Names, AllFinite}
use Rattle.cb_heap.specs.Links.{IsLinked, LinkFalls, IsSolidAt}
use Rattle.cb_heap.specs.Heap.{Terms, IsHeap, IsAddable, stored_as, with_cell, with_node}
use Rattle.cb_heap.specs.Moments.{KeepsMoments}
use Rattle.cb_heap.proofs.Steps.{some-inj, no_some}
use Rattle.cb_heap.proofs.Back.{keeps}

pub get-front : {X : Type 0} (xs ys : List X) (r : ℕ) → r < length xs → slice_get (xs ++ ys) r ≡ slice_get xs r
get-front [] ys r h = absurd (omega arith)
get-front (x ∷ xs) ys zero h = refl
get-front (x ∷ xs) ys (suc r) h = get-front xs ys r (omega arith)

pub get-behind : {X : Type 0} (xs ys : List X) (k : ℕ) → slice_get (xs ++ ys) (length xs + k) ≡ slice_get ys k
get-behind [] ys k = ap (λ n. slice_get ys n) (let e : 0 + k ≡ k = omega arith in e)
get-behind (x ∷ xs) ys k = ap (λ n. slice_get (x ∷ (xs ++ ys)) n) (let e : suc (length xs) + k ≡ suc (length xs + k) = omega arith in e) ∙ get-behind xs ys k

get_or-front : {X : Type 0} (xs ys : List X) (r : ℕ) (d : X) → r < length xs → get_or (xs ++ ys) r d ≡ get_or xs r d
get_or-front [] ys r d h = absurd (omega arith)
get_or-front (x ∷ xs) ys zero d h = refl
get_or-front (x ∷ xs) ys (suc r) d h = get_or-front xs ys r d (omega arith)

-- ---- a list that was added to

pub kept-front : {X : Type 0} (xs ys : List X) (x : X) → take (length (xs ++ x ∷ [])) ys ≡ xs ++ x ∷ [] → take (length xs) ys ≡ xs
kept-front xs ys x h =
    sym (take-take (length xs) (length (xs ++ x ∷ [])) ys (omega (arith, length-append xs (x ∷ []))))
    ∙ ap (λ zs. take (length xs) zs) h
    ∙ take-append-le (length xs) xs (x ∷ []) (omega arith)
    ∙ take-length xs

pub there-more : (n m : ℕ) (rs : List Ref) → n ≤ m → Each (λ r. r.0 < n) rs → Each (λ r. r.0 < m) rs
there-more n m [] l h = tt
there-more n m (r ∷ rs) l h = (let a = h.0 in omega arith, there-more n m rs l h.1)

pub sorts-front : (ss ts : List Sort) (rs : List Ref) → Each (λ r. r.0 < length ss) rs → map (λ (r : Ref). get_or (ss ++ ts) r.0 sort.Bool) rs ≡ map (λ (r : Ref). get_or ss r.0 sort.Bool) rs
sorts-front ss ts [] h = refl
sorts-front ss ts (r ∷ rs) h =
    ap (λ s. s ∷ map (λ (q : Ref). get_or (ss ++ ts) q.0 sort.Bool) rs) (get_or-front ss ts r.0 sort.Bool h.0)
    ∙ ap (λ l. get_or ss r.0 sort.Bool ∷ l) (sorts-front ss ts rs h.1)

pub sorts-behind : (ss new : List Sort) (rs : List Ref) → Each (λ r. r.0 < length ss) rs → new ≡ (ss ++ sort.Term ∷ []) ++ map (λ (r : Ref). get_or (ss ++ sort.Term ∷ []) r.0 sort.Bool) rs →
    new ≡ ss ++ sort.Term ∷ map (λ (r : Ref). get_or ss r.0 sort.Bool) rs
sorts-behind ss new rs h e = e ∙ append_assoc ss (sort.Term ∷ []) _ ∙ ap (λ l. ss ++ sort.Term ∷ l) (sorts-front ss (sort.Term ∷ []) rs h)

-- what is said of each cell, of the old ones and of the new ones
module _ (cs more : List Stored) where
  pub at-new : (r : ℕ) (c : Stored) → length cs ≤ r → slice_get (cs ++ more) r ≡ Some c → (k : ℕ) × (r ≡ length cs + k) × (slice_get more k ≡ Some c)
  at-new r c ge is =
      let k = r - length cs in
      let e : r ≡ length cs + k = omega arith in
      (k, e, sym (get-behind cs more k) ∙ ap (λ q. slice_get (cs ++ more) q) (sym e) ∙ is)

  solid-more : (j : ℕ) → IsSolidAt cs j → IsSolidAt (cs ++ more) j
  solid-more j s = (s.0, get-front cs more j (slice_get_within cs j s.0 s.1) ∙ s.1, s.2)

  falls-more : (r : ℕ) (c : Stored) → LinkFalls cs r c → LinkFalls (cs ++ more) r c
  falls-more r (cell.Bound to) (inl l) = inl l
  falls-more r (cell.Bound to) (inr s) = inr (solid-more to.0 s)
  falls-more r (cell.Same to) h = (h.0, solid-more to.0 h.1)
  falls-more r (cell.Leaf s) h = tt
  falls-more r cell.BusVar h = tt
  falls-more r cell.BusNil h = tt
  falls-more r (cell.BusCons a b) h = tt
  falls-more r cell.TermVar h = tt
  falls-more r (cell.Int z) h = tt
  falls-more r (cell.Node n k) h = tt

  pub linked-more : IsLinked cs → ((k : ℕ) (c : Stored) → slice_get more k ≡ Some c → LinkFalls (cs ++ more) (length cs + k) c × ((j : ℕ) → Names (length cs + k) c j → j < length (cs ++ more))) → IsLinked (cs ++ more)
  linked-more h new = record {
    falls = λ r c is. elim (cases_lt r (length cs)) [
      | inl less ↦ falls-more r c (h.falls r c (sym (get-front cs more r less) ∙ is))
      | inr ge ↦ let p = at-new r c ge is in subst (λ q. LinkFalls (cs ++ more) q c) (sym p.1) (new p.0 c p.2).0
    ];
    within = λ r j child. elim (cases_lt r (length cs)) [
      | inl less ↦ let w = h.within r j (child.0, sym (get-front cs more r less) ∙ child.1, child.2) in omega (arith, length-append cs more)
      | inr ge ↦ let p = at-new r child.0 ge child.1 in (new p.0 child.0 p.2).1 j (subst (λ q. Names q child.0 j) p.1 child.2)
    ];
  }

  pub old-finite : IsLinked cs → (r : ℕ) → r < length cs → IsFinite cs r → IsFinite (cs ++ more) r
  old-finite h r less (ends f) = ends (λ j child.
      let is : slice_get cs r ≡ Some child.0 = sym (get-front cs more r less) ∙ child.1 in
      old-finite h j (h.within r j (child.0, is, child.2)) (f j (child.0, is, child.2)))

  pub new-finite : IsLinked cs → AllFinite cs → ((k : ℕ) (c : Stored) → slice_get more k ≡ Some c → (j : ℕ) → Names (length cs + k) c j → IsFinite (cs ++ more) j) → AllFinite (cs ++ more)
  new-finite h all new r = elim (cases_lt r (length cs)) [
    | inl less ↦ old-finite h r less (all r)
    | inr ge ↦ ends (λ j child. let p = at-new r child.0 ge child.1 in new p.0 child.0 p.2 j (subst (λ q. Names q child.0 j) p.1 child.2))
  ]

trail-more : (n m : ℕ) (xs : List Change) → n ≤ m → Each (λ x. x.cell < n) xs → Each (λ x. x.cell < m) xs
trail-more n m [] l h = tt
trail-more n m (x ∷ xs) l h = (let a = h.0 in omega arith, trail-more n m xs l h.1)

heap-more : (t : Terms) (cs : List Stored) (ss : List Sort) → IsHeap t → length ss ≡ length cs → IsLinked (t.cells ++ cs) → IsHeap (record { cells = t.cells ++ cs; sorts = t.sorts ++ ss; trail = t.trail })
heap-more t cs ss h n l = record {
  number = let a = h.number in omega (arith, length-append t.cells cs, length-append t.sorts ss);
  linked = l;
  trail = trail-more (length t.cells) (length (t.cells ++ cs)) t.trail (omega (arith, length-append t.cells cs)) h.trail;
}

pub keeps-more : (t : Terms) (cs : List Stored) (ss : List Sort) → IsHeap t → KeepsMoments t (record { cells = t.cells ++ cs; sorts = t.sorts ++ ss; trail = t.trail })
keeps-more t cs ss h = keeps t (record { cells = t.cells ++ cs; sorts = t.sorts ++ ss; trail = t.trail }) (record {
  number = omega (arith, length-append t.cells cs);
  more = ss;
  sorts = refl;
  changes = [];
  trail = sym (append-nil t.trail);
  cells = take-append-le (length t.cells) t.cells cs (omega arith) ∙ take-length t.cells;
}) h

-- ---- one cell

addable-names : (n q j : ℕ) (c : Cell) → IsAddable n c → Names q (stored_as c) j → j < n
addable-names n q j (shown.BusCons h l) a (inl e) = let x = a.0 in omega arith
addable-names n q j (shown.BusCons h l) a (inr e) = let x = a.1 in omega arith
addable-names n q j (shown.Leaf s) a m = absurd m
addable-names n q j shown.BusVar a m = absurd m
addable-names n q j shown.BusNil a m = absurd m
addable-names n q j shown.TermVar a m = absurd m
addable-names n q j (shown.Int z) a m = absurd m
addable-names n q j (shown.Node i k) a m = absurd a
addable-names n q j (shown.Bound to) a m = absurd a

addable-falls : (cs : List Stored) (n q : ℕ) (c : Cell) → IsAddable n c → LinkFalls cs q (stored_as c)
addable-falls cs n q (shown.BusCons h l) a = tt
addable-falls cs n q (shown.Leaf s) a = tt
addable-falls cs n q shown.BusVar a = tt
addable-falls cs n q shown.BusNil a = tt
addable-falls cs n q shown.TermVar a = tt
addable-falls cs n q (shown.Int z) a = tt
addable-falls cs n q (shown.Node i k) a = absurd a
addable-falls cs n q (shown.Bound to) a = absurd a

only-one : (c : Stored) (k : ℕ) (d : Stored) → slice_get (c ∷ []) k ≡ Some d → c ≡ d
only-one c zero d is = some-inj c d is
only-one c (suc k) d is = absurd (no_some _ d refl is)

module _ (t : Terms) (h : IsHeap t) (c : Cell) (a : IsAddable (length t.cells) c) where
  pub heap-cell : IsHeap (with_cell t c)
  heap-cell = heap-more t (stored_as c ∷ []) _ h refl (linked-more t.cells (stored_as c ∷ []) h.linked (λ k d is.
      let e = only-one (stored_as c) k d is in (
        subst (λ x. LinkFalls (t.cells ++ stored_as c ∷ []) (length t.cells + k) x) e (addable-falls _ (length t.cells) (length t.cells + k) c a),
        λ j n. let l = addable-names (length t.cells) (length t.cells + k) j c a (subst (λ x. Names (length t.cells + k) x j) (sym e) n) in omega (arith, length-append t.cells (stored_as c ∷ [])),
      )))

  pub finite-cell : AllFinite t.cells → AllFinite (t.cells ++ stored_as c ∷ [])
  finite-cell all = new-finite t.cells (stored_as c ∷ []) h.linked all (λ k d is j n.
      let e = only-one (stored_as c) k d is in
      let l = addable-names (length t.cells) (length t.cells + k) j c a (subst (λ x. Names (length t.cells + k) x j) (sym e) n) in
      old-finite t.cells (stored_as c ∷ []) h.linked j l (all j))

-- ---- a compound

each-at : (n : ℕ) (rs : List Ref) (k : ℕ) (r : Ref) → Each (λ x. x.0 < n) rs → slice_get rs k ≡ Some r → r.0 < n
each-at n [] k r h is = absurd (no_some _ r refl is)
each-at n (x ∷ rs) zero r h is = subst (λ (y : Ref). y.0 < n) (some-inj x r is) h.0
each-at n (x ∷ rs) (suc k) r h is = each-at n rs k r h.1 is

link-at : (n : ℕ) (rs : List Ref) (k : ℕ) (d : Stored) → Each (λ x. x.0 < n) rs → slice_get (map (λ r. cell.Bound r) rs) k ≡ Some d → (r : Ref) × (d ≡ cell.Bound r) × (r.0 < n)
link-at n [] k d h is = absurd (no_some _ d refl is)
link-at n (x ∷ rs) zero d h is = (x, sym (some-inj (cell.Bound x) d is), h.0)
link-at n (x ∷ rs) (suc k) d h is = link-at n rs k d h.1 is

length-links : (rs : List Ref) → length (map (λ r. cell.Bound r) rs) ≡ length rs
length-links [] = refl
length-links (r ∷ rs) = ap suc (length-links rs)

length-sorts : (ss : List Sort) (rs : List Ref) → length (map (λ (r : Ref). get_or ss r.0 sort.Bool) rs) ≡ length rs
length-sorts ss [] = refl
length-sorts ss (r ∷ rs) = ap suc (length-sorts ss rs)

module _ (t : Terms) (h : IsHeap t) (name : ℕ) (args : List Ref) (there : Each (λ r. r.0 < length t.cells) args) where
  abbrev new : List Stored
  new = cell.Node name (length args) ∷ map (λ r. cell.Bound r) args

  size : length (t.cells ++ new) ≡ length t.cells + suc (length args)
  size = length-append t.cells new ∙ ap (λ n. length t.cells + suc n) (length-links args)

  node-new : (k : ℕ) (c : Stored) → slice_get new k ≡ Some c → LinkFalls (t.cells ++ new) (length t.cells + k) c × ((j : ℕ) → Names (length t.cells + k) c j → j < length (t.cells ++ new))
  node-new zero c is = subst (λ x. LinkFalls (t.cells ++ new) (length t.cells + 0) x × ((j : ℕ) → Names (length t.cells + 0) x j → j < length (t.cells ++ new))) (some-inj _ c is)
      (tt, λ j n. let a = n.1 in let s = size in omega arith)
  node-new (suc k) c is =
      let p = link-at (length t.cells) args k c there is in
      let less = p.2 in
      subst (λ x. LinkFalls (t.cells ++ new) (length t.cells + suc k) x × ((j : ℕ) → Names (length t.cells + suc k) x j → j < length (t.cells ++ new))) (sym p.1)
      (inl (omega arith), λ j n. let s = size in omega arith)

  pub heap-node : IsHeap (with_node t name args)
  heap-node = heap-more t new _ h (ap suc (length-sorts t.sorts args ∙ sym (length-links args))) (linked-more t.cells new h.linked node-new)

  link-finite : AllFinite t.cells → (k : ℕ) → k < length args → IsFinite (t.cells ++ new) (length t.cells + suc k)
  link-finite all k less =
      ends (λ j child.
      let is : slice_get (map (λ r. cell.Bound r) args) k ≡ Some child.0 = sym (get-behind t.cells new (suc k)) ∙ child.1 in
      let p = link-at (length t.cells) args k child.0 there is in
      let e : j ≡ p.0.0 = subst (λ x. Names (length t.cells + suc k) x j) p.1 child.2 in
      let l = p.2 in
      old-finite t.cells new h.linked j (omega arith) (all j))

  node-children : AllFinite t.cells → (k : ℕ) (c : Stored) → slice_get new k ≡ Some c → (j : ℕ) → Names (length t.cells + k) c j → IsFinite (t.cells ++ new) j
  node-children all zero c is j n =
      let m : (length t.cells + 0 < j) × (j ≤ length t.cells + 0 + length args) = subst (λ x. Names (length t.cells + 0) x j) (sym (some-inj _ c is)) n in
      let a = m.0 in
      let b = m.1 in
      let k = j - suc (length t.cells) in
      let e : length t.cells + suc k ≡ j = omega arith in
      subst (λ q. IsFinite (t.cells ++ new) q) e (link-finite all k (omega arith))
  node-children all (suc k) c is j n =
      let p = link-at (length t.cells) args k c there is in
      let e : j ≡ p.0.0 = subst (λ x. Names (length t.cells + suc k) x j) p.1 n in
      let l = p.2 in
      old-finite t.cells new h.linked j (omega arith) (all j)

  pub finite-node : AllFinite t.cells → AllFinite (t.cells ++ new)
  finite-node all = new-finite t.cells new h.linked all (node-children all)
