-- What the values of a cell tell of the cells below it, and which values unbound variables have.
use Rattle.std.proofs.Common.{◌≡◌, ◌≢◌, ◌⊎◌, inl, inr, ℕ, zero, suc, ◌+◌, ◌<◌, ◌≤◌, Bool, true, false, List, [], ◌∷◌, length, map, Some, None, ℤ, pos, nat_eq, ◌&&◌, if◌then◌else◌, eq-eqb, rules, refl, sym, ap, subst, ◌∙◌, arith}
use Rattle.std.specs.Prelude.{slice_get, get_or, FitsSigned}
use Rattle.std.specs.Int.{w64}
use Rattle.std.proofs.lemmas.Bool.{cases_eq, ne_eqb}
use Rattle.std.proofs.lemmas.Option.{slice_get-get_or, get_or_from_slice_get}
use Rattle.cb_model.specs.declared.Sort.{Sort}
use Rattle.cb_model.specs.declared.Sort.TheVariants as sort
use Rattle.cb_model.specs.Bits.{Bits, numbers_from}
use Rattle.cb_model.specs.Values.{Ground, Bit, Word, Int, Name, Grounds, Last, More, grounds, Sorts, Fits}
use Rattle.cb_model.specs.Derivation.{Outermost, outermost, Empty, AnInt}
use Rattle.cb_heap.specs.declared.Stored.{Stored}
use Rattle.cb_heap.specs.declared.Stored.TheVariants as cell
use Rattle.cb_heap.specs.Reading.{Reading, CellHolds, CellsHold, IsReading, IsUnbound, form_of}
use Rattle.cb_heap.specs.Finite.{IsFinite, ends, IsChild, Names, AllFinite, IsSorted}
use Rattle.cb_heap.specs.Below.{IsBelow, here, down}
use Rattle.cb_heap.specs.Links.{link_of}
use Rattle.cb_heap.proofs.Steps.{no_some, bit-inj, word-inj, args-inj, form-tells}
use Rattle.cb_heap.proofs.Values.{has-reading}

-- ---- one value, where the unbound cells and the leaves below have one

module _ (w v : Bits) (cs : List Stored) (g h : Reading) (hg : CellsHold w cs g) (hh : CellsHold v cs h)
    (closed : (j i : ℕ) → j < length cs → IsChild cs j i → i < length cs) where
  same-map : (j k : ℕ) → ((i : ℕ) → j ≤ i → i < j + k → g i ≡ h i) → map g (numbers_from j k) ≡ map h (numbers_from j k)
  same-map j zero f = refl
  same-map j (suc k) f = ap (λ x. x ∷ map g (numbers_from (suc j) k)) (f j (omega arith) (omega arith)) ∙ ap (λ xs. h j ∷ xs) (same-map (suc j) k (λ i a b. f i (omega arith) (omega arith)))

  one-cell : (r : ℕ) (c : Stored) → (IsUnbound c → g r ≡ h r) → ((s : ℕ) → c ≡ cell.Leaf s → w s ≡ v s) → ((j : ℕ) → Names r c j → g j ≡ h j) → CellHolds w g r c → CellHolds v h r c → g r ≡ h r
  one-cell r (cell.Leaf s) u l f a b = a ∙ ap Bit (l s refl) ∙ sym b
  one-cell r cell.BusVar u l f a b = u tt
  one-cell r cell.BusNil u l f a b = a ∙ sym b
  one-cell r (cell.BusCons x y) u l f a b =
      let e = bit-inj a.0 b.0 (sym a.2 ∙ f x.0 (inl refl) ∙ b.2) in
      let d = word-inj a.1 b.1 (sym a.3 ∙ f y.0 (inr refl) ∙ b.3) in
      a.4 ∙ ap (λ z. Word (z ∷ a.1)) e ∙ ap (λ zs. Word (b.0 ∷ zs)) d ∙ sym b.4
  one-cell r cell.TermVar u l f a b = u tt
  one-cell r (cell.Int z) u l f a b = a ∙ sym b
  one-cell r (cell.Node n k) u l f a b = a ∙ ap (λ xs. Name n (grounds xs)) (same-map (suc r) k (λ i x y. f i (omega arith, omega arith))) ∙ sym b
  one-cell r (cell.Bound to) u l f a b = a ∙ f to.0 refl ∙ sym b
  one-cell r (cell.Same to) u l f a b = a ∙ f to.0 refl ∙ sym b

  -- what determines all below a cell determines the cell
  pub one-below : (r : ℕ) → r < length cs → IsFinite cs r →
      ((j : ℕ) (c : Stored) → IsBelow cs r j → slice_get cs j ≡ Some c → IsUnbound c → g j ≡ h j) →
      ((j s : ℕ) → IsBelow cs r j → slice_get cs j ≡ Some (cell.Leaf s) → w s ≡ v s) → g r ≡ h r
  one-below r less (ends f) u l =
      let c = get_or cs r cell.BusNil in
      let is : slice_get cs r ≡ Some c = slice_get-get_or cs r cell.BusNil less in
      one-cell r c (λ q. u r c here is q) (λ s e. l r s here (is ∙ ap Some e))
      (λ j n. one-below j (closed r j less (c, is, n)) (f j (c, is, n)) (λ i d b. u i d (down (c, is, n) b)) (λ i s b. l i s (down (c, is, n) b)))
      (hg r c is) (hh r c is)

  agree-from : (i k j : ℕ) → map g (numbers_from i k) ≡ map h (numbers_from i k) → i ≤ j → j < i + k → g j ≡ h j
  agree-from i zero j e a b = absurd (omega arith)
  agree-from i (suc k) j e a b = elim (cases_eq j i) [
    | inl same ↦ subst (λ q. g q ≡ h q) (sym same) (ap first e)
    | inr other ↦ agree-from (suc i) k j (ap rest e) (omega arith) (omega arith)
  ]
    where
      first : List Ground → Ground
      first (x ∷ xs) = x
      first [] = Bit false

      rest : List Ground → List Ground
      rest (x ∷ xs) = xs
      rest [] = []

  grounds-inj : (xs ys : List Ground) → grounds xs ≡ grounds ys → xs ≡ ys
  grounds-inj xs ys e = sym (back xs) ∙ ap list e ∙ back ys
    where
      list : Grounds → List Ground
      list Last = []
      list (More x xs) = x ∷ list xs

      back : (xs : List Ground) → list (grounds xs) ≡ xs
      back [] = refl
      back (x ∷ xs) = ap (λ l. x ∷ l) (back xs)

  first_bit : List Bool → Bool
  first_bit (x ∷ xs) = x
  first_bit [] = false

  more_bits : List Bool → List Bool
  more_bits (x ∷ xs) = xs
  more_bits [] = []

  child-cell : (r : ℕ) (c : Stored) (j : ℕ) → Names r c j → CellHolds w g r c → CellHolds v h r c → g r ≡ h r → g j ≡ h j
  unfolding first_bit more_bits
  child-cell r (cell.BusCons x y) j (inl e) a b s = subst (λ q. g q ≡ h q) (sym e) (a.2 ∙ ap (λ l. Bit (first_bit l)) (word-inj (a.0 ∷ a.1) (b.0 ∷ b.1) (sym a.4 ∙ s ∙ b.4)) ∙ sym b.2)
  child-cell r (cell.BusCons x y) j (inr e) a b s = subst (λ q. g q ≡ h q) (sym e) (a.3 ∙ ap (λ l. Word (more_bits l)) (word-inj (a.0 ∷ a.1) (b.0 ∷ b.1) (sym a.4 ∙ s ∙ b.4)) ∙ sym b.3)
  child-cell r (cell.Node n k) j p a b s = agree-from (suc r) k j (grounds-inj _ _ (args-inj n n _ _ (sym a ∙ s ∙ b))) (let x = p.0 in omega arith) (let x = p.1 in omega arith)
  child-cell r (cell.Bound to) j e a b s = subst (λ q. g q ≡ h q) (sym e) (sym a ∙ s ∙ b)
  child-cell r (cell.Same to) j e a b s = subst (λ q. g q ≡ h q) (sym e) (sym a ∙ s ∙ b)
  child-cell r (cell.Leaf z) j e a b s = absurd e
  child-cell r cell.BusVar j e a b s = absurd e
  child-cell r cell.BusNil j e a b s = absurd e
  child-cell r cell.TermVar j e a b s = absurd e
  child-cell r (cell.Int z) j e a b s = absurd e

  -- one value of a cell is one value of all below it
  pub below-same : (r j : ℕ) → IsBelow cs r j → g r ≡ h r → g j ≡ h j
  below-same r j here e = e
  below-same r j (down c b) e = below-same _ j b (child-cell r c.0 _ c.2 (hg r c.0 c.1) (hh r c.0 c.1) e)

-- ---- an unbound variable has values of two outermost forms

one_fits : FitsSigned w64 (pos 1)
one_fits = search rules

zero_fits : FitsSigned w64 (pos 0)
zero_fits = search rules

abbrev pub any_value : Sort → Ground
any_value sort.Bool = Bit false
any_value sort.Bus = Word []
any_value sort.Term = Int (pos 0)

-- a value of another outermost form, for the sorts that have one
abbrev pub other_value : Sort → Ground
other_value sort.Bool = Bit true
other_value sort.Bus = Word (true ∷ [])
other_value sort.Term = Int (pos 1)

any_fits : (t : Sorts) (z : Sort) → Fits t z (any_value z)
any_fits t sort.Bool = tt
any_fits t sort.Bus = tt
any_fits t sort.Term = zero_fits

other_fits : (t : Sorts) (z : Sort) → Fits t z (other_value z)
other_fits t sort.Bool = tt
other_fits t sort.Bus = tt
other_fits t sort.Term = one_fits

int_in : Outermost → ℤ
int_in (AnInt z) = z
int_in _ = pos 0

is_empty : Outermost → Bool
is_empty Empty = true
is_empty _ = false

nat_in : ℤ → ℕ
nat_in (pos n) = n
nat_in _ = 0

-- an open cell: of a bus or term
pub forms-differ : (z : Sort) → (z ≡ sort.Bool → ⊥) → outermost (any_value z) ≢ outermost (other_value z)
unfolding int_in is_empty nat_in
forms-differ sort.Bool n e = n refl
forms-differ sort.Bus n e = let x : true ≡ false = ap is_empty e in cc
forms-differ sort.Term n e = let x : ◌≡◌ {A = ℕ} 0 1 = ap (λ o. nat_in (int_in o)) e in omega arith

-- all unbound cells have their any values, but for one, which has the other
abbrev pub but_one : List Sort → ℕ → Bool → Reading
but_one ss v b r = if nat_eq r v && b then other_value (get_or ss r sort.Bool) else any_value (get_or ss r sort.Bool)

but_one-good : (t : Sorts) (ss : List Sort) (v : ℕ) (b : Bool) (r : ℕ) (z : Sort) → slice_get ss r ≡ Some z → Fits t z (but_one ss v b r)
but_one-good t ss v b r z e = go (nat_eq r v && b)
  where
    same : get_or ss r sort.Bool ≡ z
    same = get_or_from_slice_get ss r z sort.Bool e

    go : (d : Bool) → Fits t z (if d then other_value (get_or ss r sort.Bool) else any_value (get_or ss r sort.Bool))
    go true = subst (λ x. Fits t z (other_value x)) (sym same) (other_fits t z)
    go false = subst (λ x. Fits t z (any_value x)) (sym same) (any_fits t z)

-- Whatever the bits, an unbound cell of a bus or term has two values of different outermost forms, and every other
-- unbound cell the same value with both.
pub two-forms : (t : Sorts) (w : Bits) (ss : List Sort) (cs : List Stored) → AllFinite cs → IsSorted t ss cs → (v : ℕ) (c : Stored) → slice_get cs v ≡ Some c → IsUnbound c → (z : Sort) → slice_get ss v ≡ Some z → (z ≡ sort.Bool → ⊥) →
    (g h : Reading) × IsReading t w ss cs g × IsReading t w ss cs h × (outermost (g v) ≢ outermost (h v)) ×
    ((r : ℕ) (d : Stored) → slice_get cs r ≡ Some d → IsUnbound d → r ≢ v → g r ≡ h r)
two-forms t w ss cs all o v c is u z sv n =
    let p = has-reading t w (but_one ss v false) ss cs all o (but_one-good t ss v false) in
    let q = has-reading t w (but_one ss v true) ss cs all o (but_one-good t ss v true) in
    let sz : get_or ss v sort.Bool ≡ z = get_or_from_slice_get ss v z sort.Bool sv in
    let a : p.0 v ≡ any_value z = p.2 v c is u ∙ ap (λ b. if b then other_value (get_or ss v sort.Bool) else any_value (get_or ss v sort.Bool)) (and-false (nat_eq v v)) ∙ ap any_value sz in
    let b : q.0 v ≡ other_value z = q.2 v c is u ∙ ap (λ b. if b then other_value (get_or ss v sort.Bool) else any_value (get_or ss v sort.Bool)) (ap (λ b. b && true) (eq-eqb v v refl)) ∙ ap other_value sz in (
      p.0,
      q.0,
      p.1,
      q.1,
      λ e. forms-differ z n (sym (ap outermost a) ∙ e ∙ ap outermost b),
      λ r d at x ne. p.2 r d at x ∙ ap (λ b. if b then other_value (get_or ss r sort.Bool) else any_value (get_or ss r sort.Bool)) (and-false (nat_eq r v) ∙ sym (ap (λ b. b && true) (ne_eqb r v ne))) ∙ sym (q.2 r d at x),
    )
  where
    and-false : (b : Bool) → (b && false) ≡ false
    and-false true = refl
    and-false false = refl

-- An unbound cell and another cell where no link stands have different values at some values.
pub differ-somewhere : (t : Sorts) (w : Bits) (ss : List Sort) (cs : List Stored) → AllFinite cs → IsSorted t ss cs → (v r : ℕ) (c d : Stored) → slice_get cs v ≡ Some c → IsUnbound c → (z : Sort) → slice_get ss v ≡ Some z → (z ≡ sort.Bool → ⊥) →
    r ≢ v → slice_get cs r ≡ Some d → link_of d ≡ None →
    ((g : Reading) → IsReading t w ss cs g → g v ≡ g r) → ⊥
differ-somewhere t w ss cs all o v r c d is u z sv n ne ir link h =
    let k = two-forms t w ss cs all o v c is u z sv n in
    k.4 (ap outermost (h k.0 k.2) ∙ same d k.0 k.1 k.2 k.3 ir link k.5 ∙ sym (ap outermost (h k.1 k.3)))
  where
    solid : (d : Stored) (f : Outermost) (g h : Reading) → CellHolds w g r d → CellHolds w h r d → form_of d ≡ Some f → outermost (g r) ≡ outermost (h r)
    solid d f g h a b e = form-tells w g r d f a e ∙ sym (form-tells w h r d f b e)

    same : (d : Stored) (g h : Reading) → IsReading t w ss cs g → IsReading t w ss cs h → slice_get cs r ≡ Some d → link_of d ≡ None →
        ((q : ℕ) (e : Stored) → slice_get cs q ≡ Some e → IsUnbound e → q ≢ v → g q ≡ h q) → outermost (g r) ≡ outermost (h r)
    same cell.BusVar g h a b at l f = ap outermost (f r cell.BusVar at tt ne)
    same cell.TermVar g h a b at l f = ap outermost (f r cell.TermVar at tt ne)
    same (cell.Leaf s) g h a b at l f = solid (cell.Leaf s) _ g h (a.holds r _ at) (b.holds r _ at) refl
    same cell.BusNil g h a b at l f = solid cell.BusNil _ g h (a.holds r _ at) (b.holds r _ at) refl
    same (cell.BusCons x y) g h a b at l f = solid (cell.BusCons x y) _ g h (a.holds r _ at) (b.holds r _ at) refl
    same (cell.Int i) g h a b at l f = solid (cell.Int i) _ g h (a.holds r _ at) (b.holds r _ at) refl
    same (cell.Node m k) g h a b at l f = solid (cell.Node m k) _ g h (a.holds r _ at) (b.holds r _ at) refl
    same (cell.Bound to) g h a b at l f = absurd (no_some _ to l refl)
    same (cell.Same to) g h a b at l f = absurd (no_some _ to l refl)

-- ---- the whole heap is finite again

-- what isn't rewritten names what it named: where every rewritten cell is finite, all are
pub all-finite : (old new : List Stored) → AllFinite old → ((r : ℕ) → (slice_get new r ≡ slice_get old r) ⊎ IsFinite new r) → AllFinite new
all-finite old new all f r = go r (all r)
  where
    go : (r : ℕ) → IsFinite old r → IsFinite new r
    go r (ends k) = elim (f r) [
      | inl same ↦ ends (λ j child. go j (k j (child.0, sym same ∙ child.1, child.2)))
      | inr finite ↦ finite
    ]
