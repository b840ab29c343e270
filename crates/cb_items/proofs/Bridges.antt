-- From what the calls of a state promise to what a branch keeps of it.
use Rattle.std.proofs.Common.{◌≡◌, ◌↔◌, ◌⊎◌, inl, inr, ℕ, zero, suc, ◌+◌, ◌-◌, ◌<◌, ◌≤◌, Bool, true, false, List, [], ◌∷◌, ◌++◌, length, map, Option, Some, None, pos, refl, sym, ap, subst, ◌∙◌, arith}
use Rattle.std.specs.Prelude.{slice_get}
use Rattle.cb_laws.proofs.Tables.{zero_fits}
use Rattle.cb_laws.proofs.Values.{value-node}
use Rattle.cb_model.specs.declared.Sort.{Sort}
use Rattle.cb_model.specs.declared.Sort.TheVariants as sort
use Rattle.cb_model.specs.declared.Tree.{Tree}
use Rattle.cb_model.specs.declared.Tree.TheVariants as tree
use Rattle.cb_model.specs.Bits.{Bits, Each}
use Rattle.cb_model.specs.Values.{Ground, Bit, Word, Int, Name, grounds, Sorts, Fits, World, Valuation, IsValuation, tree_value}
use Rattle.cb_model.specs.Equations.{Item, Pair, Holds, Sat, Solvable, Refuted}
use Rattle.cb_model.specs.Program.{shift_tree}
use Rattle.cb_elim.specs.Store.{view_of}
use Rattle.cb_heap.specs.Reading.{Reading, Agree}
use Rattle.cb_unify.specs.State.{Seen, Reads, Gives, InVals, IsState, IsSolved, HasNone, FitsTable, value_of, with_fulls}
use Rattle.cb_unify.specs.Growth.{FrameGives, IsBuilt, IsExtended, IsGrown, IsOpened}
use Rattle.cb_items.specs.Shifted.{shifted, IsShifted}
use Rattle.cb_items.specs.Standing.{Stands, IsPlace, IsFrame, IsVals, Says}
use Rattle.cb_items.proofs.Lists.{some-one, got-front, got-back, got-within, got-left, some-of, each-snoc, each-front, each-at, append-nil, length-append}
use Rattle.cb_items.proofs.Shifts.{shifted-value}

-- ---- 1. growth

pub gives-back : (old new : Seen) → IsGrown old new → (g : Reading) (b : Valuation) → Gives new g b → Gives old g b
gives-back old new q g b h n r z e s = h n r z
    (ap (λ (xs : List ℕ). slice_get xs n) q.made.1 ∙ got-left old.made q.made.0 n r e)
    (ap (λ (xs : List Sort). slice_get xs r) q.sorts.1 ∙ got-left old.heap.sorts q.sorts.0 r z s)

pub stands-later : (t : Sorts) (old new : Seen) (r : ℕ) (x : Tree) → IsGrown old new → Stands t old r x → Stands t new r x
stands-later t old new r x q s a w g b h v = s a w g b (q.reads t a w g h) (gives-back old new q g b v)

pub frame-later : (old new : Seen) (base : ℕ) (zs : List Sort) (frame : List ℕ) → IsGrown old new → IsFrame old base zs frame → IsFrame new base zs frame
frame-later old new base zs frame q f = record {
  number = f.number;
  within = let l : length new.made ≡ length old.made + length q.made.0 = ap (λ (xs : List ℕ). length xs) q.made.1 ∙ length-append old.made q.made.0 in let h = f.within in omega arith;
  places = λ k z e. let p = f.places k z e in record {
    cell = p.cell;
    at = p.at;
    made = ap (λ (xs : List ℕ). slice_get xs (base + k)) q.made.1 ∙ got-left old.made q.made.0 (base + k) p.cell p.made;
    sort = ap (λ (xs : List Sort). slice_get xs p.cell) q.sorts.1 ∙ got-left old.heap.sorts q.sorts.0 p.cell z p.sort;
  };
}

-- ---- a valuation for each reading

bit_in : Ground → Bool
bit_in (Bit x) = x
bit_in _ = false

word_in : Ground → List Bool
word_in (Word xs) = xs
word_in _ = []

bit_or : Reading → Option ℕ → Bool
bit_or g (Some r) = bit_in (g r)
bit_or g None = false

word_or : Reading → Option ℕ → List Bool
word_or g (Some r) = word_in (g r)
word_or g None = []

pick : Ground → Option Sort → Ground
pick x (Some sort.Term) = x
pick x _ = Int (pos 0)

term_or : Reading → List Sort → Option ℕ → Ground
term_or g ss (Some r) = pick (g r) (slice_get ss r)
term_or g ss None = Int (pos 0)

abbrev valuation_of : Seen → Reading → Valuation
valuation_of s g = record { bits = λ n. bit_or g (slice_get s.made n); words = λ n. word_or g (slice_get s.made n); terms = λ n. term_or g s.heap.sorts (slice_get s.made n) }

module _ (t : Sorts) where
  is-bit : (x : Ground) → Fits t sort.Bool x → Bit (bit_in x) ≡ x
  unfolding bit_in
  is-bit (Bit x) h = refl
  is-bit (Word x) h = absurd h
  is-bit (Int x) h = absurd h
  is-bit (Name n x) h = absurd h

  is-word : (x : Ground) → Fits t sort.Bus x → Word (word_in x) ≡ x
  unfolding word_in
  is-word (Word x) h = refl
  is-word (Bit x) h = absurd h
  is-word (Int x) h = absurd h
  is-word (Name n x) h = absurd h

  pick-fits : (x : Ground) (o : Option Sort) → ((z : Sort) → o ≡ Some z → Fits t z x) → Fits t sort.Term (pick x o)
  unfolding pick
  pick-fits x (Some sort.Term) f = f sort.Term refl
  pick-fits x (Some sort.Bool) f = zero_fits
  pick-fits x (Some sort.Bus) f = zero_fits
  pick-fits x None f = zero_fits

  term-fits : (g : Reading) (ss : List Sort) (o : Option ℕ) → ((r : ℕ) (z : Sort) → slice_get ss r ≡ Some z → Fits t z (g r)) → Fits t sort.Term (term_or g ss o)
  unfolding term_or
  term-fits g ss (Some r) f = pick-fits (g r) (slice_get ss r) (f r)
  term-fits g ss None f = zero_fits

  given : (s : Seen) (g : Reading) → ((r : ℕ) (z : Sort) → slice_get s.heap.sorts r ≡ Some z → Fits t z (g r)) → Gives s g (valuation_of s g)
  unfolding bit_or word_or term_or pick
  given s g f n r sort.Bool e h = ap (λ o. Bit (bit_or g o)) e ∙ is-bit (g r) (f r sort.Bool h)
  given s g f n r sort.Bus e h = ap (λ o. Word (word_or g o)) e ∙ is-word (g r) (f r sort.Bus h)
  given s g f n r sort.Term e h = ap (λ o. term_or g s.heap.sorts o) e ∙ ap (λ o. pick (g r) o) h

  -- each reading gives a valuation
  pub some-gives : (s : Seen) (a w : Bits) (g : Reading) → Reads t s a w g → (b : Valuation) × ((n : ℕ) → Fits t sort.Term (b.terms n)) × Gives s g b
  some-gives s a w g h = (valuation_of s g, λ n. term-fits g s.heap.sorts (slice_get s.made n) h.reading.fits, given s g h.reading.fits)

-- ---- 2. a solved pair

module _ (old new : Seen) (sorts : new.heap.sorts ≡ old.heap.sorts) (made : new.made ≡ old.made) where
  gives-old : (g : Reading) (b : Valuation) → Gives new g b → Gives old g b
  gives-old g b h n r z e s = h n r z (ap (λ (xs : List ℕ). slice_get xs n) made ∙ e) (ap (λ (xs : List Sort). slice_get xs r) sorts ∙ s)

  gives-new : (g : Reading) (b : Valuation) → Gives old g b → Gives new g b
  gives-new g b h n r z e s = h n r z (ap (λ (xs : List ℕ). slice_get xs n) (sym made) ∙ e) (ap (λ (xs : List Sort). slice_get xs r) (sym sorts) ∙ s)

  module _ (ps : List (ℕ × ℕ)) (solved : IsSolved old new ps) where
    pub solved-grown : IsGrown old new
    solved-grown = record { reads = λ t a w g h. ((solved.left t a w g).0 h).0; made = ([], made ∙ sym (append-nil old.made)); sorts = ([], sorts ∙ sym (append-nil old.heap.sorts)) }

    pub solved-vals : (t : Sorts) (x : Item) → Says t old ps x → (a : Bits) (b : Valuation) → InVals t new a b ↔ (InVals t old a b × Holds a b x)
    solved-vals t x says a b = (
      λ i.
          let j = (solved.left t a i.0 i.1).0 i.2 in
          let v = gives-old i.1 b i.3 in
          ((i.0, i.1, j.0, v), (says a i.0 i.1 b j.0 v).0 j.1),
      λ i.
          let k = i.0 in
          (k.0, k.1, (solved.left t a k.0 k.1).1 (k.2, (says a k.0 k.1 b k.2 k.3).1 i.1), gives-new k.1 b k.3),
    )

    pub solved-items : (w : World) (es : List Item) (x : Item) → IsVals w old es → Says w.arguments old ps x → IsVals w new (es ++ x ∷ [])
    solved-items w es x vals says a b is = (
      λ i. let j = (solved-vals w.arguments x says a b).0 i in each-snoc (Holds a b) es x ((vals a b is).0 j.0) j.1,
      λ h. let j = each-front (Holds a b) es x h in (solved-vals w.arguments x says a b).1 ((vals a b is).1 j.0, j.1),
    )

    pub solved-solvable : (w : World) (es : List Item) → FitsTable w.arguments old → IsVals w new es → Solvable w es
    solved-solvable w es fits vals a adm =
        let s = solved.some w.arguments fits a in
        let v = some-gives w.arguments new a s.0 s.1 s.2 in
        record { b = v.0; sorted = v.1; sat = (vals a v.0 v.1).0 (s.0, s.1, s.2, v.2) }

pub none-refuted : (w : World) (old : Seen) (es : List Item) (ps : List (ℕ × ℕ)) (x : Item) → HasNone old ps → IsVals w old es → Says w.arguments old ps x → Refuted w (es ++ x ∷ [])
none-refuted w old es ps x n vals says = record {
  a = n.at;
  admitted = tt;
  none = λ b is h.
      let j = each-front (Holds n.at b) es x h in
      let k = (vals n.at b is).1 j.0 in
      n.none w.arguments k.0 k.1 k.2 ((says n.at k.0 k.1 b k.2 k.3).1 j.1);
}

-- two cells that stand for two trees
pub pair-says : (t : Sorts) (s : Seen) (l r : ℕ) (x y : Tree) → Stands t s l x → Stands t s r y → Says t s ((l, r) ∷ []) (Pair x y)
pair-says t s l r x y p q a w g b h v = (λ e. sym (p a w g b h v) ∙ e.0 ∙ q a w g b h v, λ e. (p a w g b h v ∙ e ∙ sym (q a w g b h v), tt))

-- ---- 3. new variables

-- what is made has cells, from a state that is one
pub made-there : (s : Seen) → IsState s → (n r : ℕ) → slice_get s.made n ≡ Some r → r < length s.heap.sorts
made-there s is n r e = let h : r < length s.heap.cells = each-at (λ k. k < length s.heap.cells) s.made n r is.made e in let l = is.heap.number in omega arith

-- the values that a valuation has for the variables from base on, by their sorts
value_or : Valuation → ℕ → Option Sort → Ground
value_or b n (Some z) = value_of b z n
value_or b n None = Bit false

module _ (old new : Seen) (zs : List Sort) (frame : List ℕ) (opened : IsOpened old new zs frame) (there : (n r : ℕ) → slice_get old.made n ≡ Some r → r < length old.heap.sorts) where
  made-back : (k : ℕ) → slice_get new.made (length old.made + k) ≡ slice_get frame k
  made-back k = ap (λ (xs : List ℕ). slice_get xs (length old.made + k)) opened.made ∙ got-back old.made frame k

  pub opened-frame : IsFrame new (length old.made) zs frame
  opened-frame = record {
    number = opened.number;
    within = let l : length new.made ≡ length old.made + length frame = ap (λ (xs : List ℕ). length xs) opened.made ∙ length-append old.made frame in let n = opened.number in omega arith;
    places = λ k z e.
        let c = some-of frame k (let h = got-within zs k z e in let n = opened.number in omega arith) in
        record { cell = c.0; at = c.1; made = made-back k ∙ c.1; sort = opened.sorts k c.0 z e c.1 };
  }

  module _ (t : Sorts) (b : Valuation) (is : (n : ℕ) → Fits t sort.Term (b.terms n)) where
    fits-of : (z : Sort) (n : ℕ) → Fits t z (value_of b z n)
    fits-of sort.Bool n = tt
    fits-of sort.Bus n = tt
    fits-of sort.Term n = is n

    wanted : ℕ → Ground
    wanted k = value_or b (length old.made + k) (slice_get zs k)

    wanted-is : (k : ℕ) (z : Sort) → slice_get zs k ≡ Some z → wanted k ≡ value_of b z (length old.made + k)
    unfolding wanted value_or
    wanted-is k z e = ap (λ o. value_or b (length old.made + k) o) e

    wanted-fits : (k : ℕ) (z : Sort) → slice_get zs k ≡ Some z → Fits t z (wanted k)
    wanted-fits k z e = subst (λ x. Fits t z x) (sym (wanted-is k z e)) (fits-of z (length old.made + k))

    module _ (g g' : Reading) (v : Gives old g b) (same : (r : ℕ) → r < length old.heap.sorts → g' r ≡ g r) (news : (k r : ℕ) → slice_get frame k ≡ Some r → g' r ≡ wanted k) where
      gives-front : (n r : ℕ) (z : Sort) → n < length old.made → slice_get new.made n ≡ Some r → slice_get new.heap.sorts r ≡ Some z → value_of b z n ≡ g' r
      gives-front n r z less e h =
          let e0 : slice_get old.made n ≡ Some r = sym (got-front old.made frame n less) ∙ ap (λ (xs : List ℕ). slice_get xs n) (sym opened.made) ∙ e in
          let w = there n r e0 in
          let q = opened.grown.sorts in
          let h0 : slice_get old.heap.sorts r ≡ Some z = sym (got-front old.heap.sorts q.0 r w) ∙ ap (λ (xs : List Sort). slice_get xs r) (sym q.1) ∙ h in
          v n r z e0 h0 ∙ sym (same r w)

      gives-behind : (k r : ℕ) (z : Sort) → slice_get new.made (length old.made + k) ≡ Some r → slice_get new.heap.sorts r ≡ Some z → value_of b z (length old.made + k) ≡ g' r
      gives-behind k r z e h =
          let f : slice_get frame k ≡ Some r = sym (made-back k) ∙ e in
          let y = some-of zs k (let l = got-within frame k r f in let n = opened.number in omega arith) in
          let s : y.0 ≡ z = some-one y.0 z (sym (opened.sorts k r y.0 y.1 f) ∙ h) in
          sym (wanted-is k z (y.1 ∙ ap Some s)) ∙ sym (news k r f)

      opened-gives : Gives new g' b
      opened-gives n r z e h = elim (split n (length old.made)) [
        | inl less ↦ gives-front n r z less e h
        | inr more ↦ subst (λ m. value_of b z m ≡ g' r) (sym more.1) (gives-behind more.0 r z (ap (λ m. slice_get new.made m) (sym more.1) ∙ e) h)
      ]
        where
          split : (n m : ℕ) → (n < m) ⊎ ((k : ℕ) × (n ≡ m + k))
          split n zero = inr (n, omega arith)
          split zero (suc m) = inl (omega arith)
          split (suc n) (suc m) = elim (split n m) [
            | inl a ↦ inl (omega arith)
            | inr a ↦ inr (a.0, let h = a.1 in omega arith)
          ]

    pub opened-vals : (a : Bits) → InVals t new a b ↔ InVals t old a b
    opened-vals a = (
      λ i. (i.0, i.1, opened.grown.reads t a i.0 i.1 i.2, gives-back old new opened.grown i.1 b i.3),
      λ i. let n = opened.any t a i.0 i.1 i.2 wanted wanted-fits in (n.0, n.1, n.2, opened-gives i.1 n.1 i.3 n.3 n.4),
    )

  pub opened-items : (w : World) (es : List Item) → IsVals w old es → IsVals w new es
  opened-items w es vals a b is = let j = opened-vals w.arguments b is a in (λ i. (vals a b is).0 (j.0 i), λ h. j.1 ((vals a b is).1 h))

-- ---- 4. a tree that was built

-- where the frame is the variables from base on, what the tree's variables have is what the renamed tree's have
frame-gives : (s : Seen) (base : ℕ) (zs : List Sort) (frame : List ℕ) (g : Reading) (b : Valuation) → IsFrame s base zs frame → Gives s g b → FrameGives zs frame g (shifted base b)
frame-gives s base zs frame g b f v k r z e h =
    let p = f.places k z e in
    let same : p.cell ≡ r = some-one p.cell r (sym p.at ∙ h) in
    shifted-of z ∙ v (base + k) p.cell z p.made p.sort ∙ ap g same
  where
    shifted-of : (z : Sort) → value_of (shifted base b) z k ≡ value_of b z (base + k)
    shifted-of sort.Bool = refl
    shifted-of sort.Bus = refl
    shifted-of sort.Term = refl

pub built-stands : (t : Sorts) (old new : Seen) (zs : List Sort) (frame : List ℕ) (x y : Tree) (r : ℕ) → IsBuilt new zs frame x r → IsGrown old new →
    (base : ℕ) → IsFrame old base zs frame → IsShifted base x y → Stands t new r y
built-stands t old new zs frame x y r is grown base f same a w g b h v =
    is t a w g (shifted base b) h (frame-gives new base zs frame g b (frame-later old new base zs frame grown f) v) ∙ sym (same a b)

module _ (old new : Seen) (ext : IsExtended old new) (there : (n r : ℕ) → slice_get old.made n ≡ Some r → r < length old.heap.sorts) where
  extended-gives : (g g' : Reading) (b : Valuation) → ((r : ℕ) → r < length old.heap.sorts → g' r ≡ g r) → Gives old g b → Gives new g' b
  extended-gives g g' b same v n r z e h =
      let e0 : slice_get old.made n ≡ Some r = ap (λ (xs : List ℕ). slice_get xs n) (sym ext.made) ∙ e in
      let w = there n r e0 in
      let q = ext.grown.sorts in
      let h0 : slice_get old.heap.sorts r ≡ Some z = sym (got-front old.heap.sorts q.0 r w) ∙ ap (λ (xs : List Sort). slice_get xs r) (sym q.1) ∙ h in
      v n r z e0 h0 ∙ sym (same r w)

  pub extended-vals : (t : Sorts) → FitsTable t new → (a : Bits) (b : Valuation) → InVals t new a b ↔ InVals t old a b
  extended-vals t fit a b = (
    λ i. (i.0, i.1, ext.grown.reads t a i.0 i.1 i.2, gives-back old new ext.grown i.1 b i.3),
    λ i. let n = ext.any t fit a i.0 i.1 i.2 in (i.0, n.0, n.1, extended-gives i.1 n.0 b n.2 i.3),
  )

  pub extended-items : (w : World) → FitsTable w.arguments new → (es : List Item) → IsVals w old es → IsVals w new es
  extended-items w fit es vals a b is = let j = extended-vals w.arguments fit a b in (λ i. (vals a b is).0 (j.0 i), λ h. j.1 ((vals a b is).1 h))

-- ---- 6. a resolution: a frame, the head, and one pair

many-shifted : (a : Bits) (b : Valuation) (k : ℕ) (ts : List Tree) → map (tree_value a (shifted k b)) ts ≡ map (tree_value a b) (map (shift_tree k) ts)
many-shifted a b k [] = refl
many-shifted a b k (x ∷ ts) = let e = sym (shifted-value a b k x) in let f = many-shifted a b k ts in λ i. e i ∷ f i

pub head-shifted : (k n : ℕ) (ts : List Tree) → IsShifted k (tree.Node n ts) (tree.Node n (map (shift_tree k) ts))
head-shifted k n ts a b =
    value-node a b n (map (shift_tree k) ts) ∙ ap (λ (gs : List Ground). Name n (grounds gs)) (sym (many-shifted a b k ts)) ∙ sym (value-node a (shifted k b) n ts)

-- ---- 7. the count of refusals is not looked at

pub fulls-grown : (n : ℕ) (s : Seen) → IsGrown s (with_fulls n s)
unfolding view_of
fulls-grown n s = record { reads = λ t a w g h. record { range = h.range; reading = h.reading }; made = ([], sym (append-nil s.made)); sorts = ([], sym (append-nil s.heap.sorts)) }

pub fulls-vals : (n : ℕ) (w : World) (s : Seen) (es : List Item) → IsVals w s es → IsVals w (with_fulls n s) es
unfolding view_of
fulls-vals n w s es vals a b is = (
  λ i. (vals a b is).0 (i.0, i.1, record { range = i.2.range; reading = i.2.reading }, i.3),
  λ h. let i = (vals a b is).1 h in (i.0, i.1, record { range = i.2.range; reading = i.2.reading }, i.3),
)
