-- Steps of unification, each an equivalence for every choice of bits and values.
use Rattle.std.proofs.Common.{◌≡◌, ◌≢◌, inl, inr, ℕ, zero, suc, ◌↔◌, Bool, List, [], ◌∷◌, map, Option, Some, None, refl, sym, ap, subst, ◌∙◌}
use Rattle.std.specs.Prelude.{slice_get, slice_set}
use Rattle.std.proofs.lemmas.Bool.{cases_eq}
use Rattle.std.specs.Option.{option_map_or}
use Rattle.cb_model.specs.declared.Sort.{Sort}
use Rattle.cb_model.specs.declared.Sort.TheVariants as sort
use Rattle.cb_model.specs.Bits.{Bits, numbers_from}
use Rattle.cb_model.specs.Values.{Ground, Bit, Word, Int, Name, Grounds, Last, More, grounds, Sorts, Fits}
use Rattle.cb_model.specs.Derivation.{Outermost, outermost}
use Rattle.cb_heap.specs.declared.Stored.{Stored}
use Rattle.cb_heap.specs.declared.Ref.{Ref}
use Rattle.cb_heap.specs.declared.Stored.TheVariants as cell
use Rattle.cb_heap.specs.Reading.{Reading, CellHolds, CellsHold, IsReading, Agree, side_by_side, IsUnbound, form_of}

-- ---- lists

pub no_some : {X : Type 0} (o : Option X) (x : X) → o ≡ None → o ≡ Some x → ⊥
no_some o x e h = cc

pub some-inj : {X : Type 0} (x y : X) → Some x ≡ Some y → x ≡ y
some-inj x y e = ap (λ o. option_map_or (λ z. z) o x) e

pub get-set-same : {X : Type 0} (xs : List X) (v : ℕ) (x y : X) → slice_get xs v ≡ Some x → slice_get (slice_set xs v y) v ≡ Some y
get-set-same [] v x y h = absurd (no_some _ x refl h)
get-set-same (z ∷ zs) zero x y h = refl
get-set-same (z ∷ zs) (suc v) x y h = get-set-same zs v x y h

pub get-set-other : {X : Type 0} (xs : List X) (v r : ℕ) (y : X) → r ≢ v → slice_get (slice_set xs v y) r ≡ slice_get xs r
get-set-other [] v r y n = refl
get-set-other (z ∷ zs) zero zero y n = absurd (n refl)
get-set-other (z ∷ zs) zero (suc r) y n = refl
get-set-other (z ∷ zs) (suc v) zero y n = refl
get-set-other (z ∷ zs) (suc v) (suc r) y n = get-set-other zs v r y (λ e. n (ap suc e))

-- ---- one cell rewritten

module _ (w : Bits) (cs : List Stored) (g : Reading) (v : ℕ) (c d : Stored) (is : slice_get cs v ≡ Some d) where
  pub holds-into : CellsHold w cs g → CellHolds w g v c → CellsHold w (slice_set cs v c) g
  holds-into h new r e at = elim (cases_eq r v) [
    | inl same ↦
        let one : slice_get (slice_set cs v c) r ≡ Some c = subst (λ q. slice_get (slice_set cs v c) q ≡ Some c) (sym same) (get-set-same cs v d c is) in
        subst (λ q. CellHolds w g q e) (sym same) (subst (λ q. CellHolds w g v q) (some-inj c e (sym one ∙ at)) new)
    | inr other ↦ h r e (sym (get-set-other cs v r c other) ∙ at)
  ]

  pub holds-back : CellsHold w (slice_set cs v c) g → CellHolds w g v d → CellsHold w cs g
  holds-back h old r e at = elim (cases_eq r v) [
    | inl same ↦
        let one : slice_get cs r ≡ Some d = subst (λ q. slice_get cs q ≡ Some d) (sym same) is in
        subst (λ q. CellHolds w g q e) (sym same) (subst (λ q. CellHolds w g v q) (some-inj d e (sym one ∙ at)) old)
    | inr other ↦ h r e (get-set-other cs v r c other ∙ at)
  ]

  pub holds-new : CellsHold w (slice_set cs v c) g → CellHolds w g v c
  holds-new h = h v c (get-set-same cs v d c is)

  pub holds-old : CellsHold w cs g → CellHolds w g v d
  holds-old h = h v d is

-- ---- a variable is bound: nothing is lost and nothing is gained

unbound-holds : (w : Bits) (g : Reading) (v : ℕ) (d : Stored) → IsUnbound d → CellHolds w g v d
unbound-holds w g v cell.BusVar u = tt
unbound-holds w g v cell.TermVar u = tt
unbound-holds w g v (cell.Leaf s) u = absurd u
unbound-holds w g v cell.BusNil u = absurd u
unbound-holds w g v (cell.BusCons h l) u = absurd u
unbound-holds w g v (cell.Int z) u = absurd u
unbound-holds w g v (cell.Node n k) u = absurd u
unbound-holds w g v (cell.Bound to) u = absurd u
unbound-holds w g v (cell.Same to) u = absurd u

pub bound-step : (t : Sorts) (w : Bits) (ss : List Sort) (cs : List Stored) (g : Reading) (v : ℕ) (to : Ref) (d : Stored) →
    slice_get cs v ≡ Some d → IsUnbound d →
    (IsReading t w ss cs g × (g v ≡ g to.0)) ↔ IsReading t w ss (slice_set cs v (cell.Bound to)) g
bound-step t w ss cs g v to d is u = (
  λ p. record { fits = p.0.fits; holds = holds-into w cs g v (cell.Bound to) d is p.0.holds p.1 },
  λ q. (record { fits = q.fits; holds = holds-back w cs g v (cell.Bound to) d is q.holds (unbound-holds w g v d u) }, holds-new w cs g v (cell.Bound to) d is q.holds),
)

-- two cells are made one: what the first said is left to be said
pub same-step : (t : Sorts) (w : Bits) (ss : List Sort) (cs : List Stored) (g : Reading) (v : ℕ) (to : Ref) (d : Stored) →
    slice_get cs v ≡ Some d →
    (IsReading t w ss cs g × (g v ≡ g to.0)) ↔ (IsReading t w ss (slice_set cs v (cell.Same to)) g × CellHolds w g v d)
same-step t w ss cs g v to d is = (
  λ p. (record { fits = p.0.fits; holds = holds-into w cs g v (cell.Same to) d is p.0.holds p.1 }, holds-old w cs g v (cell.Same to) d is p.0.holds),
  λ q. (record { fits = q.0.fits; holds = holds-back w cs g v (cell.Same to) d is q.0.holds q.1 }, holds-new w cs g v (cell.Same to) d is q.0.holds),
)

-- ---- what is left to be said, form by form

bit_in : Ground → Bool
bit_in (Bit x) = x
bit_in _ = Bool.false

word_in : Ground → List Bool
word_in (Word xs) = xs
word_in _ = []

args_in : Ground → Grounds
args_in (Name n gs) = gs
args_in _ = Last

head_in : List Bool → Bool
head_in (x ∷ xs) = x
head_in [] = Bool.false

tail_in : List Bool → List Bool
tail_in (x ∷ xs) = xs
tail_in [] = []

pub bit-inj : (x y : Bool) → Bit x ≡ Bit y → x ≡ y
unfolding bit_in
bit-inj x y e = ap bit_in e

pub word-inj : (xs ys : List Bool) → Word xs ≡ Word ys → xs ≡ ys
unfolding word_in
word-inj xs ys e = ap word_in e

pub args-inj : (n m : ℕ) (xs ys : Grounds) → Name n xs ≡ Name m ys → xs ≡ ys
unfolding args_in
args-inj n m xs ys e = ap args_in e

cons-inj : (x y : Bool) (xs ys : List Bool) → x ∷ xs ≡ y ∷ ys → (x ≡ y) × (xs ≡ ys)
unfolding head_in tail_in
cons-inj x y xs ys e = (ap head_in e, ap tail_in e)

more-head : Grounds → Ground
more-head (More g gs) = g
more-head Last = Bit Bool.false

more-tail : Grounds → Grounds
more-tail (More g gs) = gs
more-tail Last = Last

more-inj : (x y : Ground) (xs ys : Grounds) → More x xs ≡ More y ys → (x ≡ y) × (xs ≡ ys)
unfolding more-head more-tail
more-inj x y xs ys e = (ap more-head e, ap more-tail e)

pub leaf-left : (w : Bits) (g : Reading) (v s z : ℕ) → g v ≡ Bit (w s) → CellHolds w g v (cell.Leaf z) ↔ (w s ≡ w z)
leaf-left w g v s z h = (λ q. bit-inj (w s) (w z) (sym h ∙ q), λ e. h ∙ ap Bit e)

pub cons-left : (w : Bits) (g : Reading) (v : ℕ) (h l h' l' : Ref) → CellHolds w g v (cell.BusCons h l) →
    CellHolds w g v (cell.BusCons h' l') ↔ ((g h.0 ≡ g h'.0) × (g l.0 ≡ g l'.0))
cons-left w g v h l h' l' p = (
  λ q. let e = cons-inj p.0 q.0 p.1 q.1 (word-inj (p.0 ∷ p.1) (q.0 ∷ q.1) (sym p.4 ∙ q.4)) in (p.2 ∙ ap Bit e.0 ∙ sym q.2, p.3 ∙ ap Word e.1 ∙ sym q.3),
  λ e. (p.0, p.1, sym e.0 ∙ p.2, sym e.1 ∙ p.3, p.4),
)

pub all-left : (g : Reading) (i j k : ℕ) → (grounds (map g (numbers_from i k)) ≡ grounds (map g (numbers_from j k))) ↔ Agree g (side_by_side i j k)
all-left g i j zero = (λ _. tt, λ _. refl)
all-left g i j (suc k) = (
  λ e. let p = more-inj (g i) (g j) (grounds (map g (numbers_from (suc i) k))) (grounds (map g (numbers_from (suc j) k))) e in (p.0, (all-left g (suc i) (suc j) k).0 p.1),
  λ a. ap (λ x. More x (grounds (map g (numbers_from (suc i) k)))) a.0 ∙ ap (λ xs. More (g j) xs) ((all-left g (suc i) (suc j) k).1 a.1),
)

pub node-left : (w : Bits) (g : Reading) (v to n k : ℕ) → g v ≡ Name n (grounds (map g (numbers_from (suc to) k))) →
    CellHolds w g v (cell.Node n k) ↔ Agree g (side_by_side (suc to) (suc v) k)
node-left w g v to n k h = (
  λ q. (all-left g (suc to) (suc v) k).0 (args-inj n n _ _ (sym h ∙ q)),
  λ a. h ∙ ap (λ gs. Name n gs) ((all-left g (suc to) (suc v) k).1 a),
)

-- ---- clash

pub form-tells : (w : Bits) (g : Reading) (r : ℕ) (c : Stored) (f : Outermost) → CellHolds w g r c → form_of c ≡ Some f → outermost (g r) ≡ f
form-tells w g r (cell.Leaf s) f h e = ap outermost h ∙ some-inj _ f e
form-tells w g r cell.BusNil f h e = ap outermost h ∙ some-inj _ f e
form-tells w g r (cell.BusCons a b) f h e = ap outermost h.4 ∙ some-inj _ f e
form-tells w g r (cell.Int z) f h e = ap outermost h ∙ some-inj _ f e
form-tells w g r (cell.Node n k) f h e = ap outermost h ∙ some-inj _ f e
form-tells w g r cell.BusVar f h e = absurd (no_some _ f refl e)
form-tells w g r cell.TermVar f h e = absurd (no_some _ f refl e)
form-tells w g r (cell.Bound to) f h e = absurd (no_some _ f refl e)
form-tells w g r (cell.Same to) f h e = absurd (no_some _ f refl e)

pub clash : (w : Bits) (cs : List Stored) (g : Reading) (l r : ℕ) (c d : Stored) (e f : Outermost) → CellsHold w cs g →
    slice_get cs l ≡ Some c → slice_get cs r ≡ Some d → form_of c ≡ Some e → form_of d ≡ Some f → e ≢ f → g l ≡ g r → ⊥
clash w cs g l r c d e f h il ir ec fd ne same = ne (sym (form-tells w g l c e (h l c il) ec) ∙ ap outermost same ∙ form-tells w g r d f (h r d ir) fd)

-- a value has one sort
pub one-sort : (t : Sorts) (s z : Sort) (x : Ground) → Fits t s x → Fits t z x → s ≡ z
one-sort t sort.Bool sort.Bool x a b = refl
one-sort t sort.Bus sort.Bus x a b = refl
one-sort t sort.Term sort.Term x a b = refl
one-sort t sort.Bool sort.Bus (Bit x) a b = absurd b
one-sort t sort.Bool sort.Term (Bit x) a b = absurd b
one-sort t sort.Bus sort.Bool (Word x) a b = absurd b
one-sort t sort.Bus sort.Term (Word x) a b = absurd b
one-sort t sort.Term sort.Bool (Int x) a b = absurd b
one-sort t sort.Term sort.Bus (Int x) a b = absurd b
one-sort t sort.Term sort.Bool (Name n x) a b = absurd b
one-sort t sort.Term sort.Bus (Name n x) a b = absurd b
one-sort t sort.Bool sort.Bus (Word x) a b = absurd a
one-sort t sort.Bool sort.Term (Word x) a b = absurd a
one-sort t sort.Bus sort.Bool (Bit x) a b = absurd a
one-sort t sort.Bus sort.Term (Bit x) a b = absurd a
one-sort t sort.Term sort.Bool (Bit x) a b = absurd a
one-sort t sort.Term sort.Bus (Bit x) a b = absurd a
one-sort t sort.Bool sort.Bus (Int x) a b = absurd a
one-sort t sort.Bool sort.Term (Int x) a b = absurd a
one-sort t sort.Bus sort.Bool (Int x) a b = absurd a
one-sort t sort.Bus sort.Term (Int x) a b = absurd a
one-sort t sort.Term sort.Bool (Word x) a b = absurd a
one-sort t sort.Term sort.Bus (Word x) a b = absurd a
one-sort t sort.Bool sort.Bus (Name n x) a b = absurd a
one-sort t sort.Bool sort.Term (Name n x) a b = absurd a
one-sort t sort.Bus sort.Bool (Name n x) a b = absurd a
one-sort t sort.Bus sort.Term (Name n x) a b = absurd a
