-- What cells say, where other values are the same.
use Rattle.std.proofs.Common.{◌≡◌, inl, inr, ℕ, zero, suc, ◌+◌, ◌<◌, ◌≤◌, List, [], ◌∷◌, ◌++◌, map, Some, refl, sym, ap, subst, ◌∙◌, arith}
use Rattle.std.specs.Prelude.{slice_get}
use Rattle.cb_model.specs.declared.Sort.{Sort}
use Rattle.cb_model.specs.Bits.{Bits, numbers_from}
use Rattle.cb_model.specs.Values.{Bit, Name, grounds, Sorts}
use Rattle.cb_heap.specs.declared.Stored.{Stored}
use Rattle.cb_heap.specs.declared.Stored.TheVariants as cell
use Rattle.cb_heap.specs.Reading.{Reading, CellHolds, IsReading}
use Rattle.cb_heap.specs.Finite.{Names}
use Rattle.cb_heap.proofs.Steps.{no_some, some-inj}
use Rattle.cb_join.specs.Joins.{Rising}

pub same-map : (g h : Reading) (j k : ℕ) → ((i : ℕ) → j ≤ i → i < j + k → g i ≡ h i) → map g (numbers_from j k) ≡ map h (numbers_from j k)
same-map g h j zero f = refl
same-map g h j (suc k) f = let e = f j (omega arith) (omega arith) in let r = same-map g h (suc j) k (λ i a b. f i (omega arith) (omega arith)) in λ i. e i ∷ r i

-- a cell says the same where its value, those of the cells that it names and the bit of its slot are the same
pub holds-same : (w w' : Bits) (g h : Reading) (r : ℕ) (c : Stored) → h r ≡ g r → ((j : ℕ) → Names r c j → h j ≡ g j) → ((x : ℕ) → c ≡ cell.Leaf x → w' x ≡ w x) → CellHolds w g r c → CellHolds w' h r c
holds-same w w' g h r (cell.Leaf x) e f l q = e ∙ q ∙ ap Bit (sym (l x refl))
holds-same w w' g h r cell.BusVar e f l q = tt
holds-same w w' g h r cell.BusNil e f l q = e ∙ q
holds-same w w' g h r (cell.BusCons x y) e f l q = (q.0, q.1, f x.0 (inl refl) ∙ q.2, f y.0 (inr refl) ∙ q.3, e ∙ q.4)
holds-same w w' g h r cell.TermVar e f l q = tt
holds-same w w' g h r (cell.Int z) e f l q = e ∙ q
holds-same w w' g h r (cell.Node n k) e f l q = e ∙ q ∙ ap (λ xs. Name n (grounds xs)) (sym (same-map h g (suc r) k (λ i a b. f i (omega arith, omega arith))))
holds-same w w' g h r (cell.Bound to) e f l q = e ∙ q ∙ sym (f to.0 refl)
holds-same w w' g h r (cell.Same to) e f l q = e ∙ q ∙ sym (f to.0 refl)

-- a reading stays one where the leaves' slots have the same bits
pub reading-bits : (t : Sorts) (w w' : Bits) (ss : List Sort) (cs : List Stored) (g : Reading) → ((r x : ℕ) → slice_get cs r ≡ Some (cell.Leaf x) → w' x ≡ w x) → IsReading t w ss cs g → IsReading t w' ss cs g
reading-bits t w w' ss cs g same q = record {
  fits = q.fits;
  holds = λ r c at. holds-same w w' g g r c refl (λ j n. refl) (λ x e. same r x (at ∙ ap Some e)) (q.holds r c at);
}

-- ---- the slots of the leaves

pub rise-least : (n k : ℕ) (cs : List Stored) → Rising n k cs → k ≤ n
rise-least n k [] h = h
rise-least n k (cell.Leaf x ∷ cs) h = let a = h.0 in let b = rise-least n (suc x) cs h.1 in omega arith
rise-least n k (cell.BusVar ∷ cs) h = rise-least n k cs h
rise-least n k (cell.BusNil ∷ cs) h = rise-least n k cs h
rise-least n k (cell.BusCons x y ∷ cs) h = rise-least n k cs h
rise-least n k (cell.TermVar ∷ cs) h = rise-least n k cs h
rise-least n k (cell.Int z ∷ cs) h = rise-least n k cs h
rise-least n k (cell.Node m i ∷ cs) h = rise-least n k cs h
rise-least n k (cell.Bound to ∷ cs) h = rise-least n k cs h
rise-least n k (cell.Same to ∷ cs) h = rise-least n k cs h

-- more slots, and cells behind whose slots go on rising
pub rise-append : (n m k : ℕ) (cs more : List Stored) → Rising n k cs → Rising m n more → ((j : ℕ) → j ≤ n → Rising m j more) → Rising m k (cs ++ more)
rise-append n m k [] more h q low = low k h
rise-append n m k (cell.Leaf x ∷ cs) more h q low = (h.0, rise-append n m (suc x) cs more h.1 q low)
rise-append n m k (cell.BusVar ∷ cs) more h q low = rise-append n m k cs more h q low
rise-append n m k (cell.BusNil ∷ cs) more h q low = rise-append n m k cs more h q low
rise-append n m k (cell.BusCons x y ∷ cs) more h q low = rise-append n m k cs more h q low
rise-append n m k (cell.TermVar ∷ cs) more h q low = rise-append n m k cs more h q low
rise-append n m k (cell.Int z ∷ cs) more h q low = rise-append n m k cs more h q low
rise-append n m k (cell.Node i j ∷ cs) more h q low = rise-append n m k cs more h q low
rise-append n m k (cell.Bound to ∷ cs) more h q low = rise-append n m k cs more h q low
rise-append n m k (cell.Same to ∷ cs) more h q low = rise-append n m k cs more h q low

pub rise-more : (n m k : ℕ) (cs : List Stored) → n ≤ m → Rising n k cs → Rising m k cs
rise-more n m k [] l h = omega arith
rise-more n m k (cell.Leaf x ∷ cs) l h = (h.0, rise-more n m (suc x) cs l h.1)
rise-more n m k (cell.BusVar ∷ cs) l h = rise-more n m k cs l h
rise-more n m k (cell.BusNil ∷ cs) l h = rise-more n m k cs l h
rise-more n m k (cell.BusCons x y ∷ cs) l h = rise-more n m k cs l h
rise-more n m k (cell.TermVar ∷ cs) l h = rise-more n m k cs l h
rise-more n m k (cell.Int z ∷ cs) l h = rise-more n m k cs l h
rise-more n m k (cell.Node i j ∷ cs) l h = rise-more n m k cs l h
rise-more n m k (cell.Bound to ∷ cs) l h = rise-more n m k cs l h
rise-more n m k (cell.Same to ∷ cs) l h = rise-more n m k cs l h

same-slot : (x y : ℕ) (n : ℕ) → cell.Leaf x ≡ cell.Leaf y → x < n → y < n
same-slot x y n e l = subst (λ z. z < n) (ap slot-of e) l
  where
    slot-of : Stored → ℕ
    slot-of (cell.Leaf z) = z
    slot-of _ = x

-- the slot of a leaf is there
pub rise-below : (n k : ℕ) (cs : List Stored) → Rising n k cs → (r x : ℕ) → slice_get cs r ≡ Some (cell.Leaf x) → x < n
rise-below n k [] h r x e = absurd (no_some _ (cell.Leaf x) refl e)
rise-below n k (cell.Leaf y ∷ cs) h zero x e = same-slot y x n (some-inj (cell.Leaf y) (cell.Leaf x) e) (let b = rise-least n (suc y) cs h.1 in omega arith)
rise-below n k (cell.Leaf y ∷ cs) h (suc r) x e = rise-below n (suc y) cs h.1 r x e
rise-below n k (cell.BusVar ∷ cs) h zero x e = absurd (let d = some-inj cell.BusVar (cell.Leaf x) e in cc)
rise-below n k (cell.BusVar ∷ cs) h (suc r) x e = rise-below n k cs h r x e
rise-below n k (cell.BusNil ∷ cs) h zero x e = absurd (let d = some-inj cell.BusNil (cell.Leaf x) e in cc)
rise-below n k (cell.BusNil ∷ cs) h (suc r) x e = rise-below n k cs h r x e
rise-below n k (cell.BusCons i j ∷ cs) h zero x e = absurd (let d = some-inj (cell.BusCons i j) (cell.Leaf x) e in cc)
rise-below n k (cell.BusCons i j ∷ cs) h (suc r) x e = rise-below n k cs h r x e
rise-below n k (cell.TermVar ∷ cs) h zero x e = absurd (let d = some-inj cell.TermVar (cell.Leaf x) e in cc)
rise-below n k (cell.TermVar ∷ cs) h (suc r) x e = rise-below n k cs h r x e
rise-below n k (cell.Int z ∷ cs) h zero x e = absurd (let d = some-inj (cell.Int z) (cell.Leaf x) e in cc)
rise-below n k (cell.Int z ∷ cs) h (suc r) x e = rise-below n k cs h r x e
rise-below n k (cell.Node i j ∷ cs) h zero x e = absurd (let d = some-inj (cell.Node i j) (cell.Leaf x) e in cc)
rise-below n k (cell.Node i j ∷ cs) h (suc r) x e = rise-below n k cs h r x e
rise-below n k (cell.Bound to ∷ cs) h zero x e = absurd (let d = some-inj (cell.Bound to) (cell.Leaf x) e in cc)
rise-below n k (cell.Bound to ∷ cs) h (suc r) x e = rise-below n k cs h r x e
rise-below n k (cell.Same to ∷ cs) h zero x e = absurd (let d = some-inj (cell.Same to) (cell.Leaf x) e in cc)
rise-below n k (cell.Same to ∷ cs) h (suc r) x e = rise-below n k cs h r x e
