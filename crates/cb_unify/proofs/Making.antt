-- A state while a variable is made.
use Rattle.std.proofs.Common.{◌≡◌, ℕ, zero, suc, ◌+◌, ◌<◌, ◌≤◌, List, [], ◌∷◌, ◌++◌, length, take, drop, refl, sym, ap, subst, ◌∙◌, arith, length-append}
use Rattle.std.specs.Prelude.{get_or}
use Rattle.std.proofs.lemmas.List.{take-append-drop}
use Rattle.std.proofs.lemmas.List.Sums.{sum_by-append}
use Rattle.cb_model.specs.declared.Sort.{Sort}
use Rattle.cb_model.specs.Bits.{Each}
use Rattle.cb_model.specs.Outside.{Rose}
use Rattle.cb_model.specs.Program.{bools}
use Rattle.cb_elim.specs.Store.{Seen as Booleans, IsStore}
use Rattle.cb_elim.specs.Unified.{HasCause}
use Rattle.cb_heap.specs.declared.Cell.{Cell}
use Rattle.cb_heap.specs.declared.Stored.{Stored}
use Rattle.cb_heap.specs.Heap.{Terms, IsHeap, stored_as, with_cell}
use Rattle.cb_heap.specs.Finite.{AllFinite}
use Rattle.cb_join.specs.Joins.{Rising}
use Rattle.cb_unify.specs.State.{Seen, IsAsBefore, IsState, with_fulls}
use Rattle.cb_unify.specs.Growth.{AreMade, IsUnknown}
use Rattle.cb_unify.proofs.Cells.{rise-more}
use Rattle.cb_unify.proofs.Opened.{made-one}

pub each-more : (n m : ℕ) (xs : List ℕ) → n ≤ m → Each (λ r. r < n) xs → Each (λ r. r < m) xs
each-more n m [] l h = tt
each-more n m (x ∷ xs) l h = (let a = h.0 in omega arith, each-more n m xs l h.1)

pub each-last : (m : ℕ) (xs : List ℕ) (x : ℕ) → Each (λ r. r < m) xs → x < m → Each (λ r. r < m) (xs ++ x ∷ [])
each-last m [] x h l = (l, tt)
each-last m (y ∷ xs) x h l = (h.0, each-last m xs x h.1 l)

module _ (now s : Seen) (same : s ≡ now) (is : IsState now) (b : Booleans) (st : IsStore b) where
  inside : IsState s
  inside = subst IsState (sym same) is

  -- the store has more slots
  pub state-store : length s.store.slots ≤ length b.slots → (h : Terms) → h ≡ s.heap → IsState (record { heap = h; store = b; made = s.made })
  state-store more h e = subst (λ (o : Terms). IsState (record { heap = o; store = b; made = s.made })) (sym e) (record {
    store = st;
    heap = inside.heap;
    finite = inside.finite;
    rise = rise-more (length s.store.slots) (length b.slots) 0 s.heap.cells more inside.rise;
    made = inside.made;
  })

  module _ (z : Sort) (c : Cell) (u : IsUnknown s.store b z c) (h : Terms) (e : h ≡ with_cell s.heap c) (heap : IsHeap h) (finite : AllFinite s.heap.cells → AllFinite h.cells) where
    cells : h.cells ≡ s.heap.cells ++ stored_as c ∷ []
    cells = ap (λ (o : Terms). o.cells) e

    one-more : length h.cells ≡ length s.heap.cells + 1
    one-more = ap (λ (l : List Stored). length l) cells ∙ length-append s.heap.cells (stored_as c ∷ [])

    -- a cell is there, and no variable yet
    pub state-cell : (xs : List ℕ) → xs ≡ s.made → IsState (record { heap = h; store = b; made = xs })
    state-cell xs m = record {
      store = st;
      heap = heap;
      finite = finite inside.finite;
      rise = subst (λ (l : List Stored). Rising (length b.slots) 0 l) (sym cells) (u.rise 0 s.heap.cells inside.rise);
      made = subst (λ (l : List ℕ). Each (λ r. r < length h.cells) l) (sym m) (each-more (length s.heap.cells) (length h.cells) s.made (let n = one-more in omega arith) inside.made);
    }

    -- a variable is made of the cell
    pub state-made : (xs : List ℕ) → xs ≡ s.made ++ length s.heap.cells ∷ [] → IsState (record { heap = h; store = b; made = xs })
    state-made xs m = record {
      store = st;
      heap = heap;
      finite = finite inside.finite;
      rise = subst (λ (l : List Stored). Rising (length b.slots) 0 l) (sym cells) (u.rise 0 s.heap.cells inside.rise);
      made = subst (λ (l : List ℕ). Each (λ r. r < length h.cells) l) (sym m)
          (each-last (length h.cells) s.made (length s.heap.cells) (each-more (length s.heap.cells) (length h.cells) s.made (let n = one-more in omega arith) inside.made) (let n = one-more in omega arith));
    }

    pub makes : (xs : List ℕ) → xs ≡ s.made ++ length s.heap.cells ∷ [] → (r : ℕ) → r ≡ length s.heap.cells → AreMade now (record { heap = h; store = b; made = xs }) (z ∷ []) (r ∷ [])
    makes xs m r at = subst (λ (o : Seen). AreMade o (record { heap = h; store = b; made = xs }) (z ∷ []) (r ∷ [])) same
        (subst (λ q. AreMade s (record { heap = h; store = b; made = xs }) (z ∷ []) (q ∷ [])) (sym at) (made-one s (record { heap = h; store = b; made = xs }) z c inside u e m))

-- ---- one after the other

pub take-step : {A : Type 0} (xs : List A) (k : ℕ) (d : A) → k < length xs → take (k + 1) xs ≡ take k xs ++ get_or xs k d ∷ []
take-step [] k d less = absurd (omega arith)
take-step (y ∷ xs) zero d less = refl
take-step (y ∷ xs) (suc k) d less = ap (λ n. take n (y ∷ xs)) (let e : suc k + 1 ≡ suc (k + 1) = omega arith in e) ∙ ap (λ l. y ∷ l) (take-step xs k d (omega arith))

pub bools-step : (zs : List Sort) (k : ℕ) (d : Sort) → k < length zs → bools (take (k + 1) zs) ≡ bools (take k zs) + bools (get_or zs k d ∷ [])
bools-step zs k d less = ap bools (take-step zs k d less) ∙ sum_by-append _ (take k zs) (get_or zs k d ∷ [])

pub bools-take : (zs : List Sort) (k : ℕ) → bools (take k zs) ≤ bools zs
bools-take zs k = let e : bools zs ≡ bools (take k zs) + bools (drop k zs) = ap bools (sym (take-append-drop k zs)) ∙ sum_by-append _ (take k zs) (drop k zs) in omega arith

-- a stop in a later call has its cause in all of them
pub later-cause : (old now new : Booleans) (m n k : ℕ) → now.nodes.fulls ≡ old.nodes.fulls → now.nodes.budget ≡ old.nodes.budget → length now.nodes.triples ≤ length old.nodes.triples + m → m + n ≤ k → HasCause now new n → HasCause old new k
later-cause old now new m n k f b t l c = record {
  rose = subst (λ x. Rose x new.nodes.fulls) f c.rose;
  below = let d = c.below in omega arith;
}

-- the state went back, but for its count of refusals
pub gone-back : (old now new : Seen) → new ≡ with_fulls now.store.nodes.fulls old → old.store.nodes.fulls ≤ now.store.nodes.fulls → IsAsBefore old new
gone-back old now new e l = record {
  same = e ∙ ap (λ n. with_fulls n old) (sym (ap (λ (s : Seen). s.store.nodes.fulls) e));
  fulls = let f = ap (λ (s : Seen). s.store.nodes.fulls) e in omega arith;
}
