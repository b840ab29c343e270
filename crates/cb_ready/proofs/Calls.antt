-- A cell that stands for a call leads to a compound with the name and the arguments of the call.
use Rattle.std.proofs.Common.{◌≡◌, ℕ, zero, suc, ◌+◌, ◌<◌, ◌≤◌, false, List, [], ◌∷◌, length, map, Some, refl, sym, ap, subst, ◌∙◌, arith}
use Rattle.std.specs.Prelude.{get_or, slice_get}
use Rattle.std.proofs.lemmas.Option.{get_or_from_slice_get}
use Rattle.cb_laws.proofs.Values.{value-node}
use Rattle.cb_model.specs.declared.Sort.{Sort}
use Rattle.cb_model.specs.declared.Sort.TheVariants as sort
use Rattle.cb_model.specs.declared.Tree.{Tree}
use Rattle.cb_model.specs.declared.Tree.TheVariants as tree
use Rattle.cb_model.specs.Bits.{Bits, numbers_from}
use Rattle.cb_model.specs.Derivation.{outermost}
use Rattle.cb_model.specs.Values.{Ground, Bit, Name, Grounds, Last, More, grounds, Sorts, Fits, Valuation, tree_value}
use Rattle.cb_boole.specs.View.{InRange}
use Rattle.cb_elim.specs.Store.{slot_bits, view_of}
use Rattle.cb_heap.specs.declared.Ref.{Ref}
use Rattle.cb_heap.specs.declared.Stored.{Stored}
use Rattle.cb_heap.specs.declared.Stored.TheVariants as cell
use Rattle.cb_heap.specs.Heap.{Terms}
use Rattle.cb_heap.specs.Reading.{Reading, IsUnbound}
use Rattle.cb_heap.specs.Finite.{HaveSorts}
use Rattle.cb_heap.specs.Links.{IsLast, link_of}
use Rattle.cb_heap.proofs.Facts.{two-forms}
use Rattle.cb_heap.proofs.Steps.{no_some, some-inj}
use Rattle.cb_heap.proofs.Values.{has-reading}
use Rattle.cb_unify.specs.State.{Seen, FitsTable, Gives, IsState, Reads}
use Rattle.cb_unify.proofs.Solving.{any-fits, any-value}
use Rattle.cb_items.specs.Calls.{AreStanding}
use Rattle.cb_items.specs.Standing.{Stands}
use Rattle.cb_items.proofs.Bridges.{some-gives}
use Rattle.cb_items.proofs.Lists.{got-within}
use Rattle.cb_ready.specs.Parked.{AreFrom, IsParked}

-- ---- values of compounds

list_of : Grounds → List Ground
list_of Last = []
list_of (More x xs) = x ∷ list_of xs

list-back : (xs : List Ground) → list_of (grounds xs) ≡ xs
unfolding list_of
list-back [] = refl
list-back (x ∷ xs) = ap (λ l. x ∷ l) (list-back xs)

name_in : Ground → ℕ
name_in (Name n gs) = n
name_in _ = 0

args_in : Ground → List Ground
args_in (Name n gs) = list_of gs
args_in _ = []

same-name : (n m : ℕ) (xs ys : List Ground) → Name n (grounds xs) ≡ Name m (grounds ys) → n ≡ m
unfolding name_in
same-name n m xs ys e = ap name_in e

same-args : (n m : ℕ) (xs ys : List Ground) → Name n (grounds xs) ≡ Name m (grounds ys) → xs ≡ ys
unfolding args_in
same-args n m xs ys e = sym (list-back xs) ∙ ap args_in e ∙ list-back ys

first_of : List Ground → Ground
first_of (x ∷ xs) = x
first_of [] = Bit false

rest_of : List Ground → List Ground
rest_of (x ∷ xs) = xs
rest_of [] = []

same-first : (x y : Ground) (xs ys : List Ground) → (x ∷ xs) ≡ (y ∷ ys) → x ≡ y
unfolding first_of
same-first x y xs ys e = ap first_of e

same-rest : (x y : Ground) (xs ys : List Ground) → (x ∷ xs) ≡ (y ∷ ys) → xs ≡ ys
unfolding rest_of
same-rest x y xs ys e = ap rest_of e

count-map : {A B : Type 0} (f : A → B) (xs : List A) → length (map f xs) ≡ length xs
count-map f [] = refl
count-map f (x ∷ xs) = ap suc (count-map f xs)

count-from : (j k : ℕ) → length (numbers_from j k) ≡ k
count-from j zero = refl
count-from j (suc k) = ap suc (count-from (suc j) k)

sorts-number : (ss : List Sort) (r k : ℕ) (ts : List Sort) → HaveSorts ss r k ts → k ≡ length ts
sorts-number ss r zero [] h = refl
sorts-number ss r (suc k) (z ∷ ts) h = ap suc (sorts-number ss (suc r) k ts h.1)
sorts-number ss r zero (z ∷ ts) h = absurd h
sorts-number ss r (suc k) [] h = absurd h

-- ---- of a state

module _ (s : Seen) (is : IsState s) where
  abbrev bits : Bits → Bits
  bits p = λ x. (view_of s.store).values x p

  abbrev zeros : Bits
  zeros = λ k. false

  range : InRange (view_of s.store) zeros (bits zeros)
  range = record { at = zeros; agrees = λ k l. refl; gives = λ x v. refl }

  -- the cells behind a compound are there
  pub behind-there : (e n k : ℕ) → slice_get s.heap.cells e ≡ Some (cell.Node n k) → e + k < length s.heap.cells
  behind-there e n zero at = let h = got-within s.heap.cells e (cell.Node n zero) at in omega arith
  behind-there e n (suc k) at = is.heap.linked.within e (e + suc k) (cell.Node n (suc k), at, (omega arith, omega arith))

  module _ (t : Sorts) (fits : FitsTable t s) where
    one-read : (g : Reading) × Reads t s zeros (bits zeros) g
    one-read =
        let r = has-reading t (slot_bits (view_of s.store) zeros (bits zeros)) (λ r. any-value (get_or s.heap.sorts r sort.Bool)) s.heap.sorts s.heap.cells is.finite fits
        (λ r z e. subst (λ x. Fits t z (any-value x)) (sym (get_or_from_slice_get s.heap.sorts r z sort.Bool e)) (any-fits t z)) in
        (r.0, record { range = range; reading = r.1 })

    module _ (r e : ℕ) (last : IsLast s.heap.cells r e) (pred : ℕ) (xs : List Tree) (st : Stands t s r (tree.Node pred xs)) where
      abbrev named : Bits → Valuation → Ground
      named a b = Name pred (grounds (map (tree_value a b) xs))

      value : (a w : Bits) (g : Reading) (b : Valuation) → Reads t s a w g → Gives s g b → g e ≡ named a b
      value a w g b rd gives = sym (last.value (slot_bits (view_of s.store) a w) g rd.reading.holds) ∙ st a w g b rd gives ∙ value-node a b pred xs

      -- a value and that it is the call's
      some-value : (a w : Bits) (g : Reading) → Reads t s a w g → (b : Valuation) × Gives s g b × (g e ≡ named a b)
      some-value a w g rd = let b = some-gives t s a w g rd in (b.0, b.2, value a w g b.0 rd b.2)

      unbound : (c : Stored) (z : Sort) → slice_get s.heap.cells e ≡ Some c → IsUnbound c → slice_get s.heap.sorts e ≡ Some z → (z ≡ sort.Bool → ⊥) → ⊥
      unbound c z at u sz n =
          let q = two-forms t (slot_bits (view_of s.store) zeros (bits zeros)) s.heap.sorts s.heap.cells is.finite fits e c at u z sz n in
          let p1 : Reads t s zeros (bits zeros) q.0 = record { range = range; reading = q.2 } in
          let p2 : Reads t s zeros (bits zeros) q.1 = record { range = range; reading = q.3 } in
          q.4 (ap outermost (some-value zeros (bits zeros) q.0 p1).2 ∙ sym (ap outermost (some-value zeros (bits zeros) q.1 p2).2))

      -- what stands there is a compound
      pub is-compound : (c : Stored) → slice_get s.heap.cells e ≡ Some c → ((n k : ℕ) → c ≡ cell.Node n k → ⊥) → ⊥
      is-compound (cell.Leaf x) at other =
          let v = (some-value zeros (bits zeros) one-read.0 one-read.1).2 in let h = one-read.1.reading.holds e (cell.Leaf x) at in absurd (cc)
      is-compound cell.BusVar at other = unbound cell.BusVar sort.Bus at tt (fits.cells e cell.BusVar at) (λ q. cc)
      is-compound cell.BusNil at other =
          let v = (some-value zeros (bits zeros) one-read.0 one-read.1).2 in let h = one-read.1.reading.holds e cell.BusNil at in absurd (cc)
      is-compound (cell.BusCons x y) at other =
          let v = (some-value zeros (bits zeros) one-read.0 one-read.1).2 in let h = (one-read.1.reading.holds e (cell.BusCons x y) at).4 in absurd (cc)
      is-compound cell.TermVar at other = unbound cell.TermVar sort.Term at tt (fits.cells e cell.TermVar at) (λ q. cc)
      is-compound (cell.Int z) at other =
          let v = (some-value zeros (bits zeros) one-read.0 one-read.1).2 in let h = one-read.1.reading.holds e (cell.Int z) at in absurd (cc)
      is-compound (cell.Node n k) at other = other n k refl
      is-compound (cell.Bound to) at other = no_some (link_of (cell.Bound to)) to (ap link_of (some-inj (cell.Bound to) last.cell (sym at ∙ last.there)) ∙ last.no_link) refl
      is-compound (cell.Same to) at other = no_some (link_of (cell.Same to)) to (ap link_of (some-inj (cell.Same to) last.cell (sym at ∙ last.there)) ∙ last.no_link) refl

      module _ (n k : ℕ) (at : slice_get s.heap.cells e ≡ Some (cell.Node n k)) where
        name : n ≡ pred
        name =
            let v = some-value zeros (bits zeros) one-read.0 one-read.1 in
            same-name n pred (map one-read.0 (numbers_from (suc e) k)) (map (tree_value zeros v.0) xs) (sym (one-read.1.reading.holds e (cell.Node n k) at) ∙ v.2)

        args : (a w : Bits) (g : Reading) (b : Valuation) → Reads t s a w g → Gives s g b → map g (numbers_from (suc e) k) ≡ map (tree_value a b) xs
        args a w g b rd gives =
            same-args n pred (map g (numbers_from (suc e) k)) (map (tree_value a b) xs) (sym (rd.reading.holds e (cell.Node n k) at) ∙ value a w g b rd gives)

        number : k ≡ length xs
        number =
            let v = some-value zeros (bits zeros) one-read.0 one-read.1 in
            sym (count-from (suc e) k) ∙ sym (count-map one-read.0 (numbers_from (suc e) k)) ∙ ap length (args zeros (bits zeros) one-read.0 v.0 one-read.1 v.1) ∙ count-map (tree_value zeros v.0) xs

        -- the cells behind it stand for the arguments
        stand : (j i : ℕ) (rs : List Ref) (ys : List Tree) → AreFrom j rs → length rs ≡ i → i ≡ length ys → j + i ≤ length s.heap.sorts →
            ((a w : Bits) (g : Reading) (b : Valuation) → Reads t s a w g → Gives s g b → map g (numbers_from j i) ≡ map (tree_value a b) ys) → AreStanding t s rs ys
        stand j i [] [] from count same less vals = tt
        stand j i [] (y ∷ ys) from count same less vals = absurd (omega arith)
        stand j i (r ∷ rs) [] from count same less vals = absurd (omega arith)
        stand j zero (r ∷ rs) (y ∷ ys) from count same less vals = absurd (omega arith)
        stand j (suc i) (r ∷ rs) (y ∷ ys) from count same less vals =
            let here = from.0 in (
              omega arith,
              (
                λ a w g b rd gives. ap g here ∙ same-first (g j) (tree_value a b y) (map g (numbers_from (suc j) i)) (map (tree_value a b) ys) (vals a w g b rd gives),
                stand (suc j) i rs ys from.1 (omega arith) (omega arith) (omega arith)
                    (λ a w g b rd gives. same-rest (g j) (tree_value a b y) (map g (numbers_from (suc j) i)) (map (tree_value a b) ys) (vals a w g b rd gives)),
              ),
            )

        pub call-parked : (call : Ref) → call.0 ≡ r → call.0 < length s.heap.sorts → (rs : List Ref) → AreFrom (suc e) rs → length rs ≡ k → IsParked t s (record { pred = pred; call = call; args = rs }) xs
        call-parked call is-r there rs from count =
            let b = behind-there e n k at in
            let m = is.heap.number in
            record {
              there = there;
              call = subst (λ q. Stands t s q (tree.Node pred xs)) (sym is-r) st;
              args = stand (suc e) k rs xs from count number (omega arith) args;
              number = sym number ∙ sorts-number s.heap.sorts (suc e) k (get_or t n []) (fits.cells e (cell.Node n k) at).1 ∙ ap (λ q. length (get_or t q [])) name;
            }

-- ---- by a heap that was lent

module _ (s : Seen) (is : IsState s) (h : Terms) (same : h ≡ s.heap) (e : ℕ) (c : Stored) (at : slice_get h.cells e ≡ Some c) where
  pub behind-lent : (n k : ℕ) → c ≡ cell.Node n k → e + k < length h.cells
  behind-lent n k node =
      subst (λ (q : Terms). e + k < length q.cells) (sym same) (behind-there s is e n k (subst (λ (q : Terms). slice_get q.cells e ≡ Some (cell.Node n k)) same (at ∙ ap Some node)))

  module _ (call : Ref) (last : IsLast h.cells call.0 e) (pred : ℕ) (t : Sorts) (xs : List Tree) (fits : FitsTable t s) (st : Stands t s call.0 (tree.Node pred xs)) where
    pub compound-lent : ((n k : ℕ) → c ≡ cell.Node n k → ⊥) → ⊥
    compound-lent other =
        is-compound s is t fits call.0 e (subst (λ (q : Terms). IsLast q.cells call.0 e) same last) pred xs st c (subst (λ (q : Terms). slice_get q.cells e ≡ Some c) same at) other

    pub parked-lent : (n k : ℕ) → c ≡ cell.Node n k → call.0 < length s.heap.sorts → (rs : List Ref) → AreFrom (suc e) rs → length rs ≡ k → IsParked t s (record { pred = pred; call = call; args = rs }) xs
    parked-lent n k node there rs from count =
        call-parked s is t fits call.0 e (subst (λ (q : Terms). IsLast q.cells call.0 e) same last) pred xs st n k (subst (λ (q : Terms). slice_get q.cells e ≡ Some (cell.Node n k)) same (at ∙ ap Some node))
        call refl there rs from count
