-- Cells that stand for the arguments of calls.
use Rattle.std.proofs.Common.{◌≡◌, ℕ, suc, ◌+◌, ◌<◌, true, ◌&&◌, List, [], ◌∷◌, length, map, refl, sym, ap, ◌∙◌, arith}
use Rattle.std.specs.Prelude.{get_or}
use Rattle.std.proofs.lemmas.Bool.{and_parts}
use Rattle.cb_laws.proofs.SortedTrees.{args-node}
use Rattle.cb_model.specs.declared.Sort.{Sort}
use Rattle.cb_model.specs.declared.Sort.TheVariants as sort
use Rattle.cb_model.specs.declared.Tree.{Tree}
use Rattle.cb_model.specs.declared.Tree.TheVariants as tree
use Rattle.cb_model.specs.Bits.{Each, all_of}
use Rattle.cb_model.specs.Sorted.{arguments_fit, same_sort, same_sorts, tree_fits, tree_sort, variables_fit}
use Rattle.cb_model.specs.Values.{Sorts}
use Rattle.cb_heap.specs.declared.Ref.{Ref}
use Rattle.cb_unify.specs.State.{Seen}
use Rattle.cb_unify.specs.Growth.{IsGrown}
use Rattle.cb_items.specs.Calls.{AreStanding}
use Rattle.cb_items.proofs.Bridges.{stands-later}
use Rattle.cb_items.proofs.Lists.{length-append}
use Rattle.cb_ready.specs.Parked.{Parked, IsParked}

-- the cells are there
pub standing-there : (t : Sorts) (s : Seen) (rs : List Ref) (xs : List Tree) → AreStanding t s rs xs → Each (λ r. r.0 < length s.heap.sorts) rs
standing-there t s [] [] h = tt
standing-there t s (r ∷ rs) (x ∷ xs) h = (h.0, standing-there t s rs xs h.1.1)
standing-there t s [] (x ∷ xs) h = absurd h
standing-there t s (r ∷ rs) [] h = absurd h

-- they are as many as the trees
pub standing-number : (t : Sorts) (s : Seen) (rs : List Ref) (xs : List Tree) → AreStanding t s rs xs → length rs ≡ length xs
standing-number t s [] [] h = refl
standing-number t s (r ∷ rs) (x ∷ xs) h = ap suc (standing-number t s rs xs h.1.1)
standing-number t s [] (x ∷ xs) h = absurd h
standing-number t s (r ∷ rs) [] h = absurd h

-- ---- as the state grows

module _ (t : Sorts) (s u : Seen) (grown : IsGrown s u) where
  there-later : (r : ℕ) → r < length s.heap.sorts → r < length u.heap.sorts
  there-later r h =
      let e : length u.heap.sorts ≡ length s.heap.sorts + length grown.sorts.0 = ap (λ (zs : List Sort). length zs) grown.sorts.1 ∙ length-append s.heap.sorts grown.sorts.0 in
      omega arith

  pub standing-later : (rs : List Ref) (xs : List Tree) → AreStanding t s rs xs → AreStanding t u rs xs
  standing-later [] [] h = tt
  standing-later (r ∷ rs) (x ∷ xs) h = (there-later r.0 h.0, (stands-later t s u r.0 x grown h.1.0, standing-later rs xs h.1.1))
  standing-later [] (x ∷ xs) h = absurd h
  standing-later (r ∷ rs) [] h = absurd h

  pub parked-later : (c : Parked) (xs : List Tree) → IsParked t s c xs → IsParked t u c xs
  parked-later c xs h = record {
    there = there-later c.call.0 h.there;
    call = stands-later t s u c.call.0 (tree.Node c.pred xs) grown h.call;
    args = standing-later c.args xs h.args;
    number = h.number;
  }

-- ---- the number of arguments

same-number : (zs : List Sort) (xs : List Tree) → same_sorts zs (map tree_sort xs) ≡ true → length xs ≡ length zs
same-number [] [] h = refl
same-number (z ∷ zs) (x ∷ xs) h = ap suc (same-number zs xs (and_parts (same_sort z (tree_sort x)) (same_sorts zs (map tree_sort xs)) h).1)
same-number [] (x ∷ xs) h = absurd (cc)
same-number (z ∷ zs) [] h = absurd (cc)

-- a call that fits the table has as many arguments as its name has sorts
pub fits-number : (t : Sorts) (zs : List Sort) (pred : ℕ) (xs : List Tree) → tree_fits t zs sort.Term (tree.Node pred xs) ≡ true → length xs ≡ length (get_or t pred [])
fits-number t zs pred xs h =
    let node = tree.Node pred xs in
    let p = and_parts (same_sort sort.Term (tree_sort node)) (variables_fit zs node && arguments_fit t node) h in
    let q = and_parts (variables_fit zs node) (arguments_fit t node) p.1 in
    let r = and_parts (same_sorts (get_or t pred []) (map tree_sort xs)) (all_of (map (arguments_fit t) xs)) (sym (args-node t pred xs) ∙ q.1) in
    same-number (get_or t pred []) xs r.0
