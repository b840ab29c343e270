-- The items of an answer, one more, and their cells.
use Rattle.std.proofs.Common.{◌≡◌, ℕ, zero, suc, ◌<◌, List, [], ◌∷◌, ◌++◌, length, get_or, Some, sym, subst}
use Rattle.std.specs.Borrow.{Bor}
use Rattle.std.specs.Prelude.{slice_get}
use Rattle.std.proofs.lemmas.Option.{same_Some}
use Rattle.cb_model.specs.declared.Tree.{Tree}
use Rattle.cb_model.specs.declared.Goal.{Goal}
use Rattle.cb_model.specs.declared.Goal.TheVariants as goal
use Rattle.cb_model.specs.Bits.{Each}
use Rattle.cb_model.specs.Text.{Text}
use Rattle.cb_model.specs.Values.{Sorts}
use Rattle.cb_model.specs.Derivation.{Waiting}
use Rattle.cb_heap.specs.declared.Ref.{Ref}
use Rattle.cb_unify.specs.State.{Seen}
use Rattle.cb_items.specs.Calls.{AreStanding, IsCalled, AreCalled}
use Rattle.cb_answer.specs.declared.Item.{Item}
use Rattle.cb_answer.specs.declared.Item.TheVariants as item
use Rattle.cb_answer.specs.Items.{AreItems, IsItemThere}

-- with one printed variable more, before any goal
pub items-var : (made : List ℕ) (ns : List Text) (vs : List (ℕ × Text)) (xs : List Item) (v : ℕ × Text) (name : Bor Text) (cell : Ref) → AreItems made ns vs [] xs →
    name.now ≡ v.1 → slice_get made v.0 ≡ Some cell.0 → AreItems made ns (vs ++ v ∷ []) [] (xs ++ item.Var name cell ∷ [])
items-var made ns [] [] v name cell a e f = (e, f, tt)
items-var made ns (u ∷ vs) (item.Var n r ∷ xs) v name cell a e f = (a.0, a.1, items-var made ns vs xs v name cell a.2 e f)
items-var made ns vs xs v name cell a e f = absurd a

-- with one goal more
pub items-waiting : (made : List ℕ) (ns : List Text) (vs : List (ℕ × Text)) (cs : List (ℕ × List Ref)) (xs : List Item) (c : ℕ × List Ref) (name : Bor Text) (args : Bor (List Ref)) →
    AreItems made ns vs cs xs → name.now ≡ get_or ns c.0 [] → args.now ≡ c.1 → AreItems made ns vs (cs ++ c ∷ []) (xs ++ item.Waiting name args ∷ [])
items-waiting made ns (u ∷ vs) cs (item.Var n r ∷ xs) c name args a e f = (a.0, a.1, items-waiting made ns vs cs xs c name args a.2 e f)
items-waiting made ns [] (d ∷ cs) (item.Waiting n rs ∷ xs) c name args a e f = (a.0, a.1, items-waiting made ns [] cs xs c name args a.2 e f)
items-waiting made ns [] [] [] c name args a e f = (e, f, tt)
items-waiting made ns vs cs xs c name args a e f = absurd a

-- ---- their cells are there

each-at : (made : List ℕ) (n k r : ℕ) → Each (λ c. c < n) made → slice_get made k ≡ Some r → r < n
each-at [] n k r h e = absurd (cc)
each-at (c ∷ made) n zero r h e = subst (λ k. k < n) (same_Some c r e) h.0
each-at (c ∷ made) n (suc k) r h e = each-at made n k r h.1 e

module _ (t : Sorts) (s : Seen) where
  standing-there : (rs : List Ref) (xs : List Tree) → AreStanding t s rs xs → Each (λ r. r.0 < length s.heap.sorts) rs
  standing-there [] [] h = tt
  standing-there (r ∷ rs) (x ∷ xs) h = (h.0, standing-there rs xs h.1.1)
  standing-there [] (x ∷ xs) h = absurd h
  standing-there (r ∷ rs) [] h = absurd h

  called-there : (g : Goal) (n : ℕ) (rs : List Ref) → IsCalled t s g n rs → Each (λ r. r.0 < length s.heap.sorts) rs
  called-there (goal.Call pred args) n rs h = standing-there rs args h.1
  called-there g n rs h = absurd h

  waiting-there : (ns : List Text) (ws : List Waiting) (cs : List (ℕ × List Ref)) (xs : List Item) → AreCalled t s ws cs → AreItems s.made ns [] cs xs → Each (IsItemThere (length s.heap.sorts)) xs
  waiting-there ns ws [] [] h a = tt
  waiting-there ns (w ∷ ws) (c ∷ cs) (item.Waiting name args ∷ xs) h a =
      (subst (λ rs. Each (λ r. r.0 < length s.heap.sorts) rs) (sym a.1) (called-there w.goal c.0 c.1 h.0), waiting-there ns ws cs xs h.1 a.2)
  waiting-there ns [] (c ∷ cs) xs h a = absurd h
  waiting-there ns ws cs xs h a = absurd a

  all-there : (ns : List Text) (vs : List (ℕ × Text)) (ws : List Waiting) (cs : List (ℕ × List Ref)) (xs : List Item) → Each (λ c. c < length s.heap.sorts) s.made → AreCalled t s ws cs →
      AreItems s.made ns vs cs xs → Each (IsItemThere (length s.heap.sorts)) xs
  all-there ns [] ws cs xs m h a = waiting-there ns ws cs xs h a
  all-there ns (v ∷ vs) ws cs (item.Var name cell ∷ xs) m h a = (each-at s.made (length s.heap.sorts) v.0 cell.0 m a.1, all-there ns vs ws cs xs m h a.2)
  all-there ns (v ∷ vs) ws cs xs m h a = absurd a

  -- where there are as many sorts as cells
  pub items-there : (ns : List Text) (vs : List (ℕ × Text)) (ws : List Waiting) (cs : List (ℕ × List Ref)) (xs : List Item) → length s.heap.sorts ≡ length s.heap.cells →
      Each (λ c. c < length s.heap.cells) s.made → AreCalled t s ws cs → AreItems s.made ns vs cs xs → Each (IsItemThere (length s.heap.cells)) xs
  items-there ns vs ws cs xs e m h a =
      subst (λ n. Each (IsItemThere n) xs) e (all-there ns vs ws cs xs (subst (λ n. Each (λ c. c < n) s.made) (sym e) m) h a)
