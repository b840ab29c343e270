-- Cells that are made one, and what they owe.
use Rattle.std.specs.Prelude.{◌≡◌, ◌↔◌, ℕ, suc, ◌+◌, ◌<◌, ◌≤◌, List, [], ◌∷◌, length, Some, None, slice_get}
use Rattle.cb_model.specs.declared.Sort.{Sort}
use Rattle.cb_model.specs.Bits.{Bits, Each}
use Rattle.cb_model.specs.Values.{Sorts}
use Rattle.cb_heap.specs.declared.Ref.{Ref}
use Rattle.cb_heap.specs.declared.Stored.{Stored}
use Rattle.cb_heap.specs.declared.Stored.TheVariants as cell
use Rattle.cb_heap.specs.Reading.{Reading, IsReading, Agree, AgreeBits, side_by_side}
use Rattle.cb_heap.specs.Finite.{IsSorted}
use Rattle.cb_heap.specs.Heap.{Terms}
use Rattle.cb_heap.specs.Links.{IsLinked, LeadsTo, link_of}
use Rattle.cb_join.specs.declared.Owed.{Owed}

-- the same outermost form
abbrev pub Alike : Stored → Stored → Type 0
Alike (cell.Leaf s) (cell.Leaf z) = Unit {0}
Alike cell.BusNil cell.BusNil = Unit {0}
Alike (cell.BusCons h l) (cell.BusCons i m) = Unit {0}
Alike (cell.Int i) (cell.Int j) = i ≡ j
Alike (cell.Node n k) (cell.Node m j) = (n ≡ m) × (k ≡ j)
Alike _ _ = ⊥

-- the pairs of cells that are left to be equal when cells l and r with these forms are
abbrev pub owed_pairs : ℕ → ℕ → Stored → Stored → List (ℕ × ℕ)
owed_pairs l r (cell.BusCons h x) (cell.BusCons i y) = (h.0, i.0) ∷ (x.0, y.0) ∷ []
owed_pairs l r (cell.Node n k) b = side_by_side (suc l) (suc r) k
owed_pairs l r _ _ = []

-- the pairs of slots
abbrev pub owed_leaves : Stored → Stored → List (ℕ × ℕ)
owed_leaves (cell.Leaf s) (cell.Leaf z) = (s, z) ∷ []
owed_leaves _ _ = []

-- both cells of each pair are there
abbrev pub IsWithin : List Stored → List (ℕ × ℕ) → Type 0
IsWithin cs ps = Each (λ p. (p.0 < length cs) × (p.1 < length cs)) ps

-- what a cell can still ask for
abbrev pub work_of : Stored → ℕ
work_of (cell.BusCons h l) = 3
work_of (cell.Node n k) = suc k
work_of (cell.Bound to) = 0
work_of (cell.Same to) = 0
work_of _ = 1

abbrev pub work : List Stored → ℕ
work [] = 0
work (c ∷ cs) = work_of c + work cs

-- The new cells and pairs say what the old ones did, for every table of sorts, every choice of bits and all values.
abbrev pub Joined : List Sort → List Stored → List (ℕ × ℕ) → List (ℕ × ℕ) → List Stored → List (ℕ × ℕ) → List (ℕ × ℕ) → Type 0
Joined ss cs ps ls cs' ps' ls' = (t : Sorts) (w : Bits) (g : Reading) →
    (IsReading t w ss cs g × Agree g ps × AgreeBits w ls) ↔ (IsReading t w ss cs' g × Agree g ps' × AgreeBits w ls')

-- no link stands in the cell
abbrev pub IsEnd : List Stored → ℕ → Type 0
IsEnd cs r = (c : Stored) × (slice_get cs r ≡ Some c) × (link_of c ≡ None)

-- how many cells behind it a cell owes
abbrev pub owed_most : Stored → ℕ
owed_most (cell.Node n k) = suc k
owed_most _ = 0

-- no values make the cells agree
abbrev pub Clashes : List Sort → List Stored → ℕ → ℕ → Type 0
Clashes ss cs l r = (t : Sorts) (w : Bits) (g : Reading) → IsReading t w ss cs g → g l ≡ g r → ⊥

-- the leaves' slots, and those of the pairs, have numbers below n
abbrev pub SlotsBelow : ℕ → List Stored → Type 0
SlotsBelow n cs = (r s : ℕ) → slice_get cs r ≡ Some (cell.Leaf s) → s < n

-- the leaves' slots rise from k on, and are below n
abbrev pub Rising : ℕ → ℕ → List Stored → Type 0
Rising n k [] = k ≤ n
Rising n k (cell.Leaf s ∷ cs) = (k ≤ s) × Rising n (suc s) cs
Rising n k (_ ∷ cs) = Rising n k cs

-- how many cells are leaves
abbrev pub leaf_of : Stored → ℕ
leaf_of (cell.Leaf s) = 1
leaf_of _ = 0

abbrev pub leaf_count : List Stored → ℕ
leaf_count [] = 0
leaf_count (c ∷ cs) = leaf_of c + leaf_count cs

abbrev pub LeavesBelow : ℕ → List (ℕ × ℕ) → Type 0
LeavesBelow n ls = Each (λ q. (q.0 < n) × (q.1 < n)) ls

-- the links from both cells lead to one cell, where no link stands
abbrev pub HaveOneEnd : List Stored → ℕ → ℕ → Type 0
HaveOneEnd cs r j = (e : ℕ) × LeadsTo cs r e × LeadsTo cs j e × IsEnd cs e

-- cells that had one end have one
abbrev pub KeepsEnds : List Stored → List Stored → Type 0
KeepsEnds cs cs' = (r j : ℕ) → HaveOneEnd cs r j → HaveOneEnd cs' r j

-- what joining cells keeps: the sorts, the leaves' slots in their order, that there are no more slots than before, and
-- that cells had one end
pub record KeepsLeaves (ss : List Sort) (cs : List Stored) (ls : List (ℕ × ℕ)) (cs' : List Stored) (ls' : List (ℕ × ℕ)) : Type 0 where
  pub sorted : (t : Sorts) → IsSorted t ss cs → IsSorted t ss cs'
  pub slots : (n : ℕ) → SlotsBelow n cs → LeavesBelow n ls → SlotsBelow n cs' × LeavesBelow n ls'
  pub rises : (n k : ℕ) → Rising n k cs → Rising n k cs'
  pub fewer : length ls' + leaf_count cs' ≤ length ls + leaf_count cs
  pub ends : KeepsEnds cs cs'

-- Cells l and r were made one: what is left says the same, and there is less to do.
pub record Equated (ss : List Sort) (cs : List Stored) (ps ls : List (ℕ × ℕ)) (l r : ℕ) (cs' : List Stored) (ps' ls' : List (ℕ × ℕ)) : Type 0 where
  pub joined : Joined ss cs ((l, r) ∷ ps) ls cs' ps' ls'
  pub linked : IsLinked cs'
  pub within : IsWithin cs' ps'
  pub keeps : KeepsLeaves ss cs ls cs' ls'
  pub less : work cs' + length ps' < work cs + suc (length ps)

-- no values make all pairs agree
abbrev pub NoneAgree : List Sort → List Stored → List (ℕ × ℕ) → List (ℕ × ℕ) → Type 0
NoneAgree ss cs ps ls = (t : Sorts) (w : Bits) (g : Reading) → IsReading t w ss cs g → Agree g ps → AgreeBits w ls → ⊥

-- ---- ways that are made shorter

-- the link, led to another cell
abbrev pub relinked : Stored → Ref → Stored
relinked (cell.Same x) to = cell.Same to
relinked _ to = cell.Bound to

-- the two cells have one value, whatever the values are
abbrev pub HaveOneValue : List Sort → List Stored → ℕ → ℕ → Type 0
HaveOneValue ss cs r e = (t : Sorts) (w : Bits) (g : Reading) → IsReading t w ss cs g → g r ≡ g e

-- Links were led further along their ways: the cells say what they did, and as much is left to do.
pub record IsShortened (ss : List Sort) (cs cs' : List Stored) : Type 0 where
  pub reads : (t : Sorts) (w : Bits) (g : Reading) → IsReading t w ss cs g ↔ IsReading t w ss cs' g
  pub ends : (r : ℕ) → IsEnd cs r → IsEnd cs' r
  pub keeps : (ls : List (ℕ × ℕ)) → KeepsLeaves ss cs ls cs' ls
  pub number : length cs' ≡ length cs
  pub work : work cs' ≡ work cs

-- the end of the way from a cell
pub record IsEndOf (ss : List Sort) (cs cs' : List Stored) (r e : ℕ) : Type 0 where
  pub value : HaveOneValue ss cs r e
  pub end : IsEnd cs' e

-- ---- the same of a heap and of what is owed

-- all pending pairs were joined
abbrev pub AreJoined : Terms → Owed → Terms → Owed → Type 0
AreJoined h o h' o' = Joined h.sorts h.cells o.pending.items o.leaves.items h'.cells [] o'.leaves.items

-- no values make all that is owed agree
abbrev pub NoneJoin : Terms → Owed → Type 0
NoneJoin h o = NoneAgree h.sorts h.cells o.pending.items o.leaves.items

-- what joining keeps of the leaves
abbrev pub LeavesStay : Terms → Owed → Terms → Owed → Type 0
LeavesStay h o h' o' = KeepsLeaves h.sorts h.cells o.leaves.items h'.cells o'.leaves.items

-- cells l and r were made one
abbrev pub MadeOne : Terms → Owed → ℕ → ℕ → Terms → Owed → Type 0
MadeOne h o l r h' o' = Equated h.sorts h.cells o.pending.items o.leaves.items l r h'.cells o'.pending.items o'.leaves.items
