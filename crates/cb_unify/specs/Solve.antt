-- Equations between cells, and what solving them makes of a state.
use Rattle.std.specs.Prelude.{◌≡◌, ◌↔◌, ℕ, ◌+◌, ◌*◌, ◌^◌, ◌<◌, ◌≤◌, Bool, List, [], Result, length, map}
use Rattle.cb_model.specs.Bits.{Bits, Each}
use Rattle.cb_boole.specs.View.{View, InRange}
use Rattle.cb_elim.specs.Store.{Seen as Booleans, slot_bits}
use Rattle.cb_dd.specs.declared.Stop.{Stop}
use Rattle.cb_elim.specs.Moments.{KeepsMoments as KeepsBools}
use Rattle.cb_elim.specs.Pairs.{pairs_bound}
use Rattle.cb_elim.specs.Unified.{HasSameValues, OnlyValues}
use Rattle.cb_heap.specs.declared.Ref.{Ref}
use Rattle.cb_heap.specs.declared.Stored.{Stored}
use Rattle.cb_heap.specs.Finite.{AllFinite}
use Rattle.cb_heap.specs.Heap.{Terms}
use Rattle.cb_heap.specs.Moments.{KeepsMoments as KeepsTerms}
use Rattle.cb_heap.specs.Reading.{AgreeBits}
use Rattle.cb_model.specs.Values.{Sorts}
use Rattle.cb_join.specs.Cycle.{IsClosed}
use Rattle.cb_join.specs.Joins.{KeepsLeaves}
use Rattle.cb_solution.specs.Solution.{has_refused}
use Rattle.cb_unify.specs.Growth.{AddsNodes, StopsBy}
use Rattle.cb_unify.specs.State.{Seen, FitsTable, HasNone, IsSolved}

-- the numbers of the cells of each pair
abbrev pub cells_of : List (Ref × Ref) → List (ℕ × ℕ)
cells_of ps = map (λ p. (p.0.0, p.1.0)) ps

-- both cells of each pair are there
abbrev pub AreCells : Terms → List (Ref × Ref) → Type 0
AreCells h ps = Each (λ p. (p.0.0 < length h.cells) × (p.1.0 < length h.cells)) ps

-- Cells and slots were rewritten, and nodes were added. Terms that fit a table still do.
pub record OnlyRewritten (old new : Seen) : Type 0 where
  pub made : new.made ≡ old.made
  pub sorts : new.heap.sorts ≡ old.heap.sorts
  pub cells : length new.heap.cells ≡ length old.heap.cells
  pub slots : length new.store.slots ≡ length old.store.slots
  pub constants : new.store.constants ≡ old.store.constants
  pub drawn : new.store.drawn ≡ old.store.drawn
  pub free : new.store.free ≡ old.store.free
  pub fits : (t : Sorts) → FitsTable t old → FitsTable t new

-- the constants and the free levels: on so many levels the slots depend at most
abbrev pub width : Booleans → ℕ
width s = s.constants + length s.free

-- the nodes that solving equations adds at most
abbrev pub solve_most : Booleans → ℕ
solve_most s = 80 * (length s.slots + width s + 1) * 4 ^ (width s + 1)

-- ---- between terms and Boolean variables

-- terms and Boolean variables, with the variables that were made
abbrev pub seen_of : Terms → Booleans → List ℕ → Seen
seen_of h s xs = record { heap = h; store = s; made = xs }

-- the slots of each pair were made equal
pub record SolvesPairs (S S' : View) (ls : List (ℕ × ℕ)) : Type 0 where
  pub left : (a w : Bits) → InRange S' a w ↔ (InRange S a w × AgreeBits (slot_bits S a w) ls)
  pub some : (a : Bits) → (w : Bits) × InRange S' a w
  pub same : HasSameValues S S'

-- at some assignment the slots of the pairs can't all be equal
pub record NoBits (S : View) (ls : List (ℕ × ℕ)) : Type 0 where
  pub at : Bits
  pub none : (w : Bits) → InRange S at w → AgreeBits (slot_bits S at w) ls → ⊥

-- no more cells than there are, of which none names a later one
pub record IsSettled (n : ℕ) (cs : List Stored) : Type 0 where
  pub within : n ≤ length cs
  pub closed : IsClosed n cs

-- the equations were solved, in terms and store, whatever variables were made
pub record IsAttempted (h : Terms) (s : Booleans) (h' : Terms) (s' : Booleans) (ps : List (ℕ × ℕ)) : Type 0 where
  pub solved : (xs : List ℕ) → IsSolved (seen_of h s xs) (seen_of h' s' xs) ps
  pub finite : AllFinite h'.cells
  pub leaves : (ls : List (ℕ × ℕ)) × KeepsLeaves h.sorts h.cells [] h'.cells ls
  pub values : OnlyValues s s'

-- they can't be
abbrev pub CantBeSolved : Terms → Booleans → List (ℕ × ℕ) → Type 0
CantBeSolved h s ps = (xs : List ℕ) → HasNone (seen_of h s xs) ps

-- terms and store can still go back, and the terms have the sorts that they had
pub record IsKept (h : Terms) (s : Booleans) (h' : Terms) (s' : Booleans) : Type 0 where
  pub sorts : h'.sorts ≡ h.sorts
  pub terms : KeepsTerms h h'
  pub bools : KeepsBools s s'

-- the nodes that these pairs of slots take at most
abbrev pub pairs_most : Booleans → List (ℕ × ℕ) → ℕ
pairs_most s ps = pairs_bound (length ps) (length s.slots) (width s)

-- what was spent of the budget, and the count of refusals
pub record Spends (r : Result Bool Stop) (s s' : Booleans) (most : ℕ) : Type 0 where
  pub room : AddsNodes s s' most
  pub cause : StopsBy r s s' most
  pub fulls : s'.nodes.fulls ≡ has_refused s.nodes.fulls r
