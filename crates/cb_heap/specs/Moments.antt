-- Moments of a heap, and the way back to them.
use Rattle.std.specs.Prelude.{◌≡◌, ℕ, ◌≤◌, List, [], ◌∷◌, length, take, drop, map, slice_set, slice_get, Option}
use Rattle.cb_heap.specs.declared.Stored.{Stored}
use Rattle.cb_heap.specs.declared.Change.{Change}
use Rattle.cb_heap.specs.Heap.{Terms, IsHeap}

-- how many of each there were
pub record Moment : Type 0 where
  pub cells : ℕ
  pub trail : ℕ

-- the moment now
abbrev pub moment_of : Terms → Moment
moment_of t = record { cells = length t.cells; trail = length t.trail }

-- the cells before these changes, of which the last is taken back first
abbrev pub undone : List Change → List Stored → List Stored
undone [] cs = cs
undone (c ∷ cs) xs = slice_set (undone cs xs) c.cell c.old

-- the heap as it was at a moment
abbrev pub reverted : Moment → Terms → Terms
reverted m t = record {
  cells = undone (drop m.trail t.trail) (take m.cells t.cells);
  sorts = take m.cells t.sorts;
  trail = take m.trail t.trail;
}

-- a moment to which the heap can go back
pub record IsMoment (m : Moment) (t : Terms) : Type 0 where
  pub cells : m.cells ≤ length t.cells
  pub trail : m.trail ≤ length t.trail
  pub heap : IsHeap (reverted m t)

-- Each moment stays one, and going back to it gives the same heap as before.
pub record KeepsMoments (old new : Terms) : Type 0 where
  pub moments : (m : Moment) → IsMoment m old → IsMoment m new
  pub same : (m : Moment) → IsMoment m old → reverted m new ≡ reverted m old

-- the changes made since the moment, in order
abbrev pub changes_since : Moment → Terms → List Change
changes_since m t = drop m.trail t.trail

-- the cells rewritten since the moment, in order
abbrev pub rewritten_since : Moment → Terms → List ℕ
rewritten_since m t = map (λ c. c.cell) (drop m.trail t.trail)

-- what stood in the cell at the moment, or for a later cell when it was made
abbrev pub stored_since : Moment → Terms → ℕ → Option Stored
stored_since m t r = slice_get (undone (drop m.trail t.trail) t.cells) r
