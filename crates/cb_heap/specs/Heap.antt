-- What contracts see of a heap.
use Rattle.std.specs.Prelude.{◌≡◌, ◌↔◌, ℕ, ◌<◌, List, [], ◌∷◌, ◌++◌, length, map, Some, slice_get, slice_set, get_or}
use Rattle.cb_model.specs.declared.Sort.{Sort}
use Rattle.cb_model.specs.declared.Sort.TheVariants as sort
use Rattle.cb_model.specs.Bits.{Bits, Each}
use Rattle.cb_model.specs.Values.{Sorts}
use Rattle.cb_heap.specs.declared.Ref.{Ref}
use Rattle.cb_heap.specs.declared.Change.{Change}
use Rattle.cb_heap.specs.declared.Cell.{Cell}
use Rattle.cb_heap.specs.declared.Cell.TheVariants as shown
use Rattle.cb_heap.specs.declared.Stored.{Stored}
use Rattle.cb_heap.specs.declared.Stored.TheVariants as cell
use Rattle.cb_heap.specs.Reading.{Reading, IsReading, IsUnbound}
use Rattle.cb_heap.specs.Finite.{AllFinite, IsSorted}
use Rattle.cb_heap.specs.Links.{IsLinked, IsLast}

-- the cells with their sorts, and the cells that were rewritten with what stood there, in order
pub record Terms : Type 0 where
  pub cells : List Stored
  pub sorts : List Sort
  pub trail : List Change

abbrev pub no_terms : Terms
no_terms = record { cells = []; sorts = []; trail = [] }

-- what holds of a heap at every call
pub record IsHeap (t : Terms) : Type 0 where
  pub number : length t.sorts ≡ length t.cells
  pub linked : IsLinked t.cells
  pub trail : Each (λ c. c.cell < length t.cells) t.trail

-- what is shown of a cell: a value that is another cell's is bound to it
abbrev pub shown_as : Stored → Cell
shown_as (cell.Leaf s) = shown.Leaf s
shown_as cell.BusVar = shown.BusVar
shown_as cell.BusNil = shown.BusNil
shown_as (cell.BusCons h l) = shown.BusCons h l
shown_as cell.TermVar = shown.TermVar
shown_as (cell.Int z) = shown.Int z
shown_as (cell.Node n k) = shown.Node n k
shown_as (cell.Bound to) = shown.Bound to
shown_as (cell.Same to) = shown.Bound to

-- how a new cell is stored
abbrev pub stored_as : Cell → Stored
stored_as (shown.Leaf s) = cell.Leaf s
stored_as shown.BusVar = cell.BusVar
stored_as shown.BusNil = cell.BusNil
stored_as (shown.BusCons h l) = cell.BusCons h l
stored_as shown.TermVar = cell.TermVar
stored_as (shown.Int z) = cell.Int z
stored_as (shown.Node n k) = cell.Node n k
stored_as (shown.Bound to) = cell.Bound to

-- a cell that can be added alone where n cells are there
abbrev pub IsAddable : ℕ → Cell → Type 0
IsAddable n (shown.BusCons h l) = (h.0 < n) × (l.0 < n)
IsAddable n (shown.Node m k) = ⊥
IsAddable n (shown.Bound to) = ⊥
IsAddable n _ = Unit {0}

abbrev pub sort_of : Cell → Sort
sort_of (shown.Leaf s) = sort.Bool
sort_of shown.BusVar = sort.Bus
sort_of shown.BusNil = sort.Bus
sort_of (shown.BusCons h l) = sort.Bus
sort_of _ = sort.Term

-- one cell more
abbrev pub with_cell : Terms → Cell → Terms
with_cell t c = record { cells = t.cells ++ stored_as c ∷ []; sorts = t.sorts ++ sort_of c ∷ []; trail = t.trail }

-- a compound more: its cell, and behind it one for each argument
abbrev pub with_node : Terms → ℕ → List Ref → Terms
with_node t name args = record {
  cells = t.cells ++ cell.Node name (length args) ∷ map (λ r. cell.Bound r) args;
  sorts = t.sorts ++ sort.Term ∷ map (λ r. get_or t.sorts r.0 sort.Bool) args;
  trail = t.trail;
}

-- a cell rewritten, and what stood there kept
abbrev pub with_rewritten : Terms → ℕ → Stored → Stored → Terms
with_rewritten t r old new = record { cells = slice_set t.cells r new; sorts = t.sorts; trail = t.trail ++ record { cell = r; old = old } ∷ [] }

abbrev pub IsUnboundAt : List Stored → ℕ → Type 0
IsUnboundAt cs r = (c : Stored) × (slice_get cs r ≡ Some c) × IsUnbound c

-- The values that are left are those at which the two cells agree; both lead to one cell, and no cycle was made.
pub record IsBound (old new : Terms) (v to : ℕ) : Type 0 where
  pub reads : (t : Sorts) (w : Bits) (g : Reading) → IsReading t w new.sorts new.cells g ↔ (IsReading t w old.sorts old.cells g × (g v ≡ g to))
  pub sorts : new.sorts ≡ old.sorts
  pub fits : (t : Sorts) → IsSorted t old.sorts old.cells → IsSorted t new.sorts new.cells
  pub finite : AllFinite old.cells → AllFinite new.cells
  pub end : ℕ
  pub one : IsLast new.cells v end × IsLast new.cells to end
