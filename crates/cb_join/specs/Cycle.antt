-- The search for a cell that leads back to itself.
use Rattle.std.specs.Prelude.{◌≡◌, ◌≢◌, ◌⊎◌, ◌++◌, ℕ, zero, suc, ◌+◌, ◌-◌, ◌<◌, ◌≤◌, nat_lt, if◌then◌else◌, List, [], ◌∷◌, length, Option, Some, None, slice_get}
use Rattle.std.specs.Option.{option_map_or}
use Rattle.cb_model.specs.Bits.{Bits, Each}
use Rattle.cb_model.specs.Values.{Ground, Bit, Word, Int, Name, Grounds, Last, More}
use Rattle.cb_heap.specs.declared.Stored.{Stored}
use Rattle.cb_heap.specs.declared.Stored.TheVariants as cell
use Rattle.cb_join.specs.declared.cycle.Mark.{Mark}
use Rattle.cb_join.specs.declared.cycle.Mark.TheVariants as mark
use Rattle.cb_join.specs.declared.cycle.Frame.{Frame}
use Rattle.cb_heap.specs.Reading.{Reading, CellsHold}
use Rattle.cb_heap.specs.Finite.{IsFinite, IsChild}
use Rattle.cb_join.specs.declared.cycle.Work.{Work}
use Rattle.cb_heap.specs.declared.Ref.{Ref}
use Rattle.cb_heap.specs.declared.Change.{Change}
use Rattle.cb_heap.specs.Links.{link_of}
use Rattle.cb_heap.specs.Heap.{Terms}
use Rattle.cb_heap.specs.Moments.{Moment, changes_since}
use Rattle.cb_join.specs.Joins.{IsEnd}

-- how many cells a cell names, but for where a link leads
abbrev pub arity : Stored → ℕ
arity (cell.BusCons h l) = 2
arity (cell.Node n k) = k
arity _ = 0

-- the k-th of them
abbrev pub child_of : ℕ → Stored → ℕ → Option ℕ
child_of r (cell.BusCons h l) zero = Some h.0
child_of r (cell.BusCons h l) (suc zero) = Some l.0
child_of r (cell.Node n m) k = if nat_lt k m then Some (r + 1 + k) else None
child_of r _ k = None

-- the size of a value
abbrev mutual
  pub weight : Ground → ℕ
  weight (Bit x) = 0
  weight (Word xs) = suc (length xs)
  weight (Int z) = 0
  weight (Name n gs) = suc (weights gs)

  pub weights : Grounds → ℕ
  weights Last = 0
  weights (More g gs) = weight g + weights gs + 1

-- whatever the values are, that of e is a part of that of r
abbrev pub Falls : List Stored → ℕ → ℕ → Type 0
Falls cs r e = (w : Bits) (g : Reading) → CellsHold w cs g → weight (g e) < weight (g r)

-- every cell that is done is finite
abbrev pub AreDone : List Stored → List Mark → Type 0
AreDone cs ms = (r : ℕ) → slice_get ms r ≡ Some mark.Done → IsFinite cs r

-- a cell on the way: the cells that it names are finite up to the next one
pub record FrameHolds (cs : List Stored) (ms : List Mark) (f : Frame) : Type 0 where
  pub cell : Stored
  pub there : slice_get cs f.cell ≡ Some cell
  pub no_link : link_of cell ≡ None
  pub is_open : slice_get ms f.cell ≡ Some mark.Open
  pub before : (k j : ℕ) → k < f.next → child_of f.cell cell k ≡ Some j → IsFinite cs j
  pub next : f.next ≤ arity cell

-- each cell on the way is another than each before it, and a part of it
abbrev pub Descends : List Stored → List Frame → Type 0
Descends cs [] = Unit {0}
Descends cs (f ∷ fs) = Each (λ h. (f.cell ≢ h.cell) × Falls cs f.cell h.cell) fs × Descends cs fs

-- the cell is on the way
abbrev pub IsOn : ℕ → List Frame → Type 0
IsOn r [] = ⊥
IsOn r (f ∷ fs) = (r ≡ f.cell) ⊎ IsOn r fs

-- the way down, the last cell deepest
pub record Frames (cs : List Stored) (ms : List Mark) (fs : List Frame) : Type 0 where
  pub holds : Each (FrameHolds cs ms) fs
  pub descends : Descends cs fs
  pub met : (r : ℕ) → slice_get ms r ≡ Some mark.Open → IsOn r fs

-- what was met stays met
abbrev pub StaysMet : List Mark → List Mark → Type 0
StaysMet ms ms' = (r : ℕ) (m : Mark) → slice_get ms r ≡ Some m → (m ≡ mark.New → ⊥) → (m' : Mark) × (slice_get ms' r ≡ Some m') × (m' ≡ mark.New → ⊥)

-- no values make every cell hold
abbrev pub HasNoReading : List Stored → Type 0
HasNoReading cs = (w : Bits) (g : Reading) → CellsHold w cs g → ⊥

-- what is left of the search
abbrev pub left_of : Stored → Mark → ℕ
left_of c mark.New = arity c + 2
left_of c _ = 0

abbrev pub left_at : List Stored → List Mark → ℕ
left_at [] ms = 0
left_at (c ∷ cs) [] = 0
left_at (c ∷ cs) (m ∷ ms) = left_of c m + left_at cs ms

abbrev pub frame_left : List Stored → Frame → ℕ
frame_left cs f = option_map_or (λ c. suc (arity c) - f.next) (slice_get cs f.cell) 0

abbrev pub frames_left : List Stored → List Frame → ℕ
frames_left cs [] = 0
frames_left cs (f ∷ fs) = frame_left cs f + frames_left cs fs

-- one step of the search, over marks and ways
pub record Goes (cs : List Stored) (ms : List Mark) (fs : List Frame) (f : Frame) (ms' : List Mark) (fs' : List Frame) : Type 0 where
  pub frames : Frames cs ms' fs'
  pub done : AreDone cs ms'
  pub stays : StaysMet ms ms'
  pub less : left_at cs ms' + frames_left cs fs' < left_at cs ms + frames_left cs (fs ++ f ∷ [])

-- the cell is a link to this one
abbrev pub IsLinkTo : List Stored → ℕ → Ref → Type 0
IsLinkTo cs r to = (c : Stored) × (slice_get cs r ≡ Some c) × (link_of c ≡ Some to)

-- the cell is done, as all below the floor are
abbrev pub IsDone : List Mark → ℕ → ℕ → Type 0
IsDone ms floor r = (r < floor) ⊎ (slice_get ms r ≡ Some mark.Done)

-- the cell is done, or no link stands there
abbrev pub IsDoneOrEnd : List Stored → List Mark → ℕ → ℕ → Type 0
IsDoneOrEnd cs ms floor r = (r < length cs) × (IsDone ms floor r ⊎ IsEnd cs r)

-- cells that are no part of a way were marked as done
pub record MoreDone (cs : List Stored) (ms ms' : List Mark) : Type 0 where
  pub frames : (fs : List Frame) → Frames cs ms fs → Frames cs ms' fs
  pub done : AreDone cs ms → AreDone cs ms'
  pub stays : StaysMet ms ms'
  pub less : left_at cs ms' ≤ left_at cs ms

-- nothing was met
abbrev pub AreNew : List Mark → Type 0
AreNew ms = (r : ℕ) (m : Mark) → slice_get ms r ≡ Some m → m ≡ mark.New

-- the cell was met
abbrev pub IsMetIn : ℕ → List ℕ → Type 0
IsMetIn r [] = ⊥
IsMetIn r (x ∷ xs) = (r ≡ x) ⊎ IsMetIn r xs

-- the cells that aren't new were met
pub record IsNoted (ms : List Mark) (met : List ℕ) : Type 0 where
  pub listed : (r : ℕ) (m : Mark) → slice_get ms r ≡ Some m → (m ≡ mark.New → ⊥) → IsMetIn r met
  pub within : Each (λ r. r < length ms) met

-- nothing of a heap is held
pub record IsClean (w : Work) : Type 0 where
  pub new : AreNew w.marks.items
  pub met : w.met.items ≡ []
  pub way : w.way.items ≡ []

-- every way down from the cells below n ends
abbrev pub AreFinite : List Stored → ℕ → Type 0
AreFinite cs n = (r : ℕ) → r < n → IsFinite cs r

-- the cells below n name none from n on
abbrev pub IsClosed : ℕ → List Stored → Type 0
IsClosed n cs = (r j : ℕ) → r < n → IsChild cs r j → j < n

-- A search with these cells on the way down: each cell has a mark, the cells that aren't new were met, and every way down
-- from those that are done ends, as from those below the floor.
pub record IsSearch (cs : List Stored) (floor : ℕ) (w : Work) (fs : List Frame) : Type 0 where
  pub low : AreFinite cs floor
  pub number : length cs ≤ length w.marks.items
  pub noted : IsNoted w.marks.items w.met.items
  pub done : AreDone cs w.marks.items
  pub frames : Frames cs w.marks.items fs

-- a search with nothing on the way down
pub record IsIdle (cs : List Stored) (floor : ℕ) (w : Work) : Type 0 where
  pub search : IsSearch cs floor w []
  pub empty : w.way.items ≡ []

-- one step of the search, from this cell
abbrev pub Steps : List Stored → Work → Frame → Work → Type 0
Steps cs w f w' = Goes cs w.marks.items w.way.items f w'.marks.items w'.way.items

-- every way down ends from the cells that have numbers below this one and were rewritten since the moment, where no link
-- stood until then
abbrev pub RootsEnd : Terms → Moment → ℕ → Type 0
RootsEnd t m below = (k : ℕ) (c : Change) → slice_get (changes_since m t) k ≡ Some c → link_of c.old ≡ None → c.cell < below → IsFinite t.cells c.cell
