-- The walk over terms in cells: what is still to be told, and what one step tells.
use Rattle.std.specs.Prelude.{◌≡◌, ◌⊎◌, ℕ, zero, suc, ◌+◌, ◌<◌, ◌≤◌, List, [], ◌∷◌, ◌++◌, map, length, drop, Option, Some, slice_get}
use Rattle.std.specs.Borrow.{Bor}
use Rattle.cb_model.specs.declared.Sort.{Sort}
use Rattle.cb_model.specs.declared.Sort.TheVariants as sort
use Rattle.cb_laws.proofs.OpenTrees.{Plain, Plains, Place, bus_places, plain_leaves, all_leaves, plain_opens, all_opens}
use Rattle.cb_heap.specs.declared.Ref.{Ref}
use Rattle.cb_heap.specs.declared.Stored.{Stored}
use Rattle.cb_heap.specs.declared.Stored.TheVariants as cell
use Rattle.cb_shape.specs.declared.Root.{Root}
use Rattle.cb_shape.specs.declared.Token.{Token}
use Rattle.cb_shape.specs.declared.Token.TheVariants as token
use Rattle.cb_shape.specs.declared.walk.Pending.{Pending}
use Rattle.cb_shape.specs.declared.walk.Pending.TheVariants as pending
use Rattle.cb_shape.specs.declared.walk.Walk.{Walk}
use Rattle.cb_shape.specs.Shapes.{firsts}
use Rattle.cb_shape.specs.Terms.{IsBus, IsTerm, AreCells, AreTerms, AreRoots, how_many}
use Rattle.cb_shape.specs.Tokens.{tail_tokens, tokens, rest_tokens, roots_tokens, plain_places, all_places}

-- what is still to be told
pub data Work : Type 0 where
  Whole : Plain → Work
  Rest : Plains → Work
  Tail : List ℕ → Option ℕ → Work
  Roots : ℕ → List Root → Plains → Work

-- its tokens, leaves, open places and places
abbrev pub work_tokens : List Place → ℕ → Work → List Token
work_tokens os j (Whole p) = tokens os j p
work_tokens os j (Rest ps) = rest_tokens os j ps
work_tokens os j (Tail ss t) = tail_tokens os j ss t
work_tokens os j (Roots i rs ps) = roots_tokens os j i rs ps

abbrev pub work_leaves : Work → List ℕ
work_leaves (Whole p) = plain_leaves p
work_leaves (Rest ps) = all_leaves ps
work_leaves (Tail ss t) = ss
work_leaves (Roots i rs ps) = all_leaves ps

abbrev pub work_opens : Work → List Place
work_opens (Whole p) = plain_opens p
work_opens (Rest ps) = all_opens ps
work_opens (Tail ss t) = bus_places t
work_opens (Roots i rs ps) = all_opens ps

abbrev pub work_places : Work → ℕ
work_places (Whole p) = plain_places p
work_places (Rest ps) = all_places ps
work_places (Tail ss t) = length ss + 1
work_places (Roots i rs ps) = all_places ps

-- the same of works, of which the first comes first
abbrev pub told : List Place → ℕ → List Work → List Token
told os j [] = []
told os j (w ∷ ws) = work_tokens os j w ++ told os (j + length (work_leaves w)) ws

abbrev pub leaves_of : List Work → List ℕ
leaves_of [] = []
leaves_of (w ∷ ws) = work_leaves w ++ leaves_of ws

abbrev pub opens_of : List Work → List Place
opens_of [] = []
opens_of (w ∷ ws) = work_opens w ++ opens_of ws

abbrev pub places_of : List Work → ℕ
places_of [] = 0
places_of (w ∷ ws) = work_places w + places_of ws

-- what is pending is this work
abbrev pub IsWork : List Stored → List Root → Pending → Work → Type 0
IsWork cs roots (pending.Cell r) (Whole p) = IsTerm cs r.0 p
IsWork cs roots (pending.Rest at k) (Rest ps) = (k ≡ how_many ps) × AreTerms cs at ps
IsWork cs roots (pending.Arguments args) (Rest ps) = AreCells cs args.now ps
IsWork cs roots (pending.Tail r) (Tail ss t) = IsBus cs r.0 ss t
IsWork cs roots (pending.Roots i) (Roots k rs ps) = (k ≡ i) × (i ≤ length roots) × (rs ≡ drop i roots) × AreRoots cs rs ps
IsWork cs roots _ _ = ⊥

-- what is pending, of which the last comes first, is these works in turn
abbrev pub AreWorks : List Stored → List Root → List Pending → List Work → Type 0
AreWorks cs roots [] [] = Unit {0}
AreWorks cs roots (x ∷ xs) (w ∷ ws) = IsWork cs roots x w × AreWorks cs roots xs ws
AreWorks cs roots _ _ = ⊥

-- the last comes first
abbrev pub turned : List Work → List Work
turned [] = []
turned (w ∷ ws) = turned ws ++ w ∷ []

-- the sort of an unbound cell
abbrev pub open_sort : Option Stored → Sort
open_sort (Some cell.BusVar) = sort.Bus
open_sort _ = sort.Term

-- the open place of a cell
abbrev pub place_in : List Stored → ℕ → Place
place_in cs c = (open_sort (slice_get cs c), c)

-- the open places that have numbers
abbrev pub seen : List Stored → List ℕ → List Place
seen cs keys = map (place_in cs) keys

-- these tokens, slots, cells of open places and places were added
pub record Adds (old new : Walk) (ts : List Token) (ss : List ℕ) (cells : List ℕ) (d : ℕ) : Type 0 where
  pub tokens : new.tokens.items ≡ old.tokens.items ++ ts
  pub slots : new.slots.items ≡ old.slots.items ++ ss
  pub opens : new.opens.keys ≡ cells
  pub places : new.places ≡ old.places + d

-- the name was told, and of its arguments, which stand behind the cell, the first and the rest are pending
abbrev pub TellsName : ℕ → ℕ → ℕ → Walk → Walk → List Pending → List Pending → Type 0
TellsName at name zero old new before after = Adds old new (token.Name name ∷ []) [] old.opens.keys 1 × (after ≡ before)
TellsName at name (suc k) old new before after =
    Adds old new (token.Name name ∷ token.LeftParen ∷ []) [] old.opens.keys 1 ×
    (after ≡ before ++ pending.Rest (suc (suc at)) k ∷ pending.Cell (record { 0 = suc at }) ∷ [])

-- a goal was told without its name, and of its arguments the first and the rest are pending
abbrev pub TellsGoal : List Ref → Walk → Walk → List Pending → List Pending → Type 0
TellsGoal [] old new before after = Adds old new [] [] old.opens.keys 1 × (after ≡ before)
TellsGoal (r ∷ rs) old new before after =
    Adds old new (token.LeftParen ∷ []) [] old.opens.keys 1 ×
    (rest : Bor (List Ref)) × (rest.now ≡ rs) × (after ≡ before ++ pending.Arguments rest ∷ pending.Cell r ∷ [])

-- A step told the front of a work, and left the rest of it pending.
pub record Writes (cs : List Stored) (roots : List Root) (w : Work) (old new : Walk) (before after : List Pending) : Type 0 where
  pub ts : List Token
  pub ss : List ℕ
  pub d : ℕ
  pub adds : Adds old new ts ss new.opens.keys d
  pub added : List Pending
  pub pushed : after ≡ before ++ added
  pub more : List Work
  pub are : AreWorks cs roots added more
  pub tokens : (os : List Place) →
      work_tokens (seen cs new.opens.keys ++ os) (length old.slots.items) w ≡ ts ++ told (seen cs new.opens.keys ++ os) (length old.slots.items + length ss) (turned more)
  pub leaves : work_leaves w ≡ ss ++ leaves_of (turned more)
  pub xs : List Place
  pub opens : work_opens w ≡ xs ++ opens_of (turned more)
  pub numbered : seen cs new.opens.keys ≡ firsts (seen cs old.opens.keys) xs
  pub places : work_places w ≡ d + places_of (turned more)

-- a place was told at least, and at most three pieces are pending more; or nothing more is pending
abbrev pub GoesOn : Walk → Walk → List Pending → List Pending → Type 0
GoesOn old new before after = ((old.places < new.places) × (length after ≤ length before + 3)) ⊎ (length after ≤ length before)

-- a step of the walk
pub record Steps (cs : List Stored) (roots : List Root) (w : Work) (old new : Walk) (before after : List Pending) : Type 0 where
  pub writes : Writes cs roots w old new before after
  pub on : GoesOn old new before after

-- the first place of a term was told, and at most two pieces are pending more
pub record Begins (cs : List Stored) (roots : List Root) (p : Plain) (old new : Walk) (before after : List Pending) : Type 0 where
  pub writes : Writes cs roots (Whole p) old new before after
  pub one : new.places ≡ old.places + 1
  pub few : length after ≤ length before + 2
