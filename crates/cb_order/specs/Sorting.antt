-- The state of the sorting.
use Rattle.std.specs.Prelude.{◌≡◌, ℕ, ◌<◌, ◌≤◌, Bool, true, false, List, [], ◌∷◌, map, length, slice_get, slice_index_or, Some, Contains}
use Rattle.cb_order.specs.declared.Wait.{Wait}
use Rattle.cb_order.specs.declared.Sorting.{Sorting}
use Rattle.cb_model.specs.Order.{needs_of, Follows}

-- the item is placed
abbrev pub is_placed : List Bool → ℕ → Bool
is_placed placed i = slice_index_or placed i false

-- what a sorting holds
pub record State : Type 0 where
  pub order : List ℕ
  pub placed : List Bool
  pub waits : List (List Wait)
  pub ready : List ℕ

abbrev pub state_of : Sorting → State
state_of s = record { order = s.order.items; placed = s.placed.items; waits = map (λ v. v.items) s.waiting.items; ready = s.ready.keys }

-- an item waits for item n
abbrev pub HasWait : List (List Wait) → ℕ → Wait → Type 0
HasWait ws n w = Contains (slice_index_or ws n []) w

pub record IsShaped (g : List (List ℕ)) (s : State) : Type 0 where
  pub placed : length s.placed ≡ length g
  pub waiting : length s.waits ≡ length g
  pub items : (n : ℕ) (w : Wait) → HasWait s.waits n w → w.item < length g

-- the item was seen, and its needs before the place are placed
pub record IsWait (g : List (List ℕ)) (seen : ℕ) (placed : List Bool) (w : Wait) : Type 0 where
  pub was_seen : w.item < seen
  pub before : (k n : ℕ) → k < w.at → slice_get (needs_of g w.item) k ≡ Some n → is_placed placed n ≡ true

-- the item is ready, or waits for a need that isn't placed, or is still to be looked at
pub data IsHeld (g : List (List ℕ)) (late : List Wait) (s : State) (i : ℕ) : Type 0 where
  ready : Contains s.ready i → IsHeld g late s i
  waits : (n : ℕ) (w : Wait) → w.item ≡ i → Contains (needs_of g i) n → is_placed s.placed n ≡ false → HasWait s.waits n w → IsHeld g late s i
  is_late : (w : Wait) → w.item ≡ i → Contains late w → IsHeld g late s i

-- the items before `seen` were seen, and of these the late ones have to be looked at
pub record IsSorting (g : List (List ℕ)) (seen : ℕ) (late : List Wait) (s : State) : Type 0 where
  pub shape : IsShaped g s
  pub within : seen ≤ length g
  pub follows : Follows g [] s.order
  pub placed : (i : ℕ) → is_placed s.placed i ≡ true → Contains s.order i
  pub marked : (i : ℕ) → Contains s.order i → is_placed s.placed i ≡ true
  pub ready : (i : ℕ) → Contains s.ready i → (i < seen) × (is_placed s.placed i ≡ false) × ((n : ℕ) → Contains (needs_of g i) n → is_placed s.placed n ≡ true)
  pub waits : (n : ℕ) (w : Wait) → HasWait s.waits n w → IsWait g seen s.placed w
  pub are_late : (w : Wait) → Contains late w → IsWait g seen s.placed w
  pub held : (i : ℕ) → i < seen → is_placed s.placed i ≡ false → IsHeld g late s i

-- an item whose needs were all looked at
abbrev pub item_wait : List (List ℕ) → ℕ → Wait
item_wait g i = record { item = i; at = length (needs_of g i) }

-- the item comes next
pub record IsNext (g : List (List ℕ)) (seen item : ℕ) (s : State) : Type 0 where
  pub sorting : IsSorting g seen (item_wait g item ∷ []) s
  pub unplaced : is_placed s.placed item ≡ false
  pub least : (i : ℕ) → Contains s.ready i → item < i
