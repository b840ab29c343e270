-- Which slots may depend on which level.
use Rattle.std.specs.Prelude.{◌≡◌, ℕ, ◌+◌, ◌<◌, ◌≤◌, true, nat_eq, List, length, slice_index, slice_index_or}
use Rattle.std.specs.List.{list_any}
use Rattle.cb_trail.specs.declared.uses.Use.{Use}

-- the number is in the list
abbrev pub IsIn : List ℕ → ℕ → Type 0
IsIn xs x = list_any (nat_eq x) xs ≡ true

-- the slot has used the level since the undo list had this many changes, or before
pub record IsUsed (us : List Use) (level slot changes : ℕ) : Type 0 where
  pub at : ℕ
  pub within : at < length us
  pub of_level : (d : Use) → (slice_index_or us at d).level ≡ level
  pub by_slot : (d : Use) → (slice_index_or us at d).slot ≡ slot
  pub since : (d : Use) → (slice_index_or us at d).since ≤ changes

-- what slots below a number have used since this many changes, or before, they still use
abbrev pub StaysUsed : ℕ → ℕ → List Use → List Use → Type 0
StaysUsed slots changes old new = (level slot since : ℕ) → slot < slots → since ≤ changes → IsUsed old level slot since → IsUsed new level slot since

-- of the first n uses, h is one more than the number of the last of the level, and 0 where there is none
pub record IsLast (us : List Use) (level n h : ℕ) : Type 0 where
  pub within : h ≤ n
  pub past : (j : ℕ) (d : Use) → h ≤ j → j < n → (slice_index_or us j d).level ≡ level → ⊥
  pub here : (j : ℕ) (d : Use) → h ≡ j + 1 → (slice_index_or us j d).level ≡ level

-- each use is linked to the last before it of its level, and each level to its last
pub record IsLinked (us : List Use) (bs hs : List ℕ) : Type 0 where
  pub number : length bs ≡ length us
  pub last : (l : ℕ) → IsLast us l (length us) (slice_index hs l)
  pub before : (i : ℕ) (d : Use) → i < length us → IsLast us (slice_index_or us i d).level i (slice_index bs i)
