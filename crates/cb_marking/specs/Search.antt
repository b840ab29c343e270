-- The search for the things that have one sort.
use Rattle.std.specs.Prelude.{◌≡◌, ℕ, ◌+◌, ◌⊎◌, Bool, true, false, if◌then◌else◌, List, [], ◌∷◌, Contains, length, get_or, Option, Some, None}
use Rattle.cb_model.specs.declared.Sort.{Sort}
use Rattle.cb_model.specs.declared.Sort.TheVariants as sort
use Rattle.cb_marking.specs.declared.links.Links.{Links}
use Rattle.cb_marking.specs.Marks.{HasSort}

-- two things are linked
abbrev pub Joined : List (ℕ × ℕ) → ℕ → ℕ → Type 0
Joined edges x y = Contains edges (x, y) ⊎ Contains edges (y, x)

-- a table of what each thing is linked with
pub record IsTable (edges : List (ℕ × ℕ)) (things : ℕ) (table : List (List ℕ)) : Type 0 where
  pub len : length table ≡ things
  pub linked : (x y : ℕ) → Contains (get_or table x []) y → Joined edges x y
  pub whole : (x y : ℕ) → Joined edges x y → Contains (get_or table x []) y

-- the things that are given a sort
pub record HasStarts (given : List (ℕ × Sort)) (s : Sort) (starts : List ℕ) : Type 0 where
  pub sound : (x : ℕ) → Contains starts x → Contains given (x, s)
  pub whole : (x : ℕ) → Contains given (x, s) → Contains starts x

-- the thing is seen
abbrev pub IsSeen : List Bool → ℕ → Type 0
IsSeen seen x = get_or seen x false ≡ true

-- how many things are not seen
abbrev pub unseen : List Bool → ℕ
unseen [] = 0
unseen (b ∷ bs) = (if b then 0 else 1) + unseen bs

-- these things are seen now, and those that were not seen before wait
pub record Visited (things : List ℕ) (old : List Bool) (waited : List ℕ) (seen : List Bool) (waiting : List ℕ) : Type 0 where
  pub len : length seen ≡ length old
  pub still : (x : ℕ) → IsSeen old x → IsSeen seen x
  pub all : (x : ℕ) → Contains things x → IsSeen seen x
  pub only : (x : ℕ) → IsSeen seen x → IsSeen old x ⊎ (Contains things x × Contains waiting x)
  pub waits : (x : ℕ) → Contains waited x → Contains waiting x
  pub seen_waits : (x : ℕ) → Contains waiting x → Contains waited x ⊎ IsSeen seen x
  pub count : unseen seen + length waiting ≡ unseen old + length waited

-- exactly the things that have the sort are seen
pub record Reaches (m : Links) (s : Sort) (things : ℕ) (seen : List Bool) : Type 0 where
  pub len : length seen ≡ things
  pub sound : (x : ℕ) → IsSeen seen x → HasSort m x s
  pub whole : (x : ℕ) → HasSort m x s → IsSeen seen x

-- the one sort of three marks, `term` where there is none
abbrev pub one_of : Bool → Bool → Bool → Option Sort
one_of true false false = Some sort.Bool
one_of false true false = Some sort.Bus
one_of false false true = Some sort.Term
one_of false false false = Some sort.Term
one_of _ _ _ = None
