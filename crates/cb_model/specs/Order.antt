-- An order of items that need one another.
use Rattle.std.specs.Prelude.{ℕ, ◌<◌, List, [], ◌∷◌, ◌++◌, length, slice_index_or, Contains}

-- the items that an item needs, where the items are the numbers below the length of the list
abbrev pub needs_of : List (List ℕ) → ℕ → List ℕ
needs_of g i = slice_index_or g i []

-- each item needs items
abbrev pub IsGraph : List (List ℕ) → Type 0
IsGraph g = (i n : ℕ) → Contains (needs_of g i) n → n < length g

-- an item can come next behind these: it isn't among them, and all that it needs is
pub record CanCome (g : List (List ℕ)) (done : List ℕ) (i : ℕ) : Type 0 where
  pub within : i < length g
  pub new : Contains done i → ⊥
  pub needs : (n : ℕ) → Contains (needs_of g i) n → Contains done n

-- behind these each item can come next, and no lesser one can
abbrev pub Follows : List (List ℕ) → List ℕ → List ℕ → Type 0
Follows g done [] = Unit {0}
Follows g done (i ∷ is) = CanCome g done i × ((j : ℕ) → j < i → CanCome g done j → ⊥) × Follows g (done ++ i ∷ []) is

-- each item stands once, behind those that it needs; of those that could come next the least comes
pub record IsOrder (g : List (List ℕ)) (is : List ℕ) : Type 0 where
  pub follows : Follows g [] is
  pub all : (i : ℕ) → i < length g → Contains is i

-- item j needs item i, or items on the way do
pub data Leads (g : List (List ℕ)) : ℕ → ℕ → Type 0 where
  feeds : {i j : ℕ} → Contains (needs_of g j) i → Leads g i j
  leads_on : {i k : ℕ} (j : ℕ) → Contains (needs_of g j) i → Leads g j k → Leads g i k

-- some items need one another round to the first
abbrev pub HasCycle : List (List ℕ) → Type 0
HasCycle g = (i : ℕ) × Leads g i i
