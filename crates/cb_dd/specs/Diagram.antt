-- What contracts see of a store of nodes, and what its nodes stand for.
use Rattle.std.specs.Prelude.{◌≡◌, ◌≢◌, ℕ, ◌+◌, ◌-◌, ◌<◌, ◌≤◌, ◌^◌, min, Bool, true, false, List, [], ◌∷◌, ◌++◌, map, length, slice_get, slice_index_or, if◌then◌else◌, nat_lt, ◌↔◌, Option, None, Some, Result, Ok, Err}
use Rattle.std.specs.Option.{option_map}
use Rattle.std.specs.List.{fold}
use Rattle.cb_model.specs.Bits.{Bits, put}
use Rattle.cb_dd.specs.declared.Triple.{Triple}
use Rattle.cb_dd.specs.declared.Node.{Node}
use Rattle.cb_dd.specs.declared.Stop.{Stop}
use Rattle.cb_dd.specs.declared.Stop.TheVariants.{Nodes, Memory}

-- the budget, the triples in order of making, and the number of refusals for nodes
pub record Store : Type 0 where
  pub budget : ℕ
  pub triples : List Triple
  pub fulls : ℕ

-- the values of the nodes at the assignment a, one after another: a new node has the value of its `hi` where its level is 1, and of its `lo` where it is 0
abbrev pub with_value : Bits → List Bool → Triple → List Bool
with_value a vs t = vs ++ (if a t.level then slice_index_or vs t.hi false else slice_index_or vs t.lo false) ∷ []

-- nodes 0 and 1 are the constants, and node k + 2 is the k-th triple
unfoldable pub values_at : Bits → List Triple → List Bool
values_at a ts = fold (with_value a) (false ∷ true ∷ []) ts

-- the function for which node n stands
unfoldable pub function_of : List Triple → ℕ → Bits → Bool
function_of ts n a = slice_index_or (values_at a ts) n false

-- the level of node n, above all levels for the constants
unfoldable pub level_of : List Triple → ℕ → ℕ
level_of ts n = slice_index_or (2 ^ 32 ∷ 2 ^ 32 ∷ map (λ t. t.level) ts) n (2 ^ 32)

abbrev pub IsNode : List Triple → ℕ → Type 0
IsNode ts n = n < length ts + 2

-- what `parts` answers
abbrev pub parts_of : List Triple → ℕ → Option (ℕ × Node × Node)
parts_of ts n = if nat_lt n 2 then None else option_map (λ t. (t.level, record { 0 = t.lo }, record { 0 = t.hi })) (slice_get ts (n - 2))

-- a node at this level may have the child n
pub record IsChild (ts : List Triple) (level n : ℕ) : Type 0 where
  pub node : IsNode ts n
  pub below : level < level_of ts n

-- the k-th triple has different children, which were made before it and have greater levels
pub record IsOrdered (ts : List Triple) (k : ℕ) (t : Triple) : Type 0 where
  pub level : t.level < 2 ^ 32
  pub lo : t.lo < k + 2
  pub hi : t.hi < k + 2
  pub lo_below : t.level < level_of ts t.lo
  pub hi_below : t.level < level_of ts t.hi
  pub differ : t.lo ≢ t.hi

-- each triple is so, and no triple stands twice
pub record IsDiagram (ts : List Triple) : Type 0 where
  pub ordered : (k : ℕ) (t : Triple) → slice_get ts k ≡ Some t → IsOrdered ts k t
  pub once : (i j : ℕ) (t : Triple) → slice_get ts i ≡ Some t → slice_get ts j ≡ Some t → i ≡ j

-- two nodes are equal exactly where their functions are
abbrev pub IsCanonical : List Triple → Type 0
IsCanonical ts = (m n : ℕ) → IsNode ts m → IsNode ts n → (m ≡ n) ↔ ((a : Bits) → function_of ts m a ≡ function_of ts n a)

-- the triple stands in the list
abbrev pub Holds : List Triple → Triple → Type 0
Holds ts t = (k : ℕ) × (slice_get ts k ≡ Some t)

abbrev pub triple : ℕ → ℕ → ℕ → Triple
triple level lo hi = record { level = level; lo = lo; hi = hi }

-- the new store has the old one's triples, and at most so many more after them
pub record Extends (most : ℕ) (old new : Store) : Type 0 where
  pub budget : new.budget ≡ old.budget
  pub more : List Triple
  pub triples : new.triples ≡ old.triples ++ more
  pub bound : length more ≤ most
  pub fulls : old.fulls ≤ new.fulls

-- a node with these parts is to be made, and the store is full
pub record IsFull (s : Store) (level lo hi : ℕ) : Type 0 where
  pub differ : lo ≢ hi
  pub absent : Holds s.triples (triple level lo hi) → ⊥
  pub full : length s.triples ≡ s.budget

-- the number of refusals for nodes after an answer
abbrev pub fulls_after : ℕ → Result Node Stop → ℕ
fulls_after fulls (Ok n) = fulls
fulls_after fulls (Err Memory) = fulls
fulls_after fulls (Err Nodes) = min (fulls + 1) (2 ^ 64 - 1)

-- the facts of a node with parts
pub record HasParts (ts : List Triple) (n level lo hi : ℕ) : Type 0 where
  pub at : level_of ts n ≡ level
  pub small : level < 2 ^ 32
  pub lo_node : IsNode ts lo
  pub hi_node : IsNode ts hi
  pub lo_below : level < level_of ts lo
  pub hi_below : level < level_of ts hi
  pub differ : lo ≢ hi
  pub function : (a : Bits) → function_of ts n a ≡ (if a level then function_of ts hi a else function_of ts lo a)
  pub lo_function : (a : Bits) → function_of ts lo a ≡ function_of ts n (put level false a)
  pub hi_function : (a : Bits) → function_of ts hi a ≡ function_of ts n (put level true a)
