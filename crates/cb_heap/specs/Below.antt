-- The cells below a cell.
use Rattle.std.specs.Prelude.{◌≡◌, ◌⊎◌, ℕ, true, List, ◌++◌, nat_eq}
use Rattle.std.specs.List.{list_any, IsDistinct}
use Rattle.cb_heap.specs.declared.Stored.{Stored}
use Rattle.cb_heap.specs.Finite.{IsChild}

-- the second cell is the first, or one below it
pub data IsBelow (cs : List Stored) : ℕ → ℕ → Type 0 where
  here : {r : ℕ} → IsBelow cs r r
  down : {r j k : ℕ} → IsChild cs r j → IsBelow cs j k → IsBelow cs r k

-- the cell was met
abbrev pub IsMet : List ℕ → ℕ → Type 0
IsMet met r = list_any (nat_eq r) met ≡ true

-- these cells went behind those that were met before
pub record Meets (named : ℕ → Type 0) (old new : List ℕ) : Type 0 where
  pub more : List ℕ
  pub behind : new ≡ old ++ more
  pub unique : IsDistinct nat_eq new
  pub all : (j : ℕ) → named j → IsMet new j
  pub only : (j : ℕ) → IsMet new j → IsMet old j ⊎ named j
