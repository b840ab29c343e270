-- The places of the inputs among the levels.
use Rattle.std.specs.Prelude.{◌≡◌, ℕ, List, length}
use Rattle.cb_levels.specs.Inverse.{IsInverse}

-- there are so many inputs; the first list has the input of each level, and the second the level of each input
pub record ArePlaces (inputs : ℕ) (order levels : List ℕ) : Type 0 where
  pub inverse : IsInverse order levels
  pub count : length levels ≡ inputs
