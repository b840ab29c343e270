-- The levels of inputs.
use Rattle.std.specs.Prelude.{◌≡◌, ℕ, ◌<◌, List, length, get_or}

-- the first list has the input of each level, and the second the level of each input
pub record IsInverse (order levels : List ℕ) : Type 0 where
  pub as_many : length levels ≡ length order
  pub to_input : (k : ℕ) → k < length order → (get_or order k 0 < length order) × (get_or levels (get_or order k 0) 0 ≡ k)
  pub to_level : (i : ℕ) → i < length order → (get_or levels i 0 < length order) × (get_or order (get_or levels i 0) 0 ≡ i)
