-- What the steps of writing a value rest on.
use Rattle.std.specs.Prelude.{ℕ, ◌<◌, ◌≤◌, ◌⊎◌, List, [], ◌∷◌, ◌++◌}
use Rattle.cb_model.specs.Text.{Text}
use Rattle.cb_model.specs.Bits.{Each}
use Rattle.cb_model.specs.Answers.{Product}

-- the level is that of a constant or of a parameter
abbrev pub IsNamed : ℕ → ℕ → ℕ → Type 0
IsNamed constants first l = (l < constants) ⊎ (first ≤ l)

-- so are those of a product
abbrev pub AreNamed : ℕ → ℕ → Product → Type 0
AreNamed constants first p = Each (λ l. IsNamed constants first l.0) p

-- the pieces that follow others, each behind the separator
abbrev pub behind : Text → List Text → Text
behind sep [] = []
behind sep (x ∷ xs) = sep ++ x ++ behind sep xs
