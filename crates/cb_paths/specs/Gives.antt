-- What the next product is.
use Rattle.std.specs.Prelude.{◌≡◌, ℕ, Bool, List, [], ◌∷◌, Option, None, Some}
use Rattle.std.specs.Borrow.{Bor}
use Rattle.cb_paths.specs.Walk.{Walk}

abbrev pub Gives : Walk → Walk → Option (Bor (List (ℕ × Bool))) → Type 0
Gives old new (Some p) = (old.to_come ≡ p.now ∷ new.to_come)
Gives old new None = (old.to_come ≡ []) × (new.to_come ≡ [])
