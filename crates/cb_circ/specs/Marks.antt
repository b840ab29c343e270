-- Marks of nets.
use Rattle.std.specs.Prelude.{ℕ, ◌<◌, Bool, true, false, if◌then◌else◌, ◌&&◌, List, [], ◌∷◌, slice_index_or, slice_set, Option, Some, None}
use Rattle.cb_model.specs.Bits.{Each}

-- the numbers are below
abbrev pub AreWithin : ℕ → List ℕ → Type 0
AreWithin n ks = Each (λ k. k < n) ks

-- the marks with these nets marked too, if none was
abbrev pub marked : List Bool → List ℕ → Option (List Bool)
marked ms [] = Some ms
marked ms (k ∷ ks) = if slice_index_or ms k false then None else marked (slice_set ms k true) ks

-- whether these nets are marked
abbrev pub are_marked : List Bool → List ℕ → Bool
are_marked ms [] = true
are_marked ms (k ∷ ks) = slice_index_or ms k false && are_marked ms ks
