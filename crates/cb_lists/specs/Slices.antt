-- Lists that stand in one, one behind another.
use Rattle.std.specs.Prelude.{◌≡◌, ℕ, zero, suc, ◌-◌, ◌≤◌, List, [], ◌∷◌, take, drop}

-- the lists that end at these places, the first from a place on
abbrev pub slices : List ℕ → ℕ → List ℕ → List (List ℕ)
slices ns from [] = []
slices ns from (e ∷ es) = take (e - from) (drop from ns) ∷ slices ns e es

-- places that rise, from the first place to the last
abbrev pub Rises : ℕ → List ℕ → ℕ → Type 0
Rises from [] last = from ≡ last
Rises from (e ∷ es) last = (from ≤ e) × Rises e es last

-- where a list begins
abbrev pub start_of : ℕ → List ℕ → ℕ → ℕ
start_of from [] k = from
start_of from (e ∷ es) zero = from
start_of from (e ∷ es) (suc k) = start_of e es k
