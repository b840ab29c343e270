-- How the products of a node are counted: from the node down, by the ways to each node.
use Rattle.std.specs.Prelude.{◌≡◌, ℕ, suc, ◌+◌, ◌*◌, ◌<◌, ◌≤◌, max, List, [], ◌∷◌, length, Option, None, Some}
use Rattle.cb_model.specs.Bits.{Each}
use Rattle.cb_dd.specs.declared.Triple.{Triple}
use Rattle.cb_dd.specs.Diagram.{IsNode}
use Rattle.cb_paths.specs.Products.{products_of}

-- the count, where it isn't more than the most
abbrev pub IsCount : ℕ → ℕ → Option ℕ → Type 0
IsCount count most (Some n) = (n ≡ count) × (count ≤ most)
IsCount count most None = most < count

-- nodes, each with the number of ways to it
abbrev pub Ways : Type 0
Ways = List (ℕ × ℕ)

-- they are nodes of the store
abbrev pub AreEntries : List Triple → Ways → Type 0
AreEntries ts ways = Each (λ e. IsNode ts e.0) ways

-- no number of ways is above the limit
abbrev pub AreCapped : ℕ → Ways → Type 0
AreCapped limit ways = Each (λ e. e.1 ≤ limit) ways

-- the products through these nodes: those of each, as often as there are ways to it
abbrev pub through : List Triple → Ways → ℕ
through ts [] = 0
through ts (e ∷ es) = e.1 * length (products_of ts e.0) + through ts es

-- the least number above those of the nodes
abbrev pub above : Ways → ℕ
above [] = 0
above (e ∷ es) = max (suc e.0) (above es)
