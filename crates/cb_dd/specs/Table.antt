-- How a store keeps its nodes: two entries for the constants, then the triples.
use Rattle.std.specs.Prelude.{◌≡◌, ℕ, ◌-◌, ◌≤◌, ◌^◌, List, ◌∷◌, length, drop}
use Rattle.cb_dd.specs.declared.Triple.{Triple}
use Rattle.cb_dd.specs.Diagram.{IsDiagram}

abbrev pub constant_entry : ℕ → Triple
constant_entry n = record { level = 0; lo = n; hi = n }

pub record IsTable (keys : List Triple) (budget fulls : ℕ) : Type 0 where
  pub constants : keys ≡ constant_entry 0 ∷ constant_entry 1 ∷ drop 2 keys
  pub diagram : IsDiagram (drop 2 keys)
  pub within : length (drop 2 keys) ≤ budget
  pub unbounded : budget ≡ 2 ^ 64 - 1 → fulls ≡ 0
