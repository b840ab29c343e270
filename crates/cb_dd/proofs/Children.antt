-- The constants are children at every level.
use Rattle.std.proofs.Common.{ℕ, ◌<◌, ◌^◌, List, arith}
use Rattle.cb_dd.specs.declared.Triple.{Triple}
use Rattle.cb_dd.specs.Diagram.{IsChild}
use Rattle.cb_dd.proofs.Diagrams.{level_of-zero, level_of-one}

pub bottom_child : (ts : List Triple) (level : ℕ) → level < 2 ^ 32 → IsChild ts level 0
bottom_child ts level small = record { node = omega arith; below = omega (arith, level_of-zero ts) }

pub top_child : (ts : List Triple) (level : ℕ) → level < 2 ^ 32 → IsChild ts level 1
top_child ts level small = record { node = omega arith; below = omega (arith, level_of-one ts) }
