-- The leaf bits of an answer, and the functions of its parametric form, over functions of numbered levels.
use Rattle.std.specs.Prelude.{◌≡◌, ℕ, ◌<◌, Bool, not, if◌then◌else◌, List, ◌++◌, map}
use Rattle.cb_model.specs.Bits.{Bits}
use Rattle.cb_boole.specs.Elimination.{Function, rest}
use Rattle.cb_boole.specs.View.{View, InRange, point}

-- the bits of functions at some bits of the levels
abbrev pub values_at : List Function → Bits → List Bool
values_at fs p = map (λ f. f p) fs

-- some bits of the levels that are no constants, with the constants' own bits, give these bits to the first of the functions
pub record Reaches (constants : ℕ) (fs : List Function) (a : Bits) (bits : List Bool) : Type 0 where
  pub at : Bits
  pub agrees : (k : ℕ) → k < constants → at k ≡ a k
  pub more : List Bool
  pub begins : bits ++ more ≡ values_at fs at

-- some pair of the store's range at the assignment gives these bits to the first of the functions
pub record Allows (S : View) (fs : List Function) (a : Bits) (bits : List Bool) : Type 0 where
  pub b : Bits
  pub in_range : InRange S a b
  pub more : List Bool
  pub begins : bits ++ more ≡ values_at fs (point S.stands a b)

-- the function of a leaf: its parameter where some bits of the levels give the leaf that bit, else the other bit
unfoldable pub parametric : List ℕ → ℕ → Function → Function
parametric ls u f p = if p u then not (rest ls (λ q. not (f q)) p) else rest ls f p
