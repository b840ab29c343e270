-- The memo of `xor`.
use Rattle.std.specs.Prelude.{◌≡◌, ◌⊎◌, ℕ, ◌<◌, Bool, ◌&&◌, List, nat_eq, Some}
use Rattle.indexmap.specs.IndexMap.{IndexMap, get}
use Rattle.cb_dd.specs.declared.Triple.{Triple}
use Rattle.cb_ops.specs.declared.memos.Pair.{Pair}
use Rattle.cb_ops.specs.Ops.{IsXor}

abbrev pub pair_eq : Pair → Pair → Bool
pair_eq x y = nat_eq x.f y.f && nat_eq x.g y.g

-- a call and its answer, all of whose nodes have numbers below the bound
pub record IsPairAnswer (ts : List Triple) (bound : ℕ) (p : Pair) (r : ℕ) : Type 0 where
  pub f : p.f < bound
  pub g : p.g < bound
  pub answer : r < bound
  pub is : IsXor ts ts p.f p.g r

-- each answer that the memo gives is right, and names only nodes of the store
pub record IsPairs {S : Type 0} (pairs : IndexMap Pair ℕ S) (bound : ℕ) (ts : List Triple) : Type 0 where
  pub right : (p : Pair) (r : ℕ) → get pair_eq pairs p ≡ Some r → IsPairAnswer ts bound p r

-- the two nodes in their order or the other
pub record IsSamePair (f g f2 g2 : ℕ) : Type 0 where
  pub same : ((f2 ≡ f) × (g2 ≡ g)) ⊎ ((f2 ≡ g) × (g2 ≡ f))
