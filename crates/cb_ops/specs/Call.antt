-- The memo of a store of operations.
use Rattle.std.specs.Prelude.{◌≡◌, ℕ, ◌+◌, ◌<◌, ◌≤◌, Bool, ◌&&◌, List, length, nat_eq, Some, if◌then◌else◌}
use Rattle.indexmap.specs.IndexMap.{IndexMap, get}
use Rattle.cb_dd.specs.declared.Triple.{Triple}
use Rattle.cb_model.specs.Bits.{Bits}
use Rattle.cb_dd.specs.Diagram.{IsDiagram, function_of}
use Rattle.cb_ops.specs.declared.memos.Call.{Call}
use Rattle.cb_ops.specs.Ops.{IsIte}

abbrev pub call_eq : Call → Call → Bool
call_eq x y = nat_eq x.f y.f && (nat_eq x.g y.g && nat_eq x.h y.h)

-- a call and its answer, all of whose nodes have numbers below the bound
pub record IsAnswer (ts : List Triple) (bound : ℕ) (c : Call) (r : ℕ) : Type 0 where
  pub f : c.f < bound
  pub g : c.g < bound
  pub h : c.h < bound
  pub answer : r < bound
  pub is : IsIte ts ts c.f c.g c.h r

-- each answer that the memo gives is right, and names only nodes of the store
pub record IsMemo {S : Type 0} (memo : IndexMap Call ℕ S) (bound : ℕ) (ts : List Triple) : Type 0 where
  pub diagram : IsDiagram ts
  pub within : bound ≤ length ts + 2
  pub right : (c : Call) (r : ℕ) → get call_eq memo c ≡ Some r → IsAnswer ts bound c r

-- the second call's answers are those of the first, and it names no other nodes but constants
pub record IsSameCall (f g h f2 g2 h2 : ℕ) : Type 0 where
  pub same : (ts : List Triple) (a : Bits) → (if function_of ts f2 a then function_of ts g2 a else function_of ts h2 a) ≡ (if function_of ts f a then function_of ts g a else function_of ts h a)
  pub first : (bound : ℕ) → 2 ≤ bound → f < bound → g < bound → h < bound → f2 < bound
  pub second : (bound : ℕ) → 2 ≤ bound → f < bound → g < bound → h < bound → g2 < bound
  pub third : (bound : ℕ) → 2 ≤ bound → f < bound → g < bound → h < bound → h2 < bound
