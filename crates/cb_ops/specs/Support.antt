-- How the levels of a diagram are gathered.
use Rattle.std.specs.Prelude.{◌≡◌, ◌⊎◌, ℕ, ◌<◌, ◌^◌, Bool, true, List, ◌++◌, nat_eq}
use Rattle.std.specs.List.{list_any}
use Rattle.std.specs.List.{IsDistinct}
use Rattle.cb_model.specs.Bits.{Bits, put}
use Rattle.cb_dd.specs.declared.Triple.{Triple}
use Rattle.cb_dd.specs.Diagram.{IsNode, HasParts, function_of, level_of}

-- the level is among these
abbrev pub IsListed : List ℕ → ℕ → Type 0
IsListed levels l = list_any (nat_eq l) levels ≡ true

-- the node's function depends on these levels alone
pub record IsWithin (ts : List Triple) (n : ℕ) (levels : List ℕ) : Type 0 where
  pub agrees : (a b : Bits) → ((l : ℕ) → IsListed levels l → a l ≡ b l) → function_of ts n a ≡ function_of ts n b

-- q is the node with a bit at its level
pub record IsSideOf (ts : List Triple) (n q : ℕ) : Type 0 where
  pub bit : Bool
  pub small : level_of ts n < 2 ^ 32
  pub node : IsNode ts q
  pub is : (a : Bits) → function_of ts q a ≡ function_of ts n (put (level_of ts n) bit a)

-- the node's two sides are among the nodes, and its level is among the levels
pub record HasSides (ts : List Triple) (n : ℕ) (nodes levels : List ℕ) : Type 0 where
  pub at : ℕ
  pub lo : ℕ
  pub hi : ℕ
  pub parts : HasParts ts n at lo hi
  pub level : IsListed levels at
  pub low : IsListed nodes lo
  pub high : IsListed nodes hi

-- the same, or the node is a constant
abbrev pub IsClosed : List Triple → ℕ → List ℕ → List ℕ → Type 0
IsClosed ts n nodes levels = ((n ≡ 0) ⊎ (n ≡ 1)) ⊎ HasSides ts n nodes levels

-- the node's sides went behind the nodes that were there, and its level to the levels
pub record Adds (ts : List Triple) (n : ℕ) (old new before now : List ℕ) : Type 0 where
  pub more : List ℕ
  pub nodes : new ≡ old ++ more
  pub unique : IsDistinct nat_eq new
  pub stay : (q : ℕ) → IsListed old q → IsListed new q
  pub sides : (q : ℕ) → IsListed new q → IsListed old q ⊎ IsSideOf ts n q
  pub kept : (l : ℕ) → IsListed before l → IsListed now l
  pub levels : (l : ℕ) → IsListed now l → IsListed before l ⊎ ((l ≡ level_of ts n) × (l < 2 ^ 32))
  pub closed : IsClosed ts n new now
