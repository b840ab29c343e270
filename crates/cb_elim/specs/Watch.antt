-- Which slots may depend on which free level.
use Rattle.std.specs.Prelude.{◌≡◌, ◌⊎◌, ℕ, ◌<◌, ◌≤◌, Bool, true, List, drop, length, map}
use Rattle.cb_model.specs.Bits.{Bits, Each, put}
use Rattle.cb_dd.specs.declared.Node.{Node}
use Rattle.cb_dd.specs.declared.Triple.{Triple}
use Rattle.cb_dd.specs.Diagram.{IsNode}
use Rattle.cb_ops.specs.Ops.{IsFree}
use Rattle.cb_ops.specs.Substitute.{Images, substituted}
use Rattle.cb_ops.specs.Support.{IsListed}
use Rattle.cb_boole.specs.Elimination.{Function}
use Rattle.cb_trail.specs.declared.uses.Use.{Use}
use Rattle.cb_trail.specs.Uses.{IsUsed}
use Rattle.cb_elim.specs.declared.Change.{Change}
use Rattle.cb_elim.specs.Store.{AreThere, value_in}
use Rattle.cb_elim.specs.Moments.{undone}

-- the function is the same for both bits of the level
abbrev pub IsDead : ℕ → Function → Type 0
IsDead l f = (p : Bits) (b : Bool) → f (put l b p) ≡ f p

-- Now and at each moment to which the changes can be taken back, a slot whose value depends on a free level uses it, since
-- that moment or before.
pub record Covers (ts : List Triple) (constants : ℕ) (ns : List Node) (trail : List Change) (us : List Use) : Type 0 where
  pub at : (t x l : ℕ) → t ≤ length trail → constants ≤ l → IsUsed us l x t ⊎ IsDead l (value_in ts (undone (drop t trail) ns) x)

-- what the fields of a store keep: where the operations were lent, nothing is known of the uses
abbrev pub IsWatched : Bool → List Triple → ℕ → List Node → List Change → List Use → Type 0
IsWatched lent ts c ns trail us = (lent ≡ true) ⊎ Covers ts c ns trail us

-- the same while slots are rewritten: their values, and those that they had, are nodes
pub record AreWatched (ts : List Triple) (constants : ℕ) (ns : List Node) (trail : List Change) (us : List Use) : Type 0 where
  pub there : AreThere ts ns
  pub changed : Each (λ c. IsNode ts c.value.0) trail
  pub within : Each (λ c. c.slot < length ns) trail
  pub covers : Covers ts constants ns trail us

-- no use is taken back
abbrev pub KeepsUses : List Use → List Use → Type 0
KeepsUses us vs = (l x t : ℕ) → IsUsed us l x t → IsUsed vs l x t

-- the slot uses the free levels on which its new value depends and its old one did not
abbrev pub UsesNew : List Triple → ℕ → List Use → ℕ → ℕ → ℕ → ℕ → Type 0
UsesNew ts constants us old new slot since = (l : ℕ) → constants ≤ l → IsFree ts old l → IsUsed us l slot since ⊎ IsFree ts new l

-- the slot uses the free levels of the second list that the first doesn't have
abbrev pub UsesGained : ℕ → List Use → List ℕ → List ℕ → ℕ → ℕ → Type 0
UsesGained constants us before levels slot since = (l : ℕ) → IsListed levels l → constants ≤ l → (IsListed before l → ⊥) → IsUsed us l slot since

-- the list has each slot below the number that uses a level of the images
abbrev pub HasUsers : List Use → Images → ℕ → List ℕ → Type 0
HasUsers us images below xs = (l x t : ℕ) → IsListed (map (λ i. i.0) images) l → x < below → IsUsed us l x t → IsListed xs x

-- the values of these slots are the old ones with the images put in
abbrev pub HasPutIn : List Triple → List Triple → Images → List ℕ → List Node → List Node → Type 0
HasPutIn old new images xs ns vs =
    (x : ℕ) (p : Bits) → IsListed xs x → value_in new vs x p ≡ value_in old ns x (substituted old images p)

-- the values of all slots but these are as before
abbrev pub HasOthers : List Triple → List Triple → List ℕ → List Node → List Node → Type 0
HasOthers old new xs ns vs = (x : ℕ) (p : Bits) → (IsListed xs x → ⊥) → value_in new vs x p ≡ value_in old ns x p
