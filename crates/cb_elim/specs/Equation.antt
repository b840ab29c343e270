-- The most general solution of an equation, by functions.
use Rattle.std.specs.Prelude.{◌≡◌, ◌⊎◌, ℕ, ◌+◌, ◌*◌, ◌^◌, ◌<◌, ◌≤◌, Bool, true, false, List, ◌++◌, length, map, slice_set, slice_index_or}
use Rattle.std.specs.List.Sorted.{IsStrictlyIncreasing}
use Rattle.cb_model.specs.Bits.{Bits, Each, put, xor}
use Rattle.cb_dd.specs.declared.Triple.{Triple}
use Rattle.cb_dd.specs.declared.Node.{Node}
use Rattle.cb_dd.specs.Diagram.{Store, IsNode, function_of}
use Rattle.cb_ops.specs.Ops.{DependsOn}
use Rattle.cb_ops.specs.Support.{IsListed}
use Rattle.cb_ops.specs.Composed.{AreLower}
use Rattle.cb_ops.specs.Substitute.{Images, AreNodes, substituted}
use Rattle.cb_boole.specs.Elimination.{Function, DependsOnly, rest, solved}
use Rattle.cb_solution.specs.Solution.{IsFalling, ImagesWithin}
use Rattle.cb_elim.specs.declared.Change.{Change}
use Rattle.cb_elim.specs.Store.{AreThere, value_in}
use Rattle.cb_elim.specs.Moments.{change_at, changes_from}

-- where two nodes differ
abbrev pub differ : List Triple → ℕ → ℕ → Function
differ ts f g = λ p. xor (function_of ts f p) (function_of ts g p)

-- the levels on which the function depends, but for the constants, the greatest first
pub record IsElimination (constants : ℕ) (f : Function) (levels : List ℕ) : Type 0 where
  pub falls : IsFalling levels
  pub free : (l : ℕ) → IsListed levels l → constants ≤ l
  pub needed : (l : ℕ) → IsListed levels l → ((p : Bits) (b : Bool) → f (put l b p) ≡ f p) → ⊥
  pub whole : DependsOnly (λ l. (l < constants) ⊎ IsListed levels l) f

-- each value is the old one with the images put in
pub record AreMoved (old new : List Triple) (images : Images) (ns vs : List Node) : Type 0 where
  pub there : AreThere new vs
  pub number : length vs ≡ length ns
  pub at : (x : ℕ) (p : Bits) → value_in new vs x p ≡ value_in old ns x (substituted old images p)

-- The images of the levels, put in all at once, are the most general solution of f = g; none depends on a greater level that
-- has one.
pub record AreGeneral (old new : List Triple) (constants : ℕ) (f g : ℕ) (images : Images) : Type 0 where
  pub levels : List ℕ
  pub elimination : IsElimination constants (differ old f g) levels
  pub none_left : (p : Bits) → rest levels (differ old f g) p ≡ false
  pub rise : IsStrictlyIncreasing (map (λ i. i.0) images)
  pub within : (l : ℕ) → IsListed (map (λ i. i.0) images) l → IsListed levels l
  pub nodes : AreNodes new images
  pub lower : AreLower new images
  pub at : (p : Bits) → substituted new images p ≡ solved levels (differ old f g) p

-- Slot x has a new value, the old one with the images put in; the trail gains the old one, where it is another node.
pub record IsStepped (old new : Store) (images : Images) (x : ℕ) (ns vs : List Node) (trail trail' : List Change) : Type 0 where
  pub value : Node
  pub node : IsNode new.triples value.0
  pub function : (p : Bits) → function_of new.triples value.0 p ≡ value_in old.triples ns x (substituted old.triples images p)
  pub slots : vs ≡ slice_set ns x value
  pub changes : trail' ≡ trail ++ change_at x (slice_index_or ns x (record { 0 = 0 })) value

-- so many slots are there, and the trail has gained those whose values are other nodes
pub record AreRewritten (ns vs : List Node) (trail trail' : List Change) : Type 0 where
  pub number : length vs ≡ length ns
  pub changes : trail' ≡ trail ++ changes_from 0 ns vs

-- each value is the old one at the most general solution of f = g
pub record IsGeneral (old new : List Triple) (constants : ℕ) (ns : List Node) (f g : ℕ) (vs : List Node) : Type 0 where
  pub levels : List ℕ
  pub elimination : IsElimination constants (differ old f g) levels
  pub none_left : (p : Bits) → rest levels (differ old f g) p ≡ false
  pub there : AreThere new vs
  pub number : length vs ≡ length ns
  pub at : (x : ℕ) (p : Bits) → value_in new vs x p ≡ value_in old ns x (solved levels (differ old f g) p)

-- elimination leaves something somewhere
pub record HasNoSolution (ts : List Triple) (constants f g : ℕ) : Type 0 where
  pub levels : List ℕ
  pub elimination : IsElimination constants (differ ts f g) levels
  pub at : Bits
  pub left : rest levels (differ ts f g) at ≡ true

-- each of the nodes depends on these levels alone
abbrev pub DependEach : List Triple → List Node → List ℕ → Type 0
DependEach ts ns ls = Each (λ n. DependsOn ts n.0 ls) ns

-- nodes that putting the images into these nodes adds at most, where all depend on the levels of the list alone
pub record MovedRoom (ns : List Node) (images : Images) (old new : Store) : Type 0 where
  pub most : (ls : List ℕ) → DependEach old.triples ns ls → ImagesWithin old.triples images ls →
      length new.triples ≤ length old.triples + length ns * (length ls * (3 * 2 ^ length ls))

-- nodes that solving the equation adds at most, where its sides depend on the levels of the list alone
pub record SidesRoom (f g : ℕ) (old new : Store) : Type 0 where
  pub most : (ls : List ℕ) → DependsOn old.triples f ls → DependsOn old.triples g ls →
      length new.triples ≤ length old.triples + (2 * 2 ^ length ls + length ls * (5 * 2 ^ length ls + 2 ^ length ls * 2 ^ length ls))

-- the equation adds fewer nodes than this bound, where its sides and the slots' values depend on the levels of the list alone
pub record GeneralRoom (ns : List Node) (f g : ℕ) (old new : Store) : Type 0 where
  pub most : (ls : List ℕ) → DependsOn old.triples f ls → DependsOn old.triples g ls → DependEach old.triples ns ls →
      length new.triples + 1 ≤ length old.triples + 64 * (length ns + length ls + 1) * 4 ^ (length ls + 1)
