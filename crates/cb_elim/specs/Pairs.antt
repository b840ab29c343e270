-- Many equations at once: pairs of nodes that become equal.
use Rattle.std.specs.Prelude.{◌≡◌, ◌↔◌, ◌⊎◌, ℕ, ◌+◌, ◌*◌, ◌^◌, ◌<◌, ◌≤◌, Bool, true, false, List, [], ◌∷◌, length, map}
use Rattle.std.specs.List.Sorted.{IsStrictlyIncreasing}
use Rattle.cb_model.specs.Bits.{Bits, Each, put}
use Rattle.cb_model.specs.Outside.{Rose}
use Rattle.cb_dd.specs.declared.Triple.{Triple}
use Rattle.cb_dd.specs.declared.Node.{Node}
use Rattle.cb_dd.specs.Diagram.{Store, IsNode, function_of}
use Rattle.cb_ops.specs.Ops.{IsFree, StandsFor}
use Rattle.cb_ops.specs.Support.{IsListed}
use Rattle.cb_ops.specs.Composed.{AreLower}
use Rattle.cb_ops.specs.Substitute.{Images, AreNodes, substituted}
use Rattle.cb_boole.specs.Elimination.{DependsOnly, rest, solved}
use Rattle.cb_boole.specs.View.{View, InRange, point}
use Rattle.cb_solution.specs.Differ.{DependPairs, some_differ}
use Rattle.cb_solution.specs.Solution.{IsFalling}
use Rattle.cb_elim.specs.Store.{Seen, IsArgument, view_of}
use Rattle.cb_elim.specs.Equation.{DependEach, differ}
use Rattle.cb_elim.specs.Unified.{HasSameValues, OnlyValues}

-- each node of the pairs may be handed to the store
abbrev pub AreArguments : Seen → List (Node × Node) → Type 0
AreArguments s qs = Each (λ q. IsArgument s q.0.0 × IsArgument s q.1.0) qs

-- each pair is of one node
abbrev pub AreSame : List (Node × Node) → Type 0
AreSame qs = Each (λ q. q.0 ≡ q.1) qs

-- the two functions of each pair agree at these bits of the levels
abbrev pub AgreeAt : List Triple → List (Node × Node) → Bits → Type 0
AgreeAt ts qs p = Each (λ q. function_of ts q.0.0 p ≡ function_of ts q.1.0 p) qs

-- The new range is what is left of the old one where the functions of each pair agree, each free level having the bit of
-- its variable; and something is left at every assignment.
pub record AreSolved (S S' : View) (ts : List Triple) (qs : List (Node × Node)) : Type 0 where
  pub left : (a b : Bits) → InRange S' a b ↔ (InRange S a b × AgreeAt ts qs (point S.stands a b))
  pub some : (a : Bits) → (b : Bits) × InRange S' a b

-- at some assignment no pair of bits of the range makes all pairs of functions agree
pub record HaveNone (S : View) (ts : List Triple) (qs : List (Node × Node)) : Type 0 where
  pub at : Bits
  pub none : (b : Bits) → InRange S at b → AgreeAt ts qs (point S.stands at b) → ⊥

-- the levels on which the difference of some pair depends, but for the constants, the greatest first
pub record ArePairsLevels (constants : ℕ) (ts : List Triple) (qs : List (Node × Node)) (levels : List ℕ) : Type 0 where
  pub falls : IsFalling levels
  pub free : (l : ℕ) → IsListed levels l → constants ≤ l
  pub needed : (l : ℕ) → IsListed levels l → Each (λ q. (p : Bits) (b : Bool) → differ ts q.0.0 q.1.0 (put l b p) ≡ differ ts q.0.0 q.1.0 p) qs → ⊥
  pub whole : DependsOnly (λ l. (l < constants) ⊎ IsListed levels l) (some_differ ts qs)

-- The new values are the old ones at the solution of "no pair differs" for these levels: the greatest is eliminated first, each
-- level's own bit is its parameter, and elimination leaves nothing.
pub record AreSolutionOf (old new : Seen) (qs : List (Node × Node)) : Type 0 where
  pub levels : List ℕ
  pub elimination : ArePairsLevels old.constants old.nodes.triples qs levels
  pub none_left : (p : Bits) → rest levels (some_differ old.nodes.triples qs) p ≡ false
  pub values : (x : ℕ) (p : Bits) → (view_of new).values x p ≡ (view_of old).values x (solved levels (some_differ old.nodes.triples qs) p)

-- The equations are solved: the range, the slots' values as the solution of "no pair differs", what stays, and that at each
-- pair of the range each slot has the value that it had.
pub record AreUnified (old new : Seen) (qs : List (Node × Node)) : Type 0 where
  pub solved : AreSolved (view_of old) (view_of new) old.nodes.triples qs
  pub solution : AreSolutionOf old new qs
  pub values : OnlyValues old new
  pub slots : HasSameValues (view_of old) (view_of new)

-- more than the nodes that so many pairs add, over so many slots and levels
abbrev pub pairs_bound : ℕ → ℕ → ℕ → ℕ
pairs_bound p n w = p * (3 * 2 ^ w) + 64 * (n + w + 1) * 4 ^ (w + 1)

-- the pairs add fewer nodes than the bound, where they and the slots' values depend on the levels of the list alone
pub record PairsRoom (ns : List Node) (qs : List (Node × Node)) (old new : Store) : Type 0 where
  pub most : (ls : List ℕ) → DependPairs old.triples qs ls → DependEach old.triples ns ls →
      length new.triples + 1 ≤ length old.triples + pairs_bound (length qs) (length ns) (length ls)

-- A stop for nodes has its cause: the count of refusals rose, and the budget is below the nodes at the call and the bound.
pub record PairsCause (old new : Seen) (qs : List (Node × Node)) : Type 0 where
  pub rose : Rose old.nodes.fulls new.nodes.fulls
  pub below : (ls : List ℕ) → DependPairs old.nodes.triples qs ls → DependEach old.nodes.triples old.slots ls →
      old.nodes.budget < length old.nodes.triples + pairs_bound (length qs) (length old.slots) (length ls)

-- ---- elimination over all pairs

-- part k is 1 where the nodes of pair k differ
abbrev pub AreDifferences : List Triple → List Triple → List (Node × Node) → List Node → Type 0
AreDifferences old new [] [] = Unit {0}
AreDifferences old new [] (n ∷ ns) = ⊥
AreDifferences old new (q ∷ qs) [] = ⊥
AreDifferences old new (q ∷ qs) (n ∷ ns) = (IsNode new n.0 × StandsFor new n.0 (differ old q.0.0 q.1.0)) × AreDifferences old new qs ns

-- nodes that the differences of so many pairs add at most
pub record DifferencesRoom (qs : List (Node × Node)) (old new : Store) : Type 0 where
  pub most : (ls : List ℕ) → DependPairs old.triples qs ls → length new.triples ≤ length old.triples + length qs * (2 * 2 ^ length ls)

-- the levels on which some part depends, but for the constants, the greatest first
pub record ArePartsLevels (constants : ℕ) (ts : List Triple) (ns : List Node) (levels : List ℕ) : Type 0 where
  pub falls : IsFalling levels
  pub free : (l : ℕ) → IsListed levels l → constants ≤ l
  pub needed : (l : ℕ) → IsListed levels l → Each (λ n. IsFree ts n.0 l) ns → ⊥
  pub whole : Each (λ n. DependsOnly (λ l. (l < constants) ⊎ IsListed levels l) (function_of ts n.0)) ns

-- each of the levels was there, or is one of the list that is no constant's
abbrev pub AreGathered : ℕ → List ℕ → List ℕ → List ℕ → Type 0
AreGathered constants support old new = (l : ℕ) → IsListed new l → IsListed old l ⊎ ((constants ≤ l) × IsListed support l)

-- The images of the levels, put in all at once, are the most general solution of "no pair differs"; none depends on a greater
-- level that has one.
pub record ArePairsGeneral (old new : List Triple) (constants : ℕ) (qs : List (Node × Node)) (images : Images) : Type 0 where
  pub levels : List ℕ
  pub elimination : ArePairsLevels constants old qs levels
  pub none_left : (p : Bits) → rest levels (some_differ old qs) p ≡ false
  pub rise : IsStrictlyIncreasing (map (λ i. i.0) images)
  pub within : (l : ℕ) → IsListed (map (λ i. i.0) images) l → IsListed levels l
  pub nodes : AreNodes new images
  pub lower : AreLower new images
  pub at : (p : Bits) → substituted new images p ≡ solved levels (some_differ old qs) p

-- elimination leaves something somewhere
pub record HavePairsNoSolution (ts : List Triple) (constants : ℕ) (qs : List (Node × Node)) : Type 0 where
  pub levels : List ℕ
  pub elimination : ArePairsLevels constants ts qs levels
  pub at : Bits
  pub left : rest levels (some_differ ts qs) at ≡ true

-- nodes that solving the equations adds at most, where they depend on the levels of the list alone
pub record PairsSidesRoom (qs : List (Node × Node)) (old new : Store) : Type 0 where
  pub most : (ls : List ℕ) → DependPairs old.triples qs ls →
      length new.triples ≤ length old.triples + length qs * (3 * 2 ^ length ls) + length ls * (6 * 2 ^ length ls + 2 ^ length ls * 2 ^ length ls)

-- ---- pairs of slots

-- both slots of each pair are there
abbrev pub AreSlots : Seen → List (ℕ × ℕ) → Type 0
AreSlots s xs = Each (λ x. (x.0 < length s.slots) × (x.1 < length s.slots)) xs
