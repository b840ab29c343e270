-- What elimination over a list of parts promises: nodes that are all to be 0.
use Rattle.std.specs.Prelude.{◌≡◌, ℕ, ◌+◌, ◌*◌, ◌^◌, ◌<◌, ◌≤◌, true, false, ◌||◌, List, [], ◌∷◌, length, map, take, drop, slice_index_or, nat_eq, position, Some}
use Rattle.std.specs.List.Sorted.{IsStrictlyIncreasing}
use Rattle.cb_model.specs.Bits.{Bits, Each}
use Rattle.cb_dd.specs.declared.Triple.{Triple}
use Rattle.cb_dd.specs.declared.Node.{Node}
use Rattle.cb_dd.specs.Diagram.{Store, IsNode, function_of}
use Rattle.cb_ops.specs.Ops.{DependsOn, IsFree}
use Rattle.cb_ops.specs.Support.{IsListed}
use Rattle.cb_ops.specs.Substitute.{Images, AreNodes, substituted}
use Rattle.cb_boole.specs.Elimination.{Function, rest, solved}

-- where some part is 1
abbrev pub some_one : List Triple → List Node → Function
some_one ts [] p = false
some_one ts (n ∷ ns) p = function_of ts n.0 p || some_one ts ns p

-- each part is there
abbrev pub AreParts : List Triple → List Node → Type 0
AreParts ts ns = Each (λ n. IsNode ts n.0) ns

-- each part depends on the levels of the list alone
abbrev pub PartsDepend : List Triple → List Node → List ℕ → Type 0
PartsDepend ts ns ls = Each (λ n. DependsOn ts n.0 ls) ns

-- the images of the levels, put in all at once, solve f = 0, with the levels' own bits as parameters
pub record Solves (ts : List Triple) (f : Function) (levels : List ℕ) (images : Images) : Type 0 where
  pub rise : IsStrictlyIncreasing (map (λ i. i.0) images)
  pub within : (l : ℕ) → IsListed (map (λ i. i.0) images) l → IsListed levels l
  pub nodes : AreNodes ts images
  pub at : (p : Bits) → substituted ts images p ≡ solved levels f p
  pub none_left : (p : Bits) → rest levels f p ≡ false

-- at some assignment elimination leaves something: no bits of the levels make f 0 there
pub record HasLeft (f : Function) (levels : List ℕ) : Type 0 where
  pub at : Bits
  pub left : rest levels f at ≡ true

-- Elimination of the levels one after another leaves nothing; node k, for the k-th level, is what is left of f when those
-- before it are eliminated, wherever nothing is left without it.
pub record AreStages (ts : List Triple) (f : Function) (levels : List ℕ) (ns : List Node) : Type 0 where
  pub few : length ns ≤ length levels
  pub at : (k : ℕ) (d : Node) → k < length ns → (p : Bits) → rest (take (k + 1) levels) f p ≡ false → function_of ts (slice_index_or ns k d).0 p ≡ rest (take k levels) f p
  pub end : (p : Bits) → rest (take (length ns) levels) f p ≡ false

-- nodes that the images add at most, where the stages depend on the levels of the list alone, and those eliminated are among them
pub record StagesRoom (ns : List Node) (levels : List ℕ) (old new : Store) : Type 0 where
  pub most : (ls : List ℕ) → PartsDepend old.triples ns ls → ((l : ℕ) → IsListed levels l → IsListed ls l) →
      length new.triples ≤ length old.triples + length ns * (2 * 2 ^ length ls + 2 ^ length ls * 2 ^ length ls)

-- the node depends on none of the first levels
abbrev pub IsFreeOf : List Triple → ℕ → List ℕ → ℕ → Type 0
IsFreeOf ts n levels k = (j : ℕ) → j < k → IsFree ts n (slice_index_or levels j 0)

-- the k-th is the greatest of the levels, which fall, on which the node depends
pub record IsPlace (ts : List Triple) (n : ℕ) (levels : List ℕ) (k : ℕ) : Type 0 where
  pub within : k < length levels
  pub before : IsFreeOf ts n levels k
  pub needed : IsFree ts n (slice_index_or levels k 0) → ⊥

-- the numbers of the list from the k-th on are none of the levels
abbrev pub AreAbsent : List ℕ → List ℕ → ℕ → Type 0
AreAbsent support levels k = (j : ℕ) → k ≤ j → j < length support → IsListed levels (slice_index_or support j 0) → ⊥

-- the last number of the list that is one of the levels is the one at this place
pub record IsLastOf (support levels : List ℕ) (at : ℕ) : Type 0 where
  pub k : ℕ
  pub room : k < length support
  pub is : position (nat_eq (slice_index_or support k 0)) levels ≡ Some at
  pub after : AreAbsent support levels (k + 1)

-- node k depends on no level before the k-th
abbrev pub AreOrdered : List Triple → List ℕ → List Node → Type 0
AreOrdered ts levels ns = (k : ℕ) (d : Node) → k < length ns → IsFreeOf ts (slice_index_or ns k d).0 levels k

-- one node for each level, node k on no level before the k-th
pub record ArePlaces (ts : List Triple) (levels : List ℕ) (ns : List Node) : Type 0 where
  pub number : length ns ≡ length levels
  pub there : AreParts ts ns
  pub ordered : AreOrdered ts levels ns

-- A part was added at its place: from any place up to that on, where some node is 1 now it was or the part is; the nodes
-- before are as before.
pub record IsPlaced (old new : Store) (levels : List ℕ) (f : ℕ) (ns ms : List Node) : Type 0 where
  pub places : ArePlaces new.triples levels ms
  pub before : (i : ℕ) → i ≤ length levels → IsFreeOf old.triples f levels i → (j : ℕ) (d : Node) → j < i → slice_index_or ms j d ≡ slice_index_or ns j d
  pub one : (i : ℕ) → i ≤ length levels → IsFreeOf old.triples f levels i → (p : Bits) →
      some_one new.triples (drop i ms) p ≡ (function_of old.triples f p || some_one old.triples (drop i ns) p)
  pub depend : (ls : List ℕ) → DependsOn old.triples f ls → PartsDepend old.triples ns ls → PartsDepend new.triples ms ls

-- the part is 1 somewhere and depends on none of the levels
pub record IsOut (ts : List Triple) (f : ℕ) (levels : List ℕ) : Type 0 where
  pub at : Bits
  pub one : function_of ts f at ≡ true
  pub free : IsFreeOf ts f levels (length levels)

-- nodes that adding a part makes at most
pub record PlacedRoom (f : ℕ) (ns : List Node) (old new : Store) : Type 0 where
  pub most : (ls : List ℕ) → DependsOn old.triples f ls → PartsDepend old.triples ns ls → length new.triples ≤ length old.triples + 2 ^ length ls

-- the parts at their places
pub record AreSpread (old new : Store) (levels : List ℕ) (ps ns : List Node) : Type 0 where
  pub places : ArePlaces new.triples levels ns
  pub one : (p : Bits) → some_one new.triples ns p ≡ some_one old.triples ps p
  pub depend : (ls : List ℕ) → PartsDepend old.triples ps ls → PartsDepend new.triples ns ls

-- nodes that so many steps make at most, each so many times the rows, where the nodes depend on the levels of the list alone
pub record StepsRoom (ns : List Node) (steps times : ℕ) (old new : Store) : Type 0 where
  pub most : (ls : List ℕ) → PartsDepend old.triples ns ls → length new.triples ≤ length old.triples + steps * (times * 2 ^ length ls)

-- the stages of the nodes at their places
pub record AreEliminated (old new : Store) (levels : List ℕ) (ns ms : List Node) : Type 0 where
  pub there : AreParts new.triples ms
  pub stages : AreStages new.triples (some_one old.triples ns) levels ms
  pub number : length ms ≡ length levels
  pub depend : (ls : List ℕ) → PartsDepend old.triples ns ls → PartsDepend new.triples ms ls

-- nodes that the solution adds at most, where the parts depend on the levels of the list alone, and those eliminated are among them
pub record PartsRoom (ns : List Node) (levels : List ℕ) (old new : Store) : Type 0 where
  pub most : (ls : List ℕ) → PartsDepend old.triples ns ls → ((l : ℕ) → IsListed levels l → IsListed ls l) →
      length new.triples ≤ length old.triples + length ns * 2 ^ length ls + length levels * (6 * 2 ^ length ls + 2 ^ length ls * 2 ^ length ls)
