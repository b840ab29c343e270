-- What elimination on nodes promises.
use Rattle.std.specs.Prelude.{◌≡◌, ℕ, ◌+◌, ◌-◌, ◌*◌, ◌<◌, ◌≤◌, ◌^◌, min, true, false, List, [], ◌∷◌, length, map, take, slice_index_or, Some, Result, Ok, Err}
use Rattle.std.specs.List.Sorted.{IsStrictlyIncreasing}
use Rattle.cb_model.specs.Bits.{Bits, xor}
use Rattle.cb_dd.specs.declared.Triple.{Triple}
use Rattle.cb_dd.specs.declared.Node.{Node}
use Rattle.cb_dd.specs.declared.Stop.{Stop}
use Rattle.cb_dd.specs.declared.Stop.TheVariants.{Nodes, Memory}
use Rattle.cb_dd.specs.Diagram.{Store, IsNode, function_of}
use Rattle.cb_ops.specs.Ops.{DependsOn, StandsFor}
use Rattle.cb_ops.specs.Support.{IsListed}
use Rattle.cb_ops.specs.Substitute.{Images, AreNodes, substituted, image_of}
use Rattle.cb_boole.specs.Elimination.{rest, solved}

-- each level is above all that follow
abbrev pub IsFalling : List ℕ → Type 0
IsFalling [] = Unit {0}
IsFalling (l ∷ ls) = ((k : ℕ) → IsListed ls k → k < l) × IsFalling ls

-- node r is the level's bit, turned where f is 1, at the images
abbrev pub IsImage : List Triple → List Triple → ℕ → ℕ → Images → ℕ → Type 0
IsImage old new f level images r = StandsFor new r (λ p. let q = substituted old images p in xor (function_of old f q) (q level))

-- the images of the levels, put in all at once, solve f = 0, with the levels' own bits as parameters
pub record IsSolution (old new : List Triple) (f : ℕ) (levels : List ℕ) (images : Images) : Type 0 where
  pub rise : IsStrictlyIncreasing (map (λ i. i.0) images)
  pub within : (l : ℕ) → IsListed (map (λ i. i.0) images) l → IsListed levels l
  pub nodes : AreNodes new images
  pub at : (p : Bits) → substituted new images p ≡ solved levels (function_of old f) p
  pub none_left : (p : Bits) → rest levels (function_of old f) p ≡ false

-- at some assignment elimination leaves something: no bits of the levels make f 0 there
pub record HasRest (ts : List Triple) (f : ℕ) (levels : List ℕ) : Type 0 where
  pub at : Bits
  pub left : rest levels (function_of ts f) at ≡ true

-- Elimination of the first levels, one after another: node k is what is left of f when the first k are eliminated, and the
-- last node when as many are as the list has nodes; where the last isn't 0 all levels are.
pub record AreRests (ts : List Triple) (f : ℕ) (levels : List ℕ) (ns : List Node) (last : ℕ) : Type 0 where
  pub few : length ns ≤ length levels
  pub all : (last ≡ 0 → ⊥) → length ns ≡ length levels
  pub nodes : (k : ℕ) (d : Node) → k < length ns → IsNode ts (slice_index_or ns k d).0
  pub at : (k : ℕ) (d : Node) → k < length ns → StandsFor ts (slice_index_or ns k d).0 (rest (take k levels) (function_of ts f))
  pub last_node : IsNode ts last
  pub end : StandsFor ts last (rest (take (length ns) levels) (function_of ts f))

-- each image depends on the levels of the list alone
pub record ImagesWithin (ts : List Triple) (images : Images) (ls : List ℕ) : Type 0 where
  pub each : (l : ℕ) (m : Node) → image_of images l ≡ Some m → DependsOn ts m.0 ls

-- nodes that one image adds at most, where f and the images depend on the levels of the list alone, and the level is among them
pub record ImageRoom (f level : ℕ) (images : Images) (old new : Store) : Type 0 where
  pub most : (ls : List ℕ) → DependsOn old.triples f ls → IsListed ls level → ImagesWithin old.triples images ls →
      length new.triples ≤ length old.triples + (2 * 2 ^ length ls + 2 ^ length ls * 2 ^ length ls)

-- nodes that the solution adds at most, where f depends on the levels of the list alone, and those eliminated are among them
pub record SolutionRoom (f : ℕ) (levels : List ℕ) (old new : Store) : Type 0 where
  pub most : (ls : List ℕ) → DependsOn old.triples f ls → ((l : ℕ) → IsListed levels l → IsListed ls l) →
      length new.triples ≤ length old.triples + length levels * (5 * 2 ^ length ls + 2 ^ length ls * 2 ^ length ls)

-- nodes that eliminating the levels adds at most, where f depends on the levels of the list alone
pub record RestsRoom (f : ℕ) (levels : List ℕ) (old new : Store) : Type 0 where
  pub most : (ls : List ℕ) → DependsOn old.triples f ls → length new.triples ≤ length old.triples + length levels * (3 * 2 ^ length ls)

-- the number of refusals for nodes after an answer
abbrev pub has_refused : {A : Type 0} → ℕ → Result A Stop → ℕ
has_refused fulls (Ok x) = fulls
has_refused fulls (Err Memory) = fulls
has_refused fulls (Err Nodes) = min (fulls + 1) (2 ^ 64 - 1)
