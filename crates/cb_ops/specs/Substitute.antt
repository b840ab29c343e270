-- What `substitute` promises.
use Rattle.std.specs.Prelude.{◌≡◌, ℕ, ◌+◌, ◌*◌, ◌<◌, ◌≤◌, ◌^◌, List, [], ◌∷◌, length, nat_eq, Option, Some, None, if◌then◌else◌}
use Rattle.std.specs.Option.{option_map_or}
use Rattle.indexmap.specs.IndexMap.{IndexMap, get}
use Rattle.cb_model.specs.Bits.{Bits}
use Rattle.cb_model.specs.Outside.{Rose}
use Rattle.cb_dd.specs.declared.Triple.{Triple}
use Rattle.cb_dd.specs.declared.Node.{Node}
use Rattle.cb_dd.specs.Diagram.{Store, IsNode, function_of}
use Rattle.cb_ops.specs.Ops.{DependsOn, StandsFor}
use Rattle.cb_ops.specs.Done.{node_eq}
use Rattle.cb_ops.specs.Support.{IsListed}

-- levels, each with the node that replaces it
abbrev pub Images : Type 0
Images = List (ℕ × Node)

-- the node that replaces the level, if it is replaced
abbrev pub image_of : Images → ℕ → Option Node
image_of [] l = None
image_of (p ∷ ps) l = if nat_eq l p.0 then Some p.1 else image_of ps l

-- the bits that the replaced levels have at the assignment, and its own bits at the other levels
abbrev pub substituted : List Triple → Images → Bits → Bits
substituted ts list a = λ l. option_map_or (λ n. function_of ts n.0 a) (image_of list l) (a l)

-- each level is replaced by a node of the store
abbrev pub AreNodes : List Triple → Images → Type 0
AreNodes ts [] = Unit {0}
AreNodes ts (p ∷ ps) = IsNode ts p.1.0 × AreNodes ts ps

-- the node depends on the first levels; those of them that stay, and those on which the images depend, are among the second
pub record Spreads (ts : List Triple) (n : ℕ) (list : Images) (first second : List ℕ) : Type 0 where
  pub depends : DependsOn ts n first
  pub covers : (l : ℕ) → IsListed first l → image_of list l ≡ None → IsListed second l
  pub images : (l : ℕ) (m : Node) → image_of list l ≡ Some m → DependsOn ts m.0 second

-- the call adds fewer nodes than the product of the rows of both lists of levels
pub record SubstituteRoom (n : ℕ) (list : Images) (old new : Store) : Type 0 where
  pub most : (first second : List ℕ) → Spreads old.triples n list first second → length new.triples + 2 ^ length second ≤ length old.triples + 2 ^ length second * 2 ^ length first

-- a stop for nodes has its cause: the count of refusals rose, and the budget is below the nodes at the call and those that it may add
pub record SubstituteCause (n : ℕ) (list : Images) (old new : Store) : Type 0 where
  pub rose : Rose old.fulls new.fulls
  pub below : (first second : List ℕ) → Spreads old.triples n list first second → old.budget < length old.triples + 2 ^ length second * 2 ^ length first

-- r is n with the levels replaced
pub record IsSubstituted (ts : List Triple) (list : Images) (n r : ℕ) : Type 0 where
  pub node : IsNode ts n
  pub answer : IsNode ts r
  pub is : StandsFor ts r (λ a. function_of ts n (substituted ts list a))

-- each answer is right
pub record AllSubstituted {S : Type 0} (done : IndexMap Node Node S) (ts : List Triple) (list : Images) : Type 0 where
  pub right : (n r : Node) → get node_eq done n ≡ Some r → IsSubstituted ts list n.0 r.0

-- r is the second node where what replaces the level is 1, and the first where it is 0
abbrev pub IsJoined : List Triple → List Triple → ℕ → ℕ → ℕ → Images → ℕ → Type 0
IsJoined old new level low high list r = StandsFor new r (λ a. if substituted old list a level then function_of old high a else function_of old low a)

-- the call adds no more nodes than there are rows of the levels on which the two nodes and what replaces the level depend
pub record JoinRoom (level low high : ℕ) (list : Images) (old new : Store) : Type 0 where
  pub most : (ls : List ℕ) → (image_of list level ≡ None → IsListed ls level) → ((m : Node) → image_of list level ≡ Some m → DependsOn old.triples m.0 ls) → DependsOn old.triples low ls → DependsOn old.triples high ls → length new.triples ≤ length old.triples + 2 ^ length ls
