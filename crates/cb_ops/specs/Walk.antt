-- A walk over the nodes of a diagram, with a list of those that wait for the answers of their sides.
use Rattle.std.specs.Prelude.{◌≡◌, ℕ, ◌+◌, ◌*◌, ◌-◌, ◌<◌, ◌≤◌, ◌^◌, min, Bool, true, false, ◌&&◌, ◌||◌, List, [], ◌∷◌, ◌++◌, length, Some, Result, Ok, Err}
use Rattle.indexmap.specs.IndexMap.{IndexMap, get}
use Rattle.cb_model.specs.Bits.{Bits, put}
use Rattle.cb_dd.specs.declared.Triple.{Triple}
use Rattle.cb_dd.specs.declared.Node.{Node}
use Rattle.cb_dd.specs.declared.Stop.{Stop}
use Rattle.cb_dd.specs.declared.Stop.TheVariants.{Nodes, Memory}
use Rattle.cb_dd.specs.Diagram.{Store, IsNode, function_of, level_of}
use Rattle.cb_ops.specs.Ops.{IsCofactor}
use Rattle.cb_ops.specs.Done.{node_eq}
use Rattle.cb_ops.specs.Substitute.{Images, Spreads, substituted}
use Rattle.cb_ops.specs.declared.sides.Sides.{Sides}
use Rattle.cb_ops.specs.declared.sides.Sides.TheVariants as how
use Rattle.cb_ops.specs.declared.walk.Visit.{Visit}
use Rattle.cb_ops.specs.declared.walk.Rest.{Rest}
use Rattle.cb_ops.specs.declared.walk.Rest.TheVariants as rest
use Rattle.cb_ops.specs.declared.walk.Step.{Step}
use Rattle.cb_ops.specs.declared.walk.Step.TheVariants as step

-- what a walk makes of each node: a bit at each assignment
abbrev pub Walk : Type 0
Walk = List Triple → ℕ → Bits → Bool

-- one bit of the bits of the two sides of a level
abbrev pub joined : Sides → Bool → Bool → Bool
joined how.Low x y = x
joined how.High x y = y
joined how.Either x y = x || y
joined how.Both x y = x && y

-- the walk that joins the two sides of a level
abbrev pub sides_of : ℕ → Sides → Walk
sides_of level how ts n a = joined how (function_of ts n (put level false a)) (function_of ts n (put level true a))

-- the walk that replaces levels by nodes
abbrev pub images_of : Images → Walk
images_of list ts n a = function_of ts n (substituted ts list a)

-- r is what the walk makes of n
pub record IsMade (v : Walk) (ts : List Triple) (n r : ℕ) : Type 0 where
  pub node : IsNode ts n
  pub answer : IsNode ts r
  pub is : (a : Bits) → function_of ts r a ≡ v ts n a

-- each answer that is remembered is right
pub record AllMade {S : Type 0} (v : Walk) (done : IndexMap Node Node S) (ts : List Triple) : Type 0 where
  pub right : (n r : Node) → get node_eq done n ≡ Some r → IsMade v ts n.0 r.0

-- r is what the walk makes of the node with the bit at its level
abbrev pub IsMadeSide : Walk → List Triple → ℕ → ℕ → Bool → ℕ → Type 0
IsMadeSide v ts n level bit r = (d : ℕ) × (IsCofactor ts n level bit d × IsMade v ts d r)

-- the bit of the side whose answer a node waits for
abbrev pub side_of : Rest → Bool
side_of (rest.High d) = false
side_of (rest.Low r) = true

-- how often nodes are made when the answer comes
abbrev pub joins : Rest → ℕ
joins (rest.High d) = 0
joins (rest.Low r) = 1

-- the side with the bit 1, or the answer for that with the bit 0
abbrev pub HasRest : Walk → List Triple → ℕ → ℕ → Rest → Type 0
HasRest v ts n level (rest.High d) = IsCofactor ts n level true d.0
HasRest v ts n level (rest.Low r) = IsMadeSide v ts n level false r.0

-- a node waits for a side; its level is below the limit of the walk
pub record IsVisit (v : Walk) (limit : ℕ) (ts : List Triple) (x : Visit) : Type 0 where
  pub node : IsNode ts x.node.0
  pub level : level_of ts x.node.0 ≡ x.level
  pub small : x.level < 2 ^ 32
  pub below : x.level < limit
  pub rest : HasRest v ts x.node.0 x.level x.rest

-- a node has its answer, or stands last in the list, and its side with the bit 0 comes next
abbrev pub WentDown : Walk → ℕ → List Triple → List Visit → List Visit → Node → Step → Type 0
WentDown v limit ts old new n (step.Up r) = (new ≡ old) × IsMade v ts n.0 r.0
WentDown v limit ts old new n (step.Down d) = (x : Visit) × ((new ≡ old ++ x ∷ []) × (x.node ≡ n) × (side_of x.rest ≡ false) × IsVisit v limit ts x × IsCofactor ts n.0 x.level false d.0)

-- the other side of the node comes next, and it stands last in the list; or it has its answer
abbrev pub WentUp : Walk → ℕ → List Triple → List Visit → List Visit → Visit → Step → Type 0
WentUp v limit ts old new top (step.Up r) = (new ≡ old) × (side_of top.rest ≡ true) × IsMade v ts top.node.0 r.0
WentUp v limit ts old new top (step.Down d) = (side_of top.rest ≡ false) × ((x : Visit) × ((new ≡ old ++ x ∷ []) × (x.node ≡ top.node) × (x.level ≡ top.level) × (side_of x.rest ≡ true) × IsVisit v limit ts x × IsCofactor ts top.node.0 x.level true d.0))

-- a step down makes no node
abbrev pub IsStill : Store → Store → Step → Type 0
IsStill old new (step.Up r) = Unit {0}
IsStill old new (step.Down d) = new ≡ old

-- the number of refusals for nodes after a step
abbrev pub fulls_after_step : ℕ → Result Step Stop → ℕ
fulls_after_step fulls (Ok s) = fulls
fulls_after_step fulls (Err Memory) = fulls
fulls_after_step fulls (Err Nodes) = min (fulls + 1) (2 ^ 64 - 1)

-- the nodes that are made when an answer is handed to a waiting node: no more than rows of the second levels, for each join
pub record PutRoom (top : Visit) (list : Images) (old new : Store) : Type 0 where
  pub most : (first second : List ℕ) → Spreads old.triples top.node.0 list first second → length new.triples ≤ length old.triples + 2 ^ length second * joins top.rest
