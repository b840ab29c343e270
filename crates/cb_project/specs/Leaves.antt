-- The nodes of the parametric form, and how many they are.
use Rattle.std.specs.Prelude.{◌≡◌, ◌⊎◌, ℕ, ◌+◌, ◌*◌, ◌<◌, ◌≤◌, ◌^◌, List, [], map, length}
use Rattle.cb_model.specs.Bits.{Bits, Each, numbers_from}
use Rattle.cb_model.specs.Outside.{Rose}
use Rattle.cb_model.specs.Answers.{Gen}
use Rattle.cb_dd.specs.declared.Triple.{Triple}
use Rattle.cb_dd.specs.declared.Node.{Node}
use Rattle.cb_dd.specs.Diagram.{Store, IsNode, function_of}
use Rattle.cb_ops.specs.Ops.{DependsOn, IsFree, StandsFor}
use Rattle.cb_ops.specs.Support.{IsListed}
use Rattle.cb_ops.specs.Substitute.{Images, AreNodes, Spreads, substituted}
use Rattle.cb_ops.specs.Composed.{AreLower}
use Rattle.std.specs.List.Sorted.{IsStrictlyIncreasing}
use Rattle.cb_boole.specs.Elimination.{Function, DependsOnly, IsAway, solved}
use Rattle.cb_solution.specs.Solution.{ImagesWithin}
use Rattle.cb_boole.specs.Parametric.{values_at, Reaches, parametric}
use Rattle.cb_boole.specs.Stages.{AreFor, AreOwn, misses, put_in}

-- the functions of nodes
abbrev pub functions_of : List Triple → List Node → List Function
functions_of ts ns = map (λ n. function_of ts n.0) ns

-- they are nodes of the store
abbrev pub AllNodes : List Triple → List Node → Type 0
AllNodes ts ns = Each (λ n. IsNode ts n.0) ns

-- each depends on the levels of the list alone
abbrev pub AllDepend : List Triple → List Node → List ℕ → Type 0
AllDepend ts ns ls = Each (λ n. DependsOn ts n.0 ls) ns

-- each function depends on levels below a number alone
abbrev pub AllBelow : ℕ → List Function → Type 0
AllBelow n fs = Each (λ f. DependsOnly (λ k. k < n) f) fs

-- the functions are the parametric form of the others, over the parameters from the level first on
abbrev pub AreParametric : ℕ → ℕ → List Function → List Function → Type 0
AreParametric constants first fs gens =
    (p : Bits) → Gen (Reaches constants fs p) [] (map p (numbers_from first (length gens))) (values_at gens p)

-- as many nodes, the parametric form of the values, each over the constants and the parameters up to its own
pub record IsFormOf (old new : List Triple) (constants first : ℕ) (values ns : List Node) : Type 0 where
  pub nodes : AllNodes new ns
  pub as_many : length ns ≡ length values
  pub parametric : AreParametric constants first (functions_of old values) (functions_of new ns)
  pub own : AreOwn constants first 0 (functions_of new ns)

-- the levels on which the function depends, but for constants below and parameters above
pub record AreInner (ts : List Triple) (f constants first : ℕ) (levels : List ℕ) : Type 0 where
  pub between : Each (λ l. (constants ≤ l) × (l < first)) levels
  pub others : DependsOnly (λ k. ((k < constants) ⊎ (first ≤ k)) ⊎ (IsAway k levels → ⊥)) (function_of ts f)
  pub needed : (l : ℕ) → IsListed levels l → IsFree ts f l → ⊥

-- the node is the parametric function of f
abbrev pub IsPicked : List Triple → List Triple → List ℕ → ℕ → ℕ → ℕ → Type 0
IsPicked old new levels parameter f n = StandsFor new n (parametric levels parameter (function_of old f))

-- the node is f with the images put in
abbrev pub IsReplaced : List Triple → List Triple → Images → ℕ → ℕ → Type 0
IsReplaced old new images f n = StandsFor new n (λ p. function_of old f (substituted old images p))

-- nodes that an elimination of levels adds at most, for each list of levels on which f depends alone
pub record RestRoom (f : ℕ) (count : ℕ) (old new : Store) : Type 0 where
  pub most : (ls : List ℕ) → DependsOn old.triples f ls → length new.triples ≤ length old.triples + count * (3 * 2 ^ length ls)

-- nodes that the parametric function of a leaf adds at most, where the parameter's level is in the list too
pub record PickRoom (f level : ℕ) (count : ℕ) (old new : Store) : Type 0 where
  pub most : (ls : List ℕ) → DependsOn old.triples f ls → IsListed ls level → length new.triples ≤ length old.triples + (count * (6 * 2 ^ length ls) + 4 * 2 ^ length ls)

-- a node's parametric function, and the images of the levels that make the node so; none depends on a greater level that has one
pub record IsLeaf (old new : List Triple) (constants first n : ℕ) (f node : ℕ) (images : Images) : Type 0 where
  pub levels : List ℕ
  pub are : AreFor constants first n (function_of old f) levels
  pub is_node : IsNode new node
  pub function : StandsFor new node (parametric levels (first + n) (function_of old f))
  pub are_nodes : AreNodes new images
  pub rise : IsStrictlyIncreasing (map (λ i. i.0) images)
  pub lower : AreLower new images
  pub solve : (p : Bits) → substituted new images p ≡ solved levels (misses levels (first + n) (function_of old f)) p
  pub within : (ls : List ℕ) → DependsOn old f ls → IsListed ls (first + n) → DependsOn new node ls × ImagesWithin new images ls

-- nodes that one leaf adds at most
pub record LeafRoom (f level : ℕ) (old new : Store) : Type 0 where
  pub most : (ls : List ℕ) → DependsOn old.triples f ls → IsListed ls level →
      length new.triples ≤ length old.triples + 12 * (length ls + 1) * (2 ^ length ls * 2 ^ length ls)

-- the nodes with images put in
pub record ArePutIn (old new : List Triple) (images : Images) (values next : List Node) : Type 0 where
  pub nodes : AllNodes new next
  pub functions : functions_of new next ≡ map (λ g p. g (substituted old images p)) (functions_of old values)
  pub within : (ls : List ℕ) → AllDepend old values ls → ImagesWithin old images ls → AllDepend new next ls

-- nodes that putting the images into one node adds at most
pub record ReplacedRoom (n : ℕ) (images : Images) (old new : Store) : Type 0 where
  pub most : (ls : List ℕ) → Spreads old.triples n images ls ls → length new.triples ≤ length old.triples + 3 * (2 ^ length ls * 2 ^ length ls)

-- nodes that it adds at most
pub record PutRoom (values : List Node) (images : Images) (old new : Store) : Type 0 where
  pub most : (ls : List ℕ) → AllDepend old.triples values ls → ImagesWithin old.triples images ls →
      length new.triples ≤ length old.triples + length values * (3 * (2 ^ length ls * 2 ^ length ls))

-- one leaf is settled: its parametric function, and the leaves that follow with the solution put in
pub record IsStep (old new : List Triple) (constants first n : ℕ) (f : ℕ) (later : List Node) (node : ℕ) (next : List Node) : Type 0 where
  pub levels : List ℕ
  pub are : AreFor constants first n (function_of old f) levels
  pub is_node : IsNode new node
  pub nodes : AllNodes new next
  pub function : function_of new node ≡ parametric levels (first + n) (function_of old f)
  pub functions : functions_of new next ≡ put_in levels (misses levels (first + n) (function_of old f)) (functions_of old later)
  pub within : (ls : List ℕ) → DependsOn old f ls → AllDepend old later ls → IsListed ls (first + n) → AllDepend new next ls

-- nodes that it adds at most
pub record StepRoom (f level : ℕ) (later : List Node) (old new : Store) : Type 0 where
  pub most : (ls : List ℕ) → DependsOn old.triples f ls → AllDepend old.triples later ls → IsListed ls level →
      length new.triples ≤ length old.triples + (12 * (length ls + 1) + 3 * length later) * (2 ^ length ls * 2 ^ length ls)

-- the parametric form adds fewer nodes, for each list of levels on which the leaves depend alone
pub record ParametricRoom (values : List Node) (old new : Store) : Type 0 where
  pub most : (ls : List ℕ) → AllDepend old.triples values ls →
      let m = length values in let w = length ls + m in length new.triples < length old.triples + 64 * (m + 1) * (w + 1) * 4 ^ (w + 1)

-- a stop for nodes has its cause: the count of refusals rose, and the budget is below the nodes at the call and those that it may add
pub record ParametricCause (values : List Node) (old new : Store) : Type 0 where
  pub rose : Rose old.fulls new.fulls
  pub below : (ls : List ℕ) → AllDepend old.triples values ls →
      let m = length values in let w = length ls + m in old.budget < length old.triples + 64 * (m + 1) * (w + 1) * 4 ^ (w + 1)
