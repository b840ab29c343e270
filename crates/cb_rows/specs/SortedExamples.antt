-- Worked trees with their sorts, orders of things that need one another, and what nets carry: what holds, and what one change breaks.
use Rattle.std.specs.Prelude.{◌≡◌, ℕ, Bool, true, false, List, [], ◌∷◌, map, Some, None, pos}
use Rattle.cb_model.specs.declared.Sort.{Sort}
use Rattle.cb_model.specs.declared.Sort.TheVariants as sort
use Rattle.cb_model.specs.declared.Expr.TheVariants as expr
use Rattle.cb_model.specs.declared.Tree.{Tree}
use Rattle.cb_model.specs.declared.Tree.TheVariants as tree
use Rattle.cb_model.specs.declared.Goal.TheVariants as goal
use Rattle.cb_model.specs.declared.Clause.{Clause}
use Rattle.cb_model.specs.declared.GateKind.TheVariants as gate
use Rattle.cb_model.specs.Values.{Sorts}
use Rattle.cb_model.specs.Sorted.{variables_fit, tree_sort, arguments_fit, tree_fits, goal_fits, clause_fits, operands_fit}
use Rattle.cb_model.specs.Order.{IsGraph, IsOrder, HasCycle}
use Rattle.cb_model.specs.Circuits.{Flat, In, Own}
use Rattle.cb_model.specs.Carry.{Carries, IsTotal, IsCarrying}

-- the variables' sorts: a Boolean, a bus and a term
abbrev pub sorts : List Sort
sorts = sort.Bool ∷ sort.Bus ∷ sort.Term ∷ []

-- name 0 has a Boolean argument and a bus, name 1 has a term, and name 2 none
abbrev pub table : Sorts
table = (sort.Bool ∷ sort.Bus ∷ []) ∷ (sort.Term ∷ []) ∷ [] ∷ []

-- variable n at each sort of place
abbrev pub bit : ℕ → Tree
bit n = tree.Leaf (expr.Not (expr.Var n))

abbrev pub tail : ℕ → Tree
tail n = tree.Bus [] (Some n)

abbrev pub element : ℕ → Tree
element n = tree.Bus (expr.And (expr.One ∷ expr.Var n ∷ []) ∷ []) None

-- `f(X, B)`, over the variables above
abbrev pub compound : Tree
compound = tree.Node 0 (bit 0 ∷ tail 1 ∷ [])

-- `g(f(X, B)) :- f(X, B) = T, circuit(.., B, [X]).`
abbrev pub rule : Clause
rule = record { pred = 1; sorts = sorts; head = compound ∷ []; body = goal.Equal compound (tree.Var 2) ∷ goal.Circuit 0 (tail 1) (element 0) ∷ [] }

-- item 2 needs item 0
abbrev pub graph : List (List ℕ)
graph = [] ∷ [] ∷ (0 ∷ []) ∷ []

-- two items that need one another
abbrev pub round : List (List ℕ)
round = (1 ∷ []) ∷ (0 ∷ []) ∷ []

-- an inverter behind an inverter, the second one first, and an inverter that reads its own output
abbrev pub two_inverters : Flat
two_inverters = record { name = []; inputs = 1; gates = (gate.Not, Own 1 ∷ []) ∷ (gate.Not, In 0 ∷ []) ∷ []; outputs = Own 0 ∷ [] }

abbrev pub turning : Flat
turning = record { name = []; inputs = 0; gates = (gate.Not, Own 0 ∷ []) ∷ []; outputs = [] }

pub record SortedExamples : Type 0 where
  -- the sort of a place is that of the tree that stands there
  pub tree_sorts : map tree_sort (bit 0 ∷ tail 1 ∷ tree.Var 2 ∷ tree.Int (pos 0) ∷ compound ∷ []) ≡ sort.Bool ∷ sort.Bus ∷ sort.Term ∷ sort.Term ∷ sort.Term ∷ []
  -- each sort of variable at each sort of place, and a variable that isn't there
  pub bits : map (λ n. variables_fit sorts (bit n)) (0 ∷ 1 ∷ 2 ∷ 3 ∷ []) ≡ true ∷ false ∷ false ∷ false ∷ []
  pub tails : map (λ n. variables_fit sorts (tail n)) (0 ∷ 1 ∷ 2 ∷ 3 ∷ []) ≡ false ∷ true ∷ false ∷ false ∷ []
  pub elements : map (λ n. variables_fit sorts (element n)) (0 ∷ 1 ∷ 2 ∷ 3 ∷ []) ≡ true ∷ false ∷ false ∷ false ∷ []
  pub terms : map (λ n. variables_fit sorts (tree.Var n)) (0 ∷ 1 ∷ 2 ∷ 3 ∷ []) ≡ false ∷ false ∷ true ∷ false ∷ []
  pub inside : map (λ n. variables_fit sorts (tree.Node 1 (tree.Node 0 (bit n ∷ tail 1 ∷ []) ∷ []))) (0 ∷ 1 ∷ []) ≡ true ∷ false ∷ []
  -- a compound has the arguments of its name: as many, each of its sort; a name past the table has none
  pub arguments : map (arguments_fit table) (compound ∷ tree.Node 0 (tail 1 ∷ bit 0 ∷ []) ∷ tree.Node 0 (bit 0 ∷ []) ∷ tree.Node 0 (bit 0 ∷ tail 1 ∷ tail 1 ∷ []) ∷ []) ≡
      true ∷ false ∷ false ∷ false ∷ []
  pub names : map (arguments_fit table) (tree.Node 2 [] ∷ tree.Node 2 (bit 0 ∷ []) ∷ tree.Node 3 [] ∷ tree.Node 3 (bit 0 ∷ []) ∷ []) ≡ true ∷ false ∷ true ∷ false ∷ []
  pub inner : map (arguments_fit table) (tree.Node 1 (compound ∷ []) ∷ tree.Node 1 (tree.Node 0 [] ∷ []) ∷ tree.Node 1 (bit 0 ∷ []) ∷ []) ≡ true ∷ false ∷ false ∷ []
  -- a tree of another sort, one with a wrong variable, and one with a wrong argument
  pub trees : map (tree_fits table sorts sort.Term) (compound ∷ tail 1 ∷ tree.Var 0 ∷ tree.Node 2 (bit 0 ∷ []) ∷ []) ≡ true ∷ false ∷ false ∷ false ∷ []
  -- both sides of an equation have one sort
  pub equations : map (goal_fits table sorts) (goal.Equal compound (tree.Var 2) ∷ goal.Equal (tail 1) (tree.Var 2) ∷ goal.Equal (tree.Var 0) (tree.Var 2) ∷ goal.Equal compound (tree.Node 2 (bit 0 ∷ [])) ∷ []) ≡
      true ∷ false ∷ false ∷ false ∷ []
  pub circuits : map (goal_fits table sorts) (goal.Circuit 0 (tail 1) (element 0) ∷ goal.Circuit 0 (tree.Var 2) (element 0) ∷ goal.Circuit 0 (tail 1) (element 1) ∷ []) ≡ true ∷ false ∷ false ∷ []
  pub calls : map (goal_fits table sorts) (goal.True ∷ goal.Fail ∷ goal.Call 0 (bit 0 ∷ tail 1 ∷ []) ∷ goal.Call 0 (bit 1 ∷ tail 1 ∷ []) ∷ goal.Call 1 [] ∷ []) ≡ true ∷ true ∷ true ∷ false ∷ false ∷ []
  pub clauses : map (clause_fits table) (rule ∷ record rule { pred = 2 } ∷ record rule { sorts = [] } ∷ record rule { body = goal.Equal (tail 1) (tree.Var 2) ∷ [] } ∷ []) ≡ true ∷ false ∷ false ∷ false ∷ []
  -- a chain without an operand, at each depth
  pub chains : map operands_fit (compound ∷ element 0 ∷ tree.Leaf (expr.And []) ∷ tree.Leaf (expr.Not (expr.Or [])) ∷ tree.Bus (expr.Xor [] ∷ []) None ∷ tree.Node 1 (tree.Leaf (expr.Or (expr.And [] ∷ [])) ∷ []) ∷ []) ≡
      true ∷ true ∷ false ∷ false ∷ false ∷ false ∷ []
  -- the least item that can come next comes next, and all items come
  pub ordered : IsOrder graph (0 ∷ 1 ∷ 2 ∷ [])
  pub not_least : IsOrder graph (1 ∷ 0 ∷ 2 ∷ []) → ⊥
  pub not_behind : IsOrder graph (2 ∷ 0 ∷ 1 ∷ []) → ⊥
  pub one_left_out : IsOrder graph (0 ∷ 1 ∷ []) → ⊥
  pub one_twice : IsOrder graph (0 ∷ 0 ∷ 1 ∷ 2 ∷ []) → ⊥
  pub is_graph : IsGraph graph
  pub no_graph : IsGraph ((1 ∷ []) ∷ []) → ⊥
  pub goes_round : HasCycle round
  pub itself : HasCycle ((0 ∷ []) ∷ [])
  pub without_round : HasCycle graph → ⊥
  -- a net carries its input, or its gate's value, whatever the order of the gates; a gate that reads itself carries nothing
  pub carries_input : (x : Bool) → Carries two_inverters (x ∷ []) (In 0) x
  pub carries_value : Carries two_inverters (true ∷ []) (Own 0) true
  pub not_the_other : Carries two_inverters (true ∷ []) (Own 0) false → ⊥
  pub no_net : (x : Bool) → Carries two_inverters (true ∷ []) (In 1) x → ⊥
  pub nothing : (x : Bool) → Carries turning [] (Own 0) x → ⊥
  pub is_carrying : IsCarrying two_inverters
  pub not_total : IsTotal turning → ⊥
  pub no_output : IsCarrying (record two_inverters { outputs = Own 2 ∷ [] }) → ⊥
