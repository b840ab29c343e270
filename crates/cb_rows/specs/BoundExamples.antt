-- Worked sizes and bounds: each number of the bounds on nodes in an equation that one more or one less would break.
use Rattle.std.specs.Prelude.{◌≡◌, ℕ, true, false, [], ◌∷◌, map, codes, Some, None, pos}
use Rattle.cb_model.specs.declared.Sort.TheVariants as sort
use Rattle.cb_model.specs.declared.Expr.{Expr}
use Rattle.cb_model.specs.declared.Expr.TheVariants as expr
use Rattle.cb_model.specs.declared.Tree.{Tree}
use Rattle.cb_model.specs.declared.Tree.TheVariants as tree
use Rattle.cb_model.specs.declared.Goal.{Goal}
use Rattle.cb_model.specs.declared.Goal.TheVariants as goal
use Rattle.cb_model.specs.declared.Clause.{Clause}
use Rattle.cb_model.specs.Equations.{Pair, Part}
use Rattle.cb_model.specs.Program.{Program}
use Rattle.cb_model.specs.Derivation.{Branch, first_branch}
use Rattle.cb_model.specs.Room.{expr_size, tree_size, call_size, goal_size, goal_pins, item_size, clause_size, branch_size, room, widest, room_with, BelowRoom, room_v}
use Rattle.cb_model.specs.Commands.{Only, Max}
use Rattle.cb_model.specs.Output.{TooFewFor, QuerySays, room_of}
use Rattle.cb_rows.specs.CircuitGoalRow.{half}
use Rattle.cb_rows.specs.RoomRow as row
use Rattle.cb_rows.specs.RoomExamples.{three_modules}

-- X, Y and Z
abbrev pub X : Expr
X = expr.Var 0

abbrev pub Y : Expr
Y = expr.Var 1

abbrev pub Z : Expr
Z = expr.Var 2

-- `[a, b]` and `[S, C]`, the inputs and outputs of a half adder
abbrev pub ins : Tree
ins = tree.Bus (expr.Const 0 ∷ expr.Const 1 ∷ []) None

abbrev pub outs : Tree
outs = tree.Bus (X ∷ Y ∷ []) None

abbrev pub half_goal : Goal
half_goal = goal.Circuit 0 ins outs

-- a clause of this predicate with three Boolean variables and a term, the head `p(X)` and the body `true, circuit(half_adder, [a, b], [S, C])`
abbrev pub clause_of : ℕ → Clause
clause_of pred = record { pred = pred; sorts = sort.Bool ∷ sort.Bool ∷ sort.Term ∷ sort.Bool ∷ []; head = tree.Leaf X ∷ []; body = goal.True ∷ half_goal ∷ [] }

-- two constants, a half adder, and a clause of each of two names, of which the second has demon rules
abbrev pub p : Program
p = record {
  constants = 2;
  world = record { arguments = (sort.Bool ∷ []) ∷ (sort.Bool ∷ []) ∷ [] };
  words = [] ∷ [] ∷ [];
  demons = false ∷ true ∷ [];
  clauses = clause_of 0 ∷ clause_of 1 ∷ [];
  circuits = half ∷ [];
}

-- the same without clauses, and without circuits
abbrev pub only_circuits : Program
only_circuits = record p { clauses = [] }

abbrev pub only_clauses : Program
only_clauses = record p { circuits = [] }

-- a branch with a Boolean variable and a term
abbrev pub b : Branch
b = record { goals = []; waiting = []; next = 0; items = []; sorts = sort.Bool ∷ sort.Term ∷ []; steps = 0 }

-- the item of a half adder with its two own variables
abbrev pub half_part : Branch
half_part = record b { items = Part half ins outs (2 ∷ 3 ∷ []) ∷ [] }

pub record BoundExamples : Type 0 where
  -- 0, 1, a constant and a variable; `~X`, and chains of two and of three
  pub leaf_sizes : map expr_size (expr.Zero ∷ expr.One ∷ expr.Const 3 ∷ X ∷ []) ≡ 1 ∷ 1 ∷ 1 ∷ 1 ∷ []
  pub not_size : map expr_size (expr.Not X ∷ expr.Not (expr.Not X) ∷ []) ≡ 2 ∷ 3 ∷ []
  pub and_sizes : map expr_size (expr.And (X ∷ Y ∷ []) ∷ expr.And (X ∷ Y ∷ Z ∷ []) ∷ []) ≡ 3 ∷ 5 ∷ []
  pub xor_sizes : map expr_size (expr.Xor (X ∷ Y ∷ []) ∷ expr.Xor (X ∷ Y ∷ Z ∷ []) ∷ []) ≡ 3 ∷ 5 ∷ []
  pub or_sizes : map expr_size (expr.Or (X ∷ Y ∷ []) ∷ expr.Or (X ∷ Y ∷ Z ∷ []) ∷ []) ≡ 3 ∷ 5 ∷ []
  -- `~X` at a Boolean place, `[]`, `[X|B]`, `[~X, Y]`, a variable, an integer, `f` and `f(1, [], ~X)`
  pub bit_size : tree_size (tree.Leaf (expr.Not X)) ≡ 2
  pub bus_sizes : map tree_size (tree.Bus [] None ∷ tree.Bus (X ∷ []) (Some 0) ∷ tree.Bus (expr.Not X ∷ Y ∷ []) None ∷ []) ≡ 1 ∷ 2 ∷ 4 ∷ []
  pub term_sizes : map tree_size (tree.Var 0 ∷ tree.Int (pos 7) ∷ tree.Node 0 [] ∷ []) ≡ 1 ∷ 1 ∷ 1 ∷ []
  pub compound_size : tree_size (tree.Node 0 (tree.Int (pos 1) ∷ tree.Bus [] None ∷ tree.Leaf (expr.Not X) ∷ [])) ≡ 4
  -- a call without arguments counts one
  pub call_sizes : map call_size ([] ∷ (tree.Leaf X ∷ []) ∷ (tree.Leaf (expr.Not X) ∷ tree.Var 0 ∷ []) ∷ []) ≡ 1 ∷ 1 ∷ 3 ∷ []
  -- goals: `true`, `fail`, `~X = Y`, `circuit(half_adder, [a, b], [S, C])` and calls; a half adder has six pins
  pub plain_goals : map goal_size (goal.True ∷ goal.Fail ∷ goal.Equal (tree.Leaf (expr.Not X)) (tree.Leaf Y) ∷ []) ≡ 1 ∷ 1 ∷ 3 ∷ []
  pub circuit_goal : goal_size half_goal ≡ 7
  pub calls : map goal_size (goal.Call 0 [] ∷ goal.Call 0 (tree.Leaf X ∷ tree.Leaf Y ∷ []) ∷ []) ≡ 1 ∷ 2 ∷ []
  pub pins : map (goal_pins p) (half_goal ∷ goal.Circuit 1 ins outs ∷ goal.Call 0 [] ∷ []) ≡ 6 ∷ 0 ∷ 0 ∷ []
  -- items: a pair; a circuit with its name, its trees, its own variables, its outputs and its pins
  pub pair_size : item_size (Pair (tree.Leaf (expr.Not X)) (tree.Leaf Y)) ≡ 3
  pub part_size : item_size (Part half ins outs (2 ∷ 3 ∷ [])) ≡ 17
  -- a clause counts the pins of its `circuit` goal
  pub rule_size : clause_size p (clause_of 1) ≡ 15
  -- a branch without anything counts the demon rules of the program, and not the other clauses
  pub demon_rules : branch_size p b ≡ 15
  pub no_rules : branch_size only_circuits b ≡ 0
  -- its goals count with their pins, its items with theirs, and its waiting goals
  pub goals_size : branch_size only_circuits (record b { goals = goal.True ∷ half_goal ∷ [] }) ≡ 14
  pub items_size : branch_size only_circuits half_part ≡ 17
  pub waiting_size : branch_size only_circuits (record b { waiting = record { number = 0; goal = goal.Call 0 (tree.Leaf (expr.Not X) ∷ []) } ∷ [] }) ≡ 2
  -- the widest clause has three Boolean variables, and the half adder two inputs and two outputs
  pub widest_clause : widest only_clauses ≡ 3
  pub widest_of_both : widest p ≡ 4
  -- the formula at four different numbers, and at those of a branch: as many printed leaves as count, or the widest
  pub formula : room 1 2 3 4 ≡ 8315056685056
  pub of_widest : room_with p b 0 ≡ room 15 2 1 4
  pub of_leaves : room_with p b 5 ≡ room 15 2 1 5
  -- a number is below the bound, and the bound itself isn't: without a printed leaf and with one
  pub last_below : BelowRoom row.p row.names row.dropped 102399
  pub not_the_bound : BelowRoom row.p row.names row.dropped 102400 → ⊥
  pub not_the_first_bound : BelowRoom row.p row.names (first_branch row.q) 1179648 → ⊥
  -- `max` is never too few
  pub max_suffices : TooFewFor row.p row.names Max (first_branch row.q) → ⊥
  -- where another budget stops the query, nodes don't: `p, X = 1` without resolutions, though 12799 nodes are too few for the branch of `p`
  pub resolutions_first : QuerySays row.name_program row.name_query row.names 0 (Only 12799) (codes "stopped: nodes" ∷ []) true → ⊥
  pub says_resolutions : QuerySays row.name_program row.name_query row.names 0 (Only 12799) (codes "stopped: resolutions" ∷ []) true
  -- the bound of a comparison at four different numbers; `same full_adder half_adder` counts the pins of both, and the
  -- instances of each module once
  pub comparison : room_v 1 2 3 4 ≡ 196608
  pub two_modules : room_of three_modules (codes "full_adder" ∷ codes "half_adder" ∷ []) 0 ≡ 184320
