-- Worked steps: what each kind of step counts and numbers, when a budget is passed, and what is known of a value.
use Rattle.std.specs.Prelude.{◌≡◌, ◌^◌, ◌-◌, true, false, [], ◌∷◌, map, codes, Some, None, pos, negsuc}
use Rattle.cb_model.specs.declared.Sort.TheVariants as sort
use Rattle.cb_model.specs.declared.Expr.TheVariants as expr
use Rattle.cb_model.specs.declared.Tree.TheVariants as tree
use Rattle.cb_model.specs.declared.Goal.TheVariants as goal
use Rattle.cb_model.specs.declared.Kind.TheVariants as kind
use Rattle.cb_model.specs.declared.Clause.{Clause}
use Rattle.cb_model.specs.Bits.{bits_of}
use Rattle.cb_model.specs.Values.{Bit, Word, Int, Name, Last, More}
use Rattle.cb_model.specs.Equations.{Pair}
use Rattle.cb_model.specs.Program.{no_program}
use Rattle.cb_model.specs.Derivation.{Branch, Change, Adds, Run, Try, Moves, resolutions_of, resolved, with_circuit, extended, waits, stop_of, first_branch, Resolutions, Variables, Equations, outermost, ABit, Empty, NotEmpty, AnInt, ANode}
use Rattle.cb_model.specs.Line.{Names, line_items, line_text, variable_name, leaf_text, parameters, places, open_text}
use Rattle.cb_model.specs.Tokens.{InRange}
use Rattle.cb_model.specs.Commands.{Max}
use Rattle.cb_model.specs.Output.{QuerySays}
use Rattle.cb_rows.specs.CircuitGoalRow as circuit
use Rattle.cb_rows.specs.TwoRulesRow as two_rules
use Rattle.cb_rows.specs.TryRow as try
use Rattle.cb_rows.specs.DetailExamples.{branch_with}

-- a branch with a Boolean variable and a term, whose next waiting goal has number 3, and which has made five equation steps
abbrev pub b : Branch
b = record { goals = []; waiting = []; next = 3; items = []; sorts = sort.Bool ∷ sort.Term ∷ []; steps = 5 }

-- `p(X).` with a Boolean variable
abbrev pub clause : Clause
clause = record { pred = 0; sorts = sort.Bool ∷ []; head = tree.Leaf (expr.Var 0) ∷ []; body = [] }

-- the constants a and b, and the name `p`
abbrev pub names : Names
names = record { names = codes "p" ∷ []; constants = codes "a" ∷ codes "b" ∷ []; printed = [] }

pub record StepExamples : Type 0 where
  -- a `circuit` goal adds a Boolean variable for each input, behind the others, and counts a step
  pub circuit_sorts : (with_circuit b circuit.half circuit.ins circuit.outs).sorts ≡ sort.Bool ∷ sort.Term ∷ sort.Bool ∷ sort.Bool ∷ []
  pub circuit_steps : (with_circuit b circuit.half circuit.ins circuit.outs).steps ≡ 6
  -- they count for the budget of variables: with a constant and 4093 variables two more are the last
  pub circuit_left : stop_of (no_program 1) 5 0 (Adds 0 [] (with_circuit (branch_with 4093 0) circuit.half circuit.ins circuit.outs)) ≡ None
  pub circuit_passed : stop_of (no_program 1) 5 0 (Adds 0 [] (with_circuit (branch_with 4094 0) circuit.half circuit.ins circuit.outs)) ≡ Some Variables
  -- a clause's variables go behind the others, its head's are counted from there, and it counts a step
  pub clause_sorts : (resolved b 0 (tree.Leaf expr.One ∷ []) clause).sorts ≡ sort.Bool ∷ sort.Term ∷ sort.Bool ∷ []
  pub clause_items : (resolved b 0 (tree.Leaf expr.One ∷ []) clause).items ≡ Pair (tree.Node 0 (tree.Leaf (expr.Var 2) ∷ [])) (tree.Node 0 (tree.Leaf expr.One ∷ [])) ∷ []
  pub clause_steps : (resolved b 0 (tree.Leaf expr.One ∷ []) clause).steps ≡ 6
  -- an equation counts a step, of which a query may make 1,000,000
  pub last_step : stop_of (no_program 0) 5 0 (Adds 0 [] (extended (branch_with 0 999999) [] [] [])) ≡ None
  pub step_passed : stop_of (no_program 0) 5 0 (Adds 0 [] (extended (branch_with 0 1000000) [] [] [])) ≡ Some Equations
  -- of five resolutions four are made: a step with one is the last, one that costs none stops nothing after it
  pub last_resolution : stop_of (no_program 0) 5 4 (Adds 1 [] b) ≡ None
  pub resolution_passed : stop_of (no_program 0) 5 5 (Adds 1 [] b) ≡ Some Resolutions
  pub costs_none : stop_of (no_program 0) 5 5 (Adds 0 [] b) ≡ None
  -- a commit costs a resolution, as a try does; `true`, an equation and a `circuit` goal cost none
  pub commit_costs : (c : Change) → Moves two_rules.p (Run (first_branch two_rules.q)) c → resolutions_of c ≡ 1
  pub commit_stops : QuerySays two_rules.p two_rules.q two_rules.names 0 Max (codes "stopped: resolutions" ∷ []) true
  pub try_costs : (c : Change) → Moves try.p (Try try.behind 0 (try.X ∷ []) 0) c → resolutions_of c ≡ 1
  pub equation_costs : (c : Change) → Moves try.p (Run (record b { goals = goal.Equal (tree.Var 1) (tree.Var 1) ∷ [] })) c → resolutions_of c ≡ 0
  pub circuit_costs : (c : Change) → Moves circuit.p (Run (first_branch circuit.q)) c → resolutions_of c ≡ 0
  -- a goal that waits gets the next number, and no step is counted
  pub waiting : (waits b (goal.Call 0 [])).waiting ≡ record { number = 3; goal = goal.Call 0 [] } ∷ []
  pub next_number : (waits b (goal.Call 0 [])).next ≡ 4
  pub waiting_steps : (waits b (goal.Call 0 [])).steps ≡ 5
  -- a query begins with no steps, and with the waiting number 0
  pub begins : first_branch circuit.q ≡ record { goals = circuit.q.goals; waiting = []; next = 0; items = []; sorts = sort.Bool ∷ sort.Bool ∷ []; steps = 0 }
  -- outermost forms: names have different ones, as integers do; a list is empty or not
  pub forms : map outermost (Bit true ∷ Word [] ∷ Word (true ∷ []) ∷ Word (false ∷ true ∷ []) ∷ Int (pos 1) ∷ Int (negsuc 0) ∷ Name 0 Last ∷ Name 1 (More (Bit true) Last) ∷ []) ≡
      ABit ∷ Empty ∷ NotEmpty ∷ NotEmpty ∷ AnInt (pos 1) ∷ AnInt (negsuc 0) ∷ ANode 0 ∷ ANode 1 ∷ []
  -- waiting goals stand behind `yes`, and behind the variables
  pub yes_waits : line_items [] (codes "p" ∷ codes "q" ∷ []) ≡ codes "yes" ∷ codes "waiting p" ∷ codes "waiting q" ∷ []
  pub variables_wait : line_items ((0, codes "X") ∷ []) (codes "1" ∷ codes "p" ∷ []) ≡ codes "X = 1" ∷ codes "waiting p" ∷ []
  pub yes_line : line_text 2 names (tree.Node 0 [] ∷ []) [] ≡ codes "yes, waiting p"
  -- the constants, and then the parameters from `_1` on, of which a leaf reads its own too
  pub variable_names : map (variable_name 2 names) (0 ∷ 1 ∷ 2 ∷ 3 ∷ []) ≡ codes "a" ∷ codes "b" ∷ codes "_1" ∷ codes "_2" ∷ []
  pub leaf_texts : map (leaf_text 2 names ((λ e. e 2) ∷ (λ e. e 3) ∷ [])) (0 ∷ 1 ∷ []) ≡ codes "_1" ∷ codes "_2" ∷ []
  pub parameter_bits : parameters 2 3 (bits_of (true ∷ true ∷ false ∷ true ∷ false ∷ true ∷ [])) ≡ false ∷ true ∷ false ∷ []
  pub open_places : map open_text (0 ∷ 9 ∷ []) ≡ codes "_T1" ∷ codes "_T10" ∷ []
  -- places: a leaf, `[]`, `[X, Y]`, `[X|B]`, a variable, an integer, `f` and `f(1, [])`
  pub place_counts : map places
      (tree.Leaf (expr.Var 0) ∷ tree.Bus [] None ∷ tree.Bus (expr.Var 0 ∷ expr.Var 1 ∷ []) None ∷ tree.Bus (expr.Var 0 ∷ []) (Some 0) ∷ tree.Var 0 ∷ tree.Int (pos 5) ∷
      tree.Node 0 [] ∷ tree.Node 0 (tree.Int (pos 1) ∷ tree.Bus [] None ∷ []) ∷ []) ≡
      1 ∷ 1 ∷ 3 ∷ 2 ∷ 1 ∷ 1 ∷ 1 ∷ 3 ∷ []
  -- the last integers of 64 bits, and those past them
  pub greatest : InRange (kind.Integer (pos (2 ^ 63 - 1)))
  pub past_greatest : InRange (kind.Integer (pos (2 ^ 63))) → ⊥
  pub least : InRange (kind.Integer (negsuc (2 ^ 63 - 1)))
  pub past_least : InRange (kind.Integer (negsuc (2 ^ 63))) → ⊥
