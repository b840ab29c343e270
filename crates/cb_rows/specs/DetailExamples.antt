-- Small facts, each of which fixes one choice of a definition.
use Rattle.std.specs.Prelude.{◌≡◌, ℕ, zero, suc, true, false, List, [], ◌∷◌, codes, Some, None, pos}
use Rattle.cb_model.specs.declared.Sort.TheVariants as sort
use Rattle.cb_model.specs.declared.When.TheVariants as when
use Rattle.cb_model.specs.declared.Expr.TheVariants as expr
use Rattle.cb_model.specs.declared.Tree.TheVariants as tree
use Rattle.cb_model.specs.declared.Goal.TheVariants as goal
use Rattle.cb_model.specs.declared.Clause.{Clause}
use Rattle.cb_model.specs.Text.{Text, name_text, shown_name}
use Rattle.cb_model.specs.Values.{World}
use Rattle.cb_model.specs.Equations.{Item, Pair}
use Rattle.cb_model.specs.Program.{Program, no_program, first_clause, next_clause}
use Rattle.cb_model.specs.Derivation.{Branch, resolved, waits, passed, Resolutions, Variables, Equations, WordHolds, Made, Printed, stretch_after}
use Rattle.cb_model.specs.Answers.{Product, products_text}
use Rattle.cb_model.specs.Line.{Names, bus_text, line_text, is_wide}
use Rattle.cb_model.specs.Room.{branch_size, widest}
use Rattle.cb_model.specs.Grammar.{Form, Last, More, one, Name, Variable, Integer, Closed, Open, Not, And, Or, FormGoal, ACall, AnEqual, FormClause, Directive, Rule}
use Rattle.cb_model.specs.Written.{is_written, clause_written, query_written, parts_of}
use Rattle.cb_model.specs.Directives.{SortClash, Unknown, Declared, directives, nothing, BadDirective, Twice, constant_argument}
use Rattle.cb_model.specs.Sorts.{Numbering, as_tree, HasSort, Var, Equation, apart, own_name}
use Rattle.cb_model.specs.Loading.{query_body, goal_unknown, is_taken}
use Rattle.cb_model.specs.Facts.{no_circuits, with_spec, with_module, FactReads, ModuleRefusal, Pins, Driven}
use Rattle.cb_model.specs.Facts as facts
use Rattle.cb_model.specs.Tokens.{Byte, Number, Quote}
use Rattle.cb_model.specs.Grammar.{Syntax, Unfinished, Deep, Whole}
use Rattle.cb_model.specs.Refusals.{refusal_line}
use Rattle.cb_model.specs.Derivation.{Stopped}
use Rattle.cb_model.specs.Output.{end_text, fault_refused, reading_refused, sort_refused, fact_refused}
use Rattle.std.specs.Prelude.{map, option_map}
use Rattle.cb_rows.specs.DelayRow as delay
use Rattle.cb_rows.specs.CircuitGoalRow as circuit
use Rattle.cb_rows.specs.CircuitExamples.{half_adder, A, B, with_pins}
use Rattle.cb_rows.specs.FileExamples.{atom}

-- so many times the same
abbrev pub copies : {T : Type 0} → ℕ → T → List T
copies zero x = []
copies (suc n) x = x ∷ copies n x

-- a branch with so many Boolean variables and equation steps
abbrev pub branch_with : ℕ → ℕ → Branch
branch_with v steps = record { goals = goal.Fail ∷ []; waiting = []; next = 0; items = []; sorts = copies v sort.Bool; steps = steps }

-- X is the constant a
abbrev pub x_is_a : List Item
x_is_a = Pair (tree.Leaf (expr.Var 0)) (tree.Leaf (expr.Const 0)) ∷ []

-- no names have declared sorts
abbrev pub world : World
world = record { arguments = [] }

-- no names
abbrev pub no_names : Names
no_names = record { names = []; constants = []; printed = [] }

-- the text of a variable
abbrev pub letter : ℕ → Text
letter n = codes "x"

-- a product of one literal
abbrev pub literal : Product
literal = (0, true) ∷ []

-- a clause of predicate n
abbrev pub clause_of : ℕ → Clause
clause_of n = record { pred = n; sorts = []; head = []; body = [] }

-- clauses of two predicates
abbrev pub mixed : Program
mixed = record (no_program 0) { clauses = clause_of 1 ∷ clause_of 0 ∷ clause_of 1 ∷ clause_of 0 ∷ [] }

-- a directive with one argument
abbrev pub directive : Text → Form → FormClause
directive word f = Directive 1 word (one f)

-- `X = [~Y|T], f(Z)`
abbrev pub places_goals : List FormGoal
places_goals =
    AnEqual (Variable (codes "X")) (Open (one (Not (Variable (codes "Y")))) (Variable (codes "T"))) ∷ ACall (Name (codes "f") (one (Variable (codes "Z")))) ∷ []

-- `L = [E], X = A + B, f(g([D]))`
abbrev pub operand_goals : List FormGoal
operand_goals =
    AnEqual (Variable (codes "L")) (Closed (one (Variable (codes "E")))) ∷
    AnEqual (Variable (codes "X")) (Or (More (Variable (codes "A")) (one (Variable (codes "B"))))) ∷
    ACall (Name (codes "f") (one (Name (codes "g") (one (Closed (one (Variable (codes "D")))))))) ∷ []

-- `circuit(m, B, [])`
abbrev pub circuit_call : Form
circuit_call = Name (codes "circuit") (More (atom (codes "m")) (More (Variable (codes "B")) (one (Closed Last))))

-- X is the first variable, T the second, and a the first constant
abbrev pub numbers_of : Numbering
numbers_of = record { variables = codes "X" ∷ codes "T" ∷ []; constants = codes "a" ∷ []; names = (codes "f", 2) ∷ [] }

-- `f/2` has a Boolean argument and a bus
abbrev pub f_declared : Declared
f_declared = record nothing { sorts = ((codes "f", 2), sort.Bool ∷ sort.Bus ∷ []) ∷ [] }

pub record DetailExamples : Type 0 where
  -- the clauses of one predicate, passing over those of others
  pub first_of : first_clause mixed 0 ≡ Some 1
  pub next_of : next_clause mixed 0 1 ≡ Some 3
  pub last_of : next_clause mixed 0 3 ≡ None
  -- a body goes in front of the goals
  pub body_first : (resolved (branch_with 0 0) 0 [] (record { pred = 0; sorts = []; head = []; body = goal.True ∷ [] })).goals ≡ goal.True ∷ goal.Fail ∷ []
  pub step_counts : (resolved (branch_with 0 0) 0 [] (clause_of 0)).steps ≡ 1
  -- the three budgets at their ends, and their order
  pub resolutions_left : passed (no_program 0) 5 5 (branch_with 0 0) ≡ None
  pub resolutions_passed : passed (no_program 0) 5 6 (branch_with 0 1000001) ≡ Some Resolutions
  pub variables_left : passed (no_program 1) 5 0 (branch_with 4095 0) ≡ None
  pub variables_passed : passed (no_program 1) 5 0 (branch_with 4096 1000001) ≡ Some Variables
  pub equations_left : passed (no_program 0) 5 0 (branch_with 0 1000000) ≡ None
  pub equations_passed : passed (no_program 0) 5 0 (branch_with 0 1000001) ≡ Some Equations
  -- where X is a, it is known and no one value
  pub is_known : WordHolds world x_is_a when.Known (tree.Leaf (expr.Var 0))
  pub not_const : WordHolds world x_is_a when.Fixed (tree.Leaf (expr.Var 0)) → ⊥
  -- a list with an element has a form, and an open one has none
  pub has_form : WordHolds world [] when.Nonvar (tree.Bus (expr.Var 0 ∷ []) (Some 0))
  pub no_form : WordHolds world [] when.Nonvar (tree.Bus [] (Some 0)) → ⊥
  -- the branches after the first answer, up to and with the second
  pub stretch : stretch_after 1 (Made (branch_with 0 0) ∷ Printed (branch_with 0 1) ∷ Made (branch_with 0 2) ∷ Printed (branch_with 0 3) ∷ Made (branch_with 0 4) ∷ []) ≡
      branch_with 0 2 ∷ branch_with 0 3 ∷ []
  -- texts
  pub large : products_text letter (literal ∷ copies 65536 literal) ≡ codes "(large)"
  pub two_products : products_text letter (literal ∷ ((1, false) ∷ (2, true) ∷ []) ∷ []) ≡ codes "x + ~x*x"
  pub no_variables : line_text 0 no_names [] [] ≡ codes "yes"
  pub open_bus : bus_text [] (Some 0) ≡ codes "_T1"
  pub open_list : bus_text (codes "0" ∷ codes "1" ∷ []) (Some 1) ≡ codes "[0, 1|_T2]"
  pub closed_list : bus_text (codes "0" ∷ codes "1" ∷ []) None ≡ codes "[0, 1]"
  pub quoted : name_text (codes "Big one") ≡ codes "'Big one'"
  pub plain : name_text (codes "big_1") ≡ codes "big_1"
  pub shown : shown_name (own_name 7) ≡ codes "_"
  -- too many places
  pub wide_places : is_wide (copies 65537 (tree.Int (pos 0))) ≡ true
  pub not_wide_places : is_wide (copies 65536 (tree.Int (pos 0))) ≡ false
  -- the bound counts waiting goals, and the ports of a module
  pub waiting_size : branch_size delay.p (waits delay.behind delay.call) ≡ 2
  pub widest_module : widest circuit.p ≡ 4
  -- the grammar's form
  pub written : clause_written (Rule 1 (Name (codes "p") (one (Not (Variable (codes "X"))))) true (ACall (atom (codes "q")) ∷ [])) ≡ true
  pub no_body : clause_written (Rule 1 (atom (codes "p")) true []) ≡ false
  pub short_chain : clause_written (Rule 1 (Name (codes "p") (one (And (one (Variable (codes "X")))))) false []) ≡ false
  pub no_element : clause_written (Rule 1 (Name (codes "p") (one (Open Last (Variable (codes "X"))))) false []) ≡ false
  pub own_variable : is_written (Variable (own_name 0)) ≡ false
  pub small_variable : is_written (Variable (codes "x")) ≡ false
  pub no_goal : query_written (record { line = 1; goals = [] }) ≡ false
  pub parts : parts_of (Name (codes "p") (More (Not (Variable (codes "X"))) (one (Closed (one (Integer (pos 0))))))) ≡ 5
  -- directives
  pub reserved : (directives (directive (codes "constants") (atom (codes "true")) ∷ [])).refusal ≡ Some (BadDirective, 1)
  pub strange_word : (directives (directive (codes "foo") (atom (codes "a")) ∷ [])).refusal ≡ Some (BadDirective, 1)
  pub lone_delay : (directives (directive (codes "delay") (atom (codes "p")) ∷ Rule 2 (atom (codes "p")) false [] ∷ [])).refusal ≡ Some (BadDirective, 1)
  pub lone_sorts : (directives (directive (codes "sorts") (atom (codes "p")) ∷ [])).refusal ≡ None
  pub delayed_demon :
      (directives (directive (codes "delay") (Name (codes "p") (one (atom (codes "known")))) ∷ directive (codes "demon") (Name (codes "p") (one (atom (codes "bool")))) ∷ [])).refusal ≡
      Some (BadDirective, 1)
  pub constant_twice : (directives (directive (codes "constants") (atom (codes "a")) ∷ directive (codes "constants") (atom (codes "a")) ∷ [])).refusal ≡ Some (Twice, 1)
  pub last_constant : (constant_argument (record nothing { constants = copies 4095 (codes "a") }) (atom (codes "b"))).0 ≡ None
  pub too_many_constants : (constant_argument (record nothing { constants = copies 4096 (codes "a") }) (atom (codes "a"))).0 ≡ Some BadDirective
  -- sorts: of the operand of `~`, of a tail, of a list's equation, and of an argument without declared sorts
  pub operand_sort : HasSort nothing (query_body places_goals) (Var (codes "Y")) sort.Bool
  pub element_sort : HasSort nothing (query_body operand_goals) (Var (codes "E")) sort.Bool
  pub chain_sort : HasSort nothing (query_body operand_goals) (Var (codes "B")) sort.Bool
  pub inner_sort : HasSort nothing (query_body operand_goals) (Var (codes "D")) sort.Bool
  pub closed_sort : HasSort nothing (query_body operand_goals) (Var (codes "L")) sort.Bus
  pub operator_sort : HasSort nothing (query_body operand_goals) (Equation 1) sort.Bool
  pub tail_sort : HasSort nothing (query_body places_goals) (Var (codes "T")) sort.Bus
  pub list_sort : HasSort nothing (query_body places_goals) (Var (codes "X")) sort.Bus
  pub argument_sort : HasSort nothing (query_body places_goals) (Var (codes "Z")) sort.Term
  pub pin_sort : HasSort nothing (query_body (ACall circuit_call ∷ [])) (Var (codes "B")) sort.Bus
  -- each `_` is a variable of its own
  pub apart_names : apart (Name (codes "p") (More (Variable (codes "_")) (one (Variable (codes "_"))))) 0 ≡
      (Name (codes "p") (More (Variable (own_name 0)) (one (Variable (own_name 1)))), 2)
  -- goals of modules, and heads that are taken
  pub known_module : goal_unknown nothing [] (None ∷ Some (codes "m") ∷ []) (ACall circuit_call) ≡ false
  pub unknown_module : goal_unknown nothing [] (Some (codes "n") ∷ []) (ACall circuit_call) ≡ true
  pub fact_goal : goal_unknown nothing ((codes "spec", 3) ∷ []) [] (ACall (Name (codes "spec") (More (atom (codes "m")) (More (Closed Last) (one (Closed Last)))))) ≡ true
  pub taken_head : is_taken (Some (atom (codes "fail"))) ≡ true
  -- facts: a body, a second specification, a net that is driven twice
  pub fact_with_body : FactReads no_circuits (Rule 1 (atom (codes "module")) true (ACall (atom (codes "q")) ∷ [])) (Some Pins) no_circuits
  pub second_spec :
      let spec : facts.Spec = record { name = codes "m"; inputs = []; exprs = [] } in
      FactReads (with_spec no_circuits spec) (Rule 1 (Name (codes "spec") (More (atom (codes "m")) (More (Closed Last) (one (Closed Last))))) false []) (Some facts.Twice)
      (with_spec no_circuits spec)
  pub driven_twice : ModuleRefusal [] (record half_adder { instances = with_pins (A ∷ B ∷ []) (codes "S" ∷ []) (codes "xor") ∷ with_pins (A ∷ B ∷ []) (codes "S" ∷ []) (codes "and") ∷ []; outputs = codes "S" ∷ [] })
      (Some Driven)
  -- trees: a compound with its declared sorts, a list whose tail is a list, and 1 at its two sorts
  pub compound_tree : as_tree f_declared numbers_of sort.Term (Name (codes "f") (More (atom (codes "a")) (one (Open (one (Variable (codes "X"))) (Variable (codes "T")))))) ≡
      tree.Node 0 (tree.Leaf (expr.Const 0) ∷ tree.Bus (expr.Var 0 ∷ []) (Some 1) ∷ [])
  pub joined_list : as_tree f_declared numbers_of sort.Bus (Open (one (Integer (pos 1))) (Closed (one (Integer (pos 0))))) ≡ tree.Bus (expr.One ∷ expr.Zero ∷ []) None
  pub one_bit : as_tree f_declared numbers_of sort.Bool (Integer (pos 1)) ≡ tree.Leaf expr.One
  pub one_integer : as_tree f_declared numbers_of sort.Term (Integer (pos 1)) ≡ tree.Int (pos 1)
  -- the last lines of queries
  pub stop_lines : map (λ b. end_text (Stopped b) []) (Resolutions ∷ Variables ∷ Equations ∷ []) ≡
      codes "stopped: resolutions" ∷ codes "stopped: variables" ∷ codes "stopped: equations" ∷ []
  -- the lines of refusals
  pub token_refusals : map (λ f. refusal_line (fault_refused f)) (Byte 0 ∷ Number 12 ∷ Quote 3 ∷ []) ≡
      codes "error: byte 0: unexpected byte" ∷ codes "error: byte 12: number out of range" ∷ codes "error: byte 3: unclosed quote" ∷ []
  pub reading_refusals : map (λ r. option_map refusal_line (reading_refused {A = FormClause} r)) (Syntax 1 ∷ Unfinished 2 ∷ Deep 3 ∷ Whole [] ∷ []) ≡
      Some (codes "error: line 1: syntax") ∷ Some (codes "error: line 2: unfinished clause") ∷ Some (codes "error: line 3: nested too deep") ∷ None ∷ []
  pub sort_refusals : map (λ r. refusal_line (sort_refused (r, 4))) (BadDirective ∷ SortClash ∷ Unknown ∷ Twice ∷ []) ≡
      codes "error: line 4: bad directive" ∷ codes "error: line 4: sort clash" ∷ codes "error: line 4: unknown name" ∷ codes "error: line 4: declared twice" ∷ []
  pub fact_refusals : map (λ r. refusal_line (fact_refused (r, 5))) (facts.Twice ∷ Pins ∷ Driven ∷ facts.Cycle ∷ facts.Part ∷ facts.Large ∷ []) ≡
      codes "error: line 5: declared twice" ∷ codes "error: line 5: bad pins" ∷ codes "error: line 5: net not driven once" ∷ codes "error: line 5: cycle in a module" ∷
      codes "error: line 5: unknown part" ∷ codes "error: line 5: circuit too large" ∷ []
  pub refusal_numbers : map (λ r. (fact_refused (r, 5)).number) (facts.Twice ∷ Pins ∷ Driven ∷ facts.Cycle ∷ facts.Part ∷ facts.Large ∷ []) ≡ 10 ∷ 11 ∷ 12 ∷ 13 ∷ 14 ∷ 15 ∷ []
