-- Worked solutions: values by sorts, equations at one assignment and at all, tables, the parametric form, steps, and circuits with one valuation.
use Rattle.std.specs.Prelude.{◌≡◌, ℕ, zero, suc, ◌-◌, ◌^◌, ◌==◌, Bool, true, false, not, ◌&&◌, List, [], ◌∷◌, map, Some, None, pos}
use Rattle.cb_model.specs.declared.Sort.TheVariants as sort
use Rattle.cb_model.specs.declared.Expr.TheVariants as expr
use Rattle.cb_model.specs.declared.Tree.TheVariants as tree
use Rattle.cb_model.specs.declared.Goal.TheVariants as goal
use Rattle.cb_model.specs.declared.GateKind.TheVariants as gate
use Rattle.cb_model.specs.declared.GateKind.{GateKind}
use Rattle.cb_model.specs.declared.Gate.{Gate}
use Rattle.cb_model.specs.declared.Circuit.{Circuit}
use Rattle.cb_model.specs.Bits.{Bits, first_bits, some_bits, every_bits, odd_of, some_of, xor, AgreeBelow}
use Rattle.cb_model.specs.Values.{World, Sorts, Fits, Bit, Word, Name, Last, More, in_scope, tree_in_scope}
use Rattle.cb_model.specs.Equations.{Item, Pair, Part, SolvedAt, Solvable, Refuted, Table, ReadsBelow, TableBit, TableInt, TableName, NoTabled, OneTabled, Substitution, Solves, ReadsOnly, item_in_scope}
use Rattle.cb_model.specs.Derivation.{Branch, Entry, Run, Try, Step, first_branch}
use Rattle.cb_model.specs.Answers.{Gen, Denotes}
use Rattle.cb_model.specs.Circuits.{Consistent}
use Rattle.cb_model.specs.Sound.{HasOneValuation}
use Rattle.cb_rows.specs.TryRow as try
use Rattle.cb_rows.specs.CircuitGoalRow.{half}

-- name 0 has a Boolean argument, and name 1 a bus
abbrev pub arguments : Sorts
arguments = (sort.Bool ∷ []) ∷ (sort.Bus ∷ []) ∷ []

abbrev pub world : World
world = record { arguments = arguments }

-- the assignments that are 0 everywhere, 1 everywhere, and 1 at constant 1 alone
abbrev pub zeros : Bits
zeros n = false

abbrev pub ones : Bits
ones n = true

abbrev pub at_one : Bits
at_one n = n == 1

-- `X = a`, `B = [a]` and `T = f(a)`, where a is constant 0
abbrev pub bit_item : Item
bit_item = Pair (tree.Leaf (expr.Var 0)) (tree.Leaf (expr.Const 0))

abbrev pub bus_item : Item
bus_item = Pair (tree.Bus [] (Some 0)) (tree.Bus (expr.Const 0 ∷ []) None)

abbrev pub term_item : Item
term_item = Pair (tree.Var 0) (tree.Node 0 (tree.Leaf (expr.Const 0) ∷ []))

abbrev pub items : List Item
items = bit_item ∷ bus_item ∷ term_item ∷ []

-- `a = 1`, and `T = 1` where T is a term and 1 a bit
abbrev pub only_at_ones : List Item
only_at_ones = Pair (tree.Leaf (expr.Const 0)) (tree.Leaf expr.One) ∷ []

abbrev pub bit_for_term : List Item
bit_for_term = Pair (tree.Var 0) (tree.Leaf expr.One) ∷ []

-- the table of constant n, and the table that is 1 everywhere
abbrev pub constant : ℕ → Table
constant n a = a n

abbrev pub always : Table
always a = true

-- one for variable 0, and another for the others
abbrev pub first_or : {A : Type 0} → A → A → ℕ → A
first_or x y zero = x
first_or x y (suc n) = y

-- these tables for the first variable of each sort, and for the others what has no constants
abbrev pub with_tables : Table → Table → Table → Substitution
with_tables f g h = record {
  bits = first_or f always;
  words = first_or (g ∷ []) [];
  terms = first_or (TableName 0 (OneTabled (TableBit h) NoTabled)) (TableInt (pos 0));
}

-- `circuit(half, [a, b], [S, C])`, whose own variables are the third and the fourth
abbrev pub half_item : Item
half_item = Part half (tree.Bus (expr.Const 0 ∷ expr.Const 1 ∷ []) None) (tree.Bus (expr.Var 0 ∷ expr.Var 1 ∷ []) None) (2 ∷ 3 ∷ [])

-- ---- relations of two bits, with the beginnings that they allow

-- two bits that differ, and each beginning of such
abbrev pub differing : List Bool → Bool
differing [] = true
differing (x ∷ []) = true
differing (x ∷ y ∷ []) = xor x y
differing _ = false

-- 0 and 1 alone, without a beginning
abbrev pub without_beginning : List Bool → Bool
without_beginning (x ∷ y ∷ []) = not x && y
without_beginning _ = false

-- all pairs, but only those that begin with 0 have a beginning
abbrev pub half_beginning : List Bool → Bool
half_beginning (x ∷ []) = not x
half_beginning _ = true

-- the lists that pass a test
abbrev pub Passes : (List Bool → Bool) → List Bool → Type 0
Passes p xs = p xs ≡ true

-- ---- steps

-- an entry below, a branch that answers, and one that fails
abbrev pub below : List Entry
below = Run (first_branch try.q) ∷ []

abbrev pub answer : Branch
answer = try.equated expr.One

abbrev pub fails : Branch
fails = record (first_branch try.q) { goals = goal.Fail ∷ [] }

-- ---- circuits

-- a gate with these nets
abbrev pub gate_at : GateKind → List ℕ → ℕ → Gate
gate_at kind ins out = record { kind = kind; ins = ins; out = out }

-- a circuit without inputs, whose one gate reads its own output
abbrev pub turning : GateKind → Circuit
turning kind = record { inputs = 0; nets = 1; outputs = 0 ∷ []; gates = gate_at kind (0 ∷ []) 0 ∷ [] }

pub record SolutionExamples : Type 0 where
  -- values of the sorts: a name has as many arguments as are declared, each of its sort, and a name past the table has none
  pub bit_fits : Fits arguments sort.Bool (Bit true)
  pub word_fits : Fits arguments sort.Bus (Word (true ∷ []))
  pub name_fits : Fits arguments sort.Term (Name 0 (More (Bit true) Last))
  pub wrong_argument : Fits arguments sort.Term (Name 1 (More (Bit true) Last)) → ⊥
  pub too_few : Fits arguments sort.Term (Name 0 Last) → ⊥
  pub too_many : Fits arguments sort.Term (Name 0 (More (Bit true) (More (Bit true) Last))) → ⊥
  pub past_table : Fits arguments sort.Term (Name 2 Last)
  pub past_table_none : Fits arguments sort.Term (Name 2 (More (Bit true) Last)) → ⊥
  pub bit_is_no_term : Fits arguments sort.Term (Bit true) → ⊥
  -- what stands in an expression, a tree and an item is below the numbers of constants and of variables
  pub scope : map (λ c. in_scope c 2 (expr.And (expr.Const 0 ∷ expr.Not (expr.Const 1) ∷ expr.Var 1 ∷ []))) (1 ∷ 2 ∷ []) ≡ false ∷ true ∷ []
  pub variable_scope : map (λ v. in_scope 2 v (expr.Or (expr.Const 0 ∷ expr.Var 1 ∷ []))) (1 ∷ 2 ∷ []) ≡ false ∷ true ∷ []
  pub tail_scope : map (λ v. tree_in_scope 1 v (tree.Node 0 (tree.Bus (expr.Const 0 ∷ []) (Some 1) ∷ []))) (1 ∷ 2 ∷ []) ≡ false ∷ true ∷ []
  pub item_scope : map (λ v. item_in_scope 2 v half_item) (3 ∷ 4 ∷ []) ≡ false ∷ true ∷ []
  -- equations at one assignment, and at all: the constants are universal
  pub solved : SolvedAt world only_at_ones ones
  pub not_solved : SolvedAt world only_at_ones zeros → ⊥
  pub not_solvable : Solvable world only_at_ones → ⊥
  pub refuted : Refuted world only_at_ones
  pub not_refuted : Refuted world (bit_item ∷ []) → ⊥
  pub values_fit : SolvedAt world bit_for_term ones → ⊥
  -- tables for variables of all sorts
  pub solves : Solves world items (with_tables (constant 0) (constant 0) (constant 0))
  pub wrong_bit : Solves world items (with_tables always (constant 0) (constant 0)) → ⊥
  pub wrong_word : Solves world items (with_tables (constant 0) always (constant 0)) → ⊥
  pub wrong_term : Solves world items (with_tables (constant 0) (constant 0) always) → ⊥
  -- they read the first constant alone; a table of the second is past it, wherever it stands
  pub agree_below : AgreeBelow 1 zeros at_one
  pub reads_below : ReadsBelow 2 (λ a. xor (a 0) (a 1))
  pub reads_past : ReadsBelow 1 (λ a. xor (a 0) (a 1)) → ⊥
  pub reads_only : ReadsOnly 1 (with_tables (constant 0) (constant 0) (constant 0))
  pub reads_bit : ReadsOnly 1 (with_tables (constant 1) (constant 0) (constant 0)) → ⊥
  pub reads_word : ReadsOnly 1 (with_tables (constant 0) (constant 1) (constant 0)) → ⊥
  pub reads_term : ReadsOnly 1 (with_tables (constant 0) (constant 0) (constant 1)) → ⊥
  -- rows of bits
  pub first_three : first_bits 3 at_one ≡ false ∷ true ∷ false ∷ []
  pub some_odd : some_bits 2 odd_of ≡ true
  pub none_of_none : some_bits 0 some_of ≡ false
  pub not_every_odd : every_bits 2 odd_of ≡ false
  pub every_decided : every_bits 1 (λ r. not (xor (some_of r) (odd_of r))) ≡ true
  -- the parametric form: a parameter is taken where its bit is allowed, and else the other bit is
  pub taken : Gen (Passes differing) [] (true ∷ false ∷ []) (true ∷ false ∷ [])
  pub turned : Gen (Passes differing) [] (true ∷ true ∷ []) (true ∷ false ∷ [])
  pub not_kept : Gen (Passes differing) [] (true ∷ true ∷ []) (true ∷ true ∷ []) → ⊥
  pub not_turned : Gen (Passes differing) [] (true ∷ false ∷ []) (false ∷ true ∷ []) → ⊥
  -- it gives exactly the allowed lists: those of two bits that differ; but not where it gives a list that isn't allowed,
  -- and not where it misses one
  pub denotes : Denotes (Passes differing) 2
  pub gives_too_many : Denotes (Passes without_beginning) 2 → ⊥
  pub gives_too_few : Denotes (Passes half_beginning) 2 → ⊥
  -- one step of the stack: an answer is given and what stands below goes on, and nothing is given in its place
  pub prints : Step try.p (Run answer) below below (Some answer)
  pub prints_always : Step try.p (Run answer) below below None → ⊥
  pub goes_below : Step try.p (Run answer) below [] (Some answer) → ⊥
  -- a branch is dropped at `fail`, and at an equation without a solution, without an answer
  pub drops : Step try.p (Run fails) below below None
  pub drops_silently : Step try.p (Run fails) below below (Some fails) → ⊥
  pub drops_refuted : Step try.p (Run (try.called expr.Zero)) below below None
  -- a clause is tried, and the next one stays below it and above the others
  pub tries : Step try.p (Try try.behind 0 (try.X ∷ []) 0) below (Run (try.called expr.Zero) ∷ Try try.behind 0 (try.X ∷ []) 1 ∷ below) None
  -- a bit for every net, the inputs' first
  pub consistent : Consistent half (true ∷ true ∷ []) (true ∷ true ∷ false ∷ true ∷ [])
  pub wrong_output : Consistent half (true ∷ true ∷ []) (true ∷ true ∷ true ∷ true ∷ []) → ⊥
  pub wrong_input : Consistent half (true ∷ true ∷ []) (true ∷ false ∷ true ∷ false ∷ []) → ⊥
  pub a_net_less : Consistent half (false ∷ false ∷ []) (false ∷ false ∷ false ∷ []) → ⊥
  -- one valuation, none, and two
  pub one_valuation : HasOneValuation half (true ∷ true ∷ [])
  pub no_valuation : HasOneValuation (turning gate.Not) [] → ⊥
  pub two_valuations : HasOneValuation (turning gate.Buf) [] → ⊥
