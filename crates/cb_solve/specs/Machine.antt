-- The stack of the derivation as the machine keeps it: choices with marks, and on them the branch that runs.
use Rattle.std.specs.Prelude.{◌≡◌, ℕ, ◌+◌, ◌<◌, ◌≤◌, true, false, ◌⊎◌, List, [], ◌∷◌, ◌++◌, length, Option, Some, None, slice_get}
use Rattle.cb_model.specs.declared.Tree.{Tree}
use Rattle.cb_model.specs.declared.Goal.{Goal}
use Rattle.cb_model.specs.declared.Goal.TheVariants as goal
use Rattle.cb_model.specs.declared.Clause.{Clause}
use Rattle.std.specs.Option.{option_map}
use Rattle.cb_model.specs.Outside.{Rose}
use Rattle.cb_model.specs.Program.{Program, bools}
use Rattle.cb_model.specs.Derivation.{resolved, try_next, waits, is_demon, Becomes, Branch, Entry, Ready, Run, Try, Query, Note, Printed, SoFar, Plain, Moves, Adds, Whole, printed_of, stop_of}
use Rattle.cb_model.specs.Derivation as derivation
use Rattle.cb_branch.specs.declared.First.{First}
use Rattle.cb_branch.specs.Running.{Seen, IsBranch, IsFirst, IsCall, Keeps, TooFew, HasRoom, behind, fulls_of, moment_of, nodes_of, program_of, query_of, work_of}
use Rattle.cb_solve.specs.declared.Budget.{Budget}
use Rattle.cb_solve.specs.declared.Budget.TheVariants as budget
use Rattle.cb_solve.specs.declared.Choice.{Choice}
use Rattle.cb_solve.specs.declared.Machine.{Machine}
use Rattle.cb_solve.specs.declared.Stepped.{Stepped}
use Rattle.cb_solve.specs.declared.Stepped.TheVariants as stepped

-- a budget of the derivation
abbrev pub budget_in : derivation.Budget → Budget
budget_in derivation.Resolutions = budget.Resolutions
budget_in derivation.Variables = budget.Variables
budget_in derivation.Equations = budget.Equations

-- what an addition would pass, which takes so many resolutions and Boolean variables more
abbrev pub Passes : Machine → ℕ → ℕ → Option Budget → Type 0
Passes m resolutions more x =
    (b c : Branch) → IsBranch m.branch b → bools c.sorts ≡ bools b.sorts + more → c.steps ≡ b.steps + 1 →
    x ≡ option_map budget_in (derivation.passed (program_of m.branch) m.budget (m.used + resolutions) c)

-- The choices are the entries, the newest last: each has a moment of which now is a later one, and at that moment the
-- branch was the entry's, with its call in cells.
pub data Stacked : Seen → List Choice → List Entry → Type 0 where
  none : {s : Seen} → Stacked s [] []
  more : {s : Seen} {choices : List Choice} {entries : List Entry} (t : Seen) (b : Branch) (pred : ℕ) (args : List Tree)
      (c : Clause) (lower : List Choice) (top : Choice) (rest : List Entry) →
      choices ≡ lower ++ top ∷ [] → entries ≡ Try b pred args top.clause ∷ rest →
      Keeps t s → top.mark ≡ moment_of t → IsBranch t b → IsCall t top.call.0 pred args →
      slice_get (program_of t).clauses top.clause ≡ Some c → c.pred ≡ pred → Stacked t lower rest → Stacked s choices entries

-- the run so far, and how many of its branches were answers
pub record Counted (p : Program) (q : Query) (m : Machine) (entries : List Entry) : Type 0 where
  pub notes : List Note
  pub so_far : SoFar p q m.budget notes m.used entries
  pub many : length (printed_of notes) ≡ m.answers
  pub program : program_of m.branch ≡ p
  pub query : query_of m.branch ≡ q

-- the branch runs on the choices
pub record RunsAt (p : Program) (q : Query) (m : Machine) (b : Branch) : Type 0 where
  pub lower : List Entry
  pub counted : Counted p q m (Run b ∷ lower)
  pub is : IsBranch m.branch b
  pub stacked : Stacked m.branch m.choices.items lower
  pub few : m.answers ≤ m.used

-- the newest choice is next
pub record TriesAt (p : Program) (q : Query) (m : Machine) : Type 0 where
  pub lower : List Entry
  pub counted : Counted p q m lower
  pub stacked : Stacked m.branch m.choices.items lower
  pub few : m.answers ≤ m.used + 1

-- the branch was an answer
pub record AnswersAt (p : Program) (q : Query) (m : Machine) (b : Branch) : Type 0 where
  pub lower : List Entry
  pub counted : Counted p q m lower
  pub stacked : Stacked m.branch m.choices.items lower
  pub few : m.answers ≤ m.used + 1
  pub before : List Note
  pub last : counted.notes ≡ before ++ Printed b ∷ []
  pub is : IsBranch m.branch b

-- the run is over, by a budget
pub record StopsAt (p : Program) (q : Query) (m : Machine) (w : Budget) : Type 0 where
  pub notes : List Note
  pub budget : derivation.Budget
  pub plain : Plain p q m.budget notes (derivation.Stopped budget)
  pub is : budget_in budget ≡ w
  pub many : length (printed_of notes) ≡ m.answers

-- the run is over
pub record EndsAt (p : Program) (q : Query) (m : Machine) : Type 0 where
  pub notes : List Note
  pub plain : Plain p q m.budget notes Whole
  pub many : length (printed_of notes) ≡ m.answers

-- where the machine stands after a step
abbrev pub AtStep : Program → Query → Machine → Stepped → Type 0
AtStep p q m stepped.Goes = (m.running ≡ true) × ((b : Branch) × RunsAt p q m b)
AtStep p q m stepped.Left = (m.running ≡ false) × TriesAt p q m
AtStep p q m stepped.Answer = (m.running ≡ false) × ((b : Branch) × AnswersAt p q m b)
AtStep p q m (stepped.Stopped w) = StopsAt p q m w
AtStep p q m stepped.End = EndsAt p q m

-- The nodes, of which there may be so many, were too few: for the branch that runs, or for that which an addition makes.
pub record FewAt (p : Program) (q : Query) (limit answers nodes : ℕ) : Type 0 where
  pub notes : List Note
  pub used : ℕ
  pub top : Entry
  pub lower : List Entry
  pub so_far : SoFar p q limit notes used (top ∷ lower)
  pub many : length (printed_of notes) ≡ answers
  pub b : Branch
  pub of : (top ≡ Run b) ⊎ ((r : ℕ) × (below : List Entry) × (Moves p top (Adds r below b) × (stop_of p limit used (Adds r below b) ≡ None)))
  pub too_few : TooFew nodes b

-- a node was refused, and the nodes were too few
pub record IsFew (old new : Machine) : Type 0 where
  pub few : FewAt (program_of old.branch) (query_of old.branch) old.budget old.answers (nodes_of old.branch)
  pub rose : Rose (fulls_of old.branch) (fulls_of new.branch)

-- the branch that runs, whose first goal is this
pub record Has (m : Machine) (first : First) : Type 0 where
  pub b : Branch
  pub runs : RunsAt (program_of m.branch) (query_of m.branch) m b
  pub on : m.running ≡ true
  pub starts : IsFirst first b.goals

-- the budget and the answers stay, and the moments are kept
pub record IsSame (old new : Machine) : Type 0 where
  pub budget : new.budget ≡ old.budget
  pub answers : new.answers ≡ old.answers
  pub used : new.used ≡ old.used
  pub keeps : Keeps old.branch new.branch

-- the machine after a step without a resolution
abbrev pub IsStep : Machine → Machine → Stepped → Type 0
IsStep old new stepped.Goes = IsSame old new × (work_of new.branch < work_of old.branch)
IsStep old new stepped.Answer =
    (new.budget ≡ old.budget) × ((new.answers ≡ old.answers + 1) × ((new.used ≡ old.used) × Keeps old.branch new.branch))
IsStep old new stepped.End = ⊥
IsStep old new _ = IsSame old new

-- a branch runs
pub record Runs (m : Machine) : Type 0 where
  pub b : Branch
  pub runs : RunsAt (program_of m.branch) (query_of m.branch) m b
  pub on : m.running ≡ true

-- a branch runs, and its first goal, a call, is to wait
pub record Waits (m : Machine) : Type 0 where
  pub b : Branch
  pub runs : RunsAt (program_of m.branch) (query_of m.branch) m b
  pub on : m.running ≡ true
  pub pred : ℕ
  pub args : List Tree
  pub rest : List Goal
  pub starts : b.goals ≡ goal.Call pred args ∷ rest
  pub moves : Moves (program_of m.branch) (Run b) (Becomes (Run (waits (behind b rest) (goal.Call pred args))))

-- a branch runs, and its first goal is a call that is ready
pub record Attempts (m : Machine) (pred : ℕ) : Type 0 where
  pub b : Branch
  pub runs : RunsAt (program_of m.branch) (query_of m.branch) m b
  pub args : List Tree
  pub rest : List Goal
  pub starts : b.goals ≡ goal.Call pred args ∷ rest
  pub plain : is_demon (program_of m.branch) pred ≡ false
  pub ready : Ready (program_of m.branch) b.items (goal.Call pred args)

-- the top entry is a try that is not yet among the choices
pub record Chooses (p : Program) (q : Query) (m : Machine) (call clause : ℕ) : Type 0 where
  pub b : Branch
  pub pred : ℕ
  pub args : List Tree
  pub c : Clause
  pub lower : List Entry
  pub counted : Counted p q m (Try b pred args clause ∷ lower)
  pub is : IsBranch m.branch b
  pub cells : IsCall m.branch call pred args
  pub there : slice_get (program_of m.branch).clauses clause ≡ Some c
  pub of : c.pred ≡ pred
  pub stacked : Stacked m.branch m.choices.items lower
  pub few : m.answers ≤ m.used + 1

-- there is room for an addition to the branch with so many Boolean variables
abbrev pub HasRoomFor : Seen → ℕ → Type 0
HasRoomFor s n = (b : Branch) → IsBranch s b → HasRoom s n

-- a choice of the clause may be left: the branch is one, and the clause is there
pub record MayLeave (m : Machine) (clause : ℕ) : Type 0 where
  pub b : Branch
  pub is : IsBranch m.branch b
  pub c : Clause
  pub there : slice_get (program_of m.branch).clauses clause ≡ Some c

-- all but the choices stays
pub record OnlyChoices (old new : Machine) : Type 0 where
  pub branch : new.branch ≡ old.branch
  pub budget : new.budget ≡ old.budget
  pub used : new.used ≡ old.used
  pub answers : new.answers ≡ old.answers
  pub running : new.running ≡ old.running

-- the machine after the steps of a run without a resolution
abbrev pub IsRan : Machine → Machine → Stepped → Type 0
IsRan old new stepped.Goes = ⊥
IsRan old new r = IsStep old new r

-- the branch runs on since the first machine, with no resolution and no answer
pub record Ongoing (old m : Machine) : Type 0 where
  pub b : Branch
  pub runs : RunsAt (program_of old.branch) (query_of old.branch) m b
  pub on : m.running ≡ true
  pub same : IsSame old m

-- An addition with its resolution is counted and not yet tried: over the branch, with its call in cells, and with what
-- the step leaves below it already among the choices.
pub record Resolves (p : Program) (q : Query) (m : Machine) (call clause : ℕ) : Type 0 where
  pub b : Branch
  pub pred : ℕ
  pub args : List Tree
  pub c : Clause
  pub top : Entry
  pub below : List Entry
  pub lower : List Entry
  pub notes : List Note
  pub before : ℕ
  pub so_far : SoFar p q m.budget notes before (top ∷ lower)
  pub many : length (printed_of notes) ≡ m.answers
  pub counts : m.used ≡ before + 1
  pub moves : Moves p top (Adds 1 below (resolved b pred args c))
  pub within : stop_of p m.budget before (Adds 1 below (resolved b pred args c)) ≡ None
  pub is : IsBranch m.branch b
  pub cells : IsCall m.branch call pred args
  pub there : slice_get (program_of m.branch).clauses clause ≡ Some c
  pub pred_is : c.pred ≡ pred
  pub room : HasRoom m.branch (bools c.sorts)
  pub stacked : Stacked m.branch m.choices.items (below ++ lower)
  pub few : m.answers ≤ m.used
  pub program : program_of m.branch ≡ p
  pub query : query_of m.branch ≡ q

-- the branch runs, or the newest choice is next
abbrev pub IsNext : Stepped → Type 0
IsNext stepped.Goes = Unit {0}
IsNext stepped.Left = Unit {0}
IsNext _ = ⊥

-- whatever entry is tried, that of the next clause is left below
abbrev pub LeavesNext : Machine → Machine → ℕ → ℕ → Type 0
LeavesNext m n call clause =
    (b : Branch) (pred : ℕ) (args : List Tree) (c : Clause) (lower : List Entry) → IsBranch m.branch b → IsCall m.branch call pred args →
    slice_get (program_of m.branch).clauses clause ≡ Some c → c.pred ≡ pred → Stacked m.branch m.choices.items lower →
    Stacked n.branch n.choices.items (try_next (program_of m.branch) b pred args clause ++ lower)

-- an event: an answer, a stop or the end
abbrev pub IsEvent : Stepped → Type 0
IsEvent stepped.Answer = Unit {0}
IsEvent (stepped.Stopped w) = Unit {0}
IsEvent stepped.End = Unit {0}
IsEvent _ = ⊥

-- how many answers a step gives
abbrev pub answers_of : Stepped → ℕ
answers_of stepped.Answer = 1
answers_of _ = 0

-- the machine after a step with a resolution
pub record IsTurn (m n : Machine) (r : Stepped) : Type 0 where
  pub budget : n.budget ≡ m.budget
  pub answers : n.answers ≡ m.answers
  pub program : program_of n.branch ≡ program_of m.branch
  pub query : query_of n.branch ≡ query_of m.branch
  pub source : n.branch.program ≡ m.branch.program
  pub asked : n.branch.query ≡ m.branch.query
  pub nodes : nodes_of n.branch ≡ nodes_of m.branch
  pub fulls : fulls_of m.branch ≤ fulls_of n.branch
  pub counts : IsNext r → (n.used ≡ m.used + 1) × (n.used ≤ m.budget)
  pub used : m.used ≤ n.used
  pub quiet : answers_of r ≡ 0

-- the machine between two turns
abbrev pub Stands : Program → Query → Machine → Type 0
Stands p q m = ((m.running ≡ true) × ((b : Branch) × RunsAt p q m b)) ⊎ ((m.running ≡ false) × TriesAt p q m)

-- what the caller hears of: an answer, a stop or the end
abbrev pub IsHeardOf : Stepped → Type 0
IsHeardOf stepped.Goes = ⊥
IsHeardOf stepped.Left = ⊥
IsHeardOf _ = Unit {0}

-- the machine after a turn
pub record IsTurned (m n : Machine) (r : Stepped) : Type 0 where
  pub budget : n.budget ≡ m.budget
  pub answers : n.answers ≡ m.answers + answers_of r
  pub program : program_of n.branch ≡ program_of m.branch
  pub query : query_of n.branch ≡ query_of m.branch
  pub source : n.branch.program ≡ m.branch.program
  pub asked : n.branch.query ≡ m.branch.query
  pub nodes : nodes_of n.branch ≡ nodes_of m.branch
  pub fulls : fulls_of m.branch ≤ fulls_of n.branch
  pub used : m.used ≤ n.used
  pub counts : IsNext r → (m.used < n.used) × (n.used ≤ m.budget)

-- the machine stands between two turns since the first
pub record Onward (old m : Machine) : Type 0 where
  pub stands : Stands (program_of old.branch) (query_of old.branch) m
  pub budget : m.budget ≡ old.budget
  pub answers : m.answers ≡ old.answers
  pub program : program_of m.branch ≡ program_of old.branch
  pub query : query_of m.branch ≡ query_of old.branch
  pub source : m.branch.program ≡ old.branch.program
  pub asked : m.branch.query ≡ old.branch.query
  pub nodes : nodes_of m.branch ≡ nodes_of old.branch
  pub fulls : fulls_of old.branch ≤ fulls_of m.branch
  pub used : old.used ≤ m.used
