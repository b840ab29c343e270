-- The run of a query as contracts see it.
use Rattle.std.specs.Prelude.{◌≡◌, ℕ, ◌+◌, Bool, true, false, List, [], ◌∷◌, ◌++◌, length, Option, Some, None, Result, Ok}
use Rattle.cb_model.specs.Derivation.{Branch, Entry, Note, Printed, SoFar, Plain, Whole, printed_of}
use Rattle.cb_model.specs.Derivation as derivation
use Rattle.cb_model.specs.Outside.{Rose}
use Rattle.cb_sorts.specs.Source.{Source}
use Rattle.cb_sorts.specs.Asked.{Asked}
use Rattle.cb_sorts.specs.OverFile.{asked_program, asked_query}
use Rattle.cb_branch.specs.Running.{Seen, IsBranch, fulls_of, nodes_of, program_of, query_of, unbegun}
use Rattle.cb_branch.specs.Scope.{IsRunnable}
use Rattle.cb_solve.specs.declared.Budget.TheVariants as budget
use Rattle.cb_solve.specs.declared.Event.{Event}
use Rattle.cb_solve.specs.declared.Event.TheVariants as event
use Rattle.cb_solve.specs.declared.Choice.{Choice}
use Rattle.cb_solve.specs.declared.Machine.{Machine}
use Rattle.std.specs.Global.{Global}
use Rattle.std.specs.declared.vec.Vec.{Vec}
use Rattle.cb_solve.specs.declared.Stepped.{Stepped}
use Rattle.cb_solve.specs.declared.Stepped.TheVariants as stepped
use Rattle.cb_solve.specs.Machine.{FewAt, Stands, budget_in}

-- what is left to try: the choices, the resolutions taken, and whether a branch runs; no contract looks into it
pub record Rest : Type 0 where
  pub choices : List Choice
  pub used : ℕ
  pub running : Bool

-- the branch that runs, the resolutions that it may take, how many answers it gave, the event that was its last, whether
-- it wanted memory, and what is left to try
pub record Run : Type 0 where
  pub state : Seen
  pub budget : ℕ
  pub answers : ℕ
  pub over : Option Event
  pub starved : Bool
  pub rest : Rest

-- the run of a machine, with its last event
abbrev pub run_of : Machine → Option Event → Bool → Run
run_of m over starved = record {
  state = m.branch;
  budget = m.budget;
  answers = m.answers;
  over = over;
  starved = starved;
  rest = record { choices = m.choices.items; used = m.used; running = m.running };
}

-- the machine of a run, with the choices in this vector
abbrev pub machine_with : Vec Choice Global → Run → Machine
machine_with v r = record {
  branch = r.state;
  choices = v;
  budget = r.budget;
  used = r.rest.used;
  answers = r.answers;
  running = r.rest.running;
}

-- what holds of a run that goes on
abbrev pub IsEngine : Machine → Option Event → Bool → Type 0
IsEngine m None false = Stands (program_of m.branch) (query_of m.branch) m
IsEngine m over starved = Unit {0}

-- The run is one of the derivation: what was tried, what is left to try and the terms belong together.
unfoldable pub IsRun : Run → Type 0
IsRun r = (v : Vec Choice Global) × (v.items ≡ r.rest.choices) × IsEngine (machine_with v r) r.over r.starved

-- the event of a step
abbrev pub IsHeard : Stepped → Event → Type 0
IsHeard stepped.Answer x = x ≡ event.Answer
IsHeard (stepped.Stopped w) x = x ≡ event.Stopped w
IsHeard stepped.End x = x ≡ event.End
IsHeard _ x = ⊥

-- the event that is the last
abbrev pub last_of : Event → Option Event
last_of event.Answer = None
last_of x = Some x

-- the answer of the derivation that follows those that were given, and its branch is the state's
pub record AnswerFollows (old new : Run) : Type 0 where
  pub notes : List Note
  pub used : ℕ
  pub entries : List Entry
  pub so_far : SoFar (program_of old.state) (query_of old.state) old.budget notes used entries
  pub before : List Note
  pub b : Branch
  pub last : notes ≡ before ++ Printed b ∷ []
  pub many : length (printed_of before) ≡ old.answers
  pub counted : new.answers ≡ old.answers + 1
  pub is : IsBranch new.state b
  pub nodes : nodes_of new.state ≡ nodes_of old.state
  pub program : program_of new.state ≡ program_of old.state
  pub query : query_of new.state ≡ query_of old.state
  pub source : new.state.program ≡ old.state.program
  pub asked : new.state.query ≡ old.state.query
  pub budget : new.budget ≡ old.budget

-- the derivation has no further answer, and ends
pub record EndFollows (old : Run) : Type 0 where
  pub notes : List Note
  pub plain : Plain (program_of old.state) (query_of old.state) old.budget notes Whole
  pub many : length (printed_of notes) ≡ old.answers

-- it has no further answer, and stops so
pub record StopFollows (old : Run) (w : derivation.Budget) : Type 0 where
  pub notes : List Note
  pub plain : Plain (program_of old.state) (query_of old.state) old.budget notes (derivation.Stopped w)
  pub many : length (printed_of notes) ≡ old.answers

-- the nodes are too few for a branch after those answers
abbrev pub NodesFollow : Run → Type 0
NodesFollow old = FewAt (program_of old.state) (query_of old.state) old.budget old.answers (nodes_of old.state)

-- the same, and a node was refused
abbrev pub NodesStop : Run → Run → Type 0
NodesStop old new = NodesFollow old × Rose (fulls_of old.state) (fulls_of new.state)

-- where the event is a stop by a budget of the derivation
abbrev pub ForStop : {E : Type 0} → Result Event E → (derivation.Budget → Type 0) → Type 0
ForStop r P = (w : derivation.Budget) → r ≡ Ok (event.Stopped (budget_in w)) → P w

-- where the run was over before, with this event
abbrev pub WasOver : Run → (Event → Type 0) → Type 0
WasOver r P = (x : Event) → r.over ≡ Some x → r.starved ≡ false → P x

-- a machine whose branch has not begun
pub record IsUnbegun (m : Machine) : Type 0 where
  pub nodes : ℕ
  pub branch : m.branch ≡ unbegun m.branch.program m.branch.query nodes
  pub runnable : IsRunnable m.branch.program m.branch.query
  pub choices : m.choices.items ≡ []
  pub used : m.used ≡ 0
  pub answers : m.answers ≡ 0
  pub running : m.running ≡ true

-- The first stop: the query's own variables are too many, or the nodes for them are too few.
abbrev pub StopsAtFirst : Seen → Seen → ℕ → Event → Type 0
StopsAtFirst old new n (event.Stopped budget.Variables) =
    Plain (program_of old) (query_of old) n [] (derivation.Stopped derivation.Variables)
StopsAtFirst old new n (event.Stopped budget.Nodes) =
    FewAt (program_of old) (query_of old) n 0 (nodes_of old) × Rose (fulls_of old) (fulls_of new)
StopsAtFirst old new n _ = ⊥

-- how a run begins, by the event that is its last
abbrev pub BeginsWith : Seen → Seen → ℕ → Option Event → Type 0
BeginsWith old new n None = Unit {0}
BeginsWith old new n (Some x) = StopsAtFirst old new n x

-- what holds where no event is the last
abbrev pub OnNone : Option Event → Type 0 → Type 0
OnNone None P = P
OnNone (Some x) P = Unit {0}

-- the first branch was made, or a stop came
pub record IsBegun (old new : Machine) (over : Option Event) : Type 0 where
  pub budget : new.budget ≡ old.budget
  pub answers : new.answers ≡ 0
  pub program : program_of new.branch ≡ program_of old.branch
  pub query : query_of new.branch ≡ query_of old.branch
  pub source : new.branch.program ≡ old.branch.program
  pub asked : new.branch.query ≡ old.branch.query
  pub nodes : nodes_of new.branch ≡ nodes_of old.branch
  pub begins : BeginsWith old.branch new.branch old.budget over
  pub stands : OnNone over (Stands (program_of new.branch) (query_of new.branch) new)

-- a run of the query over the program that gave no answer yet, with so many resolutions and nodes
pub record Begins (s : Source) (a : Asked) (resolutions nodes : ℕ) (r : Run) : Type 0 where
  pub program : program_of r.state ≡ asked_program s a []
  pub query : query_of r.state ≡ asked_query a
  pub source : r.state.program ≡ s
  pub asked : r.state.query ≡ a
  pub nodes_are : nodes_of r.state ≡ nodes
  pub budget : r.budget ≡ resolutions
  pub answers : r.answers ≡ 0
  pub starved : r.starved ≡ false
  pub run : IsRun r
  pub begins : BeginsWith (unbegun s a nodes) r.state resolutions r.over
