-- What contracts see of a running branch. The layer above never looks inside these words.
use Rattle.std.specs.Prelude.{◌≡◌, ◌≢◌, ℕ, zero, suc, false, ◌+◌, ◌*◌, ◌-◌, ◌^◌, ◌<◌, ◌≤◌, List, [], ◌∷◌, ◌++◌, length, map, get_or, Some, slice_get}
use Rattle.cb_model.specs.declared.Sort.{Sort}
use Rattle.cb_model.specs.declared.Tree.{Tree}
use Rattle.cb_model.specs.declared.Tree.TheVariants as tree
use Rattle.cb_model.specs.declared.Goal.{Goal}
use Rattle.cb_model.specs.declared.Goal.TheVariants as goal
use Rattle.cb_model.specs.declared.Clause.{Clause}
use Rattle.cb_model.specs.Bits.{Each}
use Rattle.cb_model.specs.Outside.{Rose}
use Rattle.cb_model.specs.Output.{printed_from}
use Rattle.cb_model.specs.Text.{Text}
use Rattle.cb_model.specs.Program.{Program, bools}
use Rattle.cb_model.specs.Equations.{Pair, Refuted, Solvable}
use Rattle.cb_model.specs.Derivation.{Branch, Query, Waiting, Woken, extended, is_demon, resolved}
use Rattle.cb_sorts.specs.Source.{Source}
use Rattle.cb_sorts.specs.Asked.{Asked}
use Rattle.cb_sorts.specs.OverFile.{asked_program, asked_query}
use Rattle.cb_goals.specs.declared.Link.{Link}
use Rattle.cb_goals.specs.declared.Pending.{Pending}
use Rattle.cb_goals.specs.declared.Pending.TheVariants as pending
use Rattle.cb_goals.specs.Chain.{goals_at}
use Rattle.cb_heap.specs.declared.Ref.{Ref}
use Rattle.cb_unify.specs.State as state
use Rattle.cb_unify.specs.State.{IsState, FitsTable, no_state}
use Rattle.cb_unify.specs.Moments as moments
use Rattle.cb_wake.specs.Waits as wake
use Rattle.cb_wake.specs.Waits.{Waits, no_goals}
use Rattle.cb_wake.specs.Moments as wakes
use Rattle.cb_ready.specs.Asking.{IsThere}
use Rattle.cb_ready.specs.Parked.{Parked, IsParked as HasCells}
use Rattle.cb_branch.specs.declared.First.{First}
use Rattle.cb_branch.specs.declared.First.TheVariants as first
use Rattle.cb_items.specs.Standing.{Stands, IsFrame, IsVals, HasVariables}
use Rattle.cb_items.specs.Shifted.{IsShiftedGoal}
use Rattle.cb_branch.specs.Scope.{IsGoalFor, IsRunnable}

-- the program and the query, the terms with their variables, the frames of the clauses that were renamed, the lists of
-- goals, the list that the branch goes on with, the number of equation steps, and the calls that were parked, by number,
-- with which of them still wait
pub record Seen : Type 0 where
  pub program : Source
  pub query : Asked
  pub state : state.Seen
  pub frames : List (List ℕ)
  pub links : List Link
  pub top : ℕ
  pub steps : ℕ
  pub waits : Waits
  pub parked : List Parked

-- a moment, to which the branch can go back
pub record Moment : Type 0 where
  pub state : moments.Moment
  pub frames : ℕ
  pub links : ℕ
  pub top : ℕ
  pub steps : ℕ
  pub waits : wakes.Moment
  pub parked : ℕ

-- the moment now
unfoldable pub moment_of : Seen → Moment
moment_of s = record {
  state = moments.moment_of s.state;
  frames = length s.frames;
  links = length s.links;
  top = s.top;
  steps = s.steps;
  waits = wakes.moment_of s.waits;
  parked = length s.parked;
}

-- the count of refusals for nodes
unfoldable pub fulls_of : Seen → ℕ
fulls_of s = s.state.store.nodes.fulls

-- how many nodes it may have
unfoldable pub nodes_of : Seen → ℕ
nodes_of s = s.state.store.nodes.budget

-- the same, but for the count of refusals for nodes
unfoldable pub with_fulls : ℕ → Seen → Seen
with_fulls n s = record s { state = state.with_fulls n s.state }

-- its program
unfoldable pub program_of : Seen → Program
program_of s = asked_program s.program s.query []

-- the query that it began with
unfoldable pub query_of : Seen → Query
query_of s = asked_query s.query

-- ---- its goals

-- a goal as it stands in the text: over variables of these sorts, which have the cells of this frame
pub record Place : Type 0 where
  pub sorts : List Sort
  pub goal : Goal
  pub frame : ℕ

-- where a goal stands in the text; one whose arguments are in cells stands nowhere
abbrev pub IsAt : Seen → Pending → Place → Type 0
IsAt s (pending.Asked place) w = (slice_get s.query.goals place ≡ Some w.goal) × (w.sorts ≡ s.query.sorts) × (w.frame ≡ 0)
IsAt s (pending.Body clause place frame) w =
    (c : Clause) × (slice_get s.program.clauses clause ≡ Some c) × (slice_get c.body place ≡ Some w.goal) × (w.sorts ≡ c.sorts) × (w.frame ≡ frame)
IsAt s (pending.Called pred call) w = ⊥

-- what stands in the text is the branch's goal, where its variables are those of the frame
pub record StandsInText (s : Seen) (x : Pending) (g : Goal) : Type 0 where
  pub place : Place
  pub is : IsAt s x place
  pub good : IsGoalFor (asked_program s.program s.query []) (length s.program.names) place.sorts place.goal
  pub cells : List ℕ
  pub frame : slice_get s.frames place.frame ≡ Some cells
  pub base : ℕ
  pub placed : IsFrame s.state base place.sorts cells
  pub shifted : IsShiftedGoal base place.goal g

-- The call of this predicate, whose arguments are in the cells behind this one, is the branch's goal. It calls a name of
-- the program that is no demon's, with as many arguments as the name has.
pub record StandsInCells (s : Seen) (pred call : ℕ) (g : Goal) : Type 0 where
  pub args : List Tree
  pub is : g ≡ goal.Call pred args
  pub there : call < length s.state.heap.sorts
  pub stands : Stands (asked_program s.program s.query []).world.arguments s.state call (tree.Node pred args)
  pub number : length args ≡ length (get_or (asked_program s.program s.query []).world.arguments pred [])
  pub named : pred < length s.program.names
  pub plain : is_demon (asked_program s.program s.query []) pred ≡ false

-- it stands for the branch's goal: in the text or in cells
abbrev pub StandsFor : Seen → Pending → Goal → Type 0
StandsFor s (pending.Asked place) g = StandsInText s (pending.Asked place) g
StandsFor s (pending.Body clause place frame) g = StandsInText s (pending.Body clause place frame) g
StandsFor s (pending.Called pred call) g = StandsInCells s pred call.0 g

-- the same of each, in order
abbrev pub AreGoals : Seen → List Pending → List Goal → Type 0
AreGoals s [] [] = Unit {0}
AreGoals s (x ∷ xs) (g ∷ gs) = StandsFor s x g × AreGoals s xs gs
AreGoals s _ _ = ⊥

-- the goals of a query from a place on, so many
abbrev pub asked_goals : ℕ → ℕ → List Pending
asked_goals place zero = []
asked_goals place (suc n) = pending.Asked place ∷ asked_goals (suc place) n

-- the first frame has the query's variables, which are the first of the branch
pub record HasAsked (s : Seen) : Type 0 where
  pub cells : List ℕ
  pub at : slice_get s.frames 0 ≡ Some cells
  pub placed : IsFrame s.state 0 s.query.sorts cells

-- ---- its waiting goals

-- the call that was parked under this number is the waiting goal
pub record IsParked (s : Seen) (k : ℕ) (w : Waiting) : Type 0 where
  pub number : w.number ≡ k
  pub call : Parked
  pub at : slice_get s.parked k ≡ Some call
  pub is : StandsInCells s call.pred call.call.0 w.goal
  pub cells : HasCells (asked_program s.program s.query []).world.arguments s.state call is.args

-- the same of each number, in order
abbrev pub AreWaiting : Seen → List ℕ → List Waiting → Type 0
AreWaiting s [] [] = Unit {0}
AreWaiting s (k ∷ ks) (w ∷ ws) = IsParked s k w × AreWaiting s ks ws
AreWaiting s _ _ = ⊥

-- a call: its predicate, and the cells of its arguments
abbrev pub call_of : Parked → ℕ × List Ref
call_of p = (p.pred, p.args)

-- a parked call as a goal of a list
abbrev pub called : Parked → Pending
called p = pending.Called p.pred p.call

-- the same of the call that was parked under a number
abbrev pub pending_at : List Parked → ℕ → Pending
pending_at ps k = get_or (map called ps) k (pending.Asked 0)

-- one list is another with the parked calls of these numbers in front, in this order
abbrev pub IsPut : List Parked → List ℕ → List Link → ℕ → List Link → ℕ → Type 0
IsPut ps ks old rest new list = (list ≤ length new) × (goals_at new list ≡ map (pending_at ps) ks ++ goals_at old rest)

-- the calls that wait, in order of number
abbrev pub calls_of : Seen → List (ℕ × List Ref)
calls_of s = map (λ k. get_or (map call_of s.parked) k (0, [])) (wake.waiting s.waits)

-- the k-th waiting goal by number, from 0, has this predicate and these cells of arguments
abbrev pub IsWaiting : Seen → ℕ → ℕ → List Ref → Type 0
IsWaiting s k pred args = slice_get (calls_of s) k ≡ Some (pred, args)

-- ---- the branch

-- it is this branch of the derivation
pub record IsTheBranch (s : Seen) (b : Branch) : Type 0 where
  pub state : IsState s.state
  pub fits : FitsTable (asked_program s.program s.query []).world.arguments s.state
  pub constants : s.state.store.constants ≡ length s.program.declared.constants
  pub drawn : s.state.store.drawn ≡ length s.program.declared.constants + bools b.sorts
  pub variables : HasVariables s.state b.sorts
  pub vals : IsVals (asked_program s.program s.query []).world s.state b.items
  pub solvable : Solvable (asked_program s.program s.query []).world b.items
  pub goals : AreGoals s (goals_at s.links s.top) b.goals
  pub top : s.top ≤ length s.links
  pub asked : HasAsked s
  pub waiting : AreWaiting s (wake.waiting s.waits) b.waiting
  pub next : b.next ≡ length s.waits.still
  pub parked : length s.parked ≡ length s.waits.still
  pub there : Each (IsThere (length s.program.names) s.state) s.parked
  pub steps : b.steps ≡ s.steps
  pub runnable : IsRunnable s.program s.query

-- the same, unseen from above
unfoldable pub IsBranch : Seen → Branch → Type 0
IsBranch s b = IsTheBranch s b

-- the cell of a call stands for the predicate with these arguments
unfoldable pub IsCall : Seen → ℕ → ℕ → List Tree → Type 0
IsCall s call pred args = (call < length s.state.heap.sorts) × Stands (asked_program s.program s.query []).world.arguments s.state call (tree.Node pred args)

-- Each moment of the first is one of the second, and going back to it gives the same.
pub record IsLater (s t : Seen) : Type 0 where
  pub program : t.program ≡ s.program
  pub query : t.query ≡ s.query
  pub state : moments.KeepsMoments s.state t.state
  pub holds : IsState s.state → IsState t.state
  pub fulls : s.state.store.nodes.fulls ≤ t.state.store.nodes.fulls
  pub nodes : t.state.store.nodes.budget ≡ s.state.store.nodes.budget
  pub frames : (more : List (List ℕ)) × (t.frames ≡ s.frames ++ more)
  pub links : (more : List Link) × (t.links ≡ s.links ++ more)
  pub waits : wakes.KeepsMoments s.waits t.waits
  pub parked : (more : List Parked) × (t.parked ≡ s.parked ++ more)

-- the same, unseen from above
unfoldable pub Keeps : Seen → Seen → Type 0
Keeps s t = IsLater s t

-- how many goals the branch has, the waiting ones among them
abbrev pub total_of : Seen → ℕ
total_of s = length (goals_at s.links s.top) + length (wake.waiting s.waits)

-- What is left to do without a resolution: such a step takes a goal away, or lets a goal wait. Waiting goals count with
-- the others, since they come back.
unfoldable pub work_of : Seen → ℕ
work_of s = total_of s * (total_of s + 2) + length (goals_at s.links s.top)

-- the nodes are too few for the branch
unfoldable pub TooFew : ℕ → Branch → Type 0
TooFew nodes b = nodes ≢ 2 ^ 64 - 1

-- a stop for nodes has its cause: a node was refused, and they are too few for the branch
pub record WantsNodes (old new : Seen) (b : Branch) : Type 0 where
  pub rose : Rose (fulls_of old) (fulls_of new)
  pub few : TooFew (nodes_of old) b

-- ---- what the calls say

-- nothing has begun: no variable, no goal
abbrev pub unbegun : Source → Asked → ℕ → Seen
unbegun p q nodes = record { program = p; query = q; state = no_state (length p.declared.constants) nodes; frames = []; links = []; top = 0; steps = 0; waits = no_goals; parked = [] }

-- what holds of the branch
abbrev pub OnBranch : Seen → (Branch → Type 0) → Type 0
OnBranch s P = (b : Branch) → IsBranch s b → P b

-- the branch without its first goal
abbrev pub behind : Branch → List Goal → Branch
behind b rest = record b { goals = rest }

-- what holds of the branch without its first goal
abbrev pub OnGoal : Seen → (Branch → Type 0) → Type 0
OnGoal s P = (b : Branch) (g : Goal) (rest : List Goal) → IsBranch s b → b.goals ≡ g ∷ rest → P (behind b rest)

-- what holds of the branch and its first goal
abbrev pub OnFirst : Seen → (Branch → Goal → Type 0) → Type 0
OnFirst s P = (b : Branch) (g : Goal) (rest : List Goal) → IsBranch s b → b.goals ≡ g ∷ rest → P b g

-- where the first goal is a call: of the branch without it, and of the call
abbrev pub OnCall : Seen → (Branch → ℕ → List Tree → Type 0) → Type 0
OnCall s P =
    (b : Branch) (pred : ℕ) (args : List Tree) (rest : List Goal) → IsBranch s b → b.goals ≡ goal.Call pred args ∷ rest →
    P (behind b rest) pred args

-- where the first goal is a call: the branch is the same, and the call's arguments are in the cells behind this one
abbrev pub IsCelled : Seen → Seen → ℕ → ℕ → Type 0
IsCelled old new pred call =
    (b : Branch) (n : ℕ) (args : List Tree) (rest : List Goal) → IsBranch old b → b.goals ≡ goal.Call n args ∷ rest →
    IsBranch new b × StandsInCells new pred call (goal.Call n args)

-- a branch whose first goal is a call in cells
pub record StartsInCells (s : Seen) (pred call : ℕ) : Type 0 where
  pub b : Branch
  pub is : IsBranch s b
  pub g : Goal
  pub rest : List Goal
  pub goals : b.goals ≡ g ∷ rest
  pub cells : StandsInCells s pred call g

-- what holds of a branch, and of its first goal, a call in cells
abbrev pub OnCells : Seen → ℕ → ℕ → (Branch → Goal → Type 0) → Type 0
OnCells s pred call P = (b : Branch) (g : Goal) (rest : List Goal) → IsBranch s b → b.goals ≡ g ∷ rest → StandsInCells s pred call g → P (behind b rest) g

-- where the first goal is an equation: of the branch with that equation added
abbrev pub OnEquation : Seen → (Branch → Type 0) → Type 0
OnEquation s P =
    (b : Branch) (l r : Tree) (rest : List Goal) → IsBranch s b → b.goals ≡ goal.Equal l r ∷ rest →
    P (extended (behind b rest) rest (Pair l r ∷ []) [])

-- of the branch with a call's resolution by this clause added
abbrev pub OnClause : Seen → ℕ → ℕ → (Branch → Type 0) → Type 0
OnClause s clause call P =
    (b : Branch) (pred : ℕ) (args : List Tree) (c : Clause) → IsBranch s b → IsCall s call pred args →
    slice_get (program_of s).clauses clause ≡ Some c → P (resolved b pred args c)

-- the same, where the clause is one of the called predicate
abbrev pub OnResolution : Seen → ℕ → ℕ → (Branch → Type 0) → Type 0
OnResolution s clause call P =
    (b : Branch) (pred : ℕ) (args : List Tree) (c : Clause) → IsBranch s b → IsCall s call pred args →
    slice_get (program_of s).clauses clause ≡ Some c → c.pred ≡ pred → P (resolved b pred args c)

-- of the clause with this number
abbrev pub OfClause : Seen → ℕ → (Clause → Type 0) → Type 0
OfClause s clause P = (c : Clause) → slice_get (program_of s).clauses clause ≡ Some c → P c

-- of a branch that was seen so at this moment, of which now is a later one
abbrev pub AtMoment : Moment → Seen → (Seen → Type 0) → Type 0
AtMoment m now P = (s : Seen) (b : Branch) → IsBranch s b → m ≡ moment_of s → Keeps s now → P s

-- the branch's equations have no solution
abbrev pub IsUnsolvable : Program → Branch → Type 0
IsUnsolvable p b = Refuted p.world b.items

-- a running branch whose first goal is this
pub record Starts (s : Seen) (g : Goal) : Type 0 where
  pub b : Branch
  pub is : IsBranch s b
  pub rest : List Goal
  pub goals : b.goals ≡ g ∷ rest

-- there is room for an addition with so many Boolean variables
pub record HasRoom (s : Seen) (more : ℕ) : Type 0 where
  pub b : Branch
  pub is : IsBranch s b
  pub variables : (program_of s).constants + bools b.sorts + more ≤ 4096
  pub steps : b.steps < 1000000

-- the first of the goals
abbrev pub IsFirst : First → List Goal → Type 0
IsFirst first.Nothing gs = gs ≡ []
IsFirst first.True gs = (rest : List Goal) × (gs ≡ goal.True ∷ rest)
IsFirst first.Fail gs = (rest : List Goal) × (gs ≡ goal.Fail ∷ rest)
IsFirst first.Equal gs = (l : Tree) × (r : Tree) × (rest : List Goal) × (gs ≡ goal.Equal l r ∷ rest)
IsFirst (first.Call pred) gs = (args : List Tree) × (rest : List Goal) × (gs ≡ goal.Call pred args ∷ rest)

-- the addition was tried: the branch goes on where its items are solvable
pub record GoesOn (p : Program) (new : Seen) (b : Branch) : Type 0 where
  pub solvable : Solvable p.world b.items
  pub woken : Branch
  pub wakes : Woken p b woken
  pub is : IsBranch new woken

-- the waiting goals that are now ready went in front
pub record Wakes (p : Program) (new : Seen) (b : Branch) : Type 0 where
  pub woken : Branch
  pub wakes : Woken p b woken
  pub is : IsBranch new woken

-- a call in cells, and a clause of its predicate
pub record IsResolvable (s : Seen) (clause call : ℕ) : Type 0 where
  pub b : Branch
  pub is : IsBranch s b
  pub pred : ℕ
  pub args : List Tree
  pub cells : IsCall s call pred args
  pub c : Clause
  pub there : slice_get (program_of s).clauses clause ≡ Some c
  pub of : c.pred ≡ pred
  pub room : HasRoom s (bools c.sorts)

-- the cell is that of the variable which is printed in this place
pub record IsPrinted (s : Seen) (place r : ℕ) : Type 0 where
  pub number : ℕ
  pub name : Text
  pub printed : slice_get (printed_from 0 s.query.variables) place ≡ Some (number, name)
  pub made : slice_get s.state.made number ≡ Some r
