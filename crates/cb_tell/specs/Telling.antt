-- How a query is told: line by line, while its run goes on.
use Rattle.std.specs.Prelude.{◌≡◌, ◌≢◌, ℕ, ◌+◌, ◌-◌, ◌^◌, ◌≤◌, ◌⊎◌, Bool, true, false, List, [], ◌∷◌, length, take, codes, Option, None, Some, Result, Ok, Err}
use Rattle.cb_model.specs.declared.Outcome.{Outcome}
use Rattle.cb_model.specs.declared.Outcome.TheVariants as outcome
use Rattle.cb_model.specs.declared.Side.TheVariants as side
use Rattle.cb_model.specs.Text.{Text, lines_text}
use Rattle.cb_model.specs.Outside.{Wrote}
use Rattle.cb_model.specs.Program.{Program, bools}
use Rattle.cb_model.specs.Derivation.{Query, Branch, Note, Entry, SoFar, printed_of}
use Rattle.cb_model.specs.Line.{Names, IsLine}
use Rattle.cb_model.specs.Output.{AreLines}
use Rattle.cb_dd.specs.declared.Stop.TheVariants as stop
use Rattle.cb_show.specs.declared.ShowError.{ShowError}
use Rattle.cb_show.specs.declared.ShowError.TheVariants as show
use Rattle.cb_show.specs.Front.{Front}
use Rattle.cb_answer.specs.Writing.{WroteFront, WroteLine}
use Rattle.cb_sorts.specs.Source.{Source}
use Rattle.cb_sorts.specs.Asked.{Asked}
use Rattle.cb_sorts.specs.OverFile.{asked_program, asked_query, asked_names}
use Rattle.cb_branch.specs.Running.{Seen, IsBranch, fulls_of, nodes_of, program_of, query_of, unbegun}
use Rattle.cb_branch.specs.Lending.{left_with}
use Rattle.cb_solve.specs.declared.Budget.{Budget}
use Rattle.cb_solve.specs.declared.Budget.TheVariants as budget
use Rattle.cb_solve.specs.declared.Event.{Event}
use Rattle.cb_solve.specs.Run.{Run, IsRun, Begins, StopsAtFirst}
use Rattle.cb_tell.specs.declared.Turn.{Turn}
use Rattle.cb_tell.specs.declared.Turn.TheVariants as turn
use Rattle.cb_tell.specs.Told.{ForNodes, QueryBegins, IsTold, BreaksOff, TellsOrBreaks}

-- these are the lines of the first answers, of whatever beginning of the run prints as many
abbrev pub AreFirst : Program → Query → Names → ℕ → List Text → Type 0
AreFirst p q names r xs = (ns : List Note) (used : ℕ) (s : List Entry) → SoFar p q r ns used s → length xs ≤ length (printed_of ns) →
    AreLines p names (take (length xs) (printed_of ns)) xs

-- a line of the answer whose branch this is
abbrev pub IsLineAt : Source → Asked → Seen → Text → Type 0
IsLineAt s a t line = (b : Branch) → IsBranch t b → IsLine (asked_program s a []) (asked_names s a) b line

-- what a stop line names
abbrev pub stop_text : Budget → Text
stop_text budget.Resolutions = codes "stopped: resolutions"
stop_text budget.Variables = codes "stopped: variables"
stop_text budget.Equations = codes "stopped: equations"
stop_text budget.Nodes = codes "stopped: nodes"

-- the line behind the last answer, where there is none or one
abbrev pub ended_text : Bool → Text
ended_text true = codes "no"
ended_text false = codes "end"

-- What was written of an answer: its line; or a front of it, since the sink failed; or nothing, since memory or nodes were
-- wanting, and the nodes have a budget.
abbrev pub AnswerTells : Source → Asked → Seen → Option Text → Option Text → Result (Unit {0}) ShowError → Type 0
AnswerTells s a t before after (Ok x) = WroteLine (IsLineAt s a t) before after
AnswerTells s a t before after (Err (show.Failed e)) = WroteFront (IsLineAt s a t) before after
AnswerTells s a t before after (Err (show.Stop stop.Nodes)) = Wrote before after [] × (nodes_of t ≢ 2 ^ 64 - 1)
AnswerTells s a t before after (Err (show.Stop stop.Memory)) = Wrote before after []

-- the sink failed
abbrev pub WriteFailed : Result (Unit {0}) ShowError → Type 0
WriteFailed (Err (show.Failed e)) = Unit {0}
WriteFailed _ = ⊥

-- What was written of a last line: all of it; or a front, since the sink failed.
abbrev pub LastTells : Text → Bool → Option Text → Option Text → Result Turn Outcome → Type 0
LastTells line stop before after (Ok turn.Answered) = ⊥
LastTells line stop before after (Ok (turn.Ended x)) = (x ≡ stop) × Wrote before after line
LastTells line stop before after (Err o) = (o ≡ outcome.Fault side.Output) × Front before after line

-- whether there are no lines
abbrev pub is_none : List Text → Bool
is_none [] = true
is_none (x ∷ xs) = false

-- the run's terms were lent, and left as they were but for the count of refusals
pub record IsLent (old new : Run) : Type 0 where
  pub count : ℕ
  pub fulls : fulls_of old.state ≤ count
  pub is : new ≡ record old { state = left_with count old.state }

-- the run has come to an answer of the query over the program
pub record IsAnswered (s : Source) (a : Asked) (r : Run) : Type 0 where
  pub b : Branch
  pub is : IsBranch r.state b
  pub fits : (asked_program s a []).constants + bools b.sorts ≤ 4096
  pub program : program_of r.state ≡ asked_program s a []
  pub asked : r.state.query ≡ a
  pub behind : a.before ≡ length s.names

-- the run is over before it began, by this event
pub record IsOverAtOnce (s : Source) (a : Asked) (resolutions nodes : ℕ) (r : Run) : Type 0 where
  pub event : Event
  pub over : r.over ≡ Some event
  pub starved : r.starved ≡ false
  pub cause : StopsAtFirst (unbegun s a nodes) r.state resolutions event

-- the run is one of the query over the program
pub record IsOf (s : Source) (a : Asked) (resolutions nodes : ℕ) (r : Run) : Type 0 where
  pub run : IsRun r
  pub program : program_of r.state ≡ asked_program s a []
  pub query : query_of r.state ≡ asked_query a
  pub asked : r.state.query ≡ a
  pub behind : a.before ≡ length s.names
  pub budget : r.budget ≡ resolutions
  pub nodes_are : nodes_of r.state ≡ nodes

-- The lines of the answers so far are written, and the run goes on behind them; or it is over before it began.
pub record SoFarTold (s : Source) (a : Asked) (resolutions nodes : ℕ) (before after : Option Text) (r : Run) (none : Bool) : Type 0 where
  pub lines : List Text
  pub first : AreFirst (asked_program s a []) (asked_query a) (asked_names s a) resolutions lines
  pub begins : ForNodes nodes (λ n. QueryBegins (asked_program s a []) (asked_query a) (asked_names s a) resolutions n (lines_text lines))
  pub wrote : Wrote before after (lines_text lines)
  pub none_are : none ≡ is_none lines
  pub many : r.answers ≡ length lines
  pub few : length lines ≤ resolutions + 1
  pub of : IsOf s a resolutions nodes r
  pub goes : (r.over ≡ None) ⊎ ((lines ≡ []) × IsOverAtOnce s a resolutions nodes r)

-- what a turn comes to: the next answer's line is written, or the last line, or it broke off
abbrev pub TurnTells : Source → Asked → ℕ → ℕ → Option Text → Option Text → Run → Run → Result Turn Outcome → Type 0
TurnTells s a r n before after old new (Ok turn.Answered) = (new.answers ≡ old.answers + 1) × SoFarTold s a r n before after new false
TurnTells s a r n before after old new (Ok (turn.Ended stop)) = IsTold s a r n before after stop
TurnTells s a r n before after old new (Err o) = BreaksOff s a r n before after o

-- the run is one of the query over the program that gave no answer yet
abbrev pub HasBegun : Source → Asked → Run → Type 0
HasBegun s a r = (resolutions : ℕ) × (nodes : ℕ) × Begins s a resolutions nodes r

-- the whole is told, by the resolutions and the nodes that the run began with
abbrev pub TellsFromBegun : Source → Asked → Run → Option Text → Option Text → Result Bool Outcome → Type 0
TellsFromBegun s a r before after result =
    (resolutions nodes : ℕ) → Begins s a resolutions nodes r → TellsOrBreaks s a resolutions nodes before after result

-- the lines of the answers so far are written, behind what was there when the run began
abbrev pub IsUnderWay : Source → Asked → Option Text → Run → Bool → Type 0
IsUnderWay s a after r none =
    (resolutions : ℕ) × (nodes : ℕ) × (before : Option Text) × SoFarTold s a resolutions nodes before after r none

-- the next turn tells on behind them
abbrev pub NextTells : Source → Asked → Bool → Option Text → Option Text → Run → Run → Result Turn Outcome → Type 0
NextTells s a none before after old new result =
    (resolutions nodes : ℕ) (start : Option Text) → SoFarTold s a resolutions nodes start before old none →
    TurnTells s a resolutions nodes start after old new result
