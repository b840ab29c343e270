-- Files, inputs, queries and outputs have one answer.
use Rattle.std.specs.Prelude.{◌≡◌, ◌⊎◌, ℕ, ◌≤◌, Bool, List, ◌∷◌, ◌++◌, length, Option, Some, None, codes}
use Rattle.cb_model.specs.declared.Outcome.{Outcome}
use Rattle.cb_model.specs.Text.{Text, lines_text}
use Rattle.cb_model.specs.Grammar.{Whole, IsReading, ReadsQuery, FormQuery}
use Rattle.cb_model.specs.Program.{Program}
use Rattle.cb_model.specs.Derivation.{Query}
use Rattle.cb_model.specs.Line.{Names}
use Rattle.cb_model.specs.Commands.{Command, Run, Nodes, IsNumber, command_of}
use Rattle.cb_model.specs.Refusals.{Refused}
use Rattle.cb_model.specs.Top.{NamesNumber}
use Rattle.cb_model.specs.Output.{Loaded, IsLoaded, FileRefused, QueriesRefusal, InputRefused, QuerySays, Output}

-- a file has one first refusal, or one content, and not both
abbrev pub FileIsOne : Type 0
FileIsOne = (file : Text) →
    ((r s : Refused) → FileRefused file r → FileRefused file s → r ≡ s) ×
    ((k l : Loaded) → IsLoaded file k → IsLoaded file l → k ≡ l) ×
    ((r : Refused) (l : Loaded) → FileRefused file r → IsLoaded file l → ⊥)

-- these are the queries of the input, and they are accepted
abbrev pub HasQueries : Loaded → Text → List FormQuery → Type 0
HasQueries l input qs = (length input ≤ 1048576) × IsReading ReadsQuery input (Whole qs) × QueriesRefusal l qs None

-- an input has one first refusal, or one list of queries that are accepted, and not both
abbrev pub InputIsOne : Type 0
InputIsOne = (l : Loaded) (input : Text) →
    ((r s : Refused) → InputRefused l input r → InputRefused l input s → r ≡ s) ×
    ((qs rs : List FormQuery) → HasQueries l input qs → HasQueries l input rs → qs ≡ rs) ×
    ((r : Refused) (qs : List FormQuery) → InputRefused l input r → HasQueries l input qs → ⊥)

-- one of the lines is that of a stop for nodes
abbrev pub HasStop : List Text → Type 0
HasStop lines = (before : List Text) × (after : List Text) × (lines ≡ before ++ codes "stopped: nodes" ∷ after)

-- the lines are the same, with the same answer; or the nodes are a number, and one of them was stopped for its nodes
abbrev pub AreOne : {A : Type 0} → Nodes → List Text → List Text → A → A → Type 0
AreOne nodes ls ms a b = ((ls ≡ ms) × (a ≡ b)) ⊎ (IsNumber nodes × (HasStop ls ⊎ HasStop ms))

-- what a query says is one
abbrev pub QueryIsOne : Type 0
QueryIsOne = (p : Program) (q : Query) (names : Names) (resolutions : ℕ) (nodes : Nodes) (ls ms : List Text) (s t : Bool) →
    QuerySays p q names resolutions nodes ls s → QuerySays p q names resolutions nodes ms t → AreOne nodes ls ms s t

-- one of the lines of the text is that of a stop for nodes
abbrev pub IsStopped : Text → Type 0
IsStopped t = (lines : List Text) × (HasStop lines × (t ≡ lines_text lines))

-- the command runs queries
abbrev pub RunsQueries : Option Command → Type 0
RunsQueries (Some (Run f r n)) = Unit {0}
RunsQueries _ = ⊥

-- words, file and input have one output, unless the nodes are a number and one of two was stopped for its nodes
abbrev pub OutputIsOne : Type 0
OutputIsOne = (words : List Text) (file input t u : Text) (x y : Outcome) → (RunsQueries (command_of words) → ⊥) →
    Output words file input t x → Output words file input u y →
    ((t ≡ u) × (x ≡ y)) ⊎ (NamesNumber (command_of words) × (IsStopped t ⊎ IsStopped u))
