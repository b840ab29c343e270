-- What a query prints while it runs.
use Rattle.std.specs.Prelude.{◌≡◌, ℕ, ◌+◌, ◌≤◌, ◌⊎◌, Bool, true, List, [], ◌∷◌, ◌++◌, length, take, codes, Option, Result, Ok, Err, MatchResult}
use Rattle.cb_model.specs.declared.Outcome.{Outcome}
use Rattle.cb_model.specs.declared.Outcome.TheVariants as outcome
use Rattle.cb_model.specs.declared.Side.TheVariants as side
use Rattle.cb_model.specs.Text.{Text, lines_text, IsPrefix}
use Rattle.cb_model.specs.Outside.{Wrote}
use Rattle.cb_model.specs.Commands.{Nodes, IsNumber, budget_of}
use Rattle.cb_model.specs.Program.{Program}
use Rattle.cb_model.specs.Derivation.{Query, Note, Entry, SoFar, printed_of}
use Rattle.cb_model.specs.Line.{Names}
use Rattle.cb_model.specs.Output.{AreLines, QuerySays}
use Rattle.cb_sorts.specs.Source.{Source}
use Rattle.cb_sorts.specs.Asked.{Asked}
use Rattle.cb_sorts.specs.OverFile.{asked_program, asked_query, asked_names}

-- The lines of a query, and whether a stop line is the last: those of the plain derivation; or, where the nodes are a
-- number, the lines of its first answers and the stop for nodes before the next answer's line.
pub data QueryTells (p : Program) (q : Query) (names : Names) (resolutions : ℕ) (nodes : Nodes) : List Text → Bool → Type 0 where
  said : {lines : List Text} {stop : Bool} → QuerySays p q names resolutions nodes lines stop → QueryTells p q names resolutions nodes lines stop
  few : {lines : List Text} (ns : List Note) (used : ℕ) (s : List Entry) (xs : List Text) → SoFar p q resolutions ns used s →
      AreLines p names (take (length xs) (printed_of ns)) xs → length (printed_of ns) ≤ length xs + 1 → IsNumber nodes →
      lines ≡ xs ++ codes "stopped: nodes" ∷ [] → QueryTells p q names resolutions nodes lines true

-- the text of a query so far: a front of the lines of its answers so far, or of all its lines
pub data QueryBegins (p : Program) (q : Query) (names : Names) (resolutions : ℕ) (nodes : Nodes) (text : Text) : Type 0 where
  so_far : (ns : List Note) (used : ℕ) (s : List Entry) (xs : List Text) → SoFar p q resolutions ns used s → AreLines p names (printed_of ns) xs →
      IsPrefix text (lines_text xs) → QueryBegins p q names resolutions nodes text
  of_all : (lines : List Text) (stop : Bool) → QueryTells p q names resolutions nodes lines stop → IsPrefix text (lines_text lines) →
      QueryBegins p q names resolutions nodes text

-- for each budget of nodes of which this is the number
abbrev pub ForNodes : ℕ → (Nodes → Type 0) → Type 0
ForNodes n P = (nodes : Nodes) → budget_of nodes ≡ n → P nodes

-- the lines of a query over a program were written, and whether a stop line was the last
pub record IsTold (s : Source) (a : Asked) (resolutions nodes : ℕ) (before after : Option Text) (stop : Bool) : Type 0 where
  pub lines : List Text
  pub tells : ForNodes nodes (λ n. QueryTells (asked_program s a []) (asked_query a) (asked_names s a) resolutions n lines stop)
  pub wrote : Wrote before after (lines_text lines)

-- the telling broke off behind such a text, since memory was wanting or the sink failed
pub record BreaksOff (s : Source) (a : Asked) (resolutions nodes : ℕ) (before after : Option Text) (result : Outcome) : Type 0 where
  pub text : Text
  pub begins : ForNodes nodes (λ n. QueryBegins (asked_program s a []) (asked_query a) (asked_names s a) resolutions n text)
  pub wrote : Wrote before after text
  pub cause : (result ≡ outcome.Memory) ⊎ (result ≡ outcome.Fault side.Output)

-- the lines were written, and whether a stop line was the last; or the telling broke off
abbrev pub TellsOrBreaks : Source → Asked → ℕ → ℕ → Option Text → Option Text → Result Bool Outcome → Type 0
TellsOrBreaks s a resolutions nodes before after result =
    MatchResult result (IsTold s a resolutions nodes before after) (BreaksOff s a resolutions nodes before after)

-- it broke off since the sink failed
abbrev pub OutputFailed : {A : Type 0} → Result A Outcome → Type 0
OutputFailed (Ok x) = ⊥
OutputFailed (Err result) = result ≡ outcome.Fault side.Output
