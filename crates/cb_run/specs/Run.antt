-- What `run` prints, so far as it is built: over files without facts of circuits and without directives `demon`.
-- What it says is what the definitions say, but that a stop for nodes has no bound yet.
use Rattle.std.specs.Prelude.{◌≡◌, ℕ, ◌≤◌, Bool, true, false, ◌||◌, List, [], ◌∷◌, ◌++◌, length, codes, bytes_eq, None}
use Rattle.std.specs.List.{list_any}
use Rattle.cb_model.specs.declared.Outcome.{Outcome}
use Rattle.cb_model.specs.Text.{Text, lines_text}
use Rattle.cb_model.specs.Commands.{Run, Nodes, IsNumber}
use Rattle.cb_model.specs.Grammar.{FormClause, Directive, Rule, FormQuery, ReadsQuery, Whole, IsReading}
use Rattle.cb_model.specs.Loading.{is_fact}
use Rattle.cb_model.specs.Program.{Program}
use Rattle.cb_model.specs.Derivation.{Query}
use Rattle.cb_model.specs.Line.{Names}
use Rattle.cb_model.specs.Refusals.{Refuses, unbuilt}
use Rattle.cb_model.specs.Output as model
use Rattle.cb_model.specs.Output.{Loaded, IsLoaded, LoadedSays, QueriesRefusal, IsQuery, run_outcome}
use Rattle.cb_tell.specs.Told.{QueryTells, QueryBegins}

-- ---- the file

-- whether it is a directive `demon`
abbrev pub declares_demon : FormClause → Bool
declares_demon (Directive line word args) = bytes_eq word (codes "demon")
declares_demon (Rule line head bodied body) = false

-- whether clauses have what `run` doesn't take yet: a fact of circuits, or a directive `demon`
abbrev pub has_unbuilt : List FormClause → Bool
has_unbuilt cs = list_any is_fact cs || list_any declares_demon cs

-- the file is accepted, and has nothing that `run` doesn't take yet
pub record IsBuilt (file : Text) (l : Loaded) : Type 0 where
  pub loaded : IsLoaded file l
  pub built : has_unbuilt l.clauses ≡ false

-- ---- the queries

-- the lines of all queries, and whether one is a stop line
pub data QueriesTell (l : Loaded) (resolutions : ℕ) (nodes : Nodes) : List FormQuery → List Text → Bool → Type 0 where
  no_queries : QueriesTell l resolutions nodes [] [] false
  more_queries : {x : FormQuery} {xs : List FormQuery} {lines : List Text} {stop : Bool} (p : Program) (q : Query) (names : Names) (first rest : List Text) (s t : Bool) →
      IsQuery l x.goals p q names → QueryTells p q names resolutions nodes first s → QueriesTell l resolutions nodes xs rest t →
      lines ≡ first ++ rest → stop ≡ (s || t) → QueriesTell l resolutions nodes (x ∷ xs) lines stop

-- the queries' texts so far: those of some queries whole, and then what the next one has printed
pub data QueriesBegin (l : Loaded) (resolutions : ℕ) (nodes : Nodes) : List FormQuery → Text → Type 0 where
  within : {x : FormQuery} {xs : List FormQuery} {text : Text} (p : Program) (q : Query) (names : Names) →
      IsQuery l x.goals p q names → QueryBegins p q names resolutions nodes text → QueriesBegin l resolutions nodes (x ∷ xs) text
  behind : {x : FormQuery} {xs : List FormQuery} {text : Text} (p : Program) (q : Query) (names : Names) (ls : List Text) (stop : Bool) (rest : Text) →
      IsQuery l x.goals p q names → QueryTells p q names resolutions nodes ls stop → QueriesBegin l resolutions nodes xs rest → text ≡ lines_text ls ++ rest →
      QueriesBegin l resolutions nodes (x ∷ xs) text

-- ---- the command

-- the lines and the outcome over an input: those of the definitions; or, where the nodes are a number, the lines of all
-- queries, where some may be stopped for nodes
pub data InputSays (l : Loaded) (resolutions : ℕ) (nodes : Nodes) (input : Text) (lines : List Text) (outcome : Outcome) : Type 0 where
  says : LoadedSays (Run [] resolutions nodes) input l lines outcome → InputSays l resolutions nodes input lines outcome
  few : (qs : List FormQuery) (stop : Bool) → IsNumber nodes → length input ≤ 1048576 → IsReading ReadsQuery input (Whole qs) → QueriesRefusal l qs None →
      QueriesTell l resolutions nodes qs lines stop → outcome ≡ run_outcome stop → InputSays l resolutions nodes input lines outcome

-- the same of what the queries have printed so far
pub data InputBegins (l : Loaded) (resolutions : ℕ) (nodes : Nodes) (qs : List FormQuery) (text : Text) : Type 0 where
  says : model.QueriesBegin l resolutions nodes qs text → InputBegins l resolutions nodes qs text
  few : IsNumber nodes → QueriesBegin l resolutions nodes qs text → InputBegins l resolutions nodes qs text

-- the lines and the outcome over an accepted file and an input: that the file has what `run` doesn't take yet, or what the
-- input says
pub data RunSays (l : Loaded) (resolutions : ℕ) (nodes : Nodes) (input : Text) (lines : List Text) (outcome : Outcome) : Type 0 where
  unbuilt_yet : has_unbuilt l.clauses ≡ true → Refuses unbuilt lines outcome → RunSays l resolutions nodes input lines outcome
  asked : has_unbuilt l.clauses ≡ false → InputSays l resolutions nodes input lines outcome → RunSays l resolutions nodes input lines outcome

-- what the queries of an input have printed so far over a file
pub record Asking (file input : Text) (resolutions : ℕ) (nodes : Nodes) (text : Text) : Type 0 where
  pub l : Loaded
  pub built : IsBuilt file l
  pub qs : List FormQuery
  pub short : length input ≤ 1048576
  pub reading : IsReading ReadsQuery input (Whole qs)
  pub accepted : QueriesRefusal l qs None
  pub begins : InputBegins l resolutions nodes qs text
