-- How `run` decides and writes: over the program and the input, and query by query.
use Rattle.std.specs.Prelude.{◌≡◌, ℕ, ◌≤◌, Bool, true, false, ◌||◌, ◌⊎◌, List, [], ◌∷◌, ◌++◌, length, Option, Some, None, Result, Ok, Err}
use Rattle.std.specs.List.{list_all}
use Rattle.cb_model.specs.declared.Outcome.{Outcome}
use Rattle.cb_model.specs.declared.Outcome.TheVariants as outcome
use Rattle.cb_model.specs.declared.Side.TheVariants as side
use Rattle.cb_model.specs.Text.{Text, lines_text, IsPrefix}
use Rattle.cb_model.specs.Commands.{Nodes}
use Rattle.cb_model.specs.Grammar.{FormClause, FormQuery, ReadsQuery, Whole, IsReading}
use Rattle.cb_model.specs.Written.{clause_written}
use Rattle.cb_model.specs.Directives as dir
use Rattle.cb_model.specs.Directives.{SortClash, Unknown, heads}
use Rattle.cb_model.specs.Loading.{module_names}
use Rattle.cb_model.specs.Refusals.{unbuilt}
use Rattle.cb_model.specs.Outside.{Wrote}
use Rattle.cb_model.specs.Output.{Loaded, QueriesRefusal, ReadWhole, run_outcome}
use Rattle.cb_directives.specs.declared.fault.LoadError.{LoadError}
use Rattle.cb_directives.specs.declared.fault.LoadError.TheVariants as error
use Rattle.cb_sorts.specs.Source.{Source, Loads}
use Rattle.cb_sorts.specs.Asked.{Asked, Asks}
use Rattle.cb_sorts.specs.OverFile.{asked_program, asked_query, asked_names}
use Rattle.cb_branch.specs.Scope.{IsRunnable}
use Rattle.cb_tell.specs.Told.{QueryTells, QueryBegins}
use Rattle.cb_lines.specs.Ends.{Writes, IsSaid, Refusing}
use Rattle.cb_accept.specs.Refusals.{without_circuits}
use Rattle.cb_run.specs.Run as run
use Rattle.cb_run.specs.Run.{has_unbuilt, IsBuilt, InputSays}

-- ---- query by query

-- a query can be told: it can be run, and its own names have the numbers behind those of the program
pub record CanTell (s : Source) (a : Asked) : Type 0 where
  pub runnable : IsRunnable s a
  pub behind : a.before ≡ length s.names

-- the lines of a query over this source, and whether the last is a stop line
abbrev pub TellsAsked : Source → ℕ → Nodes → Asked → List Text → Bool → Type 0
TellsAsked s resolutions nodes a lines stop = QueryTells (asked_program s a []) (asked_query a) (asked_names s a) resolutions nodes lines stop

-- what it has printed so far
abbrev pub BeginsAsked : Source → ℕ → Nodes → Asked → Text → Type 0
BeginsAsked s resolutions nodes a text = QueryBegins (asked_program s a []) (asked_query a) (asked_names s a) resolutions nodes text

-- the lines of queries one after another, and whether one of them is stopped
pub data AllTell (s : Source) (resolutions : ℕ) (nodes : Nodes) : List Asked → List Text → Bool → Type 0 where
  no_lines : AllTell s resolutions nodes [] [] false
  more_lines : {a : Asked} {ones : List Asked} {lines : List Text} {stop : Bool} (first rest : List Text) (x y : Bool) → TellsAsked s resolutions nodes a first x →
      AllTell s resolutions nodes ones rest y → lines ≡ first ++ rest → stop ≡ (x || y) → AllTell s resolutions nodes (a ∷ ones) lines stop

-- their text so far
pub data AllBegin (s : Source) (resolutions : ℕ) (nodes : Nodes) : List Asked → Text → Type 0 where
  within : {a : Asked} {ones : List Asked} {text : Text} → BeginsAsked s resolutions nodes a text → AllBegin s resolutions nodes (a ∷ ones) text
  behind : {a : Asked} {ones : List Asked} {text : Text} (lines : List Text) (x : Bool) (rest : Text) → TellsAsked s resolutions nodes a lines x →
      AllBegin s resolutions nodes ones rest → text ≡ lines_text lines ++ rest → AllBegin s resolutions nodes (a ∷ ones) text

-- what was written where the telling broke off, since memory was wanting or the sink failed
pub record BreaksAfter (Begins : Text → Type 0) (before after : Option Text) (result : Outcome) : Type 0 where
  pub text : Text
  pub beginning : Begins text
  pub wrote : Wrote before after text
  pub cause : (result ≡ outcome.Memory) ⊎ (result ≡ outcome.Fault side.Output)

-- all queries were told, or their telling broke off
abbrev pub AllTold : Source → ℕ → Nodes → List Asked → Option Text → Option Text → Result Bool Outcome → Type 0
AllTold s resolutions nodes ones before after (Ok stop) = (lines : List Text) × (AllTell s resolutions nodes ones lines stop × Wrote before after (lines_text lines))
AllTold s resolutions nodes ones before after (Err result) = BreaksAfter (AllBegin s resolutions nodes ones) before after result

-- the lines of all queries, and the outcome
abbrev pub AllSay : Source → ℕ → Nodes → List Asked → List Text → Outcome → Type 0
AllSay s resolutions nodes ones lines result = (stop : Bool) × (AllTell s resolutions nodes ones lines stop × (result ≡ run_outcome stop))

-- the lines of all queries are written
abbrev pub AskedRun : Source → ℕ → Nodes → List Asked → Option Text → Option Text → Outcome → Type 0
AskedRun s resolutions nodes ones before after result = Writes (IsSaid (AllSay s resolutions nodes ones)) (AllBegin s resolutions nodes ones) before after result

-- ---- the input

-- the source is that of a file with these clauses, which has nothing that `run` doesn't take yet
pub record IsOver (cs : List FormClause) (s : Source) : Type 0 where
  pub file : Text
  pub built : IsBuilt file (without_circuits cs s.declared)
  pub written : list_all clause_written cs ≡ true
  pub loads : Loads cs s

-- the source is of some such clauses
pub record IsOfClauses (s : Source) : Type 0 where
  pub cs : List FormClause
  pub over : IsOver cs s

-- what is said of each file that the source is of
abbrev pub OverFile : Source → (Loaded → Type 0) → Type 0
OverFile s Said = (cs : List FormClause) → IsOver cs s → Said (without_circuits cs s.declared)

-- each of the queries is accepted, and this is what they ask
pub data AllAsk (cs : List FormClause) (s : Source) : List FormQuery → List Asked → Type 0 where
  none_asked : AllAsk cs s [] []
  more_asked : {q : FormQuery} {qs : List FormQuery} {a : Asked} {ones : List Asked} → Asks s.declared (heads cs) s.names (module_names cs) q.goals a → AllAsk cs s qs ones →
      AllAsk cs s (q ∷ qs) (a ∷ ones)

-- the first refusal of the queries' names and sorts; want of memory says nothing
abbrev pub RefusesQueries : Loaded → List FormQuery → LoadError → Type 0
RefusesQueries l qs (error.Directive n) = ⊥
RefusesQueries l qs (error.SortClash n) = QueriesRefusal l qs (Some (SortClash, n))
RefusesQueries l qs (error.Unknown n) = QueriesRefusal l qs (Some (Unknown, n))
RefusesQueries l qs (error.Twice n) = QueriesRefusal l qs (Some (dir.Twice, n))
RefusesQueries l qs error.Memory = Unit {0}

-- what the queries ask, over each file that the source is of
abbrev pub AskAll : Source → List FormQuery → List Asked → Type 0
AskAll s qs ones = (cs : List FormClause) → IsOver cs s → AllAsk cs s qs ones

-- their first refusal
abbrev pub RefuseAll : Source → List FormQuery → LoadError → Type 0
RefuseAll s qs e = OverFile s (λ l. RefusesQueries l qs e)

-- the input has these queries
pub record IsOf (input : Text) (qs : List FormQuery) : Type 0 where
  pub short : length input ≤ 1048576
  pub reading : IsReading ReadsQuery input (Whole qs)

-- the text and the outcome over an input
abbrev pub InputDecides : Loaded → ℕ → Nodes → Text → Text → Outcome → Type 0
InputDecides l resolutions nodes input text result = IsSaid (InputSays l resolutions nodes input) text result

-- a beginning of such a text, or of the texts of queries
pub data InputBegins (l : Loaded) (resolutions : ℕ) (nodes : Nodes) (input text : Text) : Type 0 where
  nothing_yet : text ≡ [] → InputBegins l resolutions nodes input text
  begins : (whole : Text) (o : Outcome) → InputDecides l resolutions nodes input whole o → IsPrefix text whole → InputBegins l resolutions nodes input text
  so_far : (qs : List FormQuery) → IsOf input qs → QueriesRefusal l qs None → run.InputBegins l resolutions nodes qs text → InputBegins l resolutions nodes input text

-- what is written over an input
abbrev pub InputWrites : Loaded → ℕ → Nodes → Text → Option Text → Option Text → Outcome → Type 0
InputWrites l resolutions nodes input before after result =
    Writes (InputDecides l resolutions nodes input) (InputBegins l resolutions nodes input) before after result

-- what is written over each input that has these queries
abbrev pub QueriesWrite : Loaded → ℕ → Nodes → List FormQuery → Option Text → Option Text → Outcome → Type 0
QueriesWrite l resolutions nodes qs before after result = (input : Text) → IsOf input qs → InputWrites l resolutions nodes input before after result

-- the input, where it is told
pub record IsInput (told left : Option Text) (input : Text) : Type 0 where
  pub is : (bytes : Text) → told ≡ Some bytes → input ≡ bytes
  pub taken : (bytes : Text) → told ≡ Some bytes → ReadWhole bytes left

-- the input was read and what it asks is written; or nothing is, since a read failed or memory was wanting
pub data ProgramRun (l : Loaded) (resolutions : ℕ) (nodes : Nodes) (told left : Option Text) (before after : Option Text) (result : Outcome) : Type 0 where
  read : (input : Text) → IsInput told left input → InputWrites l resolutions nodes input before after result →
      ProgramRun l resolutions nodes told left before after result
  input_failed : result ≡ outcome.Fault side.Input → Wrote before after [] → ProgramRun l resolutions nodes told left before after result
  input_wanting : result ≡ outcome.Memory → Wrote before after [] → ProgramRun l resolutions nodes told left before after result

-- ---- the file

-- what is written over an accepted file, and what is left of the input: the file has what `run` doesn't take yet, and the
-- input is left; or the input is read
pub data FileRun (l : Loaded) (resolutions : ℕ) (nodes : Nodes) (told left : Option Text) (before after : Option Text) (result : Outcome) : Type 0 where
  unbuilt_yet : has_unbuilt l.clauses ≡ true → left ≡ told → Refusing unbuilt before after result → FileRun l resolutions nodes told left before after result
  asked : has_unbuilt l.clauses ≡ false → ProgramRun l resolutions nodes told left before after result → FileRun l resolutions nodes told left before after result
