-- Whole runs of the program, from the words and the bytes to the text and the outcome.
use Rattle.std.specs.Prelude.{ℕ, true, false, List, [], ◌∷◌, codes, Some, pos}
use Rattle.cb_model.specs.declared.Sort.TheVariants as sort
use Rattle.cb_model.specs.declared.Outcome.TheVariants as outcome
use Rattle.cb_model.specs.Text.{Text, lines_text}
use Rattle.cb_model.specs.Grammar.{Form, Last, More, one, Closed, Not, Name, Variable, Integer, FormGoal, ACall, AnEqual, FormClause, Directive, Rule}
use Rattle.cb_model.specs.Circuits.{Module}
use Rattle.cb_model.specs.declared.Expr.TheVariants as expr
use Rattle.cb_model.specs.Commands.{command_of, Verify, Same, Max, Only}
use Rattle.cb_model.specs.Directives.{Declared, nothing}
use Rattle.cb_model.specs.Facts.{Spec, no_circuits, with_module, with_spec}
use Rattle.cb_model.specs.Line.{Names}
use Rattle.cb_model.specs.Output.{Loaded, IsLoaded, LoadedSays, IsQuery, Output, OutputBegins, QuerySays, TakesBy}
use Rattle.cb_rows.specs.TryRow as try
use Rattle.cb_rows.specs.CircuitExamples.{half_adder, half_spec, full_adder, A, B}

-- `:- sorts p(bool). p(0). p(1).`
abbrev pub file : Text
file = codes ":- sorts p(bool). p(0). p(1)."

-- the clause `p(0)` or `p(1)`
abbrev pub bit_clause : ℕ → FormClause
bit_clause n = Rule 1 (Name (codes "p") (one (Integer (pos n)))) false []

-- its clauses
abbrev pub clauses : List FormClause
clauses = Directive 1 (codes "sorts") (one (Name (codes "p") (one (Name (codes "bool") Last)))) ∷ bit_clause 0 ∷ bit_clause 1 ∷ []

-- what it declares
abbrev pub p_bool : Declared
p_bool = record nothing { sorts = ((codes "p", 1), sort.Bool ∷ []) ∷ [] }

-- what it holds
abbrev pub loaded : Loaded
loaded = record { clauses = clauses; declared = p_bool; circuits = no_circuits }

-- `p(X), X = 1.`
abbrev pub input : Text
input = codes "p(X), X = 1."

-- its goals
abbrev pub goals : List FormGoal
goals = ACall (Name (codes "p") (one (Variable (codes "X")))) ∷ AnEqual (Variable (codes "X")) (Integer (pos 1)) ∷ []

-- the names by number, and the printed variable
abbrev pub names : Names
names = record { names = codes "p" ∷ []; constants = []; printed = (0, codes "X") ∷ [] }

-- the words of `run` with a number of resolutions
abbrev pub run_words : Text → List Text
run_words n = codes "run" ∷ codes "F" ∷ n ∷ codes "max" ∷ []

-- a file that holds a half adder and its specification
abbrev pub adders : Loaded
adders = record {
  clauses = [];
  declared = nothing;
  circuits = with_spec (with_module no_circuits half_adder) (record { name = codes "half_adder"; inputs = A ∷ B ∷ []; exprs = half_spec });
}

-- a file that holds a half and a full adder
abbrev pub two_adders : Loaded
two_adders = record { clauses = []; declared = nothing; circuits = with_module (with_module no_circuits half_adder) full_adder }

-- `module(h,[A],[Y],[not([A],[Y])]). spec(h,[A],[~A]).`
abbrev pub not_file : Text
not_file = codes "module(h,[A],[Y],[not([A],[Y])]). spec(h,[A],[~A])."

-- a list of one net
abbrev pub net : Text → Form
net x = Closed (one (Variable x))

-- its clauses
abbrev pub not_clauses : List FormClause
not_clauses =
    Rule 1 (Name (codes "module") (More (Name (codes "h") Last) (More (net A) (More (net (codes "Y")) (one (Closed (one (Name (codes "not") (More (net A) (one (net (codes "Y")))))))))))) false [] ∷
    Rule 1 (Name (codes "spec") (More (Name (codes "h") Last) (More (net A) (one (Closed (one (Not (Variable A)))))))) false [] ∷ []

-- its module
abbrev pub not_module : Module
not_module = record { name = codes "h"; inputs = A ∷ []; outputs = codes "Y" ∷ []; instances = record { part = codes "not"; ins = A ∷ []; outs = codes "Y" ∷ [] } ∷ [] }

-- its specification
abbrev pub not_spec : Spec
not_spec = record { name = codes "h"; inputs = A ∷ []; exprs = expr.Not (expr.Var 0) ∷ [] }

-- what it holds
abbrev pub not_loaded : Loaded
not_loaded = record { clauses = not_clauses; declared = nothing; circuits = with_spec (with_module no_circuits not_module) not_spec }

pub record OutputExamples : Type 0 where
  -- words of no form
  pub usage : Output (codes "make" ∷ codes "65" ∷ codes "1000" ∷ []) [] [] (lines_text (codes "error: usage" ∷ [])) (outcome.Refused 19)
  -- a clause that the text ends in
  pub unfinished : Output (codes "check" ∷ codes "F" ∷ []) (codes "p(0") [] (lines_text (codes "error: line 1: unfinished clause" ∷ [])) (outcome.Refused 5)
  -- a byte that begins no token, in the input
  pub query_byte : Output (run_words (codes "1")) file (codes "p(-).") (lines_text (codes "error: query byte 2: unexpected byte" ∷ [])) (outcome.Refused 1)
  -- an accepted file, and its line
  pub accepted : IsLoaded file loaded
  pub checked : Output (codes "check" ∷ codes "F" ∷ []) file [] (lines_text (codes "checked: 2 clauses, 0 modules" ∷ [])) outcome.Done
  -- a query over it, and its lines
  pub the_query : IsQuery loaded goals try.p try.q names
  pub query_lines : QuerySays try.p try.q names 2 Max (codes "X = 1" ∷ codes "end" ∷ []) false
  -- with the clauses the other way round, a stop for nodes while the second clause's branch is added, behind the answer
  pub stop_behind_answer : QuerySays try.swapped try.q names 2 (Only 147455) (codes "X = 1" ∷ codes "stopped: nodes" ∷ []) true
  pub run : Output (run_words (codes "2")) file input (lines_text (codes "X = 1" ∷ codes "end" ∷ [])) outcome.Done
  -- what the query has printed may be all that was written when a run broke off
  pub begins : OutputBegins (run_words (codes "2")) file input (codes "X =")
  -- no byte of the input is left
  pub takes : TakesBy (command_of (run_words (codes "2"))) file input (Some [])
  -- comparisons over files that hold these modules
  pub verified : LoadedSays (Verify (codes "F") (codes "half_adder") Max) [] adders (codes "verified half_adder" ∷ []) outcome.Done
  pub may_stop : LoadedSays (Verify (codes "F") (codes "half_adder") (Only 24575)) [] adders (codes "stopped: nodes" ∷ []) outcome.Stopped
  pub no_module : LoadedSays (Same (codes "F") (codes "half_adder") (codes "x9") Max) [] adders (codes "error: no such module" ∷ []) (outcome.Refused 16)
  pub no_spec : LoadedSays (Verify (codes "F") (codes "full_adder") Max) [] two_adders (codes "error: no specification" ∷ []) (outcome.Refused 17)
  pub ports_differ : LoadedSays (Same (codes "F") (codes "half_adder") (codes "full_adder") Max) [] two_adders (codes "error: ports differ" ∷ []) (outcome.Refused 18)
  -- a module and its specification, from the bytes of the file
  pub accepted_module : IsLoaded not_file not_loaded
  pub verified_file : Output (codes "verify" ∷ codes "F" ∷ codes "h" ∷ codes "max" ∷ []) not_file [] (lines_text (codes "verified h" ∷ [])) outcome.Done
