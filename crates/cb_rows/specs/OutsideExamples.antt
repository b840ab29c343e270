-- Worked examples of the outside of a run: words, outcomes, lines of places, counts of written texts, and what is told of the outside.
use Rattle.std.specs.Prelude.{◌≡◌, ◌-◌, ◌^◌, true, false, List, [], ◌∷◌, ◌++◌, map, codes, Some, None, pos, Option}
use Rattle.cb_model.specs.declared.Outcome.TheVariants as outcome
use Rattle.cb_model.specs.declared.Side.TheVariants as side
use Rattle.cb_model.specs.Text.{Text}
use Rattle.cb_model.specs.declared.Kind.TheVariants as kind
use Rattle.cb_model.specs.Tokens.{line_at, name_of, spelled, is_layout}
use Rattle.cb_model.specs.Output.{printed_from, run_outcome, clause_count, source_of, ReadWhole}
use Rattle.cb_model.specs.Adder.{adder_text}
use Rattle.cb_model.specs.Circuits.{pins_of}
use Rattle.cb_model.specs.declared.GateKind.TheVariants as gate
use Rattle.cb_rows.specs.OutputExamples as run
use Rattle.cb_rows.specs.TextExamples.{token_at}
use Rattle.cb_model.specs.Grammar.{Last, More, one, Name, Variable, Integer, Not, ACall, AnEqual, FormClause, Directive, Rule, FormQuery}
use Rattle.cb_model.specs.Written.{AreClauses, AreQueries, line_of_clause}
use Rattle.cb_model.specs.Commands.{Check, Run, Verify, Same, Make, Max, Only, IsNumber, file_name, nodes_of, command_of}
use Rattle.cb_model.specs.Outcomes.{status_of}
use Rattle.cb_model.specs.Outside.{Rose, Wrote, bytes_named}
use Rattle.cb_model.specs.Refusals.{unbuilt, refusal_line}
use Rattle.cb_model.specs.Directives.{sign_of}
use Rattle.cb_model.specs.Top.{HasUsage, NamesNumber}
use Rattle.cb_rows.specs.FileExamples.{atom}

-- three lines, `a`, `b` and `c`, of which the last isn't ended
abbrev pub three_lines : Text
three_lines = 97 ∷ 10 ∷ 98 ∷ 10 ∷ 99 ∷ []

-- `p(X), X = 0.`: two goals of two terms each
abbrev pub two_goals : FormQuery
two_goals = record { line = 1; goals = ACall (Name (codes "p") (one (Variable (codes "X")))) ∷ AnEqual (Variable (codes "X")) (Integer (pos 0)) ∷ [] }

-- `p.`, as a query and as a clause
abbrev pub one_goal : FormQuery
one_goal = record { line = 1; goals = ACall (atom (codes "p")) ∷ [] }

abbrev pub one_fact : FormClause
one_fact = Rule 1 (atom (codes "p")) false []

-- `:- constants a, ~a.` in the fourth line: three terms, and no goal
abbrev pub a_directive : FormClause
a_directive = Directive 4 (codes "constants") (More (atom (codes "a")) (one (Not (atom (codes "a")))))

-- a listing in which the name `F` stands twice
abbrev pub listing : List (Text × Text)
listing = (codes "E", codes "p.") ∷ (codes "F", codes "q.") ∷ (codes "F", codes "r.") ∷ []

-- the words `check F`, and `make` with more bits than it takes
abbrev pub check_words : List Text
check_words = codes "check" ∷ codes "F" ∷ []

abbrev pub strange_words : List Text
strange_words = codes "make" ∷ codes "65" ∷ codes "1000" ∷ []

pub record OutsideExamples : Type 0 where
  -- the end of a line belongs to the line that it ends
  pub lines_of_places : map (line_at three_lines) (0 ∷ 1 ∷ 2 ∷ 3 ∷ 4 ∷ []) ≡ 1 ∷ 1 ∷ 2 ∷ 2 ∷ 3 ∷ []
  -- the file that a command loads; `make` and words of no form load none
  pub files : map file_name
      (Some (Check (codes "F")) ∷ Some (Run (codes "F") 1 Max) ∷ Some (Verify (codes "F") (codes "m") Max) ∷ Some (Same (codes "F") (codes "m") (codes "n") Max) ∷ Some (Make 1 Max) ∷ None ∷ []) ≡
      Some (codes "F") ∷ Some (codes "F") ∷ Some (codes "F") ∷ Some (codes "F") ∷ None ∷ None ∷ []
  -- the status of each outcome
  pub statuses : map status_of
      (outcome.Done ∷ outcome.Differs ∷ outcome.Refused 19 ∷ outcome.Stopped ∷ outcome.Fault side.File ∷ outcome.Fault side.Input ∷ outcome.Fault side.Output ∷ outcome.Memory ∷ []) ≡
      0 ∷ 1 ∷ 2 ∷ 3 ∷ 4 ∷ 4 ∷ 4 ∷ 5 ∷ []
  -- counts of written texts at their limits: `p(X), X = 0.` has four terms
  pub four_terms : AreQueries 4 (two_goals ∷ [])
  pub not_three : AreQueries 3 (two_goals ∷ []) → ⊥
  pub five_together : AreQueries 4 (two_goals ∷ one_goal ∷ []) → ⊥
  pub no_query : AreQueries 0 []
  pub one_query : AreQueries 1 (one_goal ∷ [])
  pub without_goals : AreQueries 9 (record { line = 1; goals = [] } ∷ []) → ⊥
  pub no_clause : AreClauses 0 []
  pub one_clause : AreClauses 1 (one_fact ∷ [])
  pub three_terms : AreClauses 3 (a_directive ∷ [])
  pub not_two : AreClauses 2 (a_directive ∷ []) → ⊥
  pub without_arguments : AreClauses 9 (Directive 1 (codes "constants") Last ∷ []) → ⊥
  pub clause_lines : map line_of_clause (one_fact ∷ a_directive ∷ []) ≡ 1 ∷ 4 ∷ []
  -- a count rises by one at least, and at the end of its type it stands still
  pub rises : Rose 5 6
  pub rises_more : Rose 5 9
  pub must_rise : Rose 5 5 → ⊥
  pub rises_last : Rose (2 ^ 64 - 2) (2 ^ 64 - 1)
  pub must_rise_last : Rose (2 ^ 64 - 2) (2 ^ 64 - 2) → ⊥
  pub stands_at_end : Rose (2 ^ 64 - 1) (2 ^ 64 - 1)
  -- bytes are appended behind those that were told; a sink that tells nothing promises nothing, and none begins to tell
  pub appended : Wrote (Some (codes "ab")) (Some (codes "abcd")) (codes "cd")
  pub in_order : {before now : Option Text} {x y : Text} (told : Text) → Wrote before (Some told) x → Wrote (Some told) now y → Wrote before now (x ++ y)
  pub not_in_front : Wrote (Some (codes "ab")) (Some (codes "cdab")) (codes "cd") → ⊥
  pub not_fewer : Wrote (Some (codes "ab")) (Some (codes "abc")) (codes "cd") → ⊥
  pub tells_nothing : Wrote (Some (codes "ab")) None (codes "cd")
  pub begins_to_tell : Wrote None (Some (codes "cd")) (codes "cd") → ⊥
  -- the bytes of a listed file, the first of its name
  pub listed : map (bytes_named listing) (codes "F" ∷ codes "E" ∷ codes "G" ∷ []) ≡ codes "q." ∷ codes "p." ∷ [] ∷ []
  -- budgets of nodes that are numbers
  pub is_number : IsNumber (Only 5)
  pub max_is_none : IsNumber Max → ⊥
  pub names_number : NamesNumber (Some (Make 1 (Only 5)))
  pub names_max : NamesNumber (Some (Same (codes "F") (codes "m") (codes "n") Max)) → ⊥
  pub check_names_none : NamesNumber (Some (Check (codes "F"))) → ⊥
  -- words of no form are refused, unless the output fails, and no others are refused so
  pub usage_refused : HasUsage strange_words (outcome.Refused 19)
  pub usage_output : HasUsage strange_words (outcome.Fault side.Output)
  pub usage_done : HasUsage strange_words outcome.Done → ⊥
  pub usage_file : HasUsage strange_words (outcome.Fault side.File) → ⊥
  pub check_done : HasUsage check_words outcome.Done
  pub check_other : HasUsage check_words (outcome.Refused 5)
  pub check_usage : HasUsage check_words (outcome.Refused 19) → ⊥
  -- what isn't built is refused with a line of its own
  pub unbuilt_line : refusal_line unbuilt ≡ codes "error: not built yet"
  -- a quoted name without its quotes, and a plain one
  pub bare_names : map name_of (token_at kind.Quoted (39 ∷ 97 ∷ 32 ∷ 98 ∷ 39 ∷ []) 0 5 1 ∷ token_at kind.Atom (codes "p") 5 6 1 ∷ []) ≡ (97 ∷ 32 ∷ 98 ∷ []) ∷ codes "p" ∷ []
  -- a variable whose name begins with `_` is not printed, and keeps its number
  pub printed : printed_from 0 (codes "_X" ∷ codes "Y" ∷ codes "X_" ∷ []) ≡ (1, codes "Y") ∷ (2, codes "X_") ∷ []
  -- a stop line makes the whole run a stop
  pub run_outcomes : map run_outcome (true ∷ false ∷ []) ≡ outcome.Stopped ∷ outcome.Done ∷ []
  -- the last numbers that a budget may have, and the first that it may not
  pub last_nodes : map nodes_of (codes "16777216" ∷ codes "16777217" ∷ codes "0" ∷ []) ≡ Some (Only 16777216) ∷ None ∷ None ∷ []
  pub last_resolutions : map (λ n. command_of (codes "run" ∷ codes "F" ∷ n ∷ codes "max" ∷ [])) (codes "10000000" ∷ codes "10000001" ∷ []) ≡
      Some (Run (codes "F") 10000000 Max) ∷ None ∷ []
  pub last_bits : map (λ n. command_of (codes "make" ∷ n ∷ codes "max" ∷ [])) (codes "64" ∷ codes "65" ∷ []) ≡ Some (Make 64 Max) ∷ None ∷ []
  -- a quote ends a quoted name; four bytes are layout; most gates have two to eight inputs
  pub inner_quote : spelled (39 ∷ 97 ∷ 39 ∷ 98 ∷ 39 ∷ []) ≡ None
  pub layouts : map is_layout (32 ∷ 9 ∷ 10 ∷ 13 ∷ 11 ∷ 12 ∷ []) ≡ true ∷ true ∷ true ∷ true ∷ false ∷ false ∷ []
  pub pins : map (pins_of gate.And) (1 ∷ 2 ∷ 8 ∷ 9 ∷ []) ≡ false ∷ true ∷ true ∷ false ∷ []
  pub pins_of_mux : map (pins_of gate.Mux) (2 ∷ 3 ∷ 4 ∷ []) ≡ false ∷ true ∷ false ∷ []
  -- facts are no clauses; `make` reads no file; what is left of the input is nothing
  pub counts : map clause_count (run.clauses ∷ run.not_clauses ∷ []) ≡ 2 ∷ 0 ∷ []
  pub own_source : source_of (Make 1 Max) (codes "p.") ≡ adder_text 1
  pub left_over : ReadWhole (codes "p.") (Some (codes "p.")) → ⊥
  -- a name with its number of arguments
  pub signs : map sign_of (Name (codes "f") (More (Variable (codes "X")) (one (atom (codes "a")))) ∷ atom (codes "a") ∷ Variable (codes "X") ∷ []) ≡ Some (codes "f", 2) ∷ Some (codes "a", 0) ∷ None ∷ []
