-- A query that was read over the program of a file, as a query over what the accepted file holds.
use Rattle.std.specs.Prelude.{◌≡◌, true, List, ◌++◌, map}
use Rattle.std.specs.List.{list_all}
use Rattle.cb_model.specs.Grammar.{FormGoal}
use Rattle.cb_model.specs.Written.{clause_written}
use Rattle.cb_model.specs.Directives.{heads}
use Rattle.cb_model.specs.Loading.{module_names}
use Rattle.cb_model.specs.declared.Circuit.{Circuit}
use Rattle.cb_model.specs.Circuits.{circuit_of}
use Rattle.cb_model.specs.Program.{Program}
use Rattle.cb_model.specs.Derivation.{Query}
use Rattle.cb_model.specs.Line.{Names}
use Rattle.cb_model.specs.Output.{Loaded, IsQuery, printed_from}
use Rattle.cb_sorts.specs.Source.{Source, Loads, program_over}
use Rattle.cb_sorts.specs.Asked.{Asked, Asks}

-- the program that a query is asked of: the query's names stand behind those of the file
abbrev pub asked_program : Source → Asked → List Circuit → Program
asked_program s a circuits = program_over s (s.names ++ a.names) circuits

-- the goals that are asked, with the sorts of their variables
abbrev pub asked_query : Asked → Query
asked_query a = record { goals = a.goals; sorts = a.sorts }

-- the names that the lines of answers may have
abbrev pub asked_names : Source → Asked → Names
asked_names s a = record { names = map (λ n. n.0) (s.names ++ a.names); constants = s.declared.constants; printed = printed_from 0 a.variables }

-- what a query asks of the program of an accepted file is a query over that file
abbrev pub QueriesOverFile : Type 0
QueriesOverFile = (l : Loaded) (s : Source) (gs : List FormGoal) (a : Asked) → list_all clause_written l.clauses ≡ true → l.declared ≡ s.declared → Loads l.clauses s →
    Asks s.declared (heads l.clauses) s.names (module_names l.clauses) gs a →
    IsQuery l gs (asked_program s a (map circuit_of l.circuits.flats)) (asked_query a) (asked_names s a)
