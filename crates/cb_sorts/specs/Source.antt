-- A file after its reading, and what it is of its clauses.
use Rattle.std.specs.Prelude.{◌≡◌, ℕ, true, List, ◌++◌, None, map, length}
use Rattle.std.specs.List.{list_all}
use Rattle.cb_model.specs.declared.Clause.{Clause}
use Rattle.cb_model.specs.declared.Circuit.{Circuit}
use Rattle.cb_model.specs.Program.{Program}
use Rattle.cb_model.specs.Grammar.{FormClause}
use Rattle.cb_model.specs.Directives.{Sign, has_sign, Declared, sorts_of, heads, directives}
use Rattle.cb_model.specs.Loading.{module_names, words_named, clauses_signs, RulesRefusal, IsProgram}
use Rattle.cb_known.specs.Modules.{AreNumbers}

-- what the directives declare, the names that have clauses, the numbers of modules by name, the names by number, and the clauses
pub record Source : Type 0 where
  pub declared : Declared
  pub heads : List Sign
  pub modules : List (Sign × ℕ)
  pub names : List Sign
  pub clauses : List Clause

-- the program with these names and circuits
abbrev pub program_over : Source → List Sign → List Circuit → Program
program_over s names circuits = record {
  constants = length s.declared.constants;
  world = record { arguments = map (sorts_of s.declared) names };
  words = map (words_named s.declared) names;
  demons = map (has_sign s.declared.demons) names;
  clauses = s.clauses;
  circuits = circuits;
}

-- the program with these circuits
abbrev pub program_of : Source → List Circuit → Program
program_of s circuits = program_over s s.names circuits

-- the names that have sorts, demon rules or delay words
abbrev pub declared_signs : Declared → List Sign
declared_signs d = map (λ e. e.0) d.sorts ++ (d.demons ++ map (λ e. e.0) d.delays)

-- a file's clauses are accepted, and this is their program, in which each declared name has a number too
pub record Loads (cs : List FormClause) (s : Source) : Type 0 where
  pub declares : directives cs ≡ record { refusal = None; declared = s.declared }
  pub rules : RulesRefusal s.declared (heads cs) (module_names cs) cs None
  pub program : (circuits : List Circuit) → IsProgram s.declared s.names (clauses_signs cs) (module_names cs) cs circuits (program_of s circuits)
  pub every_declared : list_all (has_sign s.names) (declared_signs s.declared) ≡ true
  pub heads : (a : Sign) → has_sign s.heads a ≡ has_sign (heads cs) a
  pub modules : AreNumbers (module_names cs) s.modules
