-- An accepted file, and the bytes that were loaded of one.
use Rattle.std.specs.Prelude.{◌≡◌, ℕ, ◌<◌, ◌≤◌, List, map, length, Option, Some, None}
use Rattle.cb_model.specs.Text.{Text}
use Rattle.cb_model.specs.Forms.{clause_form}
use Rattle.cb_model.specs.Written.{AreClauses}
use Rattle.cb_model.specs.Grammar.{FormClause}
use Rattle.cb_model.specs.Facts.{FactsRead, no_circuits}
use Rattle.cb_model.specs.Output.{Loaded}
use Rattle.cb_model.specs.Outside.{bytes_named}
use Rattle.cb_model.specs.Refusals.{Refused, file_too_long}
use Rattle.cb_sorts.specs.Source.{Loads}
use Rattle.cb_accept.specs.Refusals.{IsRead}
use Rattle.cb_accept.specs.declared.Accepted.{Accepted}

-- the clauses of an accepted file
abbrev pub forms : Accepted → List FormClause
forms a = map clause_form a.clauses.items

-- what an accepted file holds
abbrev pub holds : Accepted → Loaded
holds a = record { clauses = forms a; declared = a.program.declared; circuits = a.circuits }

-- these are the bytes, the clauses, the program and the circuits of an accepted file
pub record IsAccepted (a : Accepted) : Type 0 where
  pub read : IsRead a.text.now (forms a)
  pub written : AreClauses 4194304 (forms a)
  pub loads : Loads (forms a) a.program
  pub facts : FactsRead no_circuits (forms a) None a.circuits

-- where files are told, these are the bytes of the one of the name
abbrev pub IsTold : Option (List (Text × Text)) → Text → Text → Type 0
IsTold files name bytes = (list : List (Text × Text)) → files ≡ Some list → bytes ≡ bytes_named list name

-- the bytes of a file, which are no more than the limit
pub record IsLoaded (files : Option (List (Text × Text))) (name bytes : Text) : Type 0 where
  pub short : length bytes ≤ 4194304
  pub told : IsTold files name bytes

-- the file is too long
pub record IsLong (files : Option (List (Text × Text))) (name : Text) (r : Refused) : Type 0 where
  pub bytes : Text
  pub long : 4194304 < length bytes
  pub told : IsTold files name bytes
  pub is : r ≡ file_too_long
