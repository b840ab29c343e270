-- Goals that never commit: each of them is true, fails, is an equation, or calls a name whose clauses are tried in turn.
use Rattle.std.specs.Prelude.{◌≡◌, ℕ, false, List, [], Some, slice_get}
use Rattle.cb_model.specs.declared.Goal.{Goal}
use Rattle.cb_model.specs.declared.Goal.TheVariants as goal
use Rattle.cb_model.specs.declared.Clause.{Clause}
use Rattle.cb_model.specs.Bits.{Each}
use Rattle.cb_model.specs.Grammar.{FormClause, FormGoal}
use Rattle.cb_model.specs.Directives.{heads}
use Rattle.cb_model.specs.Loading.{module_names}
use Rattle.cb_model.specs.Program.{Program}
use Rattle.cb_model.specs.Derivation.{is_demon}
use Rattle.cb_sorts.specs.Source.{Source, Loads}
use Rattle.cb_sorts.specs.Asked.{Asked, Asks}
use Rattle.cb_sorts.specs.OverFile.{asked_program}

-- a goal that never commits: it is no circuit's, and the name that it calls is no demon's
abbrev pub NeverCommits : Program → Goal → Type 0
NeverCommits p (goal.Circuit m ins outs) = ⊥
NeverCommits p (goal.Call pred args) = is_demon p pred ≡ false
NeverCommits p _ = Unit {0}

-- no goal of the program's clauses or of the query commits
pub record NothingCommits (s : Source) (a : Asked) : Type 0 where
  pub clauses : (k : ℕ) (c : Clause) → slice_get s.clauses k ≡ Some c → Each (NeverCommits (asked_program s a [])) c.body
  pub goals : Each (NeverCommits (asked_program s a [])) a.goals

-- nothing commits where a file declares no demon rules, and has no module
abbrev pub PlainFilesNeverCommit : Type 0
PlainFilesNeverCommit = (cs : List FormClause) (s : Source) (gs : List FormGoal) (a : Asked) → Loads cs s → Asks s.declared (heads cs) s.names (module_names cs) gs a →
    s.declared.demons ≡ [] → module_names cs ≡ [] → NothingCommits s a
