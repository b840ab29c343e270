-- That what is accepted can be run, where nothing commits.
use Rattle.std.specs.Prelude.{◌≡◌, ◌<◌, ◌^◌, List, length}
use Rattle.cb_model.specs.Text.{Text}
use Rattle.cb_model.specs.Grammar.{FormGoal}
use Rattle.cb_model.specs.Directives.{heads}
use Rattle.cb_model.specs.Loading.{module_names}
use Rattle.cb_model.specs.Output.{Loaded, IsLoaded}
use Rattle.cb_sorts.specs.Source.{Source, Loads}
use Rattle.cb_sorts.specs.Asked.{Asked, Asks}
use Rattle.cb_sorts.specs.Commits.{NothingCommits}
use Rattle.cb_branch.specs.Scope.{IsRunnable}

-- the program of an accepted file and an accepted query over it can be run, where nothing commits: then each goal is true,
-- fails, is an equation, or calls a name whose clauses are tried in turn, perhaps after a wait
abbrev pub AcceptedCanRun : Type 0
AcceptedCanRun =
    (file : Text) (l : Loaded) (s : Source) (gs : List FormGoal) (a : Asked) → IsLoaded file l →
    l.declared ≡ s.declared → Loads l.clauses s → length gs < 2 ^ 32 →
    Asks s.declared (heads l.clauses) s.names (module_names l.clauses) gs a → NothingCommits s a → IsRunnable s a
