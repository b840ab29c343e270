-- What accepted queries ask, what they print one after another, and what the definitions say of it.
use Rattle.std.proofs.Common.{ℕ, ◌^◌, ◌<◌, ◌≤◌, Bool, List, [], ◌∷◌, length, sum_by, refl, None, arith}
use Rattle.std.proofs.lemmas.List.Sums.{sum_by-cons}
use Rattle.cb_model.specs.Text.{Text}
use Rattle.cb_model.specs.Bits.{Each}
use Rattle.cb_model.specs.Commands.{Nodes, Max, Only}
use Rattle.cb_model.specs.Grammar.{FormClause, FormGoal, FormQuery}
use Rattle.cb_model.specs.Directives.{heads}
use Rattle.cb_model.specs.Loading.{module_names}
use Rattle.cb_model.specs.Program.{Program}
use Rattle.cb_model.specs.Derivation.{Query}
use Rattle.cb_model.specs.Line.{Names}
use Rattle.cb_model.specs.Output as model
use Rattle.cb_model.specs.Output.{Loaded, IsQuery, QueriesRefusal, QuerySays, QueriesSay, passes}
use Rattle.cb_sorts.specs.Source.{Source}
use Rattle.cb_sorts.specs.OverFile.{QueriesOverFile, asked_program, asked_query, asked_names}
use Rattle.cb_sorts.specs.Commits.{PlainFilesNeverCommit}
use Rattle.cb_sorts.specs.Asked.{Asked, Asks}
use Rattle.cb_branch.specs.Scope.{IsRunnable}
use Rattle.cb_branch.specs.Accepted.{AcceptedCanRun}
use Rattle.cb_tell.specs.Told as told
use Rattle.cb_tell.specs.Told.{QueryTells, QueryBegins}
use Rattle.cb_accept.specs.Refusals.{without_circuits}
use Rattle.cb_run.specs.Run as run
use Rattle.cb_run.specs.Run.{QueriesTell, no_queries, more_queries, QueriesBegin, InputBegins}
use Rattle.cb_run.specs.Running.{CanTell, AllTell, no_lines, more_lines, AllBegin, within, behind, IsOver, AllAsk, none_asked, more_asked}
use Rattle.cb_run.proofs.Plain.{declares-none, no-modules}

-- ---- what queries ask

-- a query of a file that has nothing which `run` doesn't take yet can be run
can-run : PlainFilesNeverCommit → AcceptedCanRun → (cs : List FormClause) (s : Source) → IsOver cs s → (gs : List FormGoal) (a : Asked) → length gs < 2 ^ 32 →
    Asks s.declared (heads cs) s.names (module_names cs) gs a → IsRunnable s a
can-run plain can cs s o gs a few h =
    let n = declares-none cs s.declared o.loads.declares o.built.built in
    can o.file (without_circuits cs s.declared) s gs a o.built.loaded refl o.loads few h (plain cs s gs a o.loads h n (no-modules cs o.built.built))

-- so all of a short input can be told
pub all-can-tell : PlainFilesNeverCommit → AcceptedCanRun → (cs : List FormClause) (s : Source) → IsOver cs s → (qs : List FormQuery) (ones : List Asked) → AllAsk cs s qs ones →
    sum_by (λ q. length q.goals) qs ≤ 1048576 → Each (CanTell s) ones
all-can-tell plain can cs s o [] [] none_asked m = tt
all-can-tell plain can cs s o [] (a ∷ ones) k m = elim k [ ]
all-can-tell plain can cs s o (q ∷ qs) [] k m = elim k [ ]
all-can-tell plain can cs s o (q ∷ qs) (a ∷ ones) (more_asked h hs) m =
    let e = sum_by-cons (λ (q : FormQuery). length q.goals) q qs in
    (record { runnable = can-run plain can cs s o q.goals a (omega arith) h; behind = h.before }, all-can-tell plain can cs s o qs ones hs (omega arith))

-- none of them is refused
pub all-accepted : (cs : List FormClause) (s : Source) (qs : List FormQuery) (ones : List Asked) → AllAsk cs s qs ones → QueriesRefusal (without_circuits cs s.declared) qs None
all-accepted cs s [] [] none_asked = model.none
all-accepted cs s [] (a ∷ ones) k = elim k [ ]
all-accepted cs s (q ∷ qs) [] k = elim k [ ]
all-accepted cs s (q ∷ qs) (a ∷ ones) (more_asked h hs) = passes h.accepted (all-accepted cs s qs ones hs)

-- ---- what they say

module _ (meant : QueriesOverFile) (cs : List FormClause) (s : Source) (over : IsOver cs s) (resolutions : ℕ) (nodes : Nodes) where
  abbrev file : Loaded
  file = without_circuits cs s.declared

  is-query : (gs : List FormGoal) (a : Asked) → Asks s.declared (heads cs) s.names (module_names cs) gs a → IsQuery file gs (asked_program s a []) (asked_query a) (asked_names s a)
  is-query gs a h = meant file s gs a over.written refl over.loads h

  pub all-tell : (qs : List FormQuery) (ones : List Asked) (lines : List Text) (stop : Bool) → AllAsk cs s qs ones → AllTell s resolutions nodes ones lines stop →
      QueriesTell file resolutions nodes qs lines stop
  all-tell [] [] lines stop none_asked no_lines = no_queries
  all-tell [] (a ∷ ones) lines stop k t = elim k [ ]
  all-tell (q ∷ qs) [] lines stop k t = elim k [ ]
  all-tell (q ∷ qs) (a ∷ ones) lines stop (more_asked h hs) (more_lines first rest x y t ts e f) =
      more_queries (asked_program s a []) (asked_query a) (asked_names s a) first rest x y (is-query q.goals a h) t (all-tell qs ones rest y hs ts) e f

  pub all-begin : (qs : List FormQuery) (ones : List Asked) (text : Text) → AllAsk cs s qs ones → AllBegin s resolutions nodes ones text → QueriesBegin file resolutions nodes qs text
  all-begin [] [] text k t = elim t [ ]
  all-begin [] (a ∷ ones) text k t = elim k [ ]
  all-begin (q ∷ qs) [] text k t = elim k [ ]
  all-begin (q ∷ qs) (a ∷ ones) text (more_asked h hs) (within b) = run.within (asked_program s a []) (asked_query a) (asked_names s a) (is-query q.goals a h) b
  all-begin (q ∷ qs) (a ∷ ones) text (more_asked h hs) (behind lines x rest t ts e) =
      run.behind (asked_program s a []) (asked_query a) (asked_names s a) lines x rest (is-query q.goals a h) t (all-begin qs ones rest hs ts) e

-- ---- under the greatest budget it is what the definitions say

module _ {p : Program} {q : Query} {names : Names} {resolutions : ℕ} where
  said : {lines : List Text} {stop : Bool} → QueryTells p q names resolutions Max lines stop → QuerySays p q names resolutions Max lines stop
  said (told.said h) = h
  said (told.few ns used s xs so l n number e) = absurd number

module _ {l : Loaded} {resolutions : ℕ} where
  pub all-said : (qs : List FormQuery) (lines : List Text) (stop : Bool) → QueriesTell l resolutions Max qs lines stop → QueriesSay l resolutions Max qs lines stop
  all-said [] lines stop no_queries = model.no_queries
  all-said (x ∷ xs) lines stop (more_queries p q names first rest s t i h k e f) = model.more_queries p q names first rest s t i (said h) (all-said xs rest t k) e f

  begun : {x : FormQuery} {xs : List FormQuery} {text : Text} (p : Program) (q : Query) (names : Names) → IsQuery l x.goals p q names → QueryBegins p q names resolutions Max text →
      model.QueriesBegin l resolutions Max (x ∷ xs) text
  begun p q names i (told.so_far ns used s xs so h e) = model.within p q names ns used s xs i so h e
  begun p q names i (told.of_all lines stop t e) = model.in_last p q names lines stop i (said t) e

  all-begun : (qs : List FormQuery) (text : Text) → QueriesBegin l resolutions Max qs text → model.QueriesBegin l resolutions Max qs text
  all-begun [] text k = elim k [ ]
  all-begun (x ∷ xs) text (run.within p q names i b) = begun p q names i b
  all-begun (x ∷ xs) text (run.behind p q names ls stop rest i t k e) = model.behind p q names ls stop rest i (said t) (all-begun xs rest k) e

  -- what queries have printed so far, under any budget
  pub begun-so-far : (nodes : Nodes) (qs : List FormQuery) (text : Text) → QueriesBegin l resolutions nodes qs text → InputBegins l resolutions nodes qs text
  begun-so-far Max qs text k = run.says (all-begun qs text k)
  begun-so-far (Only n) qs text k = run.few tt k
