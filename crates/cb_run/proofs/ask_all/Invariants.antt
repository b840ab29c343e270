use Rattle.std.proofs.Common.{List}
use Rattle.cb_model.specs.Grammar.{FormClause}
use Rattle.cb_run.specs.Running.{IsOver}
use Rattle.cb_run.proofs.Steps.{AskedAt}
use Rattle.cb_run.proofs.ask_all.Given as goal

abbrev pub invariant-loop-query : goal.invariant-loop-query
invariant-loop-query l = (cs : List FormClause) → IsOver cs l.program → AskedAt cs l.program l.raw l.query-index l.queries.items
