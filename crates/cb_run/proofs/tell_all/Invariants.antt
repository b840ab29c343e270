use Rattle.std.proofs.Common.{◌≡◌, drop}
use Rattle.cb_model.specs.Commands.{budget_of}
use Rattle.cb_lines.specs.Words.{nodes_view}
use Rattle.cb_run.proofs.Steps.{ToldSoFar}
use Rattle.cb_run.proofs.tell_all.Given as goal

abbrev pub invariant-loop-query : goal.invariant-loop-query
invariant-loop-query g l = record {
  told : ToldSoFar l.program l.resolutions (nodes_view l.fn.nodes) l.queries (g.O.Sink.written l.initial.out) (drop l.query-index l.queries) (g.O.Sink.written l.out) l.stopped;
  kept : g.O.Sink.faults l.out ≡ g.O.Sink.faults l.initial.out;
  budget : l.budget ≡ budget_of (nodes_view l.fn.nodes);
}
