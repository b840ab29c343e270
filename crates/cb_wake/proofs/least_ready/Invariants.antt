use Rattle.std.proofs.Common.{◌≤◌, ◌+◌, length}
use Rattle.cb_wake.specs.Waits.{IsScanned, waiting_from}
use Rattle.cb_wake.proofs.least_ready.Given as goal

abbrev pub invariant-loop-k : goal.invariant-loop-k
invariant-loop-k g l = record {
  kept : g.T.Tester.keeps l.fn.tester l.tester;
  stops : g.T.Tester.stops l.fn.tester ≤ g.T.Tester.stops l.tester;
  tests : g.T.Tester.tests l.tester + length (waiting_from l.k l.still) ≤ g.T.Tester.tests l.fn.tester + length (waiting_from l.fn.from l.still);
  scanned : IsScanned (g.T.Tester.is_ready l.fn.tester) l.still l.k;
}
