use Rattle.std.proofs.Common.{ℕ, ◌+◌, length, ◌≤◌}
use Rattle.cb_wake.specs.Waits.{IsScanned, Waits, waiting, waiting_from}
use Rattle.cb_wake.proofs.Scans.{AreTaking}
use Rattle.cb_wake.proofs.take_all.Given as goal

abbrev how_many : Waits → ℕ
how_many w = length (waiting w)

abbrev pub invariant-loop-k : goal.invariant-loop-k
invariant-loop-k g l = record {
  kept : g.T.Tester.keeps l.fn.tester l.tester;
  stops : g.T.Tester.stops l.fn.tester ≤ g.T.Tester.stops l.tester;
  taking : AreTaking (g.T.Tester.is_ready l.fn.tester) l.fn.waits l.waits l.woken.items;
  asked : g.T.Tester.tests l.tester + length (waiting_from l.from l.waits.still) ≤ g.T.Tester.tests l.fn.tester + length (waiting l.fn.waits);
  scanned : IsScanned (g.T.Tester.is_ready l.fn.tester) l.waits.still l.from;
}

abbrev pub decreases-loop-k : goal.decreases-loop-k
decreases-loop-k g l = how_many l.waits
