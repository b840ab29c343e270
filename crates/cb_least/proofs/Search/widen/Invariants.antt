use Rattle.std.proofs.Common.{◌≤◌}
use Rattle.cb_least.specs.Beginning.{AreFound}
use Rattle.cb_least.proofs.Search.widen.Given as goal

abbrev pub invariant-loop : goal.invariant-loop
invariant-loop l = record {
  found : AreFound l.self.ops.now.triples l.self.order.now l.bits l.at l.self.root.0;
  on : l.next ≤ l.at;
}
