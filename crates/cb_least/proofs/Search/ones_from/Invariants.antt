use Rattle.std.proofs.Common.{◌≤◌}
use Rattle.cb_least.specs.Beginning.{AreFound}
use Rattle.cb_least.proofs.Search.ones_from.Given as goal

abbrev pub invariant-loop-width : goal.invariant-loop-width
invariant-loop-width l = record {
  found : AreFound l.self.ops.now.triples l.self.order.now l.bits l.at l.self.root.0;
  on : l.next ≤ l.at;
}

abbrev pub decreases-loop-width : goal.decreases-loop-width
decreases-loop-width l = l.width
