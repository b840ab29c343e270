use Rattle.std.proofs.Common.{◌-◌, length}
use Rattle.cb_least.specs.Beginning.{AreFound}
use Rattle.cb_least.proofs.Search.find.Given as goal

abbrev pub invariant-loop-next : goal.invariant-loop-next
invariant-loop-next l = AreFound l.self.ops.now.triples l.self.order.now l.bits l.next l.self.root.0

abbrev pub decreases-loop-next : goal.decreases-loop-next
decreases-loop-next l = length l.self.order.now - l.next
