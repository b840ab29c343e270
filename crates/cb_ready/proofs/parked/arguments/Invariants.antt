use Rattle.std.proofs.Common.{suc, ◌-◌, ◌≤◌, length}
use Rattle.cb_ready.specs.Parked.{AreFrom}
use Rattle.cb_ready.proofs.parked.arguments.Given as goal

abbrev pub invariant-cells : goal.invariant-cells
invariant-cells l = AreFrom (suc l.fn.compound.0) l.args.items × (length l.args.items ≤ l.fn.count)

abbrev pub decreases-cells : goal.decreases-cells
decreases-cells l = l.fn.count - length l.args.items
