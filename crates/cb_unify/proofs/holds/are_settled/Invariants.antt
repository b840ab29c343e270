use Rattle.std.proofs.Common.{◌-◌, length}
use Rattle.cb_heap.proofs.Search.{Searching}
use Rattle.cb_unify.proofs.Settled.{SettlesAt}
use Rattle.cb_unify.proofs.holds.are_settled.Given as goal

abbrev pub invariant-cells : goal.invariant-cells
invariant-cells l = Searching l.heap.cells l.fn.r.0 (SettlesAt l.store l.when l.heap.cells) l.met.keys l.done

abbrev pub decreases-cells : goal.decreases-cells
decreases-cells l = length l.heap.cells - l.done
