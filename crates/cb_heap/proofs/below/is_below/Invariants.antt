use Rattle.std.proofs.Common.{◌≢◌, ◌-◌, length}
use Rattle.cb_heap.proofs.Search.{Searching}
use Rattle.cb_heap.proofs.below.is_below.Given as goal

abbrev pub invariant-cells : goal.invariant-cells
invariant-cells l = Searching l.cells l.from (λ n. n ≢ l.to) l.met.keys l.done

abbrev pub decreases-cells : goal.decreases-cells
decreases-cells l = length l.cells - l.done
