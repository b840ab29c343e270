use Rattle.std.proofs.Common.{◌<◌, length}
use Rattle.cb_heap.specs.Links.{chain, LeadsTo}
use Rattle.cb_join.proofs.cycle.follow.Given as goal

abbrev pub invariant-links : goal.invariant-links
invariant-links l = record {
  there : l.at < length l.heap.cells;
  leads : LeadsTo l.heap.cells l.from l.at;
}

abbrev pub decreases-links : goal.decreases-links
decreases-links l = chain l.heap.cells l.at
