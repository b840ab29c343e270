use Rattle.std.proofs.Common.{◌<◌, length}
use Rattle.cb_heap.specs.Links.{chain, LeadsTo}
use Rattle.cb_heap.proofs.last_of.Given as goal

abbrev pub invariant-links : goal.invariant-links
invariant-links l = record {
  there : l.at < length l.cells;
  leads : LeadsTo l.cells l.fn.r.0 l.at;
}

abbrev pub decreases-links : goal.decreases-links
decreases-links l = chain l.cells l.at
