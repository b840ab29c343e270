use Rattle.std.proofs.Common.{take}
use Rattle.cb_marking.specs.Search.{IsTable}
use Rattle.cb_marking.proofs.links.Links.table.Given as goal

abbrev pub invariant-loop-thing : goal.invariant-loop-thing
invariant-loop-thing l = IsTable (take l.thing-index l.self.edges) l.things l.table.items
