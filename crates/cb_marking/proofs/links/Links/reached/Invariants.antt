use Rattle.std.proofs.Common.{◌+◌, length}
use Rattle.cb_marking.specs.Search.{unseen}
use Rattle.cb_marking.proofs.Reach.{Reaching}
use Rattle.cb_marking.proofs.links.Links.reached.Given as goal

abbrev pub invariant-loop-thing : goal.invariant-loop-thing
invariant-loop-thing l = Reaching l.self l.fn.sort (length l.table) l.seen l.waiting

abbrev pub decreases-loop-thing : goal.decreases-loop-thing
decreases-loop-thing l = unseen l.seen + length l.waiting
