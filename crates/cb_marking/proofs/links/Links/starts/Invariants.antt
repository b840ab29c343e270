use Rattle.std.proofs.Common.{take}
use Rattle.cb_marking.specs.Search.{HasStarts}
use Rattle.cb_marking.proofs.links.Links.starts.Given as goal

abbrev pub invariant-loop-thing : goal.invariant-loop-thing
invariant-loop-thing l = HasStarts (take l.thing-index l.self.given) l.sort l.starts
