use Rattle.std.proofs.Common.{take}
use Rattle.cb_marking.specs.Search.{Visited}
use Rattle.cb_marking.proofs.links.visit_all.Given as goal

abbrev pub invariant-loop-thing : goal.invariant-loop-thing
invariant-loop-thing l = Visited (take l.thing-index l.things) l.initial.seen l.initial.waiting l.seen l.waiting
