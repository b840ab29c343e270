use Rattle.cb_marking.specs.Marks.{AreSorts}
use Rattle.cb_marking.proofs.links.Links.sorts.Given as goal

abbrev pub invariant-loop-thing : goal.invariant-loop-thing
invariant-loop-thing l = AreSorts l.self l.thing l.sorts
