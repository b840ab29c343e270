use Rattle.std.proofs.Common.{length}
use Rattle.cb_trail.specs.Uses.{IsLinked, StaysUsed}
use Rattle.cb_trail.proofs.uses.cut_from.Given as goal

abbrev pub invariant-cut : goal.invariant-cut
invariant-cut l = record {
  linked : IsLinked l.uses.items l.before.items l.last.items;
  stays : StaysUsed l.slots l.changes l.initial.uses.items l.uses.items;
}

abbrev pub decreases-cut : goal.decreases-cut
decreases-cut l = length l.uses.items
