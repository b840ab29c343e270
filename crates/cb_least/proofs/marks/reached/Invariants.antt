use Rattle.std.proofs.Common.{◌≤◌}
use Rattle.cb_least.specs.Beginning.{AreMarks}
use Rattle.cb_least.proofs.marks.reached.Given as goal

abbrev pub invariant-loop-at : goal.invariant-loop-at
invariant-loop-at l = record {
  within : l.at ≤ l.fn.root.0;
  marks : AreMarks l.ops.triples l.fn.root.0 l.at l.marks.items;
}

abbrev pub decreases-loop-at : goal.decreases-loop-at
decreases-loop-at l = l.at
