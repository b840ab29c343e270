use Rattle.std.proofs.Common.{◌≤◌, length, drop}
use Rattle.cb_unify.specs.Growth.{IsBusOf}
use Rattle.cb_unify.proofs.bus.elements.Given as goal

abbrev pub invariant-loop-k : goal.invariant-loop-k
invariant-loop-k l = record {
  within : l.k ≤ length l.nodes;
  bus : IsBusOf l.fn.state l.state (drop l.k l.nodes) l.at.0;
}

abbrev pub decreases-loop-k : goal.decreases-loop-k
decreases-loop-k l = l.k
