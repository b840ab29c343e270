use Rattle.std.proofs.Common.{◌≡◌, ◌≤◌, ◌+◌, ◌-◌, length}
use Rattle.cb_host.specs.Host.{Took}
use Rattle.cb_host.proofs.read_within.Given as goal

abbrev pub invariant-loop-piece : goal.invariant-loop-piece
invariant-loop-piece g l = record {
  within : length l.into.items ≤ l.limit + 1;
  taken : Took (g.I.Source.left l.initial.source) (g.I.Source.left l.source) l.into.items;
  count : g.I.Source.faults l.source ≡ g.I.Source.faults l.initial.source;
}

abbrev pub decreases-loop-piece : goal.decreases-loop-piece
decreases-loop-piece g l = l.limit + 1 - length l.into.items
