use Rattle.std.proofs.Common.{◌≡◌, [], replicate}
use Rattle.cb_marking.proofs.links.unlinked.Given as goal

abbrev pub invariant-loop : goal.invariant-loop
invariant-loop l = l.table.items ≡ replicate l.counter []
