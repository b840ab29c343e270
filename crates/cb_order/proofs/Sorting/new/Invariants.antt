use Rattle.std.proofs.Common.{◌≡◌, [], map, replicate}
use Rattle.cb_order.proofs.Sorting.new.Given as goal

abbrev pub invariant-loop : goal.invariant-loop
invariant-loop l = map (λ v. v.items) l.waiting.items ≡ replicate l.counter []
