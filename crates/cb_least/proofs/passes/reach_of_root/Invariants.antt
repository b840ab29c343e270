use Rattle.std.proofs.Common.{◌≡◌, ℕ, ◌+◌, ◌-◌, ◌<◌, ◌≤◌, true, false, get_or}
use Rattle.cb_least.specs.Beginning.{IsReach}
use Rattle.cb_least.proofs.passes.reach_of_root.Given as goal

abbrev pub invariant-loop-at : goal.invariant-loop-at
invariant-loop-at l = record {
  low : 2 ≤ l.at;
  right : (n : ℕ) → n < l.at → get_or l.marks n false ≡ true → IsReach l.ops.triples l.prefix.order.now l.prefix.bits.now l.prefix.next n (get_or l.reaches n 0);
}

abbrev pub decreases-loop-at : goal.decreases-loop-at
decreases-loop-at l = l.root.0 + 1 - l.at
