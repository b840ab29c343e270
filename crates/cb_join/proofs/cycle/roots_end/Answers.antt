use Rattle.std.proofs.Common.{◌≡◌, length, arith}
use Rattle.std.proofs.lemmas.List.{length-map}
use Rattle.cb_heap.specs.declared.Change.{Change}
use Rattle.cb_heap.specs.Moments.{changes_since, rewritten_since}
use Rattle.cb_join.proofs.Roots.{ends-all}
use Rattle.cb_join.proofs.cycle.roots_end.Goals as goal

pub returns-clause-ends : goal.returns-clause-ends
returns-clause-ends c _ =
    let e : length (rewritten_since c.args.since c.args.heap.now) ≡ length (changes_since c.args.since c.args.heap.now) = length-map (changes_since c.args.since c.args.heap.now) (λ (x : Change). x.cell) in
    ends-all c.args.heap.now c.args.since c.loop-k.k c.args.below (let a = c.loop-k-test.false in let b = c.count_bound-k-end.ensures in omega (arith, a, b, e)) c.loop-k.invariant.ends
