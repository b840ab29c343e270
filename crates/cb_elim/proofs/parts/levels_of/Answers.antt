use Rattle.std.proofs.lemmas.List.Sorted.{IsNonDecreasingBy-from_sort}
use Rattle.std.proofs.lemmas.Map.Keys.{IsStrictlyIncreasing-from_distinct}
use Rattle.std.specs.Prelude.{ℕ}
use Rattle.cb_elim.proofs.Parting.{levels-end, levels-next}
use Rattle.cb_elim.proofs.parts.levels_of.Goals as goal

pub loop-part-preserved : goal.loop-part-preserved
loop-part-preserved c =
    levels-next c.args.constants c.args.ops.now.triples c.args.parts.now c.loop-part.part-index _ c.loop-part.levels.keys c.gather.new.levels.keys c.in_ok-support.support.items c.loop-part.invariant c.loop-part-test.true
    c.in_ok-support.ensures.enough c.in_ok-support.ensures.needed c.gather.ensures.kept (rw c.as_slice.ensures at c.gather.ensures.from) (rw c.as_slice.ensures at c.in_ok-gather.ensures.whole)

pub returns : goal.returns
returns c =
    levels-end c.args.constants c.args.ops.now.triples c.args.parts.now c.loop-part.part-index c.loop-part.levels.keys c.sort.new.self.keys c.reverse.new.self.keys c.loop-part.invariant c.loop-part-test.false
    (IsStrictlyIncreasing-from_distinct c.sort.new.self.keys (IsNonDecreasingBy-from_sort (λ (x : ℕ). x) c.sort.new.self.keys c.in_ok-sort.ensures.sorted) c.sort.ensures.unique)
    (λ l. c.sort.ensures.reordered.2 l) c.reverse.ensures.keys
