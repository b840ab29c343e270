use Rattle.std.proofs.Common.{◌∙◌, inl, inr, subst, arith}
use Rattle.std.proofs.lemmas.List.Sorted.{IsNonDecreasingBy-from_sort}
use Rattle.std.proofs.lemmas.Map.Keys.{IsStrictlyIncreasing-from_distinct}
use Rattle.std.specs.Prelude.{ℕ}
use Rattle.cb_trail.specs.Uses.{IsUsed}
use Rattle.cb_elim.proofs.Moved.{levels-all, levels-cases}
use Rattle.cb_elim.proofs.watch.dependents.Goals as goal

pub loop-level-preserved : goal.loop-level-preserved
loop-level-preserved c = record {
  below = λ x h. elim (c.slots.ensures.below x h) [ inl less ↦ less | inr old ↦ c.loop-level.invariant.below x old ];
  whole = λ k x t listed less u. elim (levels-cases c.args.images.now c.loop-level.level-index (0, record { 0 = 0 }) k c.loop-level-test.true listed) [
    | inl before ↦ c.slots.ensures.kept x (c.loop-level.invariant.whole k x t before less u)
    | inr e ↦ c.in_ok-slots.ensures.found x t less (subst (λ j. IsUsed c.args.uses.now j x t) e u)
  ];
}

pub returns-clause-rise : goal.returns-clause-rise
returns-clause-rise c =
    IsStrictlyIncreasing-from_distinct c.sort.new.self.keys (IsNonDecreasingBy-from_sort (λ (x : ℕ). x) c.sort.new.self.keys c.in_ok-sort.ensures.sorted) c.sort.ensures.unique

pub returns-clause-whole : goal.returns-clause-whole
returns-clause-whole c = λ l x t listed less u.
    c.sort.ensures.reordered.2 x ∙ c.loop-level.invariant.whole l x t (levels-all c.args.images.now c.loop-level.level-index l (omega (arith, c.loop-level.auto.level-index-end, c.loop-level-test.false)) listed) less u
