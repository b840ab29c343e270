use Rattle.std.proofs.Common.{List, ℕ, length, get_or, sym, ◌∙◌, ap, subst, arith}
use Rattle.cb_model.specs.declared.Sort.{Sort}
use Rattle.cb_model.specs.declared.Sort.TheVariants as sort
use Rattle.cb_marking.specs.Search.{HasStarts}
use Rattle.cb_marking.proofs.Lists.{take_end}
use Rattle.cb_marking.proofs.SameSort.{same_sorts, other_sorts}
use Rattle.cb_marking.proofs.Table.{starts_next, starts_past}
use Rattle.cb_marking.proofs.links.Links.starts.Goals as goal
use Rattle.cb_marking.proofs.links.Links.starts.Goals.{then-is_sort+in_ok-push, else-is_sort}

pub loop-thing-preserved : goal.loop-thing-preserved
loop-thing-preserved c =
    let sort_at : ℕ → Sort = λ i. (get_or c.as_slice-thing-items.result.now i (0, sort.Bool)).1 in
    elim c.if-is_sort.branch [
      | then-is_sort+in_ok-push w ↦ starts_next c.args.self.now.given c.as_slice-thing-items.result.now c.as_slice-thing-items.ensures c.args.sort sort.Bool c.loop-thing.thing-index c.loop-thing-test.true
          c.loop-thing.starts c.loop-thing.invariant c.if-is_sort.starts (same_sorts (sort_at c.loop-thing.thing-index) c.args.sort (sym w.if-is_sort.ensures)) (w.starts-is ∙ w.in_ok-push.ensures.ok)
      | else-is_sort w ↦ starts_past c.args.self.now.given c.as_slice-thing-items.result.now c.as_slice-thing-items.ensures c.args.sort sort.Bool c.loop-thing.thing-index c.loop-thing-test.true
          c.loop-thing.starts c.loop-thing.invariant c.if-is_sort.starts (λ e. other_sorts (sort_at c.loop-thing.thing-index) c.args.sort (sym w.if-is_sort.ensures) (sym e)) w.starts-is
    ]

pub returns : goal.returns
returns c =
    subst (λ (l : List (ℕ × Sort)). HasStarts l c.args.sort c.loop-thing.starts)
    (take_end c.args.self.now.given c.loop-thing.thing-index (omega (arith, c.loop-thing-test.false, ap length c.as_slice-thing-items.ensures))) c.loop-thing.invariant
