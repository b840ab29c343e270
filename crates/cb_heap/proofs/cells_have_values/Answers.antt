use Rattle.cb_heap.proofs.Values.{has-reading}
use Rattle.cb_heap.proofs.Facts.{one-below, below-same, two-forms, differ-somewhere}
use Rattle.cb_heap.proofs.cells_have_values.Goals as goal

pub returns-clause-has_reading : goal.returns-clause-has_reading
returns-clause-has_reading c = λ t w u h. has-reading t w u h.sorts h.cells

pub returns-clause-one_below : goal.returns-clause-one_below
returns-clause-one_below c = λ w v g k h is all hg hk r less. one-below w v h.cells g k hg hk (λ j i _ n. is.linked.within j i n) r less (all r)

pub returns-clause-below_same : goal.returns-clause-below_same
returns-clause-below_same c = λ w v g k h is hg hk. below-same w v h.cells g k hg hk (λ j i _ n. is.linked.within j i n)

pub returns-clause-two_forms : goal.returns-clause-two_forms
returns-clause-two_forms c = λ t w h. two-forms t w h.sorts h.cells

pub returns-clause-differ_somewhere : goal.returns-clause-differ_somewhere
returns-clause-differ_somewhere c = λ t w h. differ-somewhere t w h.sorts h.cells
