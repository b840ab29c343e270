use Rattle.cb_cases.proofs.Constants.{zero-argument, one-argument}
use Rattle.cb_cases.proofs.together.are_refused.Goals as goal

pub equate_all-requires-clause-pairs : goal.equate_all-requires-clause-pairs
equate_all-requires-clause-pairs c = (
  (c.value-y.ensures.argument, c.value-x.ensures.argument),
  ((c.value-x.ensures.argument, one-argument c.constant.new.self c.constant.ensures.store), ((c.value-y.ensures.argument, zero-argument c.constant.new.self c.constant.ensures.store), tt)),
)
