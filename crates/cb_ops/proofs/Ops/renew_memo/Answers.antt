use Rattle.std.proofs.Common.{sym, subst}
use Rattle.cb_ops.specs.Call.{IsMemo}
use Rattle.cb_ops.proofs.Memo.{IsMemo-empty}
use Rattle.cb_ops.proofs.Ops.renew_memo.Goals as goal

pub invariant_of-self : goal.invariant_of-self
invariant_of-self c = (
  IsMemo-empty c.self.inside.memo c.clear.new.self c.self.inside.bound c.self.inside.dd.triples c.self.invariant.0 c.clear.ensures.empty,
  c.self.invariant.1,
  subst (λ m. IsMemo m c.self.inside.bound c.self.inside.dd.triples) (sym c.swap.ensures.y_after) c.self.invariant.0,
  c.self.invariant.3,
)
