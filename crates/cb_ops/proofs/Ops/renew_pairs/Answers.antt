use Rattle.std.proofs.Common.{sym, subst}
use Rattle.cb_ops.specs.Pair.{IsPairs}
use Rattle.cb_ops.proofs.Pairs.{IsPairs-empty}
use Rattle.cb_ops.proofs.Ops.renew_pairs.Goals as goal

pub invariant_of-self : goal.invariant_of-self
invariant_of-self c = (
  c.self.invariant.0,
  IsPairs-empty c.clear.new.self c.self.inside.bound c.self.inside.dd.triples c.clear.ensures.empty,
  c.self.invariant.2,
  subst (λ m. IsPairs m c.self.inside.bound c.self.inside.dd.triples) (sym c.swap.ensures.y_after) c.self.invariant.1,
)
