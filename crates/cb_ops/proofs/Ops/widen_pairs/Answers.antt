use Rattle.std.proofs.Common.{◌≤◌, arith}
use Rattle.cb_ops.proofs.Pairs.{IsPairs-same}
use Rattle.cb_ops.proofs.Ops.widen_pairs.Goals as goal

pub invariant_of-self : goal.invariant_of-self
invariant_of-self c =
    let same : c.self.inside.bound ≤ c.self.inside.bound = omega arith in (
      c.self.invariant.0,
      IsPairs-same c.self.inside.pairs c.reserve.new.self c.self.inside.bound c.self.inside.bound c.self.inside.dd.triples c.self.invariant.1 same c.reserve.ensures.entries,
      c.self.invariant.2,
      c.self.invariant.3,
    )
