use Rattle.std.proofs.Common.{◌≤◌, arith}
use Rattle.cb_ops.proofs.Memo.{IsMemo-same}
use Rattle.cb_ops.proofs.Ops.widen_memo.Goals as goal

pub invariant_of-self : goal.invariant_of-self
invariant_of-self c =
    let same : c.self.inside.bound ≤ c.self.inside.bound = omega arith in (
      IsMemo-same c.self.inside.memo c.reserve.new.self c.self.inside.bound c.self.inside.bound c.self.inside.dd.triples c.self.invariant.0 same c.self.invariant.0.within c.reserve.ensures.entries,
      c.self.invariant.1,
      c.self.invariant.2,
      c.self.invariant.3,
    )
