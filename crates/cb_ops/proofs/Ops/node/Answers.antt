use Rattle.std.proofs.Common.{sym, subst}
use Rattle.cb_dd.specs.Diagram.{IsDiagram}
use Rattle.cb_ops.specs.Call.{IsMemo}
use Rattle.cb_ops.specs.Pair.{IsPairs}
use Rattle.cb_ops.proofs.Memo.{IsMemo-append}
use Rattle.cb_ops.proofs.Pairs.{IsPairs-append}
use Rattle.cb_ops.proofs.Ops.node.Goals as goal

pub invariant_of-self : goal.invariant_of-self
invariant_of-self c =
    let e = c.node.ensures.extends in (
      subst (IsMemo c.self.inside.memo c.self.inside.bound) (sym e.triples) (IsMemo-append c.self.inside.memo c.self.inside.bound c.self.inside.dd.triples e.more (subst IsDiagram e.triples c.node.ensures.diagram) c.self.invariant.0),
      subst (IsPairs c.self.inside.pairs c.self.inside.bound) (sym e.triples) (IsPairs-append c.self.inside.pairs c.self.inside.bound c.self.inside.dd.triples e.more c.self.invariant.0.within c.self.invariant.1),
      subst (IsMemo c.self.inside.old_memo c.self.inside.bound) (sym e.triples) (IsMemo-append c.self.inside.old_memo c.self.inside.bound c.self.inside.dd.triples e.more (subst IsDiagram e.triples c.node.ensures.diagram) c.self.invariant.2),
      subst (IsPairs c.self.inside.old_pairs c.self.inside.bound) (sym e.triples) (IsPairs-append c.self.inside.old_pairs c.self.inside.bound c.self.inside.dd.triples e.more c.self.invariant.0.within c.self.invariant.3),
    )
