use Rattle.std.proofs.Common.{◌≡◌, ◌+◌, ◌≤◌, arith, ap, sym, subst, length, take, length-take}
use Rattle.cb_dd.specs.Diagram.{IsDiagram}
use Rattle.cb_ops.specs.Call.{IsMemo}
use Rattle.cb_ops.specs.Pair.{IsPairs}
use Rattle.cb_ops.proofs.Memo.{IsMemo-cut}
use Rattle.cb_ops.proofs.Pairs.{IsPairs-cut}
use Rattle.cb_ops.proofs.Ops.cut.Goals as goal

pub invariant_of-self : goal.invariant_of-self
invariant_of-self c =
    let e : c.self.inside.dd.triples ≡ c.args.self.now.triples = ap (λ s. s.triples) c.self.view_is in
    let kept : c.self.inside.bound ≤ length (take c.args.to c.self.inside.dd.triples) + 2 = omega (arith, length-take c.args.to c.self.inside.dd.triples, ap length e) in (
      subst (IsMemo c.self.inside.memo c.self.inside.bound) (sym c.cut.ensures.triples)
          (IsMemo-cut c.self.inside.memo c.self.inside.bound c.self.inside.dd.triples c.args.to (subst IsDiagram c.cut.ensures.triples c.cut.ensures.diagram) kept c.self.invariant.0),
      subst (IsPairs c.self.inside.pairs c.self.inside.bound) (sym c.cut.ensures.triples)
          (IsPairs-cut c.self.inside.pairs c.self.inside.bound c.self.inside.dd.triples c.args.to kept c.self.invariant.1),
      subst (IsMemo c.self.inside.old_memo c.self.inside.bound) (sym c.cut.ensures.triples)
          (IsMemo-cut c.self.inside.old_memo c.self.inside.bound c.self.inside.dd.triples c.args.to (subst IsDiagram c.cut.ensures.triples c.cut.ensures.diagram) kept c.self.invariant.2),
      subst (IsPairs c.self.inside.old_pairs c.self.inside.bound) (sym c.cut.ensures.triples)
          (IsPairs-cut c.self.inside.old_pairs c.self.inside.bound c.self.inside.dd.triples c.args.to kept c.self.invariant.3),
    )
