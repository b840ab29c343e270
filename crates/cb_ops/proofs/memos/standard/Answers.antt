use Rattle.cb_ops.specs.Call.{IsSameCall}
use Rattle.cb_ops.proofs.Same.{same-then, same-and, same-or}
use Rattle.cb_ops.proofs.memos.standard.Goals as goal

pub returns : goal.returns
returns c = same-then c.args.f.0 c.args.g.0 c.args.h.0 c.args.f.0 c.then_side-g.result.0 c.args.h.0 c.args.f.0 c.then_side-g.result.0 c.else_side-h.result.0 (c.then_side-g.ensures c.args.h.0) (c.else_side-h.ensures c.then_side-g.result.0)

pub returns-then-g-f : goal.returns-then-g-f
returns-then-g-f c =
    let sides : IsSameCall c.args.f.0 c.args.g.0 c.args.h.0 c.args.f.0 c.then_side-g.result.0 c.else_side-h.result.0
    = same-then c.args.f.0 c.args.g.0 c.args.h.0 c.args.f.0 c.then_side-g.result.0 c.args.h.0 c.args.f.0 c.then_side-g.result.0 c.else_side-h.result.0 (c.then_side-g.ensures c.args.h.0) (c.else_side-h.ensures c.then_side-g.result.0) in
    same-then c.args.f.0 c.args.g.0 c.args.h.0 c.args.f.0 c.then_side-g.result.0 c.else_side-h.result.0 c.then_side-g.result.0 c.args.f.0 c.else_side-h.result.0 sides
    (same-and c.args.f.0 c.then_side-g.result.0 c.else_side-h.result.0 c.if-h-eq0.true)

pub returns-then-h-f : goal.returns-then-h-f
returns-then-h-f c =
    let sides : IsSameCall c.args.f.0 c.args.g.0 c.args.h.0 c.args.f.0 c.then_side-g.result.0 c.else_side-h.result.0
    = same-then c.args.f.0 c.args.g.0 c.args.h.0 c.args.f.0 c.then_side-g.result.0 c.args.h.0 c.args.f.0 c.then_side-g.result.0 c.else_side-h.result.0 (c.then_side-g.ensures c.args.h.0) (c.else_side-h.ensures c.then_side-g.result.0) in
    same-then c.args.f.0 c.args.g.0 c.args.h.0 c.args.f.0 c.then_side-g.result.0 c.else_side-h.result.0 c.else_side-h.result.0 c.then_side-g.result.0 c.args.f.0 sides
    (same-or c.args.f.0 c.then_side-g.result.0 c.else_side-h.result.0 c.if-g-eq1.true)
