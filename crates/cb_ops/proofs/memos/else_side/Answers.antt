use Rattle.cb_ops.proofs.Same.{same-zero}
use Rattle.cb_ops.proofs.memos.else_side.Goals as goal

pub returns-then-h-f : goal.returns-then-h-f
returns-then-h-f c = λ g. same-zero c.args.f.0 g c.args.h.0 c.if-h-f.true
