use Rattle.cb_ops.proofs.Same.{same-one}
use Rattle.cb_ops.proofs.memos.then_side.Goals as goal

pub returns-then-g-f : goal.returns-then-g-f
returns-then-g-f c = λ h. same-one c.args.f.0 c.args.g.0 h c.if-g-f.true
