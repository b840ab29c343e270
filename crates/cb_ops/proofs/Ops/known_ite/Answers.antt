use Rattle.cb_ops.proofs.Ite.{ite-one, ite-zero, ite-plain}
use Rattle.cb_ops.proofs.Same.{same-then, same-answer}
use Rattle.cb_ops.proofs.Ops.known_ite.Goals as goal

pub returns-then-f-eq1-clause-ite : goal.returns-then-f-eq1-clause-ite
returns-then-f-eq1-clause-ite c = ite-one c.args.self.now.triples c.args.f.0 c.args.g.0 c.args.h.0 c.if-f-eq1.true

pub returns-then-f-eq0-clause-ite : goal.returns-then-f-eq0-clause-ite
returns-then-f-eq0-clause-ite c = ite-zero c.args.self.now.triples c.args.f.0 c.args.g.0 c.args.h.0 c.if-f-eq0.true

pub returns-then-else_side-eq0-clause-ite : goal.returns-then-else_side-eq0-clause-ite
returns-then-else_side-eq0-clause-ite c =
    let ts = c.args.self.now.triples in
    let sides = same-then c.args.f.0 c.args.g.0 c.args.h.0 c.args.f.0 c.then_side-then_side.result.0 c.args.h.0 c.args.f.0 c.then_side-then_side.result.0 c.else_side-else_side.result.0 (c.then_side-then_side.ensures c.args.h.0) (c.else_side-else_side.ensures c.then_side-then_side.result.0) in
    same-answer ts c.args.f.0 c.args.g.0 c.args.h.0 c.args.f.0 c.then_side-then_side.result.0 c.else_side-else_side.result.0 c.args.f.0 sides
    (ite-plain ts c.args.f.0 c.then_side-then_side.result.0 c.else_side-else_side.result.0 c.if-then_side-eq1.true c.if-else_side-eq0.true)
