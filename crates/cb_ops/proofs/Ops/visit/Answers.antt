use Rattle.std.proofs.Common.{refl}
use Rattle.cb_ops.proofs.Replaced.{made-constant, made-behind}
use Rattle.cb_ops.proofs.Ops.visit.Goals as goal

pub returns-in_default-clause-down : goal.returns-in_default-clause-down
returns-in_default-clause-down c = (refl, made-constant c.args.list.now c.args.self.now.triples c.args.n.0 c.requires.node c.in_default.ensures.constant.1)

pub returns-then-are_below-clause-down : goal.returns-then-are_below-clause-down
returns-then-are_below-clause-down c = (refl, made-behind c.args.list.now c.args.self.now.triples c.count-count.ensures.diagram c.args.n.0 c.in-Some.at c.requires.node c.in-Some.ensures.inner.at (c.are_below.ensures c.if-are_below.true))
