use Rattle.std.proofs.Common.{◌∙◌, arith}
use Rattle.cb_dd.proofs.Children.{bottom_child, top_child}
use Rattle.cb_ops.proofs.Ite.{literal-is}
use Rattle.cb_elim.proofs.expression.literal.Goals as goal

pub node-requires-clause-lo_child : goal.node-requires-clause-lo_child
node-requires-clause-lo_child c = bottom_child _ _ (omega (arith, c.ranges.level.fits))

pub node-requires-clause-hi_child : goal.node-requires-clause-hi_child
node-requires-clause-hi_child c = top_child _ _ (omega (arith, c.ranges.level.fits))

pub returns-clause-function : goal.returns-clause-function
returns-clause-function c = record { at = λ p. c.in_ok-n.ensures.function p ∙ literal-is c.args.ops.now.triples (p c.args.level) p }
