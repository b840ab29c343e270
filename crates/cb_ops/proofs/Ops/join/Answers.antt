use Rattle.std.proofs.Common.{arith}
use Rattle.std.proofs.lemmas.Result.{IfOk-weaker}
use Rattle.cb_dd.proofs.Children.{bottom_child, top_child}
use Rattle.cb_ops.proofs.Substitute.{own-joined, own-room}
use Rattle.cb_ops.proofs.Ops.join.Goals as goal

pub node-requires-2-clause-lo_child : goal.node-requires-2-clause-lo_child
node-requires-2-clause-lo_child c = bottom_child _ _ (omega (arith, c.ranges.level.fits))

pub node-requires-2-clause-hi_child : goal.node-requires-2-clause-hi_child
node-requires-2-clause-hi_child c = top_child _ _ (omega (arith, c.ranges.level.fits))

pub returns-clause-function : goal.returns-clause-function
returns-clause-function c = IfOk-weaker c.ite.result _ _ (λ r h. own-joined c.args.self.now c.node-2.new.self c.ite.new.self c.node-2.ensures.grows c.args.level c.in_ok-own.own.0 c.args.low.0 c.args.high.0 r.0 c.requires.low c.requires.high c.in_ok-own.ensures.function h) c.ite.ensures.function

pub returns-clause-room : goal.returns-clause-room
returns-clause-room c = own-room c.args.self.now c.node-2.new.self c.ite.new.self c.node-2.ensures.grows c.args.level c.in_ok-own.own.0 c.args.low.0 c.args.high.0 c.requires.low c.requires.high c.in_ok-own.ensures.function c.node-2.ensures.one c.ite.ensures.made.room
