use Rattle.std.proofs.Common.{arith}
use Rattle.cb_dd.proofs.Children.{bottom_child, top_child}
use Rattle.cb_ops.proofs.Ite.{Grows-then}
use Rattle.cb_ops.proofs.Substitute.{grown-nodes}
use Rattle.cb_ops.proofs.Turns.{lower-grown}
use Rattle.cb_solution.proofs.Steps.{image-is, image-room, turned-room, own-room}
use Rattle.cb_solution.proofs.image.Goals as goal

pub node-requires-clause-lo_child : goal.node-requires-clause-lo_child
node-requires-clause-lo_child c = bottom_child _ _ (omega (arith, c.ranges.level.fits))

pub node-requires-clause-hi_child : goal.node-requires-clause-hi_child
node-requires-clause-hi_child c = top_child _ _ (omega (arith, c.ranges.level.fits))

pub returns-in_err-own-clause-room : goal.returns-in_err-own-clause-room
returns-in_err-own-clause-room c = own-room c.args.ops.now c.node.new.self c.args.f.0 c.args.level c.args.images.now c.node.ensures.one

pub returns-in_err-turned-clause-room : goal.returns-in_err-turned-clause-room
returns-in_err-turned-clause-room c =
    turned-room c.args.ops.now c.node.new.self c.xor.new.self c.xor.new.self c.node.ensures.grows c.xor.ensures.made.grows c.args.images.now c.requires.images c.args.f.0 c.args.level c.in_ok-own.own.0 0 c.requires.f c.in_ok-own.ensures.function c.node.ensures.one c.xor.ensures.made.room

pub compose_all-requires-clause-nodes : goal.compose_all-requires-clause-nodes
compose_all-requires-clause-nodes c =
    grown-nodes c.args.ops.now c.xor.new.self (Grows-then c.args.ops.now c.node.new.self c.xor.new.self c.node.ensures.grows c.xor.ensures.made.grows) c.args.images.now c.requires.images

pub compose_all-requires-clause-lower : goal.compose_all-requires-clause-lower
compose_all-requires-clause-lower c =
    lower-grown c.args.ops.now c.xor.new.self (Grows-then c.args.ops.now c.node.new.self c.xor.new.self c.node.ensures.grows c.xor.ensures.made.grows) c.args.images.now c.requires.images c.requires.lower

pub returns-in_err-n-clause-room : goal.returns-in_err-n-clause-room
returns-in_err-n-clause-room c =
    image-room c.args.ops.now c.node.new.self c.xor.new.self c.compose_all.new.self c.node.ensures.grows c.xor.ensures.made.grows c.args.images.now c.requires.images c.args.f.0 c.args.level c.in_ok-own.own.0 c.in_ok-turned.turned.0 c.requires.f c.in_ok-own.ensures.function
    c.in_ok-turned.ensures.function c.node.ensures.one c.xor.ensures.made.room c.requires.fresh c.compose_all.ensures.room

pub returns-clause-room : goal.returns-clause-room
returns-clause-room c =
    image-room c.args.ops.now c.node.new.self c.xor.new.self c.compose_all.new.self c.node.ensures.grows c.xor.ensures.made.grows c.args.images.now c.requires.images c.args.f.0 c.args.level c.in_ok-own.own.0 c.in_ok-turned.turned.0 c.requires.f c.in_ok-own.ensures.function
    c.in_ok-turned.ensures.function c.node.ensures.one c.xor.ensures.made.room c.requires.fresh c.compose_all.ensures.room

pub returns-clause-function : goal.returns-clause-function
returns-clause-function c =
    image-is c.args.ops.now c.node.new.self c.xor.new.self c.compose_all.new.self c.node.ensures.grows c.xor.ensures.made.grows c.args.images.now c.requires.images c.args.f.0 c.args.level c.in_ok-own.own.0 c.in_ok-turned.turned.0 c.requires.f c.in_ok-own.ensures.function
    c.in_ok-turned.ensures.function c.in_ok-n.n.0 c.in_ok-n.ensures.function
