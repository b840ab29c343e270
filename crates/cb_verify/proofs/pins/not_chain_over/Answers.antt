use Rattle.cb_verify.proofs.Kept.{one-room}
use Rattle.cb_verify.proofs.Over.{not-room-over}
use Rattle.cb_verify.proofs.pins.not_chain_over.Goals as goal

pub returns-clause-room : goal.returns-clause-room
returns-clause-room c =
    not-room-over c.args.ops.now c.chain_over.new.ops c.not.new.self c.args.operator c.args.nodes.now c.args.pins.now c.in_ok-node.node c.requires.some c.in_ok-node.ensures.function c.chain_over.ensures.room (one-room c.chain_over.new.ops c.not.new.self c.in_ok-node.node c.not.ensures.made.room)
