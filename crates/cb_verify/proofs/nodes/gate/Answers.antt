use Rattle.std.proofs.Common.{length, inl, inr}
use Rattle.cb_verify.specs.declared.nodes.Operator.TheVariants as operator
use Rattle.cb_verify.proofs.Kept.{one-room}
use Rattle.cb_verify.proofs.Chains.{one_more-room, some_pin}
use Rattle.cb_verify.proofs.nodes.gate.Goals as goal

pub returns-in_ok-all-in-Nand-clause-room : goal.returns-in_ok-all-in-Nand-clause-room
returns-in_ok-all-in-Nand-clause-room c =
    let some = some_pin c.args.kind (length c.args.pins.now) (inl c.in-Nand.is) c.requires.number in
    one_more-room c.args.ops.now c.chain-in-Nand.new.ops c.not-in-Nand.new.self operator.And c.args.pins.now c.in_ok-all-in-Nand.all some c.in_ok-all-in-Nand.ensures.function c.chain-in-Nand.ensures.room (one-room c.chain-in-Nand.new.ops c.not-in-Nand.new.self c.in_ok-all-in-Nand.all c.not-in-Nand.ensures.made.room)

pub returns-in_ok-some-in-Nor-clause-room : goal.returns-in_ok-some-in-Nor-clause-room
returns-in_ok-some-in-Nor-clause-room c =
    let some = some_pin c.args.kind (length c.args.pins.now) (inr (inl c.in-Nor.is)) c.requires.number in
    one_more-room c.args.ops.now c.chain-in-Nor.new.ops c.not-in-Nor.new.self operator.Or c.args.pins.now c.in_ok-some-in-Nor.some some c.in_ok-some-in-Nor.ensures.function c.chain-in-Nor.ensures.room (one-room c.chain-in-Nor.new.ops c.not-in-Nor.new.self c.in_ok-some-in-Nor.some c.not-in-Nor.ensures.made.room)

pub returns-in_ok-odd-in-Xnor-clause-room : goal.returns-in_ok-odd-in-Xnor-clause-room
returns-in_ok-odd-in-Xnor-clause-room c =
    let some = some_pin c.args.kind (length c.args.pins.now) (inr (inr c.in-Xnor.is)) c.requires.number in
    one_more-room c.args.ops.now c.chain-in-Xnor.new.ops c.not-in-Xnor.new.self operator.Xor c.args.pins.now c.in_ok-odd-in-Xnor.odd some c.in_ok-odd-in-Xnor.ensures.function c.chain-in-Xnor.ensures.room (one-room c.chain-in-Xnor.new.ops c.not-in-Xnor.new.self c.in_ok-odd-in-Xnor.odd c.not-in-Xnor.ensures.made.room)
