use Rattle.std.proofs.Common.{length}
use Rattle.cb_ops.proofs.Ite.{Grows-then}
use Rattle.cb_verify.proofs.Kept.{AreNodes-kept, nodes-push}
use Rattle.cb_verify.proofs.Operands.{scope-at, operand-values, operand-room, operands-within}
use Rattle.cb_verify.proofs.expressions.expressions.Goals as goal

pub expression-requires-clause-inputs : goal.expression-requires-clause-inputs
expression-requires-clause-inputs c = AreNodes-kept c.args.ops.now c.loop-one.ops c.loop-one.invariant.grows c.args.inputs.now c.requires.inputs

pub expression-requires-clause-scope : goal.expression-requires-clause-scope
expression-requires-clause-scope c = scope-at (length c.args.inputs.now) c.args.wanted.now c.loop-one.one-index c.one-item.result c.requires.scope c.loop-one-test.true c.one-item.is

pub returns-in_err-node-clause-room : goal.returns-in_err-node-clause-room
returns-in_err-node-clause-room c =
    operands-within c.args.ops.now c.loop-one.ops c.expression.new.ops c.loop-one.invariant.grows c.expression.ensures.grows c.args.inputs.now c.requires.inputs c.loop-one.nodes.items c.args.wanted.now c.loop-one.one-index c.loop-one-test.true c.one-item.result c.one-item.is c.loop-one.invariant.room c.expression.ensures.room

pub returns-in_default-clause-room : goal.returns-in_default-clause-room
returns-in_default-clause-room c =
    operands-within c.args.ops.now c.loop-one.ops c.expression.new.ops c.loop-one.invariant.grows c.expression.ensures.grows c.args.inputs.now c.requires.inputs c.loop-one.nodes.items c.args.wanted.now c.loop-one.one-index c.loop-one-test.true c.one-item.result c.one-item.is c.loop-one.invariant.room c.expression.ensures.room

pub loop-one-preserved : goal.loop-one-preserved
loop-one-preserved c =
    let now = c.loop-one.invariant in
    let u = c.expression.new.ops in
    record {
      nodes = rw c.in-Ok.ensures.items (nodes-push c.loop-one.ops u c.expression.ensures.grows c.loop-one.nodes.items c.in_ok-node.node now.nodes c.in_ok-node.ensures.is_node);
      functions = rw c.in-Ok.ensures.items (operand-values c.args.ops.now c.loop-one.ops u now.grows c.expression.ensures.grows c.args.inputs.now c.requires.inputs c.loop-one.nodes.items c.args.wanted.now c.loop-one.one-index c.loop-one-test.true c.one-item.result c.one-item.is now.nodes now.functions c.in_ok-node.node c.in_ok-node.ensures.function);
      grows = Grows-then c.args.ops.now c.loop-one.ops u now.grows c.expression.ensures.grows;
      room = operand-room c.args.ops.now c.loop-one.ops u now.grows c.expression.ensures.grows c.args.inputs.now c.requires.inputs c.loop-one.nodes.items c.args.wanted.now c.loop-one.one-index c.loop-one-test.true c.one-item.result c.one-item.is now.room c.expression.ensures.room;
    }
