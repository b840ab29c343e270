use Rattle.std.proofs.Common.{◌+◌, arith}
use Rattle.cb_ops.proofs.Ite.{Grows-then, Grows-same}
use Rattle.cb_verify.proofs.Kept.{Adds-none}
use Rattle.cb_verify.proofs.Over.{first-node, first-function, first-depends, next-function, next-depends, next-room, last-room}
use Rattle.cb_verify.proofs.pins.chain_over.Goals as goal

pub loop-pin-init : goal.loop-pin-init
loop-pin-init c =
    let s = c.args.ops.now in
    record {
      grows = Grows-same s;
      is_node = first-node s c.args.nodes.now c.args.pins.now c.in-Some.first.now c.in-Some.rest.now c.in-Some.ensures.cases.0 c.requires.nodes c.requires.within;
      function = first-function s c.args.nodes.now c.args.pins.now c.in-Some.first.now c.in-Some.rest.now c.in-Some.ensures.cases.0 c.requires.nodes c.requires.within c.args.operator;
      depends = first-depends s c.args.nodes.now c.args.pins.now c.in-Some.first.now c.in-Some.rest.now c.in-Some.ensures.cases.0 c.requires.nodes c.requires.within;
      room = Adds-none s 0 _;
    }

pub loop-pin-preserved : goal.loop-pin-preserved
loop-pin-preserved c =
    let s = c.args.ops.now in
    let t = c.loop-pin.ops in
    let u = c.apply.new.ops in
    let now = c.loop-pin.invariant in
    let made = c.in_ok-node.ensures in
    record {
      grows = Grows-then s t u now.grows c.apply.ensures.grows;
      is_node = made.is_node;
      function = next-function s c.args.nodes.now c.args.pins.now c.in-Some.first.now c.in-Some.rest.now c.in-Some.ensures.cases.0 c.requires.nodes c.requires.within t now.grows c.loop-pin.pin-index c.loop-pin-test.true u c.args.operator c.loop-pin.node.0 c.in_ok-node.node.0 now.function made.function;
      depends = next-depends s c.args.nodes.now c.args.pins.now c.in-Some.first.now c.in-Some.rest.now c.in-Some.ensures.cases.0 c.requires.nodes c.requires.within t now.grows c.loop-pin.pin-index c.loop-pin-test.true u c.args.operator c.loop-pin.node.0 c.in_ok-node.node.0 now.depends made.function;
      room = next-room s c.args.nodes.now c.args.pins.now c.in-Some.first.now c.in-Some.rest.now c.in-Some.ensures.cases.0 c.requires.nodes c.requires.within t now.grows c.loop-pin.pin-index c.loop-pin-test.true u c.args.operator c.loop-pin.node.0 0 now.depends now.room made.room;
    }

pub returns-in_err-node-clause-room : goal.returns-in_err-node-clause-room
returns-in_err-node-clause-room c =
    let s = c.args.ops.now in
    let now = c.loop-pin.invariant in
    last-room s c.args.nodes.now c.args.pins.now c.in-Some.first.now c.in-Some.rest.now c.in-Some.ensures.cases.0 c.requires.nodes c.requires.within c.apply.new.ops (c.loop-pin.pin-index + 1) (omega (arith, c.loop-pin-test.true))
    (next-room s c.args.nodes.now c.args.pins.now c.in-Some.first.now c.in-Some.rest.now c.in-Some.ensures.cases.0 c.requires.nodes c.requires.within c.loop-pin.ops now.grows c.loop-pin.pin-index c.loop-pin-test.true c.apply.new.ops c.args.operator c.loop-pin.node.0 0 now.depends now.room c.apply.ensures.room)
