use Rattle.std.proofs.Common.{◌+◌, ◌-◌, length, arith}
use Rattle.cb_ops.proofs.Ite.{Grows-then}
use Rattle.cb_verify.proofs.Chains.{chain-function, chain-depends, chain-room, Adds-within}
use Rattle.cb_verify.proofs.nodes.chain.Goals as goal

pub returns-in_err-node-clause-room : goal.returns-in_err-node-clause-room
returns-in_err-node-clause-room c =
    let s = c.args.ops.now in
    let t = c.loop-next.ops in
    let u = c.apply.new.ops in
    let i = c.loop-next.next-index in
    let rest = c.in-Some.rest.now in
    let now = c.loop-next.invariant in
    Adds-within s u (i + 1) (length c.args.nodes.now - 1) c.args.nodes.now (omega (arith, c.in-Some.ensures.cases.1, c.loop-next-test.true)) (chain-room s t u now.grows c.args.operator c.args.nodes.now c.in-Some.first.now rest c.in-Some.ensures.cases.0 c.requires.nodes i c.loop-next-test.true (record { 0 = 0 }) c.loop-next.node.0 0 now.depends now.room c.apply.ensures.room)

pub loop-next-preserved : goal.loop-next-preserved
loop-next-preserved c =
    let s = c.args.ops.now in
    let t = c.loop-next.ops in
    let u = c.apply.new.ops in
    let i = c.loop-next.next-index in
    let rest = c.in-Some.rest.now in
    let now = c.loop-next.invariant in
    let made = c.in_ok-node.ensures in
    record {
      grows = Grows-then s t u now.grows c.apply.ensures.grows;
      is_node = made.is_node;
      function = chain-function s t u now.grows c.args.operator c.args.nodes.now c.in-Some.first.now rest c.in-Some.ensures.cases.0 c.requires.nodes i c.loop-next-test.true (record { 0 = 0 }) c.loop-next.node.0 c.in_ok-node.node.0 now.function made.function;
      depends = chain-depends s t u now.grows c.args.operator c.args.nodes.now c.in-Some.first.now rest c.in-Some.ensures.cases.0 c.requires.nodes i c.loop-next-test.true (record { 0 = 0 }) c.loop-next.node.0 c.in_ok-node.node.0 now.depends made.function;
      room = chain-room s t u now.grows c.args.operator c.args.nodes.now c.in-Some.first.now rest c.in-Some.ensures.cases.0 c.requires.nodes i c.loop-next-test.true (record { 0 = 0 }) c.loop-next.node.0 c.in_ok-node.node.0 now.depends now.room made.room;
    }
