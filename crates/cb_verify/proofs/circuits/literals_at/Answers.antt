use Rattle.std.proofs.Common.{◌∙◌, slice_index_or, arith}
use Rattle.cb_dd.proofs.Children.{bottom_child, top_child}
use Rattle.cb_ops.proofs.Ite.{Grows-then, literal-is}
use Rattle.cb_verify.proofs.Kept.{literal-next, nodes-push}
use Rattle.cb_verify.proofs.circuits.literals_at.Goals as goal

pub node-requires-clause-lo_child : goal.node-requires-clause-lo_child
node-requires-clause-lo_child c = bottom_child c.loop-level.ops.triples (slice_index_or c.args.levels.now c.loop-level.level-index 0) (omega arith)

pub node-requires-clause-hi_child : goal.node-requires-clause-hi_child
node-requires-clause-hi_child c = top_child c.loop-level.ops.triples (slice_index_or c.args.levels.now c.loop-level.level-index 0) (omega arith)

pub loop-level-preserved : goal.loop-level-preserved
loop-level-preserved c =
    let s = c.loop-level.ops in
    let t = c.node.new.self in
    let now = c.loop-level.invariant in
    record {
      nodes = rw c.in-Ok.ensures.items (nodes-push s t c.node.ensures.grows c.loop-level.nodes.items c.in_ok-node.node now.nodes c.in_ok-node.ensures.is_node);
      bits = rw c.in-Ok.ensures.items (literal-next s t c.node.ensures.grows c.loop-level.nodes.items c.in_ok-node.node c.args.levels.now c.loop-level.level-index c.loop-level-test.true now.nodes now.bits (λ a. c.in_ok-node.ensures.function a ∙ literal-is s.triples (a (slice_index_or c.args.levels.now c.loop-level.level-index 0)) a));
      grows = Grows-then c.args.ops.now s t now.grows c.node.ensures.grows;
      room = omega arith;
    }
