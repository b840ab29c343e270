use Rattle.cb_ops.proofs.Ite.{Grows-then}
use Rattle.cb_ops.proofs.Turns.{lower-grown}
use Rattle.cb_ops.proofs.Substitute.{grown-nodes}
use Rattle.cb_project.proofs.Steps.{put-room, put-room-within, put-functions, put-nodes, put-depend}
use Rattle.cb_project.proofs.leaves.put_in.Goals as goal

pub replaced-requires-clause-images : goal.replaced-requires-clause-images
replaced-requires-clause-images c = grown-nodes c.args.ops.now c.loop-value.ops c.loop-value.invariant.grows c.args.images.now c.requires.images

pub replaced-requires-clause-lower : goal.replaced-requires-clause-lower
replaced-requires-clause-lower c = λ e. lower-grown c.args.ops.now c.loop-value.ops c.loop-value.invariant.grows c.args.images.now c.requires.images (c.requires.lower e)

pub loop-value-preserved : goal.loop-value-preserved
loop-value-preserved c =
    let i = c.loop-value.invariant in
    record {
      nodes = rw c.in-Ok.ensures.items (put-nodes c.args.ops.now c.loop-value.ops c.replaced.new.ops i.grows c.replaced.ensures.grows c.args.values.now c.args.images.now c.requires.values c.requires.images c.loop-value.value-index c.loop-value-test.true c.loop-value.nodes.items i.nodes c.in_ok-node.node c.in_ok-node.ensures.is_node c.in_ok-node.ensures.function);
      functions = rw c.in-Ok.ensures.items (put-functions c.args.ops.now c.loop-value.ops c.replaced.new.ops i.grows c.replaced.ensures.grows c.args.values.now c.args.images.now c.requires.values c.requires.images c.loop-value.value-index c.loop-value-test.true c.loop-value.nodes.items i.nodes c.in_ok-node.node c.in_ok-node.ensures.is_node c.in_ok-node.ensures.function i.functions);
      grows = Grows-then c.args.ops.now c.loop-value.ops c.replaced.new.ops i.grows c.replaced.ensures.grows;
      within = λ ls d w. (
        rw c.in-Ok.ensures.items (put-depend c.args.ops.now c.loop-value.ops c.replaced.new.ops i.grows c.replaced.ensures.grows c.args.values.now c.args.images.now c.requires.values c.requires.images c.loop-value.value-index c.loop-value-test.true c.loop-value.nodes.items i.nodes c.in_ok-node.node c.in_ok-node.ensures.is_node c.in_ok-node.ensures.function ls d w (i.within ls d w).0),
        put-room c.args.ops.now c.loop-value.ops c.replaced.new.ops i.grows c.replaced.ensures.grows c.args.values.now c.args.images.now c.requires.values c.requires.images c.loop-value.value-index c.loop-value-test.true c.loop-value.nodes.items i.nodes i.within c.replaced.ensures.room ls d w,
      );
    }

pub returns-in_err-node-clause-room : goal.returns-in_err-node-clause-room
returns-in_err-node-clause-room c = put-room-within c.args.ops.now c.loop-value.ops c.replaced.new.ops c.loop-value.invariant.grows c.replaced.ensures.grows c.args.values.now c.args.images.now c.requires.values c.requires.images c.loop-value.value-index c.loop-value-test.true c.loop-value.nodes.items c.loop-value.invariant.nodes c.loop-value.invariant.within c.replaced.ensures.room

pub returns-in_default-clause-room : goal.returns-in_default-clause-room
returns-in_default-clause-room c = put-room-within c.args.ops.now c.loop-value.ops c.replaced.new.ops c.loop-value.invariant.grows c.replaced.ensures.grows c.args.values.now c.args.images.now c.requires.values c.requires.images c.loop-value.value-index c.loop-value-test.true c.loop-value.nodes.items c.loop-value.invariant.nodes c.loop-value.invariant.within c.replaced.ensures.room
