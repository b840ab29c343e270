use Rattle.std.proofs.Common.{sym, refl, arith}
use Rattle.cb_ops.proofs.Ite.{Grows-then}
use Rattle.cb_project.proofs.Renamed.{images-next}
use Rattle.cb_project.proofs.renaming.parameters.Goals as goal

pub loop-i-preserved : goal.loop-i-preserved
loop-i-preserved c =
    let i = c.loop-i.invariant in
    record {
      images = images-next c.loop-i.ops c.bit.new.ops c.bit.ensures.grows c.args.names.now.entries c.loop-i.i c.loop-i.images.items c.push.new.self.items (c.in-Some.level.now, c.in-Some.parameter.now) c.in-Some.level.now c.in_ok-node.node (sym c.in-Some.ensures.entry) i.images c.in-Ok.ensures.items refl c.in_ok-node.ensures.is_node c.in_ok-node.ensures.function;
      grows = Grows-then c.args.ops.now c.loop-i.ops c.bit.new.ops i.grows c.bit.ensures.grows;
      room = omega (arith, i.room, c.bit.ensures.one);
    }
