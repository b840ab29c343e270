use Rattle.std.proofs.Common.{[], ◌∷◌}
use Rattle.cb_ops.proofs.Joins.{room-three, cause-three}
use Rattle.cb_ops.proofs.Ops.exists.Goals as goal

pub returns-clause-made : goal.returns-clause-made
returns-clause-made c = record {
  is_node = c.join_sides.ensures.is_node;
  grows = c.join_sides.ensures.grows;
  room = room-three (c.args.f.0 ∷ []) c.args.self.now c.join_sides.new.self c.join_sides.ensures.room;
  full = c.join_sides.ensures.full;
  nodes = λ h. cause-three (c.args.f.0 ∷ []) c.args.self.now c.join_sides.new.self (c.join_sides.ensures.nodes h);
  unbounded = c.join_sides.ensures.unbounded;
  fulls = c.join_sides.ensures.fulls;
  diagram = c.join_sides.ensures.diagram;
}
