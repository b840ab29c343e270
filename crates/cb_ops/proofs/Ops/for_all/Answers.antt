use Rattle.cb_ops.proofs.Ops.for_all.Goals as goal

pub returns-clause-made : goal.returns-clause-made
returns-clause-made c = record {
  is_node = c.join_sides.ensures.is_node;
  grows = c.join_sides.ensures.grows;
  room = c.join_sides.ensures.room;
  full = c.join_sides.ensures.full;
  nodes = c.join_sides.ensures.nodes;
  unbounded = c.join_sides.ensures.unbounded;
  fulls = c.join_sides.ensures.fulls;
  diagram = c.join_sides.ensures.diagram;
}
