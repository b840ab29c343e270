use Rattle.cb_ops.proofs.Ops.ite.Goals as goal

pub returns-clause-made : goal.returns-clause-made
returns-clause-made c = record {
  is_node = c.run.ensures.is_node;
  grows = c.run.ensures.grows;
  room = c.run.ensures.room;
  full = c.run.ensures.full;
  nodes = c.run.ensures.nodes;
  unbounded = c.run.ensures.unbounded;
  fulls = c.run.ensures.fulls;
  diagram = c.run.ensures.diagram;
}
