use Rattle.cb_ops.proofs.Differences.{xor-room, xor-cause}
use Rattle.cb_ops.proofs.Ops.xor.Goals as goal

pub returns-clause-made : goal.returns-clause-made
returns-clause-made c = record {
  is_node = c.run.ensures.is_node;
  grows = c.run.ensures.grows;
  room = xor-room c.args.self.now c.run.new.self c.args.f.0 c.args.g.0 c.run.ensures.room;
  full = c.run.ensures.full;
  nodes = λ h. xor-cause c.args.self.now c.run.new.self c.args.f.0 c.args.g.0 (c.run.ensures.nodes h);
  unbounded = c.run.ensures.unbounded;
  fulls = c.run.ensures.fulls;
  diagram = c.run.ensures.diagram;
}
