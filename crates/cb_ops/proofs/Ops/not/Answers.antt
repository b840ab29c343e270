use Rattle.std.proofs.lemmas.Result.{IfOk-weaker}
use Rattle.cb_ops.proofs.Connectives.{not-is, not-room, not-cause}
use Rattle.cb_ops.proofs.Ops.not.Goals as goal

pub returns-clause-function : goal.returns-clause-function
returns-clause-function c = IfOk-weaker c.ite.result _ _ (λ r h. not-is c.args.self.now c.ite.new.self c.args.f.0 0 r.0 h) c.ite.ensures.function

pub returns-clause-made : goal.returns-clause-made
returns-clause-made c = record {
  is_node = c.ite.ensures.made.is_node;
  grows = c.ite.ensures.made.grows;
  room = not-room c.args.self.now c.ite.new.self c.args.f.0 0 c.ite.ensures.made.room;
  full = c.ite.ensures.made.full;
  nodes = λ h. not-cause c.args.self.now c.ite.new.self c.args.f.0 0 (c.ite.ensures.made.nodes h);
  unbounded = c.ite.ensures.made.unbounded;
  fulls = c.ite.ensures.made.fulls;
  diagram = c.ite.ensures.made.diagram;
}
