use Rattle.std.proofs.lemmas.Result.{IfOk-weaker}
use Rattle.cb_ops.proofs.Joins.{side-of-bit, side-of-none}
use Rattle.cb_ops.proofs.Ops.restrict.Goals as goal

pub returns-then-bit-clause-function : goal.returns-then-bit-clause-function
returns-then-bit-clause-function c = IfOk-weaker c.join_sides.result _ _ (λ r h. side-of-bit c.args.self.now.triples c.join_sides.new.self.triples c.args.f.0 c.args.level r.0 c.args.bit c.if-bit.true h) c.join_sides.ensures.function

pub returns-clause-function : goal.returns-clause-function
returns-clause-function c = IfOk-weaker c.join_sides-2.result _ _ (λ r h. side-of-none c.args.self.now.triples c.join_sides-2.new.self.triples c.args.f.0 c.args.level r.0 c.args.bit c.if-bit.false h) c.join_sides-2.ensures.function

pub returns-then-bit-clause-made : goal.returns-then-bit-clause-made
returns-then-bit-clause-made c = record {
  is_node = c.join_sides.ensures.is_node;
  grows = c.join_sides.ensures.grows;
  room = c.join_sides.ensures.room;
  full = c.join_sides.ensures.full;
  nodes = c.join_sides.ensures.nodes;
  unbounded = c.join_sides.ensures.unbounded;
  fulls = c.join_sides.ensures.fulls;
  diagram = c.join_sides.ensures.diagram;
}

pub returns-clause-made : goal.returns-clause-made
returns-clause-made c = record {
  is_node = c.join_sides-2.ensures.is_node;
  grows = c.join_sides-2.ensures.grows;
  room = c.join_sides-2.ensures.room;
  full = c.join_sides-2.ensures.full;
  nodes = c.join_sides-2.ensures.nodes;
  unbounded = c.join_sides-2.ensures.unbounded;
  fulls = c.join_sides-2.ensures.fulls;
  diagram = c.join_sides-2.ensures.diagram;
}
