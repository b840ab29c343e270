use Rattle.std.proofs.Common.{sym, subst}
use Rattle.cb_dd.specs.Diagram.{Store}
use Rattle.cb_ops.specs.Waiting.{IsAnswered}
use Rattle.cb_ops.proofs.Waiting.{halves-meet}
use Rattle.cb_ops.proofs.Ops.close.Goals as goal

pub keep-requires-clause-answered : goal.keep-requires-clause-answered
keep-requires-clause-answered c = record {
  node = c.in_ok-n.ensures.is_node;
  value = halves-meet c.args.self.now c.node.new.self c.node.ensures.grows c.args.level c.args.call c.args.lo.0 c.args.hi.0 c.in_ok-n.n.0 c.requires.call c.requires.lo c.requires.hi c.in_ok-n.ensures.function;
}

pub returns-clause-answered : goal.returns-clause-answered
returns-clause-answered c =
    subst (λ (s : Store). IsAnswered s.triples c.args.call c.in_ok-n.n.0) (sym c.keep.ensures.same)
    (record {
      node = c.in_ok-n.ensures.is_node;
      value = halves-meet c.args.self.now c.node.new.self c.node.ensures.grows c.args.level c.args.call c.args.lo.0 c.args.hi.0 c.in_ok-n.n.0 c.requires.call c.requires.lo c.requires.hi c.in_ok-n.ensures.function;
    })
