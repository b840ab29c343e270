use Rattle.cb_ops.specs.declared.calls.Left.TheVariants as left
use Rattle.cb_ops.proofs.Waiting.{part-answered}
use Rattle.cb_ops.proofs.Ops.ask_high.Goals as goal

pub close-requires-clause-hi : goal.close-requires-clause-hi
close-requires-clause-hi c =
    part-answered c.args.self.now.triples c.count-count.ensures.diagram (record { call = c.args.call; level = c.args.level; left = left.Low c.args.lo }) c.args.high c.in-Some.hi.0
    c.requires.waits c.requires.high c.in-Some.ensures.answered
