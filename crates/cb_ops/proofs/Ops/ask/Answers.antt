use Rattle.cb_ops.specs.declared.calls.Choice.{Choice}
use Rattle.cb_ops.specs.declared.calls.Pending.{Pending}
use Rattle.cb_ops.specs.declared.calls.Left.TheVariants as left
use Rattle.cb_ops.specs.Waiting.{Waits}
use Rattle.cb_ops.proofs.Waiting.{part-answered}
use Rattle.cb_ops.proofs.Ops.ask.Goals as goal

pub ask_high-requires-clause-waits : goal.ask_high-requires-clause-waits
ask_high-requires-clause-waits c =
    let high : Choice = c.sides.result.1 in
    let x : Pending = record { call = c.args.call; level = c.least_level-level.result; left = left.High high } in
    let w : Waits c.args.self.now.triples x = record { call = c.requires.call; small = c.least_level-level.ensures.small; least = c.least_level-level.ensures.least; left = c.sides.ensures.high } in
    record {
      call = c.requires.call;
      small = c.least_level-level.ensures.small;
      least = c.least_level-level.ensures.least;
      left = part-answered c.args.self.now.triples c.count-count.ensures.diagram x c.sides.result.0 c.in-Some.lo.0 w c.sides.ensures.low c.in-Some.ensures.answered;
    }
