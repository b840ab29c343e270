use Rattle.cb_ops.proofs.Waiting.{Going, work_of}
use Rattle.cb_ops.proofs.Ops.run.Given as goal

abbrev pub invariant-loop-turn : goal.invariant-loop-turn
invariant-loop-turn l = Going l.fn.self l.self l.fn.call l.pending.items l.turn

abbrev pub decreases-loop-turn : goal.decreases-loop-turn
decreases-loop-turn l = work_of l.self.triples l.pending.items l.turn
