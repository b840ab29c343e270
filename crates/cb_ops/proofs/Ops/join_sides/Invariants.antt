use Rattle.cb_ops.specs.Ops.{DependsOn}
use Rattle.cb_ops.specs.Walk.{AllMade, sides_of}
use Rattle.cb_ops.proofs.Walks.{Walking, walk_work}
use Rattle.cb_ops.proofs.Ops.join_sides.Given as goal

abbrev pub invariant-loop-step : goal.invariant-loop-step
invariant-loop-step l = Walking (sides_of l.fn.level l.fn.sides) l.fn.level 1 DependsOn l.fn.self l.self l.fn.f l.waiting.items l.step × AllMade (sides_of l.fn.level l.fn.sides) l.done l.self.triples

abbrev pub decreases-loop-step : goal.decreases-loop-step
decreases-loop-step l = walk_work l.self.triples l.waiting.items l.step
