use Rattle.std.proofs.Common.{ℕ, List, length, ◌^◌}
use Rattle.cb_ops.specs.Walk.{AllMade, images_of}
use Rattle.cb_ops.proofs.Walks.{Walking, walk_work}
use Rattle.cb_ops.proofs.Replaced.{spread, no_levels}
use Rattle.cb_ops.proofs.Ops.substitute_in.Given as goal

abbrev pub invariant-loop-step : goal.invariant-loop-step
invariant-loop-step l = Walking (images_of l.fn.list) (2 ^ 32) (2 ^ length no_levels) (spread l.fn.list no_levels) l.fn.self l.self l.fn.f l.waiting.items l.step × ((second : List ℕ) → Walking (images_of l.fn.list) (2 ^ 32) (2 ^ length second) (spread l.fn.list second) l.fn.self l.self l.fn.f l.waiting.items l.step) × AllMade (images_of l.fn.list) l.done l.self.triples

abbrev pub decreases-loop-step : goal.decreases-loop-step
decreases-loop-step l = walk_work l.self.triples l.waiting.items l.step
