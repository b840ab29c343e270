use Rattle.std.proofs.Common.{◌+◌, ◌-◌, length}
use Rattle.cb_ops.proofs.Gather.{Gathering}
use Rattle.cb_ops.proofs.Ops.gather.Given as goal

abbrev pub invariant-loop-n : goal.invariant-loop-n
invariant-loop-n l = Gathering l.fn.self.triples l.fn.f.0 l.nodes.keys l.levels.keys l.done

abbrev pub decreases-loop-n : goal.decreases-loop-n
decreases-loop-n l = length l.fn.self.triples + 2 - l.done
