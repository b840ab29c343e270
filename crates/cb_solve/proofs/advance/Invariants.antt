use Rattle.std.proofs.Common.{◌-◌}
use Rattle.cb_solve.specs.Machine.{Onward}
use Rattle.cb_solve.proofs.advance.Given as goal

abbrev pub invariant-loop-stepped : goal.invariant-loop-stepped
invariant-loop-stepped l = Onward l.fn.m l.m

abbrev pub decreases-loop-stepped : goal.decreases-loop-stepped
decreases-loop-stepped l = l.m.budget - l.m.used
