use Rattle.cb_branch.specs.Running.{work_of}
use Rattle.cb_solve.specs.Machine.{Ongoing}
use Rattle.cb_solve.proofs.run.Given as goal

abbrev pub invariant-loop-stepped : goal.invariant-loop-stepped
invariant-loop-stepped l = Ongoing l.fn.m l.m

abbrev pub decreases-loop-stepped : goal.decreases-loop-stepped
decreases-loop-stepped l = work_of l.m.branch
