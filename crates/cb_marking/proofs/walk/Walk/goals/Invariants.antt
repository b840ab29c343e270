use Rattle.cb_marking.proofs.Remaining.{GoalsLeft}
use Rattle.cb_marking.proofs.walk.Walk.goals.Given as goal

abbrev pub invariant-loop-number : goal.invariant-loop-number
invariant-loop-number l = GoalsLeft l.declared l.initial.self l.goals l.self l.number
