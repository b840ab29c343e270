use Rattle.cb_diagram_cases.specs.Sound.{IsSound}
use Rattle.cb_diagram_cases.proofs.terms.work.Given as goal

abbrev pub invariant-loop-word : goal.invariant-loop-word
invariant-loop-word l = IsSound l.heap
