use Rattle.cb_diagram_cases.specs.Sound.{IsSound}
use Rattle.cb_diagram_cases.proofs.term_making.listed.Given as goal

abbrev pub invariant-loop : goal.invariant-loop
invariant-loop l = IsSound l.heap
