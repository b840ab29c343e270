use Rattle.cb_unify.specs.State.{IsState}
use Rattle.cb_diagram_cases.proofs.states.work.Given as goal

abbrev pub invariant-loop-word : goal.invariant-loop-word
invariant-loop-word l = IsState l.state
