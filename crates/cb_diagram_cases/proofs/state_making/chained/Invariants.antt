use Rattle.cb_unify.specs.State.{IsState}
use Rattle.cb_diagram_cases.proofs.state_making.chained.Given as goal

abbrev pub invariant-loop : goal.invariant-loop
invariant-loop l = IsState l.state
