use Rattle.std.proofs.Common.{sym, ◌∙◌, ap}
use Rattle.cb_model.specs.declared.Circuit.{Circuit}
use Rattle.cb_circuit_cases.proofs.unfolded.tell_last.Goals as goal

pub tell_of_two-requires-clause-inputs : goal.tell_of_two-requires-clause-inputs
tell_of_two-requires-clause-inputs c = ap (λ (x : Circuit). x.inputs) (sym c.in_ok-circuit.ensures.is) ∙ c.if-inputs-eq2.true
