use Rattle.std.specs.Prelude.{MatchResult}
use Rattle.std.proofs.Common.{List, subst}
use Rattle.cb_model.specs.Sorts.{Place}
use Rattle.cb_marking.specs.Walk.{Walks, Stops}
use Rattle.cb_marking.proofs.Parts.{call_circuit, call_other}
use Rattle.cb_marking.proofs.walk.Walk.call.Goals as goal

pub returns-then-is_circuit : goal.returns-then-is_circuit
returns-then-is_circuit c =
    subst (λ (ps : List Place). MatchResult c.arguments.result (λ _. Walks c.args.declared.now c.args.self.now ps c.arguments.new.self) (Stops c.args.declared.now ps))
    (call_circuit c.args.declared.now c.in-Name.name c.in-Name.args c.as_slice-then-is_circuit.result.now c.len.result c.args.term.now c.in-Name.is c.as_slice-then-is_circuit.ensures c.len.ensures c.as_slice.result.now c.if-is_circuit.ensures.same c.as_slice.ensures)
    c.arguments.ensures

pub returns-else-is_circuit : goal.returns-else-is_circuit
returns-else-is_circuit c =
    subst (λ (ps : List Place). MatchResult c.arguments-else-is_circuit.result (λ _. Walks c.args.declared.now c.args.self.now ps c.arguments-else-is_circuit.new.self) (Stops c.args.declared.now ps))
    (call_other c.args.declared.now c.in-Name.name c.in-Name.args c.as_slice-else-is_circuit.result.now c.len.result c.args.term.now c.in-Name.is c.as_slice-else-is_circuit.ensures c.len.ensures c.sorts-sorts.result c.len-else-is_circuit.result
    c.if-is_circuit.ensures.same c.len-else-is_circuit.ensures c.sorts-sorts.ensures)
    c.arguments-else-is_circuit.ensures
