use Rattle.std.proofs.Common.{◌≡◌, ◌+◌, ap, length, arith}
use Rattle.cb_model.specs.Room.{circuit_pins}
use Rattle.cb_dd.specs.Diagram.{Store}
use Rattle.cb_verify.specs.Wanted.{size_of}
use Rattle.cb_verify.proofs.Deciding.{compared-below}
use Rattle.cb_verify.proofs.comparison.compared.Goals as goal

pub returns-clause-nodes : goal.returns-clause-nodes
returns-clause-nodes c = λ stop.
    let none : length c.in-Ok.ops.triples ≡ 0 = ap (λ (s : Store). length s.triples) c.in-Ok.ensures.empty in
    let given : c.in-Ok.ops.budget ≡ c.args.budget = ap (λ (s : Store). s.budget) c.in-Ok.ensures.empty in
    let full : length c.decide-verdict.new.ops.triples ≡ c.decide-verdict.new.ops.budget = c.decide-verdict.ensures.full stop in
    let kept : c.decide-verdict.new.ops.budget ≡ c.in-Ok.ops.budget = c.decide-verdict.ensures.grows.budget in
    compared-below (circuit_pins c.args.circuit.now + size_of c.args.wanted) (length c.args.circuit.now.outputs) c.args.circuit.now.inputs c.args.budget
    (omega (arith, none, given, full, kept, c.decide-verdict.ensures.room))
