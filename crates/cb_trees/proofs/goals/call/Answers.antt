use Rattle.std.proofs.lemmas.Result.{IfOk-weaker}
use Rattle.cb_trees.specs.Numbered.{numbering_of}
use Rattle.cb_trees.specs.Places.{sorts_given}
use Rattle.cb_trees.proofs.InPlaces.{calls_circuit, calls_name}
use Rattle.cb_trees.proofs.goals.call.Goals as goal

pub returns-then-is_circuit-clause-goal : goal.returns-then-is_circuit-clause-goal
returns-then-is_circuit-clause-goal c =
    IfOk-weaker c.circuit.result _ _
    (λ g h ms same. calls_circuit c.args.numbers.now.declared.now (numbering_of c.args.numbers.now) ms c.args.name.now c.args.args.now c.args.own.now c.if-is_true.ensures.same c.if-is_fail.ensures.same g c.if-is_circuit.ensures.same (h c.args.name.now ms same))
    c.circuit.ensures.goal

pub returns-clause-goal : goal.returns-clause-goal
returns-clause-goal c = λ ms same.
    calls_name c.args.numbers.now.declared.now (numbering_of c.args.numbers.now) ms c.args.name.now c.args.args.now c.args.own.now c.if-is_true.ensures.same c.if-is_fail.ensures.same c.in_ok-number.number c.in_ok-trees.field-0
    (sorts_given c.of-places.result.declared c.of-places.result.count) c.if-is_circuit.ensures.same c.in_ok-number.ensures c.of-places.ensures.sorts c.in_ok-trees.ensures.trees
