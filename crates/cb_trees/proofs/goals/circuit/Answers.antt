use Rattle.cb_trees.specs.Numbered.{numbering_of}
use Rattle.cb_trees.proofs.InPlaces.{circuit_is}
use Rattle.cb_trees.proofs.goals.circuit.Goals as goal

pub returns-clause-goal : goal.returns-clause-goal
returns-clause-goal c = λ x ms same.
    circuit_is c.args.numbers.now.declared.now (numbering_of c.args.numbers.now) ms c.args.numbers.now.modules.now x c.module_name.result.now c.args.args.now
    c.index-args-0.result c.index-args-1.result c.index-args-2.result c.args.own.now c.skip.new.own c.tree.new.own c.in_ok-module.module c.in_ok-inputs.inputs c.in_ok-outputs.outputs same c.requires.three
    c.index-args-0.is c.index-args-1.is c.index-args-2.is c.module_name.ensures c.in_ok-module.ensures c.in_ok-skip.ensures c.in_ok-inputs.ensures.tree c.in_ok-inputs.ensures.own c.in_ok-outputs.ensures.tree
