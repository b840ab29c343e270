use Rattle.cb_model.specs.Forms.{form_of}
use Rattle.cb_facts.proofs.Parts.{module-read}
use Rattle.cb_facts.proofs.modules.read_module.Goals as goal

pub returns-in-Some-2 : goal.returns-in-Some-2
returns-in-Some-2 c =
    module-read c.new-nets.result c.read_rest.new.nets (form_of c.args.head.now) _ c.in-Some-atom.name.now _ _ (form_of c.in-Some-four.inputs.now) (form_of c.in-Some-four.outputs.now) (form_of c.in-Some-four.instances.now) c.in-Some-2.rest c.raw_module.result c.new-nets.ensures.own c.in-Some.ensures c.in-Some-four.ensures c.in-Some-atom.ensures
    (rw c.in-Some-2.is at c.in_ok-rest.ensures) c.raw_module.ensures.name c.raw_module.ensures.nets c.raw_module.ensures.rest
