use Rattle.cb_model.specs.Forms.{form_of}
use Rattle.cb_facts.proofs.Parts.{rest-read}
use Rattle.cb_facts.proofs.modules.read_rest.Goals as goal

pub returns : goal.returns
returns c =
    rest-read c.args.nets.now c.inputs.new.self c.list.new.self c.read_instances.new.nets (form_of c.args.inputs.now) (form_of c.args.outputs.now) (form_of c.args.instances.now) _ (record { inputs = c.in-Some.inputs; outputs = c.in-Some-2.outputs; instances = c.in-Some-3.instances }) (rw c.in-Some.is at c.in_ok-inputs.ensures) (rw c.in-Some-2.is at c.in_ok-outputs.ensures) c.in-Some-elements.ensures
    (rw c.in-Some-3.is at c.in_ok-instances.ensures)
