use Rattle.cb_model.specs.Forms.{form_of}
use Rattle.cb_facts.proofs.Parts.{closed-is}
use Rattle.cb_facts.proofs.Ports.{ports-read}
use Rattle.cb_facts.proofs.expressions.read_ports.Goals as goal

pub returns-in-Some-2 : goal.returns-in-Some-2
returns-in-Some-2 c =
    ports-read c.args.nets.now c.inputs.new.self (form_of c.args.inputs.now) (form_of c.args.list.now) _ c.in-Some.field-0 c.in-Some-2.exprs (rw c.in-Some.is at c.in_ok-inputs.ensures) (closed-is (form_of c.args.list.now) _ c.in-Some-elements.ensures) (rw c.in-Some-2.is at c.in_ok-exprs.ensures.exprs)
