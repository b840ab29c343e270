use Rattle.cb_facts.proofs.Parts.{instance-read}
use Rattle.cb_facts.proofs.instances.read_instance.Goals as goal

pub returns : goal.returns
returns c =
    instance-read c.args.nets.now c.list.new.self c.list-2.new.self _ c.in-Some.part.now _ _ _ c.in-Some-2.ins.items c.in-Some-3.outs.items c.in-Some.ensures c.in-Some-two.ensures
    (rw c.in-Some-2.is at c.in_ok-ins.ensures) (rw c.in-Some-3.is at c.in_ok-outs.ensures)
