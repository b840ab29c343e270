use Rattle.std.proofs.Common.{ap}
use Rattle.cb_trees.proofs.Walk.{written_here, written_on}
use Rattle.cb_facts.specs.Modules.{texts}
use Rattle.cb_facts.proofs.Steps.{instances-init, instances-on, instances-stop, instances-end}
use Rattle.cb_facts.proofs.instances.read_instances.Goals as goal

pub loop-term-init : goal.loop-term-init
loop-term-init c = record {
  written = c.requires;
  so = instances-init c.args.terms.now c.args.nets.now (texts c.new-all.result.parts.items) c.new-all.result.ins c.new-all.result.outs (ap texts c.new-all.ensures.parts) c.new-all.ensures.ins c.new-all.ensures.outs;
}

pub read_instance-requires : goal.read_instance-requires
read_instance-requires c = written_here c.args.terms.now c.loop-term.term-index c.term-item.result c.loop-term-test.true c.term-item.is c.loop-term.invariant.written

pub returns-in_default : goal.returns-in_default
returns-in_default c =
    instances-stop c.args.terms.now c.args.nets.now c.loop-term.term-index c.term-item.result c.loop-term-test.true c.term-item.is c.loop-term.nets (texts c.loop-term.all.parts.items) c.loop-term.all.ins c.loop-term.all.outs c.loop-term.invariant.so
    (rw c.in_default.is at c.in_ok-instance.ensures)

pub loop-term-preserved : goal.loop-term-preserved
loop-term-preserved c = record {
  written = written_on c.args.terms.now c.loop-term.term-index c.term-item.result c.loop-term-test.true c.term-item.is c.loop-term.invariant.written;
  so = instances-on c.args.terms.now c.args.nets.now c.loop-term.term-index c.term-item.result c.loop-term-test.true c.term-item.is c.loop-term.nets c.read_instance.new.nets
      (texts c.loop-term.all.parts.items) (texts c.push.new.self.parts.items) c.loop-term.all.ins c.push.new.self.ins c.loop-term.all.outs c.push.new.self.outs
      c.in-Some.instance.part.now c.in-Some.instance.ins.items c.in-Some.instance.outs.items c.loop-term.invariant.so
      (rw c.in-Some.is at c.in_ok-instance.ensures) c.in_ok-push.ensures.parts c.in_ok-push.ensures.ins c.in_ok-push.ensures.outs;
}

pub returns : goal.returns
returns c =
    instances-end c.args.terms.now c.args.nets.now c.loop-term.term-index c.loop-term-test.false c.loop-term.nets (texts c.loop-term.all.parts.items) c.loop-term.all.ins c.loop-term.all.outs c.loop-term.invariant.so
