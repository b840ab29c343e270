use Rattle.cb_trees.proofs.Walk.{written_here, written_on}
use Rattle.cb_facts.proofs.Steps.{nets-init, nets-on, nets-stop, nets-end}
use Rattle.cb_facts.proofs.nets.Nets.nets.Goals as goal

pub loop-term-init : goal.loop-term-init
loop-term-init c = record { written = c.requires; so = nets-init c.args.terms.now c.args.self.now c.new-numbers.result.items c.new-numbers.ensures.items }

pub net-requires : goal.net-requires
net-requires c = written_here c.args.terms.now c.loop-term.term-index c.term-item.result c.loop-term-test.true c.term-item.is c.loop-term.invariant.written

pub returns-in_default : goal.returns-in_default
returns-in_default c = nets-stop c.args.terms.now c.args.self.now c.loop-term.term-index c.term-item.result c.loop-term-test.true c.term-item.is c.loop-term.self c.loop-term.numbers.items c.loop-term.invariant.so (rw c.in_default.is at c.in_ok-number.ensures)

pub loop-term-preserved : goal.loop-term-preserved
loop-term-preserved c = record {
  written = written_on c.args.terms.now c.loop-term.term-index c.term-item.result c.loop-term-test.true c.term-item.is c.loop-term.invariant.written;
  so = nets-on c.args.terms.now c.args.self.now c.loop-term.term-index c.term-item.result c.loop-term-test.true c.term-item.is c.loop-term.self c.net.new.self c.loop-term.numbers.items c.push.new.self.items c.in-Some.number c.loop-term.invariant.so
      (rw c.in-Some.is at c.in_ok-number.ensures) c.in_ok-push.ensures.items;
}

pub returns : goal.returns
returns c = nets-end c.args.terms.now c.args.self.now c.loop-term.term-index c.loop-term-test.false c.loop-term.self c.loop-term.numbers.items c.loop-term.invariant.so
