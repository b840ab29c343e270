use Rattle.cb_circ.proofs.Facts.{facts-init, facts-on, facts-stop, facts-end, written-here}
use Rattle.cb_circ.proofs.circuits.Circuits.clauses.Goals as goal

pub loop-clause-init : goal.loop-clause-init
loop-clause-init c = record { written = c.requires; so = facts-init c.args.clauses.now c.args.self.now }

pub clause-requires : goal.clause-requires
clause-requires c =
    (written-here c.args.clauses.now c.args.self.now c.loop-clause.clause-index c.clause-item.result c.loop-clause-test.true c.clause-item.is c.loop-clause.self c.loop-clause.invariant.so c.loop-clause.invariant.written).0

pub returns : goal.returns
returns c = facts-end c.args.clauses.now c.args.self.now c.loop-clause.clause-index c.loop-clause-test.false c.loop-clause.self c.loop-clause.invariant.so

pub returns-in-Some : goal.returns-in-Some
returns-in-Some c =
    facts-stop c.args.clauses.now c.args.self.now c.loop-clause.clause-index c.clause-item.result c.loop-clause-test.true c.clause-item.is c.loop-clause.self c.loop-clause.invariant.so _ _
    (rw c.in-Some.is at c.in_ok-refused.ensures)

pub loop-clause-preserved : goal.loop-clause-preserved
loop-clause-preserved c = record {
  written = (written-here c.args.clauses.now c.args.self.now c.loop-clause.clause-index c.clause-item.result c.loop-clause-test.true c.clause-item.is c.loop-clause.self c.loop-clause.invariant.so c.loop-clause.invariant.written).1;
  so = facts-on c.args.clauses.now c.args.self.now c.loop-clause.clause-index c.clause-item.result c.loop-clause-test.true c.clause-item.is c.loop-clause.self c.loop-clause.invariant.so c.clause.new.self
      (rw c.in_default.is at c.in_ok-refused.ensures);
}
