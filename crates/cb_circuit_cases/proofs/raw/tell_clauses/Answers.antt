use Rattle.cb_circuit_cases.proofs.Heads.{written-here}
use Rattle.cb_circuit_cases.proofs.raw.tell_clauses.Goals as goal

pub loop-clause-init : goal.loop-clause-init
loop-clause-init c = c.requires

pub tell_clause-requires : goal.tell_clause-requires
tell_clause-requires c =
    (written-here c.args.clauses.now c.loop-clause.clause-index c.clause-item.result c.loop-clause-test.true c.clause-item.is c.loop-clause.invariant).0

pub loop-clause-preserved : goal.loop-clause-preserved
loop-clause-preserved c =
    (written-here c.args.clauses.now c.loop-clause.clause-index c.clause-item.result c.loop-clause-test.true c.clause-item.is c.loop-clause.invariant).1
