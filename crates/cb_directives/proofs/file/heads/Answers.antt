use Rattle.cb_directives.proofs.Steps.{heads_init, heads_on, heads_end}
use Rattle.cb_directives.proofs.Reading.{drop_past}
use Rattle.cb_directives.proofs.file.heads.Goals as goal

pub loop-clause-init : goal.loop-clause-init
loop-clause-init c = heads_init c.args.clauses.now c.new-signs.result c.new-signs.ensures

pub loop-clause-preserved : goal.loop-clause-preserved
loop-clause-preserved c =
    heads_on c.args.clauses.now c.loop-clause.signs c.add_head.new.signs c.loop-clause.clause-index c.clause-item.result c.loop-clause-test.true c.clause-item.is c.loop-clause.invariant c.in_ok-add_head.ensures

pub returns : goal.returns
returns c = heads_end c.args.clauses.now c.loop-clause.signs c.loop-clause.clause-index c.loop-clause.invariant (drop_past c.args.clauses.now c.loop-clause.clause-index c.loop-clause-test.false)
