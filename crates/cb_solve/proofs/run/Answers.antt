use Rattle.cb_solve.proofs.Loops.{ongoing-few, ongoing-start, ongoing-at, ongoing-step, ongoing-ran}
use Rattle.cb_solve.proofs.run.Goals as goal

pub loop-stepped-init : goal.loop-stepped-init
loop-stepped-init c = ongoing-start c.args.m.now c.requires

pub returns-then-not-goes-clause-at : goal.returns-then-not-goes-clause-at
returns-then-not-goes-clause-at c = ongoing-at c.args.m.now c.loop-stepped.m c.loop-stepped.invariant c.step.new.m c.in-Ok.stepped c.in-Ok.ensures.at

pub returns-then-not-goes-clause-step : goal.returns-then-not-goes-clause-step
returns-then-not-goes-clause-step c =
    ongoing-ran c.args.m.now c.loop-stepped.m c.loop-stepped.invariant c.step.new.m c.in-Ok.stepped (c.goes.ensures.no c.if-not-goes.true) c.in-Ok.ensures.step

pub loop-stepped-preserved : goal.loop-stepped-preserved
loop-stepped-preserved c = let e = c.goes.ensures.yes c.if-not-goes.false in
    ongoing-step c.args.m.now c.loop-stepped.m c.loop-stepped.invariant c.step.new.m (rw e at c.in-Ok.ensures.at) (rw e at c.in-Ok.ensures.step)

pub returns-in-Err-clause-few : goal.returns-in-Err-clause-few
returns-in-Err-clause-few c = λ e. ongoing-few c.args.m.now c.loop-stepped.m c.loop-stepped.invariant c.step.new.m (c.in-Err.ensures.few e)
