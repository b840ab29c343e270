use Rattle.cb_solve.proofs.Adds.{err-as}
use Rattle.cb_solve.proofs.Stacks.{few-running}
use Rattle.cb_solve.proofs.Chosen.{same-branch}
use Rattle.cb_solve.proofs.Asking.{park-runs}
use Rattle.cb_solve.proofs.park.Goals as goal

pub park-requires : goal.park-requires
park-requires c = let w = c.requires in record { first = (w.pred, w.args, record { b = w.b; is = w.runs.is; rest = w.rest; goals = w.starts }) }

pub returns-in-Ok-clause-at : goal.returns-in-Ok-clause-at
returns-in-Ok-clause-at c = let w = c.requires in
    (w.on, park-runs c.args.m.now c.park.new.self w (c.in-Ok.ensures.parked w.b w.pred w.args w.rest w.runs.is w.starts) c.in-Ok.ensures.keeps)

pub returns-in-Ok-clause-step : goal.returns-in-Ok-clause-step
returns-in-Ok-clause-step c = (same-branch c.args.m.now c.park.new.self c.in-Ok.ensures.keeps, c.in-Ok.ensures.work)

pub returns-in-Err-clause-few : goal.returns-in-Err-clause-few
returns-in-Err-clause-few c = λ e. let w = c.requires in
    few-running c.args.m.now (record c.args.m.now { branch = c.park.new.self }) w.b w.runs (c.in-Err.ensures.nodes (err-as _ _ e) w.b w.runs.is)
