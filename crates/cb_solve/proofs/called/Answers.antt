use Rattle.std.proofs.Common.{ap, Ok}
use Rattle.std.specs.Prelude.{Bool}
use Rattle.cb_model.specs.declared.Goal.TheVariants as goals
use Rattle.cb_solve.proofs.Adds.{err-as}
use Rattle.cb_solve.proofs.Stacks.{few-running}
use Rattle.cb_solve.proofs.Asking.{at-later, call-attempts, call-waits, few-later, step-later}
use Rattle.cb_solve.proofs.called.Goals as goal

pub ready-requires : goal.ready-requires
ready-requires c = let h = c.requires in let s = h.starts in record { first = (c.args.pred, s.0, record { b = h.b; is = h.runs.is; rest = s.1; goals = s.2 }) }

pub attempt-requires : goal.attempt-requires
attempt-requires c =
    let m = c.args.m.now in let h = c.requires in let s = h.starts in
    call-attempts m c.args.pred c.ready.new.self h c.in-Ok-true.ensures.keeps (c.in-Ok-true.ensures.branch h.b h.runs.is)
    (c.in-Ok-true.ensures.yes (ap (λ (b : Bool). Ok b) c.in-Ok-true.field-0-test) h.b (goals.Call c.args.pred s.0) s.1 h.runs.is s.2)

pub park-requires : goal.park-requires
park-requires c =
    let m = c.args.m.now in let h = c.requires in let s = h.starts in
    call-waits m c.args.pred c.ready.new.self h c.in-Ok-false.ensures.keeps (c.in-Ok-false.ensures.branch h.b h.runs.is)
    (c.in-Ok-false.ensures.no (ap (λ (b : Bool). Ok b) c.in-Ok-false.field-0-test) h.b (goals.Call c.args.pred s.0) s.1 h.runs.is s.2)

pub returns-in-Ok-true-clause-at : goal.returns-in-Ok-true-clause-at
returns-in-Ok-true-clause-at c = at-later c.args.m.now c.attempt.new.m c.ready.new.self c.in-Ok-true.ensures.keeps c.attempt.result c.attempt.ensures.at

pub returns-in-Ok-true-clause-step : goal.returns-in-Ok-true-clause-step
returns-in-Ok-true-clause-step c = step-later c.args.m.now c.attempt.new.m c.ready.new.self c.in-Ok-true.ensures.keeps c.attempt.result c.in-Ok-true.ensures.work c.attempt.ensures.step

pub returns-in-Ok-true-clause-few : goal.returns-in-Ok-true-clause-few
returns-in-Ok-true-clause-few c = λ e. few-later c.args.m.now c.attempt.new.m c.ready.new.self c.in-Ok-true.ensures.keeps (c.attempt.ensures.few e)

pub returns-in-Ok-false-clause-at : goal.returns-in-Ok-false-clause-at
returns-in-Ok-false-clause-at c = at-later c.args.m.now c.park.new.m c.ready.new.self c.in-Ok-false.ensures.keeps c.park.result c.park.ensures.at

pub returns-in-Ok-false-clause-step : goal.returns-in-Ok-false-clause-step
returns-in-Ok-false-clause-step c = step-later c.args.m.now c.park.new.m c.ready.new.self c.in-Ok-false.ensures.keeps c.park.result c.in-Ok-false.ensures.work c.park.ensures.step

pub returns-in-Ok-false-clause-few : goal.returns-in-Ok-false-clause-few
returns-in-Ok-false-clause-few c = λ e. few-later c.args.m.now c.park.new.m c.ready.new.self c.in-Ok-false.ensures.keeps (c.park.ensures.few e)

pub returns-in-Err-clause-few : goal.returns-in-Err-clause-few
returns-in-Err-clause-few c = λ e.
    let m = c.args.m.now in let h = c.requires in
    few-running m (record m { branch = c.ready.new.self }) h.b h.runs (c.in-Err.ensures.nodes (err-as _ _ e) h.b h.runs.is)
