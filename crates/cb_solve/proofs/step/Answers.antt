use Rattle.std.proofs.Common.{refl}
use Rattle.cb_model.specs.declared.Goal.TheVariants as goals
use Rattle.cb_branch.proofs.Laws.{keeps-refl}
use Rattle.cb_solve.proofs.Chosen.{answer-at, true-runs, fail-tries}
use Rattle.cb_solve.proofs.step.Goals as goal

pub returns-in-Nothing-clause-at : goal.returns-in-Nothing-clause-at
returns-in-Nothing-clause-at c = let h = c.requires in (refl, (h.b, answer-at c.args.m.now h (c.in-Nothing.ensures h.b h.runs.is)))

pub returns-in-Nothing-clause-step : goal.returns-in-Nothing-clause-step
returns-in-Nothing-clause-step c = (refl, (refl, (refl, keeps-refl c.args.m.now.branch)))

pub returns-in-True-clause-at : goal.returns-in-True-clause-at
returns-in-True-clause-at c =
    let m = c.args.m.now in let h = c.requires in let s = c.in-True.ensures h.b h.runs.is in
    (h.on, true-runs m c.skip.new.self h s.0 s.1 (c.skip.ensures.branch h.b goals.True s.0 h.runs.is s.1) c.skip.ensures.keeps)

pub returns-in-Fail-clause-at : goal.returns-in-Fail-clause-at
returns-in-Fail-clause-at c = let h = c.requires in let s = c.in-Fail.ensures h.b h.runs.is in (refl, fail-tries c.args.m.now h s.0 s.1)

pub returns-in-Fail-clause-step : goal.returns-in-Fail-clause-step
returns-in-Fail-clause-step c = record { budget = refl; answers = refl; used = refl; keeps = keeps-refl c.args.m.now.branch }

pub first-requires : goal.first-requires
first-requires c = let h = c.requires in (h.b, h.runs.is)

pub skip-requires : goal.skip-requires
skip-requires c = let h = c.requires in let s = c.in-True.ensures h.b h.runs.is in (goals.True, record { b = h.b; is = h.runs.is; rest = s.0; goals = s.1 })
