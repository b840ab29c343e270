use Rattle.std.proofs.Common.{refl, ap, Ok}
use Rattle.std.specs.Prelude.{Bool}
use Rattle.cb_solve.proofs.Adds.{same-self, equal-made, equal-adds, adding-stops, adding-few, adding-goes, adding-fails, err-as}
use Rattle.cb_solve.proofs.equation.Goals as goal

pub returns-in-Some-clause-step : goal.returns-in-Some-clause-step
returns-in-Some-clause-step c = same-self c.args.m.now

pub returns-in-Some-clause-at : goal.returns-in-Some-clause-at
returns-in-Some-clause-at c =
    let m = c.args.m.now in let h = c.requires in
    adding-stops m h.b (equal-made m h) 0 h.runs (equal-adds m h) c.in-Some.budget c.in-Some.ensures.passed

pub returns-in-Err-clause-few : goal.returns-in-Err-clause-few
returns-in-Err-clause-few c = λ e.
    let m = c.args.m.now in let h = c.requires in let s = h.starts in
    adding-few m h.b (equal-made m h) 0 h.runs (equal-adds m h) (record m { branch = c.equate.new.self }) c.in_default.ensures.passed (c.in-Err.ensures.nodes (err-as _ _ e) h.b s.0 s.1 s.2 h.runs.is s.3)

pub returns-in-Ok-true-clause-at : goal.returns-in-Ok-true-clause-at
returns-in-Ok-true-clause-at c =
    let m = c.args.m.now in let h = c.requires in let s = h.starts in (
      h.on,
      adding-goes m h.b (equal-made m h) 0 h.runs (equal-adds m h) _ c.in_default.ensures.passed (c.in-Ok-true.ensures.yes (ap (λ (b : Bool). Ok b) c.in-Ok-true.field-0-test) h.b s.0 s.1 s.2 h.runs.is s.3)
          (record { budget = refl; answers = refl; used = refl; keeps = c.in-Ok-true.ensures.keeps }) refl,
    )

pub returns-in-Ok-false-clause-at : goal.returns-in-Ok-false-clause-at
returns-in-Ok-false-clause-at c =
    let m = c.args.m.now in let h = c.requires in let s = h.starts in (
      refl,
      adding-fails m h.b (equal-made m h) 0 h.runs (equal-adds m h) _ c.in_default.ensures.passed (c.in-Ok-false.ensures.no (ap (λ (b : Bool). Ok b) c.in-Ok-false.field-0-test) h.b s.0 s.1 s.2 h.runs.is s.3)
          (record { budget = refl; answers = refl; used = refl; keeps = c.in-Ok-false.ensures.keeps }) refl,
    )

pub equate-requires-clause-first : goal.equate-requires-clause-first
equate-requires-clause-first c = let h = c.requires in let s = h.starts in (s.0, s.1, record { b = h.b; is = h.runs.is; rest = s.2; goals = s.3 })

pub equate-requires-clause-room : goal.equate-requires-clause-room
equate-requires-clause-room c = let h = c.requires in c.in_default.ensures.fits h.b h.runs.is
