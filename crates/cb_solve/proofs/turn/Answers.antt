use Rattle.std.proofs.Common.{refl}
use Rattle.cb_solve.specs.declared.Stepped.TheVariants as stepped
use Rattle.cb_solve.proofs.Turns.{few-ran, turned-answer, turned-ran, turned-stopped}
use Rattle.cb_solve.proofs.turn.Goals as goal

pub returns-in-Ok-Stopped-clause-turned : goal.returns-in-Ok-Stopped-clause-turned
returns-in-Ok-Stopped-clause-turned c =
    turned-stopped c.args.m.now c.run.new.m (stepped.Stopped c.in-Ok-Stopped.budget) (rw c.in-Ok-Stopped.field-0-is at c.in-Ok-Stopped.ensures.step) refl (λ h. h)

pub returns-in-Ok-Left-clause-few : goal.returns-in-Ok-Left-clause-few
returns-in-Ok-Left-clause-few c = λ e. few-ran c.args.m.now c.run.new.m c.retry-in-Ok-Left.new.m (rw c.in-Ok-Left.field-0-is at c.in-Ok-Left.ensures.step) (c.retry-in-Ok-Left.ensures.few e)

pub returns-in-Ok-Left-clause-turned : goal.returns-in-Ok-Left-clause-turned
returns-in-Ok-Left-clause-turned c =
    turned-ran c.args.m.now c.run.new.m c.retry-in-Ok-Left.new.m c.retry-in-Ok-Left.result (rw c.in-Ok-Left.field-0-is at c.in-Ok-Left.ensures.step) c.retry-in-Ok-Left.ensures.turn

pub returns-in-Ok-Answer-clause-turned : goal.returns-in-Ok-Answer-clause-turned
returns-in-Ok-Answer-clause-turned c = turned-answer c.args.m.now c.run.new.m (rw c.in-Ok-Answer.field-0-is at c.in-Ok-Answer.ensures.step)
