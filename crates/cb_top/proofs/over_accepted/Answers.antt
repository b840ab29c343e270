use Rattle.std.proofs.Common.{◌≡◌, refl, sym, subst}
use Rattle.cb_model.specs.Text.{Text}
use Rattle.cb_model.specs.declared.Side.TheVariants.{Input, Output}
use Rattle.cb_lines.specs.Ends.{Tells}
use Rattle.cb_lines.specs.Words.{nodes_view}
use Rattle.cb_lines.proofs.Writing.{none_counted}
use Rattle.cb_accept.specs.File.{holds}
use Rattle.cb_commands.specs.Says.{VerifyOver, SameOver}
use Rattle.cb_top.specs.declared.Task.{Task}
use Rattle.cb_top.specs.Tasks.{TaskRun, task_view}
use Rattle.cb_top.proofs.Ending.{check-side, verify-side, same-side}
use Rattle.cb_top.proofs.over_accepted.Goals as goal

pub returns-in-Check-clause-says : goal.returns-in-Check-clause-says
returns-in-Check-clause-says g c =
    subst
    (λ (t : Task). TaskRun (task_view t) (holds c.args.file.now) (g.I.Source.left c.args.input.now) (g.I.Source.left c.args.input.now)
    (g.O.Sink.written c.args.out.now) (g.O.Sink.written c.check.new.out) c.check.result)
    (sym c.in-Check.is) (refl, c.check.ensures.says)

pub returns-in-Check-clause-input_faults : goal.returns-in-Check-clause-input_faults
returns-in-Check-clause-input_faults g c = none_counted _ _ (check-side (holds c.args.file.now) c.check.ensures.says Input (λ (e : Input ≡ Output). absurd (cc))) refl

pub returns-in-Run-clause-says : goal.returns-in-Run-clause-says
returns-in-Run-clause-says g c =
    subst
    (λ (t : Task). TaskRun (task_view t) (holds c.args.file.now) (g.I.Source.left c.args.input.now) (g.I.Source.left c.run.new.input)
    (g.O.Sink.written c.args.out.now) (g.O.Sink.written c.run.new.out) c.run.result)
    (sym c.in-Run.is) c.run.ensures.says

pub returns-in-Verify-clause-says : goal.returns-in-Verify-clause-says
returns-in-Verify-clause-says g c =
    subst
    (λ (t : Task). TaskRun (task_view t) (holds c.args.file.now) (g.I.Source.left c.args.input.now) (g.I.Source.left c.args.input.now)
    (g.O.Sink.written c.args.out.now) (g.O.Sink.written c.verify.new.out) c.verify.result)
    (sym c.in-Verify.is) (
      refl,
      subst (λ (x : Text). Tells (VerifyOver (holds c.args.file.now) x (nodes_view c.in-Verify.nodes)) (g.O.Sink.written c.args.out.now) (g.O.Sink.written c.verify.new.out) c.verify.result) c.as_bytes.ensures.value
          c.verify.ensures.says,
    )

pub returns-in-Verify-clause-input_faults : goal.returns-in-Verify-clause-input_faults
returns-in-Verify-clause-input_faults g c = none_counted _ _ (verify-side (holds c.args.file.now) _ (nodes_view c.in-Verify.nodes) c.verify.ensures.says Input (λ (e : Input ≡ Output). absurd (cc))) refl

pub returns-in-Same-clause-says : goal.returns-in-Same-clause-says
returns-in-Same-clause-says g c =
    subst
    (λ (t : Task). TaskRun (task_view t) (holds c.args.file.now) (g.I.Source.left c.args.input.now) (g.I.Source.left c.args.input.now)
    (g.O.Sink.written c.args.out.now) (g.O.Sink.written c.same.new.out) c.same.result)
    (sym c.in-Same.is) (
      refl,
      subst (λ (x : Text). Tells (SameOver (holds c.args.file.now) x c.in-Same.two.now (nodes_view c.in-Same.nodes)) (g.O.Sink.written c.args.out.now) (g.O.Sink.written c.same.new.out) c.same.result) c.as_bytes-in-Same.ensures.value
          (subst (λ (y : Text). Tells (SameOver (holds c.args.file.now) c.as_bytes-in-Same.result.now y (nodes_view c.in-Same.nodes)) (g.O.Sink.written c.args.out.now) (g.O.Sink.written c.same.new.out) c.same.result) c.as_bytes-in-Same-2.ensures.value
          c.same.ensures.says),
    )

pub returns-in-Same-clause-input_faults : goal.returns-in-Same-clause-input_faults
returns-in-Same-clause-input_faults g c = none_counted _ _ (same-side (holds c.args.file.now) _ _ (nodes_view c.in-Same.nodes) c.same.ensures.says Input (λ (e : Input ≡ Output). absurd (cc))) refl
