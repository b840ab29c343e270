use Rattle.std.proofs.Common.{◌≡◌, refl, sym, subst}
use Rattle.cb_model.specs.declared.Side.TheVariants.{Input, Output}
use Rattle.cb_host.proofs.Writes.{Wrote-none}
use Rattle.cb_lines.proofs.Writing.{none_counted}
use Rattle.cb_run.specs.Running.{IsInput, read, input_failed, input_wanting}
use Rattle.cb_run.proofs.Outcomes.{input-side}
use Rattle.cb_run.proofs.Writing.{input-done, input-long, writes-long}
use Rattle.cb_run.proofs.over_program.Goals as goal

pub returns-in-Done-clause-says : goal.returns-in-Done-clause-says
returns-in-Done-clause-says g c = λ cs o.
    read c.as_slice.result.now (subst (IsInput _ _) (sym c.as_slice.ensures.value) (input-done _ _ c.read_within.new.into.items c.in-Done.ensures.bytes)) (c.over_input.ensures.says cs o)

pub returns-in-Long-clause-says : goal.returns-in-Long-clause-says
returns-in-Long-clause-says g c = λ cs o.
    let i = input-long _ _ c.read_within.new.into.items c.in-Long.ensures.bytes c.in-Long.ensures.length in
    read i.0 i.2 (writes-long _ i.1 refl c.finish.ensures.written)

pub returns-in-Failed-clause-says : goal.returns-in-Failed-clause-says
returns-in-Failed-clause-says g c = λ cs o. input_failed refl (Wrote-none _)

pub returns-clause-says : goal.returns-clause-says
returns-clause-says g c = λ cs o. input_wanting refl (Wrote-none _)

pub returns-in-Done-clause-input_faults : goal.returns-in-Done-clause-input_faults
returns-in-Done-clause-input_faults g c =
    let p = c.requires in
    none_counted _ _ (input-side (c.over_input.ensures.says p.cs p.over) Input (λ (e : Input ≡ Output). absurd (cc))) (c.in-Done.ensures.kept refl)
