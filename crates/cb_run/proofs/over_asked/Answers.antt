use Rattle.cb_lines.specs.Ends.{whole}
use Rattle.std.proofs.Common.{refl}
use Rattle.cb_run.proofs.Writing.{breaks-writes, run-counted}
use Rattle.cb_run.proofs.over_asked.Goals as goal

pub returns-in-Ok-clause-says : goal.returns-in-Ok-clause-says
returns-in-Ok-clause-says g c =
    let t = c.in-Ok.ensures.told in
    whole _ (record { lines = t.0; says = (_, (t.1.0, c.outcome_of.ensures)); is = refl }) t.1.1

pub returns-in-Ok-clause-faults : goal.returns-in-Ok-clause-faults
returns-in-Ok-clause-faults g c = run-counted _ _ c.outcome_of.ensures c.in-Ok.ensures.faults

pub returns-in-Err-clause-says : goal.returns-in-Err-clause-says
returns-in-Err-clause-says g c = breaks-writes c.in-Err.ensures.told
