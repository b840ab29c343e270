use Rattle.std.proofs.Common.{refl}
use Rattle.cb_lines.proofs.Writing.{none_counted}
use Rattle.cb_top.specs.Tasks.{task_view}
use Rattle.cb_top.proofs.Ending.{accepted-bytes, ended-bytes, end-input}
use Rattle.cb_top.proofs.over_bytes.Goals as goal

pub returns-in-Ok-clause-says : goal.returns-in-Ok-clause-says
returns-in-Ok-clause-says g c = accepted-bytes c.in-Ok.file c.args.bytes.now (task_view c.args.task) c.in-Ok.ensures.text c.in-Ok.ensures.accepted c.over_accepted-outcome.ensures.says

pub returns-in-Err-clause-says : goal.returns-in-Err-clause-says
returns-in-Err-clause-says g c = ended-bytes c.args.bytes.now (task_view c.args.task) c.in-Err.ended c.in-Err.ensures.accepted c.tell.ensures.told

pub returns-in-Err-clause-input_faults : goal.returns-in-Err-clause-input_faults
returns-in-Err-clause-input_faults g c = none_counted _ _ (end-input c.in-Err.ended _ _ _ c.tell.ensures.told) refl
