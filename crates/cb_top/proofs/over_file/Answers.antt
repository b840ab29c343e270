use Rattle.std.proofs.Common.{refl, sym, subst}
use Rattle.cb_lines.proofs.Writing.{none_counted}
use Rattle.cb_accept.specs.File.{IsTold}
use Rattle.cb_top.specs.Tasks.{task_view}
use Rattle.cb_top.proofs.Ending.{bytes-ran, ended-ran, bytes-file, end-file, end-input}
use Rattle.cb_top.proofs.over_file.Goals as goal

pub returns-in-Ok-clause-ran : goal.returns-in-Ok-clause-ran
returns-in-Ok-clause-ran g c =
    bytes-ran c.args.file.now c.as_slice.result.now (task_view c.args.task) (subst (IsTold _ c.args.file.now) (sym c.as_slice.ensures.value) c.in-Ok.ensures.loaded.told) c.over_bytes.ensures.says

pub returns-in-Ok-clause-file_faults : goal.returns-in-Ok-clause-file_faults
returns-in-Ok-clause-file_faults g c = none_counted _ _ (bytes-file (task_view c.args.task) c.as_slice.result.now c.over_bytes.ensures.says) (c.in-Ok.ensures.faults.kept (λ e. absurd (cc)))

pub returns-in-Err-clause-ran : goal.returns-in-Err-clause-ran
returns-in-Err-clause-ran g c = ended-ran c.args.file.now (task_view c.args.task) _ c.in-Err.ended c.in-Err.ensures.refused c.tell.ensures.told

pub returns-in-Err-clause-file_faults : goal.returns-in-Err-clause-file_faults
returns-in-Err-clause-file_faults g c = end-file _ c.in-Err.ended _ _ _ _ _ c.tell.ensures.told c.in-Err.ensures.faults

pub returns-in-Err-clause-input_faults : goal.returns-in-Err-clause-input_faults
returns-in-Err-clause-input_faults g c = none_counted _ _ (end-input c.in-Err.ended _ _ _ c.tell.ensures.told) refl
