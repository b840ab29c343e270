-- What is written for a task over a file.
use Rattle.std.specs.Prelude.{◌≡◌, List, [], Option}
use Rattle.cb_model.specs.declared.Outcome.{Outcome}
use Rattle.cb_model.specs.declared.Outcome.TheVariants as outcome
use Rattle.cb_model.specs.Text.{Text}
use Rattle.cb_model.specs.Refusals.{Refused}
use Rattle.cb_model.specs.Outside.{Wrote}
use Rattle.cb_lines.specs.Ends.{Tells, Refusing}
use Rattle.cb_lines.specs.Words.{nodes_view}
use Rattle.cb_model.specs.Output.{Loaded, IsLoaded, FileRefused}
use Rattle.cb_commands.specs.Says.{CheckSays, VerifyOver, SameOver}
use Rattle.cb_run.specs.Running.{FileRun}
use Rattle.cb_top.specs.Built.{Task, Checking, Running, Comparing, Pairing}
use Rattle.cb_top.specs.declared.Task as lent
use Rattle.cb_top.specs.declared.Task.TheVariants as task

-- what is asked, without the place of its name in memory
abbrev pub task_view : lent.Task → Task
task_view task.Check = Checking
task_view (task.Run resolutions nodes) = Running resolutions (nodes_view nodes)
task_view (task.Verify name nodes) = Comparing name.now (nodes_view nodes)
task_view (task.Same one two nodes) = Pairing one.now two.now (nodes_view nodes)

-- the task reads the input
abbrev pub ReadsInput : Task → Type 0
ReadsInput (Running resolutions nodes) = Unit {0}
ReadsInput _ = ⊥

-- what is written for a task over an accepted file, and what is left of the input
abbrev pub TaskRun : Task → Loaded → Option Text → Option Text → Option Text → Option Text → Outcome → Type 0
TaskRun Checking l told left before after result = (left ≡ told) × Tells (CheckSays l) before after result
TaskRun (Running resolutions nodes) l told left before after result = FileRun l resolutions nodes told left before after result
TaskRun (Comparing name nodes) l told left before after result = (left ≡ told) × Tells (VerifyOver l name nodes) before after result
TaskRun (Pairing one two nodes) l told left before after result = (left ≡ told) × Tells (SameOver l one two nodes) before after result

-- the same over the bytes of any file: its refusal is written; or the task's text is; or memory was wanting
pub data BytesRun (task : Task) (file : Text) (told left before after : Option Text) (result : Outcome) : Type 0 where
  refused : (r : Refused) → FileRefused file r → left ≡ told → Refusing r before after result → BytesRun task file told left before after result
  accepted : (l : Loaded) → IsLoaded file l → TaskRun task l told left before after result → BytesRun task file told left before after result
  wanting : result ≡ outcome.Memory → Wrote before after [] → BytesRun task file told left before after result
