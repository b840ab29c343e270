-- What is built so far of what the program prints: `check`, `verify`, `same` and `make`, and `run` on files without facts of
-- circuits and without directives `demon`.
use Rattle.std.specs.Prelude.{◌≡◌, ◌⊎◌, ℕ, List, [], Option, Some, None}
use Rattle.cb_model.specs.declared.Outcome.{Outcome}
use Rattle.cb_model.specs.Text.{Text, IsPrefix}
use Rattle.cb_model.specs.Commands.{Command, Check, Run, Verify, Same, Make, Nodes}
use Rattle.cb_model.specs.Refusals.{Refused, Refuses, usage}
use Rattle.cb_model.specs.Output.{Loaded, IsLoaded, LoadedSays, FileRefused, ReadWhole}
use Rattle.cb_model.specs.Outside.{bytes_named}
use Rattle.cb_lines.specs.Ends.{IsSaid}
use Rattle.cb_commands.specs.Says.{MakeSays}
use Rattle.cb_run.specs.Run.{IsBuilt, RunSays, Asking}

-- what is asked of a file
pub data Task : Type 0 where
  Checking : Task
  Running : (resolutions : ℕ) (nodes : Nodes) → Task
  Comparing : (name : Text) (nodes : Nodes) → Task
  Pairing : (one two : Text) (nodes : Nodes) → Task

-- the command that asks it of the file of a name
abbrev pub command_over : Text → Task → Command
command_over file Checking = Check file
command_over file (Running resolutions nodes) = Run file resolutions nodes
command_over file (Comparing name nodes) = Verify file name nodes
command_over file (Pairing one two nodes) = Same file one two nodes

-- the lines and the outcome of a task over an accepted file and the input
abbrev pub TaskSays : Task → Text → Loaded → List Text → Outcome → Type 0
TaskSays Checking input l lines outcome = LoadedSays (Check []) input l lines outcome
TaskSays (Running resolutions nodes) input l lines outcome = RunSays l resolutions nodes input lines outcome
TaskSays (Comparing name nodes) input l lines outcome = LoadedSays (Verify [] name nodes) input l lines outcome
TaskSays (Pairing one two nodes) input l lines outcome = LoadedSays (Same [] one two nodes) input l lines outcome

-- the same over any file
pub data FileSays (task : Task) (file input : Text) (lines : List Text) (outcome : Outcome) : Type 0 where
  refused : (r : Refused) → FileRefused file r → Refuses r lines outcome → FileSays task file input lines outcome
  accepted : (l : Loaded) → IsLoaded file l → TaskSays task input l lines outcome → FileSays task file input lines outcome

-- what a command says over the bytes of its file and of the input
abbrev pub CommandSays : Option Command → Text → Text → List Text → Outcome → Type 0
CommandSays None file input lines outcome = Refuses usage lines outcome
CommandSays (Some (Check f)) file input lines outcome = FileSays Checking file input lines outcome
CommandSays (Some (Run f resolutions nodes)) file input lines outcome = FileSays (Running resolutions nodes) file input lines outcome
CommandSays (Some (Verify f name nodes)) file input lines outcome = FileSays (Comparing name nodes) file input lines outcome
CommandSays (Some (Same f one two nodes)) file input lines outcome = FileSays (Pairing one two nodes) file input lines outcome
CommandSays (Some (Make b n)) file input lines outcome = MakeSays b n lines outcome

-- the text and the outcome belong to this command, this file and this input
abbrev pub Output : Option Command → Text → Text → Text → Outcome → Type 0
Output command file input text outcome = IsSaid (CommandSays command file input) text outcome

-- the text is nothing, or it begins the text of an output, or what the queries of `run` have printed so far
pub data OutputBegins (command : Option Command) (file input text : Text) : Type 0 where
  nothing_yet : text ≡ [] → OutputBegins command file input text
  begins : (whole : Text) (outcome : Outcome) → Output command file input whole outcome → IsPrefix text whole → OutputBegins command file input text
  so_far : (f : Text) (resolutions : ℕ) (nodes : Nodes) → command ≡ Some (Run f resolutions nodes) → Asking file input resolutions nodes text →
      OutputBegins command file input text

-- the bytes of the file that is named, if one is
abbrev pub bytes_or : List (Text × Text) → Option Text → Text
bytes_or files None = []
bytes_or files (Some x) = bytes_named files x

-- what is left of the input after a run that no fault and no want of memory ended: only `run` over an accepted file that
-- has nothing which it doesn't take yet reads it
abbrev pub TakesBy : Option Command → Text → Text → Option Text → Type 0
TakesBy (Some (Run f r n)) file input after =
    ((l : Loaded) × (IsBuilt file l × ReadWhole input after)) ⊎ (((l : Loaded) → IsBuilt file l → ⊥) × (after ≡ Some input))
TakesBy _ file input after = after ≡ Some input
