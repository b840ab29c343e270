-- What the top call promises of what it prints.
use Rattle.std.specs.Prelude.{◌≡◌, ◌⊎◌, ◌≤◌, List, [], Option, Some, None}
use Rattle.cb_model.specs.declared.Outcome.{Outcome}
use Rattle.cb_model.specs.declared.Outcome.TheVariants as outcome
use Rattle.cb_model.specs.declared.Side.TheVariants as side
use Rattle.cb_model.specs.Text.{Text}
use Rattle.cb_model.specs.Commands.{Command, Check, Run, Verify, Same, Make, IsNumber, file_name}
use Rattle.cb_model.specs.Outside.{Wrote}
use Rattle.cb_lines.specs.Ends.{IsDecided}
use Rattle.cb_top.specs.Built.{Output, OutputBegins, TakesBy, bytes_or}

-- what was appended, by how the run ended: a whole output; or, after a fault or want of memory, a beginning of one,
-- and nothing where the file or the input failed
abbrev pub Appends : Option Command → Text → Text → Text → Outcome → Type 0
Appends command file input text (outcome.Fault side.Output) = OutputBegins command file input text
Appends command file input text (outcome.Fault s) = text ≡ []
Appends command file input text outcome.Memory = OutputBegins command file input text
Appends command file input text o = Output command file input text o

-- What was appended is as above, for some bytes of the file and of the input: for those that are told, where the files and
-- the input tell theirs. Where the sink tells its bytes at the return, it told them before, and that text was appended.
-- Of a told input what a decided run takes is as stated.
pub record Prints (command : Option Command) (files : Option (List (Text × Text))) (told left before after : Option Text) (result : Outcome) : Type 0 where
  pub file : Text
  pub file_told : (list : List (Text × Text)) → files ≡ Some list → file ≡ bytes_or list (file_name command)
  pub input : Text
  pub input_told : (bytes : Text) → told ≡ Some bytes → input ≡ bytes
  pub text : Text
  pub appends : Appends command file input text result
  pub wrote : Wrote before after text
  pub takes : (bytes : Text) → told ≡ Some bytes → IsDecided result → TakesBy command file bytes left

-- the command is `run`
abbrev pub IsRun : Option Command → Type 0
IsRun (Some (Run f r n)) = Unit {0}
IsRun _ = ⊥

-- the command is `run`, or it names a number of nodes
abbrev pub MayStop : Option Command → Type 0
MayStop None = ⊥
MayStop (Some (Check f)) = ⊥
MayStop (Some (Run f r n)) = Unit {0}
MayStop (Some (Verify f x n)) = IsNumber n
MayStop (Some (Same f x y n)) = IsNumber n
MayStop (Some (Make b n)) = IsNumber n

-- a generated circuit has so few bits
abbrev pub MakesFew : Option Command → Type 0
MakesFew (Some (Make b n)) = (1 ≤ b) × (b ≤ 64)
MakesFew _ = Unit {0}

-- what a command printed and how it ended
pub record Ran (command : Option Command) (files : Option (List (Text × Text))) (told left before after : Option Text) (result : Outcome) : Type 0 where
  pub prints : Prints command files told left before after result
  pub refuses : command ≡ None → (result ≡ outcome.Refused 19) ⊎ (result ≡ outcome.Fault side.Output)
  pub only : result ≡ outcome.Refused 19 → command ≡ None
  pub stopped : result ≡ outcome.Stopped → MayStop command
  pub input_of_run : result ≡ outcome.Fault side.Input → IsRun command
