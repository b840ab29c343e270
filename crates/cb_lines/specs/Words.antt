-- The words of the command line, without their places in memory.
use Rattle.std.specs.Prelude.{ℕ, ◌+◌, ◌-◌, ◌*◌, nat_le, if◌then◌else◌, [], ◌∷◌, Option, Some, None, option_and_then}
use Rattle.cb_model.specs.Text.{Text, is_digit}
use Rattle.cb_model.specs.Commands as spec
use Rattle.cb_lines.specs.declared.words.Nodes.{Nodes}
use Rattle.cb_lines.specs.declared.words.Nodes.TheVariants as nodes
use Rattle.cb_lines.specs.declared.words.Command.{Command}
use Rattle.cb_lines.specs.declared.words.Command.TheVariants as command

-- a budget
abbrev pub nodes_view : Nodes → spec.Nodes
nodes_view nodes.Max = spec.Max
nodes_view (nodes.Only n) = spec.Only n

-- a command
abbrev pub command_view : Command → spec.Command
command_view (command.Check f) = spec.Check f.now
command_view (command.Run f r n) = spec.Run f.now r (nodes_view n)
command_view (command.Verify f x n) = spec.Verify f.now x.now (nodes_view n)
command_view (command.Same f x y n) = spec.Same f.now x.now y.now (nodes_view n)
command_view (command.Make b n) = spec.Make b (nodes_view n)

-- a number with one digit more, where that is within the limit
abbrev pub digit_upto : ℕ → ℕ → ℕ → Option ℕ
digit_upto limit value x = if is_digit x then (if nat_le (10 * value + (x - 48)) limit then Some (10 * value + (x - 48)) else None) else None

-- a number with more digits, where it stays within the limit
abbrev pub digits_upto : ℕ → ℕ → Text → Option ℕ
digits_upto limit value [] = Some value
digits_upto limit value (x ∷ xs) = option_and_then (λ more. digits_upto limit more xs) (digit_upto limit value x)
