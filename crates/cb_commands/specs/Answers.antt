-- What is decided before a byte is written.
use Rattle.std.specs.Prelude.{◌≡◌, ℕ, ◌+◌, ◌-◌, ◌*◌, ◌≤◌, List, [], ◌∷◌, ◌++◌, codes, length, Option, Some, None, Result, Ok, Err}
use Rattle.cb_model.specs.declared.Outcome.{Outcome}
use Rattle.cb_model.specs.declared.Outcome.TheVariants as outcome
use Rattle.cb_model.specs.Text.{Text, lines_text}
use Rattle.cb_model.specs.Circuits.{Module}
use Rattle.cb_model.specs.Verdicts.{differs_text}
use Rattle.cb_dd.specs.declared.Stop.TheVariants as stop
use Rattle.cb_lines.specs.Ends.{IsSaid, line_bytes}
use Rattle.cb_lines.specs.Lines.{adder_size_text, word_text, names_text}
use Rattle.cb_lines.specs.declared.lines.Pair.{Pair}
use Rattle.cb_lines.specs.declared.lines.TheConstants.{STOPPED_NODES, NO_MODULE, NO_SPEC, PORTS_DIFFER}
use Rattle.cb_verify.specs.declared.Verdict.{Verdict}
use Rattle.cb_verify.specs.declared.Verdict.TheVariants as verdict
use Rattle.cb_verify.specs.declared.modules.VerifyError.{VerifyError}
use Rattle.cb_verify.specs.declared.modules.VerifyError.TheVariants as error
use Rattle.cb_commands.specs.declared.answer.Answer.{Answer}

-- the answer is of lines that are said with its outcome
abbrev pub Says : (List Text → Outcome → Type 0) → Answer → Type 0
Says Said a = IsSaid Said (line_bytes a.line) a.outcome

-- the inputs of a module, and none where there is no module
abbrev pub ports_of : Option Module → List Text
ports_of None = []
ports_of (Some m) = m.inputs

-- the line and the outcome of a verdict
abbrev pub VerdictSays : Pair → List Text → Verdict → Text → Outcome → Type 0
VerdictSays pair ports verdict.Verified text result =
    (text ≡ lines_text ((word_text pair ++ names_text pair) ∷ [])) × (result ≡ outcome.Done)
VerdictSays pair ports (verdict.Differs input output got wanted) text result =
    (text ≡ lines_text (differs_text (names_text pair) ports input (output - 1) got wanted ∷ [])) × (result ≡ outcome.Differs)

-- those of a comparison; want of memory has none
abbrev pub ComparisonSays : Pair → List Text → Result Verdict VerifyError → Text → Outcome → Type 0
ComparisonSays pair ports (Ok v) text result = VerdictSays pair ports v text result
ComparisonSays pair ports (Err error.NoModule) text result = (text ≡ NO_MODULE.now) × (result ≡ outcome.Refused 16)
ComparisonSays pair ports (Err error.NoSpec) text result = (text ≡ NO_SPEC.now) × (result ≡ outcome.Refused 17)
ComparisonSays pair ports (Err error.Shape) text result = (text ≡ PORTS_DIFFER.now) × (result ≡ outcome.Refused 18)
ComparisonSays pair ports (Err (error.Stop stop.Nodes)) text result = (text ≡ STOPPED_NODES.now) × (result ≡ outcome.Stopped)
ComparisonSays pair ports (Err (error.Stop stop.Memory)) text result = ⊥

-- the input of a verdict has a bit for each port
abbrev pub FitsPorts : ℕ → Verdict → Type 0
FitsPorts ports verdict.Verified = Unit {0}
FitsPorts ports (verdict.Differs input output got wanted) = (ports ≡ length input) × (1 ≤ output)

-- the answer tells the size of an adder of so many bits
pub record TellsSize (bits : ℕ) (a : Answer) : Type 0 where
  pub line : line_bytes a.line ≡ lines_text (adder_size_text (2 * bits + 1) (bits + 1) (5 * bits) ∷ [])
  pub outcome : a.outcome ≡ outcome.Done
