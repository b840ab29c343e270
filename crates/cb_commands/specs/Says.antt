-- What `check`, `verify` and `same` print over an accepted file, and `make` over the text that it generates.
use Rattle.std.specs.Prelude.{ℕ, List, []}
use Rattle.cb_model.specs.declared.Outcome.{Outcome}
use Rattle.cb_model.specs.Text.{Text}
use Rattle.cb_model.specs.Commands.{Check, Verify, Same, Make, Nodes}
use Rattle.cb_model.specs.Adder.{adder_text}
use Rattle.cb_model.specs.Output.{Loaded, IsLoaded, LoadedSays}

-- the lines and the outcome of `check`, which reads no input
abbrev pub CheckSays : Loaded → List Text → Outcome → Type 0
CheckSays l = LoadedSays (Check []) [] l

-- those of `verify` of a name
abbrev pub VerifyOver : Loaded → Text → Nodes → List Text → Outcome → Type 0
VerifyOver l name nodes = LoadedSays (Verify [] name nodes) [] l

-- those of `same` of two names
abbrev pub SameOver : Loaded → Text → Text → Nodes → List Text → Outcome → Type 0
SameOver l one two nodes = LoadedSays (Same [] one two nodes) [] l

-- those of `make` of so many bits, over its accepted text
abbrev pub MakeOver : Loaded → ℕ → Nodes → List Text → Outcome → Type 0
MakeOver l bits nodes = LoadedSays (Make bits nodes) [] l

-- those of `make` of so many bits: its text is accepted
abbrev pub MakeSays : ℕ → Nodes → List Text → Outcome → Type 0
MakeSays bits nodes lines outcome = (l : Loaded) × IsLoaded (adder_text bits) l × MakeOver l bits nodes lines outcome
