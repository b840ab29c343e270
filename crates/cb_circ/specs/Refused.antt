-- What the refusals of facts say.
use Rattle.std.specs.Prelude.{ℕ, List, Some}
use Rattle.cb_model.specs.Grammar.{FormClause}
use Rattle.cb_model.specs.Facts.{Circuits, FactRefusal, FactsRead, no_circuits}
use Rattle.cb_model.specs.Facts as facts
use Rattle.cb_circ.specs.declared.reading.CircError.{CircError}
use Rattle.cb_circ.specs.declared.reading.CircError.TheVariants as error

-- the first refused fact of a file, with its line
abbrev pub FirstRefusal : List FormClause → FactRefusal → ℕ → Type 0
FirstRefusal cs r n = (c : Circuits) × FactsRead no_circuits cs (Some (r, n)) c

-- each refusal is that of the first refused fact; want of memory may come at any place
abbrev pub RefusesFacts : List FormClause → CircError → Type 0
RefusesFacts cs (error.Twice n) = FirstRefusal cs facts.Twice n
RefusesFacts cs (error.Pins n) = FirstRefusal cs facts.Pins n
RefusesFacts cs (error.Driven n) = FirstRefusal cs facts.Driven n
RefusesFacts cs (error.Cycle n) = FirstRefusal cs facts.Cycle n
RefusesFacts cs (error.Part n) = FirstRefusal cs facts.Part n
RefusesFacts cs (error.Large n) = FirstRefusal cs facts.Large n
RefusesFacts cs error.Memory = Unit {0}
