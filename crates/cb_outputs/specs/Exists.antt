-- Whole runs, lines and outputs exist.
use Rattle.std.specs.Prelude.{◌≡◌, ℕ, Bool, List, Some, slice_get}
use Rattle.cb_model.specs.declared.Goal.{Goal}
use Rattle.cb_model.specs.declared.Goal.TheVariants as goal
use Rattle.cb_model.specs.declared.Circuit.{Circuit}
use Rattle.cb_model.specs.Bits.{Each}
use Rattle.cb_model.specs.Program.{Program}
use Rattle.cb_model.specs.Derivation.{Query, Note, End, Plain, Branch}
use Rattle.cb_model.specs.Equations.{Solvable}
use Rattle.cb_model.specs.declared.Outcome.{Outcome}
use Rattle.cb_model.specs.Text.{Text, IsPrefix}
use Rattle.cb_model.specs.Line.{Names, IsLine}
use Rattle.cb_model.specs.Commands.{Nodes}
use Rattle.cb_model.specs.Output.{QuerySays, Output, OutputBegins}

-- a goal's circuit is one of the program's
abbrev pub HasCircuit : Program → Goal → Type 0
HasCircuit p (goal.Circuit m ins outs) = (c : Circuit) × (slice_get p.circuits m ≡ Some c)
HasCircuit p _ = Unit {0}

-- the circuits of the clauses' goals are
abbrev pub HaveCircuits : Program → Type 0
HaveCircuits p = Each (λ c. Each (HasCircuit p) c.body) p.clauses

-- each query has a whole run
abbrev pub RunExists : Type 0
RunExists = (p : Program) (q : Query) (budget : ℕ) → HaveCircuits p → Each (HasCircuit p) q.goals → (ns : List Note) × (end : End) × Plain p q budget ns end

-- a branch whose equations are solvable has a line
abbrev pub LineExists : Type 0
LineExists = (p : Program) (names : Names) (b : Branch) → Solvable p.world b.items → (line : Text) × IsLine p names b line

-- each query says something
abbrev pub QueryExists : Type 0
QueryExists = (p : Program) (q : Query) (names : Names) (resolutions : ℕ) (nodes : Nodes) → HaveCircuits p → Each (HasCircuit p) q.goals →
    (lines : List Text) × (stop : Bool) × QuerySays p q names resolutions nodes lines stop

-- words, file and input have an output
abbrev pub OutputExists : Type 0
OutputExists = (words : List Text) (file input : Text) → (text : Text) × (answer : Outcome) × Output words file input text answer

-- what was written where a run broke off begins an output
abbrev pub BeginningExtends : Type 0
BeginningExtends = (words : List Text) (file input text : Text) → OutputBegins words file input text →
    (whole : Text) × (answer : Outcome) × (Output words file input whole answer × IsPrefix text whole)
