-- What an outcome of `check`, `verify`, `same` and `make` says.
use Rattle.std.proofs.Common.{◌≡◌, inl, inr, ℕ, Bool, true, false, List, Option, Some, None, sym, subst, ◌∙◌, arith, codes, length, []}
use Rattle.std.specs.Prelude.{◌==◌, ◌&&◌, MatchBool}
use Rattle.cb_model.specs.declared.Circuit.{Circuit}
use Rattle.cb_model.specs.declared.Outcome.{Outcome}
use Rattle.cb_model.specs.declared.Outcome.TheVariants as outcome
use Rattle.cb_model.specs.Text.{Text}
use Rattle.cb_model.specs.Commands.{Nodes, Max, Only, IsNumber}
use Rattle.cb_model.specs.Circuits.{Module}
use Rattle.cb_model.specs.Facts.{Circuits, Spec}
use Rattle.cb_model.specs.Refusals.{refused, Refuses}
use Rattle.cb_model.specs.Verdicts.{Compared, agrees, differs, stopped}
use Rattle.cb_model.specs.Output.{BelowNodes, Loaded, VerifySays, SameSays, no_module, module_named, spec_named}
use Rattle.cb_lines.specs.Ends.{IsDecided}
use Rattle.cb_lines.proofs.Outcomes.{Facts, refusal-facts, NotUsage}
use Rattle.cb_commands.specs.Says.{CheckSays, VerifyOver, SameOver, MakeSays}

below-number : (nodes : Nodes) (n : ℕ) → BelowNodes nodes n → IsNumber nodes
below-number Max n h = h
below-number (Only k) n h = tt

-- a comparison stops only where a number of nodes is named
compared-facts : (names ok : Text) (ports : List Text) (c : Circuit) (W : List Bool → List Bool → Type 0) (nodes : Nodes) (room : ℕ) (lines : List Text) (o : Outcome) →
    Compared names ok ports c W (BelowNodes nodes room) lines o → Facts (IsNumber nodes) o
compared-facts names ok ports c W nodes room lines o (agrees h e) = record { ends = tt; other = λ p. cc; stops = λ p. cc }
compared-facts names ok ports c W nodes room lines o (differs i a g w h e) = record { ends = tt; other = λ p. cc; stops = λ p. cc }
compared-facts names ok ports c W nodes room lines o (stopped h e) = record { ends = tt; other = λ p. cc; stops = λ p. below-number nodes room h }

module-facts : (nodes : Nodes) (lines : List Text) (o : Outcome) → Refuses no_module lines o → Facts (IsNumber nodes) o
module-facts nodes lines o h = refusal-facts no_module lines o (λ (p : 16 ≡ 19). omega arith) h

-- a comparison was made, or the ports differ
sides-facts : (D : Type 0) (names ok : Text) (ports : List Text) (c : Circuit) (W : List Bool → List Bool → Type 0) (nodes : Nodes) (room : ℕ) (lines : List Text) (o : Outcome) (b : Bool) →
    MatchBool b (D × Compared names ok ports c W (BelowNodes nodes room) lines o) (Refuses (refused 18 [] (codes "ports differ")) lines o) → Facts (IsNumber nodes) o
sides-facts D names ok ports c W nodes room lines o true h = compared-facts names ok ports c W nodes room lines o h.1
sides-facts D names ok ports c W nodes room lines o false h = refusal-facts (refused 18 [] (codes "ports differ")) lines o (λ (p : 18 ≡ 19). omega arith) h

-- the same of two modules
pairs-facts : (D E : Type 0) (names ok : Text) (ports : List Text) (c : Circuit) (W : List Bool → List Bool → Type 0) (nodes : Nodes) (room : ℕ) (lines : List Text) (o : Outcome) (b : Bool) →
    MatchBool b (D × E × Compared names ok ports c W (BelowNodes nodes room) lines o) (Refuses (refused 18 [] (codes "ports differ")) lines o) → Facts (IsNumber nodes) o
pairs-facts D E names ok ports c W nodes room lines o true h = compared-facts names ok ports c W nodes room lines o h.2
pairs-facts D E names ok ports c W nodes room lines o false h = refusal-facts (refused 18 [] (codes "ports differ")) lines o (λ (p : 18 ≡ 19). omega arith) h

of-verify : (c : Circuits) (name : Text) (nodes : Nodes) (m : Option Module) (s : Option Spec) (lines : List Text) (o : Outcome) → VerifySays c name nodes m s lines o → Facts (IsNumber nodes) o
of-verify c name nodes None s lines o h = module-facts nodes lines o h
of-verify c name nodes (Some m) None lines o h = refusal-facts (refused 17 [] (codes "no specification")) lines o (λ (p : 17 ≡ 19). omega arith) h
of-verify c name nodes (Some m) (Some s) lines o h = sides-facts _ _ _ _ _ _ nodes _ lines o (length m.inputs == length s.inputs && length m.outputs == length s.exprs) h

of-same : (c : Circuits) (one two : Text) (nodes : Nodes) (m n : Option Module) (lines : List Text) (o : Outcome) → SameSays c one two nodes m n lines o → Facts (IsNumber nodes) o
of-same c one two nodes None n lines o h = module-facts nodes lines o h
of-same c one two nodes (Some m) None lines o h = module-facts nodes lines o h
of-same c one two nodes (Some m) (Some n) lines o h = pairs-facts _ _ _ _ _ _ _ nodes _ lines o (length m.inputs == length n.inputs && length m.outputs == length n.outputs) h

-- `verify` stops only where a number of nodes is named
pub verify-facts : (l : Loaded) (name : Text) (nodes : Nodes) (lines : List Text) (o : Outcome) → VerifyOver l name nodes lines o → Facts (IsNumber nodes) o
verify-facts l name nodes lines o h = of-verify l.circuits name nodes (module_named l.circuits name) (spec_named l.circuits name) lines o h

-- so does `same`
pub same-facts : (l : Loaded) (one two : Text) (nodes : Nodes) (lines : List Text) (o : Outcome) → SameOver l one two nodes lines o → Facts (IsNumber nodes) o
same-facts l one two nodes lines o h = of-same l.circuits one two nodes (module_named l.circuits one) (module_named l.circuits two) lines o h

-- `check` never stops
pub check-facts : (l : Loaded) (lines : List Text) (o : Outcome) → CheckSays l lines o → Facts ⊥ o
check-facts l lines o h = record {
  ends = subst IsDecided (sym h.1) tt;
  other = λ p. let q : outcome.Done ≡ outcome.Refused 19 = sym h.1 ∙ p in absurd (cc);
  stops = λ p. let q : outcome.Done ≡ outcome.Stopped = sym h.1 ∙ p in absurd (cc);
}

-- `make` stops only where a number of nodes is named
pub make-facts : (bits : ℕ) (nodes : Nodes) (lines : List Text) (o : Outcome) → MakeSays bits nodes lines o → Facts (IsNumber nodes) o
make-facts bits nodes lines o (l, i, inl h) = record {
  ends = subst IsDecided (sym h.1) tt;
  other = λ p. let q : outcome.Done ≡ outcome.Refused 19 = sym h.1 ∙ p in absurd (cc);
  stops = λ p. let q : outcome.Done ≡ outcome.Stopped = sym h.1 ∙ p in absurd (cc);
}
make-facts bits nodes lines o (l, i, inr h) = record {
  ends = subst IsDecided (sym h.2) tt;
  other = λ p. let q : outcome.Stopped ≡ outcome.Refused 19 = sym h.2 ∙ p in absurd (cc);
  stops = λ p. below-number nodes _ h.0;
}
