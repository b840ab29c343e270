-- What an outcome of `run` says.
use Rattle.std.proofs.Common.{◌≡◌, ℕ, Bool, true, false, List, [], Option, inl, inr, sym, ap, subst, ◌∙◌, arith}
use Rattle.cb_model.specs.declared.Outcome.{Outcome}
use Rattle.cb_model.specs.declared.Outcome.TheVariants as outcome
use Rattle.cb_model.specs.declared.Side.{Side}
use Rattle.cb_model.specs.declared.Side.TheVariants as side
use Rattle.cb_model.specs.Text.{Text}
use Rattle.cb_model.specs.Commands.{Run, Nodes}
use Rattle.cb_model.specs.Refusals.{Refused}
use Rattle.cb_model.specs.Output as model
use Rattle.cb_model.specs.Output.{Loaded, LoadedSays, InputRefused, run_outcome}
use Rattle.cb_lines.specs.Ends.{IsDecided, whole, broken, wanting}
use Rattle.cb_lines.proofs.Outcomes.{Facts, refusal-facts, reading-number, sort-number, no-fault}
use Rattle.cb_run.specs.Run.{InputSays, says, few}
use Rattle.cb_run.specs.Running.{InputWrites}

-- the number of a refusal of the input
input-number : (l : Loaded) (input : Text) (r : Refused) → InputRefused l input r → r.number ≡ 19 → ⊥
input-number l input r (model.long h) = λ (p : 20 ≡ 19). omega arith
input-number l input r (model.unread {r = q} x s h e) = reading-number x q e
input-number l input r (model.sorts qs e s h q t) = λ p. sort-number e (sym (ap (λ (x : Refused). x.number) t) ∙ p)

-- the outcome of queries that were told
ran-facts : (stop : Bool) (o : Outcome) → o ≡ run_outcome stop → Facts (Unit {0}) o
ran-facts stop o e = record {
  ends = subst IsDecided (sym e) (decided stop);
  other = λ p. other stop (sym e ∙ p);
  stops = λ p. tt;
}
  where
    decided : (b : Bool) → IsDecided (run_outcome b)
    decided true = tt
    decided false = tt

    other : (b : Bool) → run_outcome b ≡ outcome.Refused 19 → ⊥
    other true p = absurd (cc)
    other false p = absurd (cc)

-- `run` may stop
pub loaded-facts : (l : Loaded) (resolutions : ℕ) (nodes : Nodes) (input : Text) (lines : List Text) (o : Outcome) → LoadedSays (Run [] resolutions nodes) input l lines o → Facts (Unit {0}) o
loaded-facts l resolutions nodes input lines o (inl h) = refusal-facts h.0 lines o (input-number l input h.0 h.1.0) h.1.1
loaded-facts l resolutions nodes input lines o (inr h) = ran-facts h.1 o h.6

pub input-facts : (l : Loaded) (resolutions : ℕ) (nodes : Nodes) (input : Text) (lines : List Text) (o : Outcome) → InputSays l resolutions nodes input lines o → Facts (Unit {0}) o
input-facts l resolutions nodes input lines o (says h) = loaded-facts l resolutions nodes input lines o h
input-facts l resolutions nodes input lines o (few qs stop number short reading accepted tell e) = ran-facts stop o e

-- what is written over an input that was read ends by no other fault than one of the output
pub input-side : {l : Loaded} {resolutions : ℕ} {nodes : Nodes} {input : Text} {before after : Option Text} {result : Outcome} → InputWrites l resolutions nodes input before after result →
    (s : Side) → (s ≡ side.Output → ⊥) → result ≡ outcome.Fault s → ⊥
input-side {l} {resolutions} {nodes} {input} {result = result} (whole t h w) s n e = no-fault s result (input-facts l resolutions nodes input h.lines result h.says).ends e
input-side (broken t b f w) s n e = n (let p : outcome.Fault s ≡ outcome.Fault side.Output = sym e ∙ f in cc)
input-side (wanting t b f w) s n e = let p : outcome.Memory ≡ outcome.Fault s = sym f ∙ e in cc
