-- What `make` says, from what is counted and compared.
use Rattle.std.proofs.Common.{◌≡◌, ◌⊎◌, inl, inr, ℕ, ◌+◌, ◌*◌, ◌≤◌, List, [], ◌∷◌, codes, length, Option, Some, refl, sym, ap, subst, ◌∙◌, position, bytes_eq, sum_by}
use Rattle.std.proofs.lemmas.Option.{same_Some}
use Rattle.cb_model.specs.declared.Outcome.{Outcome}
use Rattle.cb_model.specs.declared.Outcome.TheVariants as outcome
use Rattle.cb_model.specs.Text.{Text}
use Rattle.cb_model.specs.Circuits.{Module, Flat, flat_named, flats}
use Rattle.cb_model.specs.Facts.{Circuits}
use Rattle.cb_model.specs.Commands.{Nodes}
use Rattle.cb_model.specs.Adder.{adder_text}
use Rattle.cb_model.specs.Room.{expr_size}
use Rattle.cb_model.specs.Output.{BelowNodes, Loaded, IsLoaded, room_of}
use Rattle.cb_circ.specs.At.{module_at, flat_at}
use Rattle.cb_lines.specs.Ends.{IsSaid, line_bytes}
use Rattle.cb_verify.proofs.Named.{named-flat, is-module}
use Rattle.cb_adder.specs.Adders.{HasAdder}
use Rattle.cb_adder.proofs.Whole.{verified_adders}
use Rattle.cb_commands.specs.declared.answer.Answer.{Answer}
use Rattle.cb_commands.specs.Answers.{Says, TellsSize}
use Rattle.cb_commands.specs.Says.{VerifyOver, MakeOver, MakeSays}

abbrev adder : Text
adder = codes "adder"

-- the sizes of the module of that name
pub record IsSized (c : Circuits) (bits k : ℕ) : Type 0 where
  pub inputs : length (module_at c k).inputs ≡ 2 * bits + 1
  pub outputs : length (module_at c k).outputs ≡ bits + 1
  pub gates : length (flat_at c k).gates ≡ 5 * bits

pub sized : (c : Circuits) (bits k : ℕ) → c.flats ≡ flats [] c.modules → position (λ (m : Module). bytes_eq m.name adder) c.modules ≡ Some k → HasAdder bits c → IsSized c bits k
sized c bits k is at h =
    let same : module_at c k ≡ h.m = same_Some _ _ (sym (is-module c is adder k at) ∙ h.has_module) in
    record {
      inputs = ap (λ (m : Module). length m.inputs) same ∙ h.inputs;
      outputs = ap (λ (m : Module). length m.outputs) same ∙ h.outputs;
      gates = ap (λ (f : Flat). length f.gates) (sym (named-flat c is adder k at)) ∙ h.gates;
    }

-- an answer of a size is what `make` says
pub size-said : (l : Loaded) (bits : ℕ) (nodes : Nodes) (a : Answer) → TellsSize bits a → Says (MakeOver l bits nodes) a
size-said l bits nodes a t = record { lines = _ ∷ []; says = inl (refl, t.outcome); is = t.line }

-- where the comparison doesn't end with `Done`, `make` says what it says
pub stop-said : (l : Loaded) (bits : ℕ) (nodes : Nodes) (a : Answer) → 1 ≤ bits → bits ≤ 64 → IsLoaded (adder_text bits) l → (a.outcome ≡ outcome.Done → ⊥) → Says (VerifyOver l adder nodes) a → Says (MakeOver l bits nodes) a
stop-said l bits nodes a least most i n s = by_case (verified_adders bits l nodes s.lines a.outcome least most i s.says)
  where
    by_case : ((s.lines ≡ codes "verified adder" ∷ []) × (a.outcome ≡ outcome.Done)) ⊎
        (BelowNodes nodes (room_of l.circuits (adder ∷ []) (sum_by (λ x. sum_by expr_size x.exprs) l.circuits.specs)) × (s.lines ≡ codes "stopped: nodes" ∷ []) × (a.outcome ≡ outcome.Stopped)) →
        Says (MakeOver l bits nodes) a
    by_case (inl e) = absurd (n e.1)
    by_case (inr e) = record { lines = s.lines; says = inr e; is = s.is }

-- over the accepted text
pub over-said : (l : Loaded) (bits : ℕ) (nodes : Nodes) (a : Answer) → IsLoaded (adder_text bits) l → Says (MakeOver l bits nodes) a → Says (MakeSays bits nodes) a
over-said l bits nodes a i s = record { lines = s.lines; says = (l, i, s.says); is = s.is }
