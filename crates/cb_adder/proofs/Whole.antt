-- The generated text is accepted, and its adder has these sizes and is right.
use Rattle.std.proofs.Common.{◌≡◌, ℕ, zero, suc, ◌≤◌, List, refl, sym, ◌∙◌, subst, arith, codes}
use Rattle.cb_model.specs.declared.Outcome.{Outcome}
use Rattle.cb_model.specs.Text.{Text}
use Rattle.cb_model.specs.Adder.{adder_text}
use Rattle.cb_model.specs.Directives.{nothing}
use Rattle.cb_model.specs.Loading as load
use Rattle.cb_model.specs.Output.{Loaded, IsLoaded, VerifySays, module_named, spec_named}
use Rattle.cb_model.specs.Commands.{Nodes}
use Rattle.cb_model.specs.Facts.{Circuits}
use Rattle.cb_adder.specs.Adders.{AdderHolds, AddersHold, HasAdder, LoadedAdders, NeverRefused, VerifiedAdders}
use Rattle.cb_adder.proofs.Modules.{adder_module, adder_spec, Adds}
use Rattle.cb_adder.proofs.Clauses.{adder_clauses, adder_circuits}
use Rattle.cb_adder.proofs.Row.{adder_adds}
use Rattle.cb_adder.proofs.Read.{adder_read}
use Rattle.cb_adder.proofs.Text.{reading}
use Rattle.cb_adder.proofs.Sizes.{text-short}
use Rattle.cb_adder.proofs.Unique.{loaded-one, not-refused}
use Rattle.cb_adder.proofs.Verified.{Right, verified}

abbrev adder_loaded : ℕ → Loaded
adder_loaded n = record { clauses = adder_clauses n; declared = nothing; circuits = adder_circuits n }

is_loaded : (k : ℕ) → suc k ≤ 64 → IsLoaded (adder_text (suc k)) (adder_loaded (suc k))
is_loaded k few = record {
  short = text-short (suc k) few;
  reading = reading k few;
  declares = refl;
  rules = load.skip refl (load.skip refl (load.skip refl (load.skip refl load.none)));
  facts = adder_read (suc k) few;
}

holds : (k : ℕ) → suc k ≤ 64 → Adds (suc k) → AdderHolds (suc k)
holds k few a = record {
  l = adder_loaded (suc k);
  m = adder_module (suc k);
  s = adder_spec (suc k);
  loaded = is_loaded k few;
  has_module = refl;
  has_spec = refl;
  inputs = a.inputs;
  outputs = a.outputs;
  spec_inputs = refl;
  spec_exprs = a.exprs ∙ sym a.outputs;
  gates = a.gates;
  agrees = a.agrees;
}

pub adders_hold : AddersHold
adders_hold zero some few = absurd (omega arith)
adders_hold (suc k) some few = holds k few (adder_adds (suc k) (omega arith))

-- whatever the text is loaded as
of_loaded : (n : ℕ) → AdderHolds n → (l : Loaded) → IsLoaded (adder_text n) l → HasAdder n l.circuits
of_loaded n h l a = subst (HasAdder n) (loaded-one (adder_text n) h.l l h.loaded a) (record {
  m = h.m;
  s = h.s;
  has_module = h.has_module;
  has_spec = h.has_spec;
  inputs = h.inputs;
  outputs = h.outputs;
  spec_inputs = h.spec_inputs;
  spec_exprs = h.spec_exprs;
  gates = h.gates;
  agrees = h.agrees;
})

pub loaded_adders : LoadedAdders
loaded_adders n l some few a = of_loaded n (adders_hold n some few) l a

pub never_refused : NeverRefused
never_refused zero r some few h = omega arith
never_refused (suc k) r some few h = not-refused (adder_text (suc k)) (adder_loaded (suc k)) r (is_loaded k few) refl h

-- what `verify` says over these circuits
abbrev Says : Nodes → List Text → Outcome → Circuits → Type 0
Says nodes lines answer c = VerifySays c (codes "adder") nodes (module_named c (codes "adder")) (spec_named c (codes "adder")) lines answer

pub verified_adders : VerifiedAdders
verified_adders zero l nodes lines answer some few a h = absurd (omega arith)
verified_adders (suc k) l nodes lines answer some few a h =
    let same : (adder_loaded (suc k)).circuits ≡ l.circuits = loaded-one (adder_text (suc k)) (adder_loaded (suc k)) l (is_loaded k few) a in
    subst (λ (c : Circuits). Right c nodes lines answer) same (verified (suc k) (adder_adds (suc k) (omega arith)) nodes lines answer (subst (Says nodes lines answer) (sym same) h))
