-- The generated text is accepted and its adder is right, whatever the text is loaded as; it is never refused, and `verify` says so of it.
use Rattle.std.specs.Prelude.{◌≡◌, ℕ, ◌+◌, ◌*◌, ◌≤◌, ◌⊎◌, List, [], ◌∷◌, length, Some, codes, sum_by}
use Rattle.cb_model.specs.declared.Outcome.{Outcome}
use Rattle.cb_model.specs.declared.Outcome.TheVariants.{Done, Stopped}
use Rattle.cb_model.specs.Text.{Text}
use Rattle.cb_model.specs.Circuits.{Module, circuit_of, flat_named, Agrees, BySpec}
use Rattle.cb_model.specs.Facts.{Circuits, Spec}
use Rattle.cb_model.specs.Adder.{adder_text}
use Rattle.cb_model.specs.Commands.{Nodes}
use Rattle.cb_model.specs.Refusals.{Refused}
use Rattle.cb_model.specs.Room.{expr_size}
use Rattle.cb_model.specs.Output.{Loaded, IsLoaded, FileRefused, module_named, spec_named, room_of, BelowNodes, VerifySays}

-- the generated text is accepted, and its adder has these sizes and is right
pub record AdderHolds (n : ℕ) : Type 0 where
  pub l : Loaded
  pub m : Module
  pub s : Spec
  pub loaded : IsLoaded (adder_text n) l
  pub has_module : module_named l.circuits (codes "adder") ≡ Some m
  pub has_spec : spec_named l.circuits (codes "adder") ≡ Some s
  pub inputs : length m.inputs ≡ 2 * n + 1
  pub outputs : length m.outputs ≡ n + 1
  pub spec_inputs : length s.inputs ≡ length m.inputs
  pub spec_exprs : length s.exprs ≡ length m.outputs
  pub gates : length (flat_named l.circuits.flats (codes "adder")).gates ≡ 5 * n
  pub agrees : Agrees (circuit_of (flat_named l.circuits.flats (codes "adder"))) (BySpec s.exprs)

-- the same of each number that `make` takes
abbrev pub AddersHold : Type 0
AddersHold = (n : ℕ) → 1 ≤ n → n ≤ 64 → AdderHolds n

-- the adder among these circuits has its inputs, outputs and gates, and agrees with its specification
pub record HasAdder (n : ℕ) (c : Circuits) : Type 0 where
  pub m : Module
  pub s : Spec
  pub has_module : module_named c (codes "adder") ≡ Some m
  pub has_spec : spec_named c (codes "adder") ≡ Some s
  pub inputs : length m.inputs ≡ 2 * n + 1
  pub outputs : length m.outputs ≡ n + 1
  pub spec_inputs : length s.inputs ≡ length m.inputs
  pub spec_exprs : length s.exprs ≡ length m.outputs
  pub gates : length (flat_named c.flats (codes "adder")).gates ≡ 5 * n
  pub agrees : Agrees (circuit_of (flat_named c.flats (codes "adder"))) (BySpec s.exprs)

-- whatever the text is loaded as
abbrev pub LoadedAdders : Type 0
LoadedAdders = (n : ℕ) (l : Loaded) → 1 ≤ n → n ≤ 64 → IsLoaded (adder_text n) l → HasAdder n l.circuits

-- and it is not refused
abbrev pub NeverRefused : Type 0
NeverRefused = (n : ℕ) (r : Refused) → 1 ≤ n → n ≤ 64 → FileRefused (adder_text n) r → ⊥

-- What `verify` says of the adder of the generated text: that it is right; or, where the budget of nodes may be too small,
-- that it was. It says neither that they differ nor a refusal.
abbrev pub VerifiedAdders : Type 0
VerifiedAdders = (n : ℕ) (l : Loaded) (nodes : Nodes) (lines : List Text) (answer : Outcome) → 1 ≤ n → n ≤ 64 → IsLoaded (adder_text n) l →
    VerifySays l.circuits (codes "adder") nodes (module_named l.circuits (codes "adder")) (spec_named l.circuits (codes "adder")) lines answer →
    ((lines ≡ codes "verified adder" ∷ []) × (answer ≡ Done)) ⊎
    (BelowNodes nodes (room_of l.circuits (codes "adder" ∷ []) (sum_by (λ s. sum_by expr_size s.exprs) l.circuits.specs)) × (lines ≡ codes "stopped: nodes" ∷ []) × (answer ≡ Stopped))
