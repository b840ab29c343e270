-- A module's circuit has the module's ports.
use Rattle.std.proofs.Common.{◌≡◌, ℕ, ◌+◌, ◌<◌, Bool, true, List, [], map, length, sym, ◌∙◌, ap, subst}
use Rattle.std.proofs.lemmas.List.{length-map}
use Rattle.std.specs.Prelude.{Result, IfOk}
use Rattle.cb_model.specs.declared.Circuit.{Circuit}
use Rattle.cb_model.specs.declared.Expr.{Expr}
use Rattle.cb_model.specs.Bits.{all_of}
use Rattle.cb_model.specs.Circuits.{flats, net_number}
use Rattle.cb_model.specs.Facts.{Circuits}
use Rattle.cb_model.specs.Room.{circuit_pins, room_v}
use Rattle.cb_model.specs.Values.{in_scope}
use Rattle.cb_circ.specs.At.{module_at, flat_at}
use Rattle.cb_verify.specs.declared.Verdict.{Verdict}
use Rattle.cb_verify.specs.Modules.{circuit_at}
use Rattle.cb_verify.specs.Verdict.{IsRight}
use Rattle.cb_verify.proofs.Named.{flat-inputs, flat-outputs}

module _ (c : Circuits) (is : c.flats ≡ flats [] c.modules) (m : ℕ) (k : Circuit) (e : k ≡ circuit_at c m) where
  pub circuit-inputs : k.inputs ≡ length (module_at c m).inputs
  circuit-inputs = ap (λ (x : Circuit). x.inputs) e ∙ flat-inputs c is m

  pub circuit-outputs : length k.outputs ≡ length (module_at c m).outputs
  circuit-outputs = ap (λ (x : Circuit). length x.outputs) e ∙ length-map (flat_at c m).outputs (net_number (flat_at c m).inputs) ∙ flat-outputs c is m

  -- expressions over the module's inputs are over the circuit's
  pub circuit-scope : (es : List Expr) → all_of (map (in_scope 0 (length (module_at c m).inputs)) es) ≡ true → all_of (map (in_scope 0 k.inputs) es) ≡ true
  circuit-scope es h = subst (λ n. all_of (map (in_scope 0 n) es) ≡ true) (sym circuit-inputs) h

  -- the room in the module's ports
  pub circuit-room : (budget s : ℕ) → budget < room_v (circuit_pins k + s) 0 (length k.outputs) k.inputs →
      budget < room_v (circuit_pins (circuit_at c m) + s) 0 (length (module_at c m).outputs) (length (module_at c m).inputs)
  circuit-room budget s h =
      subst (λ p. budget < room_v (p + s) 0 (length (module_at c m).outputs) (length (module_at c m).inputs)) (ap circuit_pins e)
      (subst (λ o. budget < room_v (circuit_pins k + s) 0 o (length (module_at c m).inputs)) circuit-outputs
      (subst (λ i. budget < room_v (circuit_pins k + s) 0 (length k.outputs) i) circuit-inputs h))

-- a right verdict of one circuit is one of the same circuit
pub right-of : {E : Type 0} (k l : Circuit) (V W : List Bool → List Bool → Type 0) → k ≡ l → V ≡ W → (r : Result Verdict E) → IfOk r (IsRight k V) → IfOk r (IsRight l W)
right-of k l V W e f r h = subst (λ X. IfOk r (IsRight l X)) f (subst (λ x. IfOk r (IsRight x V)) e h)
