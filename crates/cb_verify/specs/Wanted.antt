-- What is wanted of a circuit.
use Rattle.std.specs.Prelude.{◌≡◌, ℕ, Bool, true, List, map, length, sum}
use Rattle.cb_model.specs.Bits.{all_of}
use Rattle.cb_model.specs.Values.{in_scope}
use Rattle.cb_model.specs.Circuits.{Flat, BySpec, Outputs}
use Rattle.cb_model.specs.Room.{circuit_pins, expr_size}
use Rattle.cb_verify.specs.declared.comparison.Wanted.{Wanted}
use Rattle.cb_verify.specs.declared.comparison.Wanted.TheVariants as wanted
use Rattle.cb_verify.specs.Order.{IsFlattened}

-- the outputs that are wanted at an input: the values of expressions, or the outputs of a second circuit
abbrev pub Wants : Wanted → List Bool → List Bool → Type 0
Wants (wanted.Spec es) = BySpec es.now
Wants (wanted.Second c) = Outputs c.now

-- the expressions have only so many inputs; the second circuit is that of a flattened module, and has so many inputs
abbrev pub FitsInputs : Wanted → ℕ → Type 0
FitsInputs (wanted.Spec es) n = all_of (map (in_scope 0 n) es.now) ≡ true
FitsInputs (wanted.Second c) n = ((f : Flat) × IsFlattened f c.now) × (c.now.inputs ≡ n)

-- how many outputs are wanted
abbrev pub outputs_of : Wanted → ℕ
outputs_of (wanted.Spec es) = length es.now
outputs_of (wanted.Second c) = length c.now.outputs

-- the operators and leaves of the expressions, or the pins of the second circuit
abbrev pub size_of : Wanted → ℕ
size_of (wanted.Spec es) = sum (map expr_size es.now)
size_of (wanted.Second c) = circuit_pins c.now
