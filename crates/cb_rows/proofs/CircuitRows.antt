-- The half adder and its comparisons.
use Rattle.std.proofs.Common.{◌≡◌, ℕ, ◌<◌, Bool, true, false, not, ◌&&◌, ◌||◌, List, [], ◌∷◌, length, get_or, take, refl, sym, ◌∙◌, ap, arith, codes}
use Rattle.std.specs.Fmt.{digits}
use Rattle.cb_model.specs.declared.Circuit.{Circuit}
use Rattle.cb_model.specs.declared.Outcome.TheVariants as outcome
use Rattle.cb_model.specs.Bits.{xor, weight}
use Rattle.cb_model.specs.Circuits.{Consistent, Outputs, read_all, BySpec, spec_values, Agrees, LeastDifference}
use Rattle.cb_model.specs.Output.{IsDetermined}
use Rattle.cb_model.specs.Verdicts.{Compared, agrees, differs}
use Rattle.cb_laws.proofs.Values.{expr_values}
use Rattle.cb_rows.specs.CircuitExamples.{A, B, half_adder, full_adder, half_with, circuit_at, half_spec, not_half, CircuitExamples}

abbrev sum' : Bool → Bool → Bool
sum' x y = xor x (xor y false)

abbrev carry : Bool → Bool → Bool
carry x y = x && (y && true)

abbrev either : Bool → Bool → Bool
either x y = x || (y || false)

abbrev half : Circuit
half = circuit_at 0 (half_adder ∷ [])

abbrev half_or : Circuit
half_or = circuit_at 0 (half_with (codes "or") ∷ [])

abbrev bit_at : ℕ → List Bool → Bool
bit_at n xs = get_or xs n false

at_zero : (x y : Bool) (v : List Bool) → take 2 v ≡ x ∷ y ∷ [] → get_or v 0 false ≡ x
at_zero x y [] e = absurd (cc)
at_zero x y (z ∷ v) e = ap (bit_at 0) e

at_one : (x y : Bool) (v : List Bool) → take 2 v ≡ x ∷ y ∷ [] → get_or v 1 false ≡ y
at_one x y [] e = absurd (cc)
at_one x y (z ∷ []) e = ap (bit_at 1) e
at_one x y (z ∷ u ∷ v) e = ap (bit_at 1) e

-- a consistent valuation has the sum and the carry at its outputs
read_half : (x y : Bool) (v : List Bool) → Consistent half (x ∷ y ∷ []) v → read_all v (2 ∷ 3 ∷ []) ≡ sum' x y ∷ carry x y ∷ []
read_half x y v c =
    let here : get_or v 0 false ≡ x = at_zero x y v c.inputs in
    let there : get_or v 1 false ≡ y = at_one x y v c.inputs in
    let s : get_or v 2 false ≡ sum' x y = c.gates.0 ∙ ap (λ z. sum' z (get_or v 1 false)) here ∙ ap (sum' x) there in
    let t : get_or v 3 false ≡ carry x y = c.gates.1.0 ∙ ap (λ z. carry z (get_or v 1 false)) here ∙ ap (carry x) there in
    rw (s, t) refl

read_or : (x y : Bool) (v : List Bool) → Consistent half_or (x ∷ y ∷ []) v → read_all v (2 ∷ 3 ∷ []) ≡ sum' x y ∷ either x y ∷ []
read_or x y v c =
    let here : get_or v 0 false ≡ x = at_zero x y v c.inputs in
    let there : get_or v 1 false ≡ y = at_one x y v c.inputs in
    let s : get_or v 2 false ≡ sum' x y = c.gates.0 ∙ ap (λ z. sum' z (get_or v 1 false)) here ∙ ap (sum' x) there in
    let t : get_or v 3 false ≡ either x y = c.gates.1.0 ∙ ap (λ z. either z (get_or v 1 false)) here ∙ ap (either x) there in
    rw (s, t) refl

wanted_half : (x y : Bool) → spec_values half_spec (x ∷ y ∷ []) ≡ sum' x y ∷ carry x y ∷ []
wanted_half x y = simp expr_values refl

half_agrees : Agrees half (BySpec half_spec)
half_agrees [] xs ys e o w = absurd (cc)
half_agrees (x ∷ []) xs ys e o w = absurd (cc)
half_agrees (x ∷ y ∷ []) xs ys e o w = o.outputs ∙ read_half x y o.v o.consistent ∙ sym (wanted_half x y) ∙ sym w
half_agrees (x ∷ y ∷ z ∷ zs) xs ys e o w = absurd (omega arith)

-- each input has exactly one consistent valuation
half_only : (x y : Bool) (w : List Bool) → Consistent half (x ∷ y ∷ []) w → w ≡ x ∷ y ∷ sum' x y ∷ carry x y ∷ []
half_only x y [] k = let n = k.every_net in absurd (omega arith)
half_only x y (a ∷ []) k = let n = k.every_net in absurd (omega arith)
half_only x y (a ∷ b ∷ []) k = let n = k.every_net in absurd (omega arith)
half_only x y (a ∷ b ∷ s ∷ []) k = let n = k.every_net in absurd (omega arith)
half_only x y (a ∷ b ∷ s ∷ c ∷ []) k =
    let h : a ≡ x = ap (bit_at 0) k.inputs in
    let g : b ≡ y = ap (bit_at 1) k.inputs in
    let p : s ≡ sum' a b = k.gates.0 in
    let q : c ≡ carry a b = k.gates.1.0 in
    ap (λ z. a ∷ b ∷ z ∷ c ∷ []) p ∙ ap (λ z. a ∷ b ∷ sum' a b ∷ z ∷ []) q ∙ ap (λ z. z ∷ b ∷ sum' z b ∷ carry z b ∷ []) h ∙ ap (λ z. x ∷ z ∷ sum' x z ∷ carry x z ∷ []) g
half_only x y (a ∷ b ∷ s ∷ c ∷ d ∷ ws) k = let n = k.every_net in absurd (omega arith)

pub half_determined : IsDetermined half
half_determined [] e = absurd (cc)
half_determined (x ∷ []) e = absurd (cc)
half_determined (x ∷ y ∷ []) e = record { v = x ∷ y ∷ sum' x y ∷ carry x y ∷ []; consistent = record { every_net = refl; inputs = refl; gates = (refl, (refl, tt)) }; only = half_only x y }
half_determined (x ∷ y ∷ z ∷ zs) e = absurd (omega arith)

-- below the second input the two agree
below_one : (other us vs : List Bool) → length other ≡ 2 → weight other < 1 → Outputs half_or other us → BySpec half_spec other vs → us ≡ vs
below_one [] us vs e l o w = absurd (cc)
below_one (x ∷ []) us vs e l o w = absurd (cc)
below_one (false ∷ false ∷ []) us vs e l o w = o.outputs ∙ read_or false false o.v o.consistent ∙ sym (wanted_half false false) ∙ sym w
below_one (false ∷ true ∷ []) us vs e l o w = absurd (omega arith)
below_one (true ∷ false ∷ []) us vs e l o w = absurd (omega arith)
below_one (true ∷ true ∷ []) us vs e l o w = absurd (omega arith)
below_one (x ∷ y ∷ z ∷ zs) us vs e l o w = absurd (omega arith)

or_differs : LeastDifference half_or (BySpec half_spec) (false ∷ true ∷ []) 1 true false
or_differs = record {
  xs = true ∷ true ∷ [];
  ys = true ∷ false ∷ [];
  width = refl;
  outputs = record { v = false ∷ true ∷ true ∷ true ∷ []; consistent = record { every_net = refl; inputs = refl; gates = (refl, (refl, tt)) }; outputs = refl };
  by_spec = sym (wanted_half false true);
  within = omega arith;
  has = refl;
  wants = refl;
  differ = λ e. cc;
  least_output = refl;
  least_input = below_one;
}

-- the other values
wanted_not : (x y : Bool) → spec_values not_half (x ∷ y ∷ []) ≡ not (sum' x y) ∷ not (carry x y) ∷ []
wanted_not x y = simp expr_values refl

zeros_out : Outputs half (false ∷ false ∷ []) (false ∷ false ∷ [])
zeros_out = record { v = false ∷ false ∷ false ∷ false ∷ []; consistent = record { every_net = refl; inputs = refl; gates = (refl, (refl, tt)) }; outputs = refl }

not_differs : LeastDifference half (BySpec not_half) (false ∷ false ∷ []) 0 false true
not_differs = record {
  xs = false ∷ false ∷ [];
  ys = true ∷ true ∷ [];
  width = refl;
  outputs = zeros_out;
  by_spec = sym (wanted_not false false);
  within = omega arith;
  has = refl;
  wants = refl;
  differ = λ e. cc;
  least_output = refl;
  least_input = λ other us vs e l o w. absurd (omega arith);
}

-- what the half adder gives, and what is wanted
given : (d : List Bool) (x y : Bool) → Outputs half (x ∷ y ∷ []) d → d ≡ sum' x y ∷ carry x y ∷ []
given d x y o = o.outputs ∙ read_half x y o.v o.consistent

second_not : (x y : Bool) → LeastDifference half (BySpec not_half) (false ∷ false ∷ []) 1 x y → ⊥
second_not x y d =
    let us : d.xs ≡ false ∷ false ∷ [] = given d.xs false false d.outputs in
    let vs : d.ys ≡ true ∷ true ∷ [] = d.by_spec ∙ wanted_not false false in
    let same : false ∷ [] ≡ true ∷ [] = ap (take 1) (sym us) ∙ d.least_output ∙ ap (take 1) vs in
    cc

later_not : (x y : Bool) → LeastDifference half (BySpec not_half) (false ∷ true ∷ []) 0 x y → ⊥
later_not x y d =
    let same : false ∷ false ∷ [] ≡ true ∷ true ∷ [] = d.least_input (false ∷ false ∷ []) (false ∷ false ∷ []) (true ∷ true ∷ []) refl (omega arith) zeros_out (sym (wanted_not false false)) in
    cc

pub verified : Compared (codes "half_adder") (codes "verified ") (A ∷ B ∷ []) half (BySpec half_spec) ⊥ (codes "verified half_adder" ∷ []) outcome.Done
verified = agrees half_agrees refl

pub differs_line : Compared (codes "half_adder") (codes "verified ") (A ∷ B ∷ []) half_or (BySpec half_spec) ⊥
    (codes "differs half_adder at A=0 B=1: output 2 is 1, wanted 0" ∷ []) outcome.Differs
unfolding digits
differs_line = differs (false ∷ true ∷ []) 1 true false or_differs refl

pub outputs_at : Outputs (circuit_at 1 (half_adder ∷ full_adder ∷ [])) (true ∷ false ∷ true ∷ []) (false ∷ true ∷ [])
outputs_at = record {
  v = true ∷ false ∷ true ∷ true ∷ false ∷ false ∷ true ∷ true ∷ [];
  consistent = record { every_net = refl; inputs = refl; gates = (refl, (refl, (refl, (refl, (refl, tt))))) };
  outputs = refl;
}

pub rows_hold : CircuitExamples
unfolding digits
rows_hold = record {
  exclusive_nor = refl;
  selects_first = refl;
  selects_second = refl;
  odd_of_three = refl;
  weights = refl;
  full_adder_flat = refl;
  full_adder_outputs = outputs_at;
  through_flat = refl;
  verified = verified;
  differs = differs_line;
  first_output = not_differs;
  not_second_output = second_not;
  not_second_input = later_not;
  without_ports = refl;
  value = refl;
  adder_of_one = refl;
  adder_of_two = refl;
}
