-- `circuit(half_adder, [a, b], [S, C])`: a step with two fresh variables, whose outputs are fixed by the circuit.
use Rattle.std.proofs.Common.{◌≡◌, ℕ, Bool, true, false, ◌&&◌, List, [], ◌∷◌, refl, ◌∙◌, ap, inl, codes}
use Rattle.std.specs.Prelude.{get_or, take}
use Rattle.cb_model.specs.Bits.{none, bits_of, xor}
use Rattle.cb_model.specs.Values.{Ground, Word}
use Rattle.cb_model.specs.Equations.{Part, PartHolds, Solvable}
use Rattle.cb_model.specs.Circuits.{Consistent, Outputs, read_all}
use Rattle.cb_model.specs.Derivation.{Run, Made, Printed, Answered, Adds, Goes, here, on, whole, Whole, runs, first_branch}
use Rattle.cb_model.specs.Line.{IsLine, told}
use Rattle.cb_model.specs.Commands.{Max}
use Rattle.cb_model.specs.Output.{QuerySays, all, no_lines, more_lines}
use Rattle.cb_laws.proofs.Values.{expr_values, tree_values}
use Rattle.cb_laws.proofs.Tables.{with_bits, zero_fits}
use Rattle.cb_laws.proofs.Shapes.{shape_values, text_values}
use Rattle.cb_laws.proofs.Fixed.{two, two_shape, two_gen, Fixes}
use Rattle.cb_rows.specs.CircuitGoalRow.{answer, half, ins, outs, p, q, names}

-- the fresh variables have the numbers 2 and 3
pub own : answer.items ≡ Part half ins outs (2 ∷ 3 ∷ []) ∷ []
own = refl

-- the sum and the carry
abbrev sum' : Bool → Bool → Bool
sum' x y = xor x (xor y false)

abbrev carry : Bool → Bool → Bool
carry x y = x && (y && true)

half_outputs : (x y : Bool) → Outputs half (x ∷ y ∷ []) (sum' x y ∷ carry x y ∷ [])
half_outputs x y = record {
  v = x ∷ y ∷ sum' x y ∷ carry x y ∷ [];
  consistent = record { every_net = refl; inputs = refl; gates = (refl, (refl, tt)) };
  outputs = refl;
}

solvable : Solvable p.world answer.items
solvable a ok = record {
  b = with_bits (bits_of (sum' (a 0) (a 1) ∷ carry (a 0) (a 1) ∷ a 0 ∷ a 1 ∷ []));
  sorted = λ n. zero_fits;
  sat = (
    record {
      inputs = simp (tree_values, expr_values) refl;
      output = sum' (a 0) (a 1) ∷ carry (a 0) (a 1) ∷ [];
      given = half_outputs (a 0) (a 1);
      outputs = simp (tree_values, expr_values) refl;
    },
    tt,
  );
}

-- ---- the outputs are fixed

abbrev bits_in : Ground → List Bool
bits_in (Word xs) = xs
bits_in _ = []

abbrev bit_at : ℕ → List Bool → Bool
bit_at n xs = get_or xs n false

-- a consistent valuation has the sum and the carry at its outputs
read_half : (x y : Bool) (v : List Bool) → Consistent half (x ∷ y ∷ []) v → read_all v (2 ∷ 3 ∷ []) ≡ sum' x y ∷ carry x y ∷ []
read_half x y v c =
    let here : get_or v 0 false ≡ x = at_zero v c.inputs in
    let there : get_or v 1 false ≡ y = at_one v c.inputs in
    let s : get_or v 2 false ≡ sum' x y = c.gates.0 ∙ ap (λ z. sum' z (get_or v 1 false)) here ∙ ap (sum' x) there in
    let t : get_or v 3 false ≡ carry x y = c.gates.1.0 ∙ ap (λ z. carry z (get_or v 1 false)) here ∙ ap (carry x) there in
    rw (s, t) refl
  where
    at_zero : (v : List Bool) → take 2 v ≡ x ∷ y ∷ [] → get_or v 0 false ≡ x
    at_zero [] e = absurd (cc)
    at_zero (z ∷ v) e = ap (bit_at 0) e

    at_one : (v : List Bool) → take 2 v ≡ x ∷ y ∷ [] → get_or v 1 false ≡ y
    at_one [] e = absurd (cc)
    at_one (z ∷ []) e = ap (bit_at 1) e
    at_one (z ∷ u ∷ v) e = ap (bit_at 1) e

fixes : Fixes p.world answer.items (λ e. sum' (e 0) (e 1)) (λ e. carry (e 0) (e 1))
fixes a b m =
    let h : PartHolds a b half ins outs (2 ∷ 3 ∷ []) = m.sat.0 in
    let input : a 0 ∷ a 1 ∷ [] ≡ b.bits 2 ∷ b.bits 3 ∷ [] = simp (tree_values, expr_values) at (ap bits_in h.inputs) in
    let out : b.bits 0 ∷ b.bits 1 ∷ [] ≡ h.output = simp (tree_values, expr_values) at (ap bits_in h.outputs) in
    let x : a 0 ≡ b.bits 2 = ap (bit_at 0) input in
    let y : a 1 ≡ b.bits 3 = ap (bit_at 1) input in
    let r : h.output ≡ sum' (b.bits 2) (b.bits 3) ∷ carry (b.bits 2) (b.bits 3) ∷ [] = h.given.outputs ∙ read_half (b.bits 2) (b.bits 3) h.given.v h.given.consistent in
    let s : b.bits 0 ≡ sum' (b.bits 2) (b.bits 3) = ap (bit_at 0) (out ∙ r) in
    let t : b.bits 1 ≡ carry (b.bits 2) (b.bits 3) = ap (bit_at 1) (out ∙ r) in
    (rw (x, y) s, rw (x, y) t)

goes : Goes p 1 0 (Run (first_branch q) ∷ []) (Made answer ∷ Printed answer ∷ []) 0 []
goes =
    on (Adds 0 [] answer) (Run answer ∷ []) _ (half, refl, refl) refl
    (inl (solvable, (answer, (record { ready = []; rest = []; parts = none; is = refl }, refl)))) refl
    (on (Answered answer) [] [] refl refl refl refl here)

line : IsLine p names answer (codes "S = ~a*b + a*~b, C = a*b")
line = told two ((λ e. sum' (e 0) (e 1)) ∷ (λ e. carry (e 0) (e 1)) ∷ []) (two_shape _ _) (simp (shape_values, text_values) refl)
    (λ env. two_gen p.world answer.items (λ e. sum' (e 0) (e 1)) (λ e. carry (e 0) (e 1)) solvable fixes env (env 2) (env 3))
    (simp shape_values refl) (simp (shape_values, text_values) refl)

-- the whole text of the query
pub says : QuerySays p q names 1 Max (codes "S = ~a*b + a*~b, C = a*b" ∷ codes "end" ∷ []) false
says = all _ Whole (codes "S = ~a*b + a*~b, C = a*b" ∷ []) (runs 0 [] (record { begins = refl; rest = _; goes = goes; is = refl }) whole) (more_lines line no_lines) refl refl
