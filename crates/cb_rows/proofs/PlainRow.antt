-- The plain derivation of the query `X = a`.
use Rattle.std.proofs.Common.{[], ◌∷◌, refl, inl}
use Rattle.cb_model.specs.Bits.{none}
use Rattle.cb_model.specs.Equations.{Solvable}
use Rattle.cb_model.specs.Derivation.{Run, Made, Printed, Answered, Adds, Goes, here, on, whole, Whole, Plain, runs, first_branch}
use Rattle.cb_laws.proofs.Values.{expr_values, tree_values}
use Rattle.cb_laws.proofs.Tables.{with_bits, zero_fits}
use Rattle.cb_rows.specs.PlainRow.{p, item, q, answer}

solvable : Solvable (record { arguments = [] }) (item ∷ [])
solvable a ok = record { b = with_bits (λ n. a 0); sorted = λ n. zero_fits; sat = (simp (tree_values, expr_values) refl, tt) }

goes : Goes p 10 0 (Run (first_branch q) ∷ []) (Made answer ∷ Printed answer ∷ []) 0 []
goes = on (Adds 0 [] answer) (Run answer ∷ []) (Printed answer ∷ []) refl refl
    (inl (solvable, (answer, (record { ready = []; rest = []; parts = none; is = refl }, refl)))) refl
    (on (Answered answer) [] [] refl refl refl refl here)

pub plain : Plain p q 10 (Made (first_branch q) ∷ Made answer ∷ Printed answer ∷ []) Whole
plain = runs 0 [] (record { begins = refl; rest = Made answer ∷ Printed answer ∷ []; goes = goes; is = refl }) whole
