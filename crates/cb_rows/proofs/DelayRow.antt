-- The plain derivation of `inv(X, Y)` with `:- delay inv(const, any).`: the goal waits, and the branch is an answer.
use Rattle.std.proofs.Common.{◌≡◌, Bool, true, false, [], ◌∷◌, refl, sym, ◌∙◌, inr}
use Rattle.cb_model.specs.Values.{Bit}
use Rattle.cb_model.specs.Equations.{Meets}
use Rattle.cb_model.specs.Derivation.{Run, Made, Printed, Answered, Becomes, Goes, here, on, whole, Whole, Plain, runs, Ready, waits, first_branch}
use Rattle.cb_laws.proofs.Values.{expr_values, tree_values}
use Rattle.cb_laws.proofs.Tables.{with_bits, zero_fits, bits_equal}
use Rattle.cb_rows.specs.DelayRow.{call, p, q, behind}

meets : (x : Bool) → Meets p.world [] (λ n. false) (with_bits (λ n. x))
meets x = record { admitted = tt; sorted = λ n. zero_fits; sat = tt }

-- X has both bits, so no one value serves
not_ready : Ready p [] call → ⊥
not_ready r =
    let zero : Bit false ≡ r.0.0 = simp (tree_values, expr_values) at (r.0.1 (λ n. false) (with_bits (λ n. false)) (meets false)) in
    let one : Bit true ≡ r.0.0 = simp (tree_values, expr_values) at (r.0.1 (λ n. false) (with_bits (λ n. true)) (meets true)) in
    let same : false ≡ true = bits_equal false true (zero ∙ sym one) in
    cc

goes : Goes p 10 0 (Run (first_branch q) ∷ []) (Printed (waits behind call) ∷ []) 0 []
goes =
    on (Becomes (Run (waits behind call))) (Run (waits behind call) ∷ []) _ (inr (not_ready, refl)) refl refl refl
    (on (Answered (waits behind call)) [] [] refl refl refl refl here)

pub plain : Plain p q 10 (Made (first_branch q) ∷ Printed (waits behind call) ∷ []) Whole
plain = runs 0 [] (record { begins = refl; rest = _; goes = goes; is = refl }) whole
