-- The parametric form is the same for relations that are the same up to its length.
use Rattle.std.proofs.Common.{◌↔◌, inl, inr, ℕ, ◌+◌, ◌≤◌, Bool, List, [], ◌∷◌, ◌++◌, length, arith, length-append}
use Rattle.cb_model.specs.Answers.{Picks, Gen}

module _ (R Q : List Bool → Type 0) (n : ℕ) (same : (bits : List Bool) → length bits ≤ n → R bits ↔ Q bits) where
  pick-within : (prefix : List Bool) (y z : Bool) → length prefix + 1 ≤ n → Picks R prefix y z → Picks Q prefix y z
  pick-within prefix y z room p =
      let l = length-append prefix (y ∷ []) in
      let w : length (prefix ++ y ∷ []) ≤ n = omega (arith, l, room) in
      elim p [ inl h ↦ inl ((same (prefix ++ y ∷ []) w).0 h.0, h.1) | inr h ↦ inr ((λ q. h.0 ((same (prefix ++ y ∷ []) w).1 q)), h.1) ]

  pub gen-within : (prefix ys zs : List Bool) → length prefix + length ys ≤ n → Gen R prefix ys zs → Gen Q prefix ys zs
  gen-within prefix [] [] room g = tt
  gen-within prefix (y ∷ ys) (z ∷ zs) room g =
      let l = length-append prefix (z ∷ []) in
      (pick-within prefix y z (omega (arith, room)) g.0, gen-within (prefix ++ z ∷ []) ys zs (omega (arith, l, room)) g.1)
  gen-within prefix [] (z ∷ zs) room g = absurd g
  gen-within prefix (y ∷ ys) [] room g = absurd g
