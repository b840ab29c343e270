-- The laws, from the lemmas on one level and on all.
use Rattle.std.proofs.Common.{◌≡◌, ℕ, List, sym, ap, ◌∙◌}
use Rattle.cb_model.specs.Bits.{Bits}
use Rattle.cb_boole.specs.Elimination.{Function, rest, solved, IsAway}
use Rattle.cb_boole.specs.Laws.{SolutionIsSound, SolutionIsWhole, SolvableWhereRestIsZero, SolutionByCofactors}
use Rattle.cb_boole.proofs.One.{mended_boole}
use Rattle.cb_boole.proofs.Chain.{solved_sound, solved_keeps, solved_off, rest_false}
use Rattle.cb_boole.proofs.Only.{rest_drops}
use Rattle.std.proofs.Math.Path.{fun_ext}

pub sound : SolutionIsSound
sound ls f p h = (solved_sound ls f p h, λ k away. solved_off ls f p k away)

pub whole : SolutionIsWhole
whole ls f p h = solved_keeps ls f p h

-- what is left is the same for all bits of the levels
rest_same : (ls : List ℕ) (f : Function) (p q : Bits) → ((k : ℕ) → IsAway k ls → q k ≡ p k) → rest ls f p ≡ rest ls f q
rest_same ls f p q same = rest_drops (λ k. Unit {0}) ls f (λ a b h. agree a b h) p q (λ k h. sym (same k h.1))
  where
    agree : (a b : Bits) → ((k : ℕ) → Unit {0} → a k ≡ b k) → f a ≡ f b
    agree a b h = ap f (fun_ext (λ k. h k tt))

pub solvable : SolvableWhereRestIsZero
solvable ls f p = (
  (λ h. (solved ls f p, record { same = λ k away. solved_off ls f p k away; zero = solved_sound ls f p h })),
  (λ w. rest_same ls f p w.0 w.1.same ∙ rest_false ls f w.0 w.1.zero),
)

pub by_cofactors : SolutionByCofactors
by_cofactors l f p h = mended_boole l f p h
