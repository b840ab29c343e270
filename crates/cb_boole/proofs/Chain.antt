-- All levels of one equation, one after another.
use Rattle.std.proofs.Common.{◌≡◌, ℕ, true, false, List, [], ◌∷◌, refl, sym, ap, ◌∙◌}
use Rattle.std.proofs.lemmas.Bool.{true_from_ne_false, true≢false}
use Rattle.cb_model.specs.Bits.{Bits}
use Rattle.cb_boole.specs.Elimination.{IsAway, Function, both, mended, rest, solved}
use Rattle.cb_boole.proofs.One.{mended_sound, mended_keeps, mended_off, both_false}

pub solved_sound : (ls : List ℕ) (f : Function) (p : Bits) → rest ls f p ≡ false → f (solved ls f p) ≡ false
unfolding rest solved
solved_sound [] f p h = h
solved_sound (l ∷ ls) f p h = mended_sound l f (solved ls (both l f) p) (solved_sound ls (both l f) p h)

pub solved_keeps : (ls : List ℕ) (f : Function) (p : Bits) → f p ≡ false → solved ls f p ≡ p
unfolding solved
solved_keeps [] f p h = refl
solved_keeps (l ∷ ls) f p h = ap (mended l f) (solved_keeps ls (both l f) p (both_false l f p h)) ∙ mended_keeps l f p h

pub rest_false : (ls : List ℕ) (f : Function) (p : Bits) → f p ≡ false → rest ls f p ≡ false
unfolding rest
rest_false [] f p h = h
rest_false (l ∷ ls) f p h = rest_false ls (both l f) p (both_false l f p h)

pub solved_off : (ls : List ℕ) (f : Function) (p : Bits) (k : ℕ) → IsAway k ls → solved ls f p k ≡ p k
unfolding solved
solved_off [] f p k h = refl
solved_off (l ∷ ls) f p k h = mended_off l f (solved ls (both l f) p) k h.0 ∙ solved_off ls (both l f) p k h.1

-- at a point where something is left f isn't 0
pub rest_true : (ls : List ℕ) (f : Function) (p : Bits) → rest ls f p ≡ true → f p ≡ true
rest_true ls f p h = true_from_ne_false (f p) (λ e. true≢false (sym h ∙ rest_false ls f p e))
