-- One level: Boole's solution, in the form that turns the bit where it is wrong.
use Rattle.std.proofs.Common.{◌≡◌, ◌≢◌, ℕ, Bool, true, false, not, ◌&&◌, ◌||◌, refl, sym, ap, ◌∙◌}
use Rattle.std.proofs.lemmas.Bool.{and_left, and_right, and_parts}
use Rattle.cb_model.specs.Bits.{Bits, put, xor}
use Rattle.cb_boole.specs.Elimination.{Function, both, mended}
use Rattle.cb_boole.proofs.Point.{put_same, put_other, put_own}

and_first : (x y : Bool) → y ≡ true → x && y ≡ false → x ≡ false
and_first false y h z = refl
and_first true y h z = sym h ∙ z

and_second : (x y : Bool) → x ≡ true → x && y ≡ false → y ≡ false
and_second true y h z = z
and_second false y h z = cc

turned_one : (v : Bool) → xor v true ≡ (not v && true)
turned_one true = refl
turned_one false = refl

boole_one : (x y v : Bool) → y ≡ v → x && y ≡ false → xor v true ≡ (x || (not y && true))
boole_one false y v h z = rw h (turned_one v)
boole_one true y v h z = let e : v ≡ false = sym h ∙ z in rw e

boole_zero : (x y v : Bool) → x ≡ v → xor v false ≡ (x || (not y && false))
boole_zero true y v h = rw (← h)
boole_zero false true v h = rw (← h)
boole_zero false false v h = rw (← h)

-- what turning the own bit does, by the bit and by the two values of f
turned : (x : Bool) (at : Bool → Bool) (v : Bool) → at x ≡ v → (at false && at true) ≡ false → at (xor v x) ≡ false
turned x at false h z = h
turned true at true h z = and_first (at false) (at true) h z
turned false at true h z = and_second (at false) (at true) h z

boole : (x : Bool) (at : Bool → Bool) (v : Bool) → at x ≡ v → (at false && at true) ≡ false →
    xor v x ≡ (at false || (not (at true) && x))
boole true at v h z = boole_one (at false) (at true) v h z
boole false at v h z = boole_zero (at false) (at true) v h

pub mended_sound : (l : ℕ) (f : Function) (p : Bits) → both l f p ≡ false → f (mended l f p) ≡ false
unfolding both mended
mended_sound l f p z = turned (p l) (λ b. f (put l b p)) (f p) (ap f (put_own p l)) z

-- where f is 0 already, nothing is turned
pub mended_keeps : (l : ℕ) (f : Function) (p : Bits) → f p ≡ false → mended l f p ≡ p
unfolding mended
mended_keeps l f p h = ap (λ v. put l (xor v (p l)) p) h ∙ put_own p l

pub mended_off : (l : ℕ) (f : Function) (p : Bits) (k : ℕ) → k ≢ l → mended l f p k ≡ p k
unfolding mended
mended_off l f p k h = put_other p l (xor (f p) (p l)) k h

one_false : (x : Bool) (at : Bool → Bool) → at x ≡ false → (at false && at true) ≡ false
one_false true at h = and_right (at false) (at true) h
one_false false at h = and_left (at false) (at true) h

pub both_false : (l : ℕ) (f : Function) (p : Bits) → f p ≡ false → both l f p ≡ false
unfolding both
both_false l f p h = one_false (p l) (λ b. f (put l b p)) (ap f (put_own p l) ∙ h)

all_true : (b : Bool) (at : Bool → Bool) → (at false && at true) ≡ true → at b ≡ true
all_true true at h = (and_parts (at false) (at true) h).1
all_true false at h = (and_parts (at false) (at true) h).0

pub both_true : (l : ℕ) (f : Function) (p : Bits) (b : Bool) → both l f p ≡ true → f (put l b p) ≡ true
unfolding both
both_true l f p b h = all_true b (λ b. f (put l b p)) h

-- Boole's own formula has the same value where there is a solution
pub mended_boole : (l : ℕ) (f : Function) (p : Bits) → both l f p ≡ false →
    mended l f p l ≡ (f (put l false p) || (not (f (put l true p)) && p l))
unfolding both mended
mended_boole l f p z =
    put_same p l (xor (f p) (p l)) ∙ boole (p l) (λ b. f (put l b p)) (f p) (ap f (put_own p l)) z
