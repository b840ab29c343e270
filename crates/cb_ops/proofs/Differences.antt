-- The laws behind `xor`.
use Rattle.std.proofs.Common.{◌≡◌, ℕ, ◌<◌, ◌^◌, Bool, true, false, List, [], ◌∷◌, length, refl, sym, ap, ◌∙◌, arith}
use Rattle.std.proofs.lemmas.Nat.{pow_pos}
use Rattle.cb_model.specs.Bits.{xor}
use Rattle.cb_dd.specs.declared.Triple.{Triple}
use Rattle.cb_dd.specs.Diagram.{Store, function_of}
use Rattle.cb_dd.proofs.Diagrams.{function_of-zero}
use Rattle.cb_ops.specs.Ops.{IsXor, Room, HasCause}
use Rattle.cb_ops.proofs.Connectives.{depends-zero}

two : (x y z w : Bool) → x ≡ z → y ≡ w → xor x y ≡ xor z w
two x y z w p q = λ j. xor (p j) (q j)

xor-same : (x : Bool) → xor x x ≡ false
xor-same true = refl
xor-same false = refl

xor-none : (x : Bool) → xor x false ≡ x
xor-none true = refl
xor-none false = refl

-- ---- calls that need no work
pub differ-same : (ts : List Triple) (f g : ℕ) → f ≡ g → IsXor ts ts f g 0
differ-same ts f g e = record { at = λ a. function_of-zero ts a ∙ sym (two _ _ _ _ (ap (λ n. function_of ts n a) e) refl ∙ xor-same (function_of ts g a)) }

pub differ-left : (ts : List Triple) (f g : ℕ) → f ≡ 0 → IsXor ts ts f g g
differ-left ts f g e = record { at = λ a. sym (ap (λ x. xor x (function_of ts g a)) (ap (λ n. function_of ts n a) e ∙ function_of-zero ts a)) }

pub differ-right : (ts : List Triple) (f g : ℕ) → g ≡ 0 → IsXor ts ts f g f
differ-right ts f g e = record { at = λ a. sym (ap (λ x. xor (function_of ts f a) x) (ap (λ n. function_of ts n a) e ∙ function_of-zero ts a) ∙ xor-none (function_of ts f a)) }

-- the bounds of a call whose third node is the constant 0
pub xor-room : (s v : Store) (f g : ℕ) → Room (f ∷ g ∷ 0 ∷ []) 1 s v → Room (f ∷ g ∷ []) 2 s v
xor-room s v f g r = record { most = λ ls d. let m = r.most ls (d.0, (d.1.0, (depends-zero s.triples ls, tt))) in let p : 0 < 2 ^ length ls = pow_pos (length ls) in omega (arith, m, p) }

pub xor-cause : (s v : Store) (f g : ℕ) → HasCause (f ∷ g ∷ 0 ∷ []) 1 s v → HasCause (f ∷ g ∷ []) 2 s v
xor-cause s v f g h = record { rose = h.rose; below = λ ls d. let m = h.below ls (d.0, (d.1.0, (depends-zero s.triples ls, tt))) in let p : 0 < 2 ^ length ls = pow_pos (length ls) in omega (arith, m, p) }
