-- The names of the adder's nets: which are the same, and where they stand.
use Rattle.std.proofs.Common.{◌≡◌, ℕ, zero, suc, ◌+◌, ◌*◌, ◌<◌, ◌^◌, Bool, true, false, List, [], ◌∷◌, Option, Some, None, refl, ◌∙◌, ap, subst, arith, codes}
use Rattle.std.specs.Prelude.{bytes_eq, position, decimal, flat_map}
use Rattle.std.proofs.lemmas.Fmt.{decimal_injective, decimal_digit}
use Rattle.cb_model.specs.Bits.{numbers_from}
use Rattle.cb_model.specs.Text.{Text}
use Rattle.cb_adder.proofs.Modules.{a_name, b_name, s_name, c_name, adder_inputs}
use Rattle.cb_flat.proofs.Places.{position-cons, here_or, behind, bytes_eq-refl, bytes_eq-same}

-- ---- which names are the same

-- names with different numbers are different
pub differ : (c i j : ℕ) → i < 2 ^ 64 → j < 2 ^ 64 → (i ≡ j → ⊥) → bytes_eq (c ∷ decimal i) (c ∷ decimal j) ≡ false
differ c i j hi hj apart = from (bytes_eq (c ∷ decimal i) (c ∷ decimal j)) refl
  where
    from : (b : Bool) → bytes_eq (c ∷ decimal i) (c ∷ decimal j) ≡ b → b ≡ false
    from false e = refl
    from true e =
        let same : (c ∷ decimal i) ≡ (c ∷ decimal j) = bytes_eq-same (c ∷ decimal i) (c ∷ decimal j) e in
        let digits : decimal i ≡ decimal j = cc in
        absurd (apart (decimal_injective i j hi hj digits))

pub nought : decimal 0 ≡ 48 ∷ []
nought = decimal_digit 0 (omega arith)

pub first-carry : c_name 0 ≡ codes "C0"
first-carry = ap (λ t. 67 ∷ t) nought

-- ---- places among the inputs

abbrev pub pairs : ℕ → ℕ → List Text
pairs s k = flat_map (λ i. a_name i ∷ b_name i ∷ []) (numbers_from s k)

-- behind one that is another
pub passed : (x y : Text) (ys : List Text) (r : Option ℕ) → bytes_eq x y ≡ false → position (bytes_eq x) ys ≡ r → position (bytes_eq x) (y ∷ ys) ≡ behind 1 r
passed x y ys r e p = position-cons (bytes_eq x) y ys ∙ ap (λ b. here_or b (position (bytes_eq x) ys)) e ∙ ap (behind 1) p

pub found : (x y : Text) (ys : List Text) → bytes_eq x y ≡ true → position (bytes_eq x) (y ∷ ys) ≡ Some 0
found x y ys e = position-cons (bytes_eq x) y ys ∙ ap (λ b. here_or b (position (bytes_eq x) ys)) e

pub a-place : (i s k d : ℕ) → s + d ≡ i → d < k → i < 2 ^ 64 → position (bytes_eq (a_name i)) (pairs s k) ≡ Some (2 * d)
a-place i s zero d e l h = absurd (omega arith)
a-place i s (suc k) zero e l h =
    let same : i ≡ s = omega arith in
    let t : bytes_eq (a_name i) (a_name s) ≡ true = subst (λ j. bytes_eq (a_name i) (a_name j) ≡ true) same (bytes_eq-refl (a_name i)) in
    found (a_name i) (a_name s) (b_name s ∷ pairs (suc s) k) t ∙ ap Some (let z : 0 ≡ 2 * 0 = omega arith in z)
a-place i s (suc k) (suc d) e l h =
    let t : bytes_eq (a_name i) (a_name s) ≡ false = differ 65 i s h (omega arith) (λ q. omega arith) in
    passed (a_name i) (a_name s) (b_name s ∷ pairs (suc s) k) (behind 1 (Some (2 * d))) t
    (passed (a_name i) (b_name s) (pairs (suc s) k) (Some (2 * d)) refl (a-place i (suc s) k d (omega arith) (omega arith) h))
    ∙ ap Some (let z : 1 + (1 + 2 * d) ≡ 2 * suc d = omega arith in z)

pub b-place : (i s k d : ℕ) → s + d ≡ i → d < k → i < 2 ^ 64 → position (bytes_eq (b_name i)) (pairs s k) ≡ Some (1 + 2 * d)
b-place i s zero d e l h = absurd (omega arith)
b-place i s (suc k) zero e l h =
    let same : i ≡ s = omega arith in
    let t : bytes_eq (b_name i) (b_name s) ≡ true = subst (λ j. bytes_eq (b_name i) (b_name j) ≡ true) same (bytes_eq-refl (b_name i)) in
    passed (b_name i) (a_name s) (b_name s ∷ pairs (suc s) k) (Some 0) refl (found (b_name i) (b_name s) (pairs (suc s) k) t) ∙ ap Some (let z : 1 + 0 ≡ 1 + 2 * 0 = omega arith in z)
b-place i s (suc k) (suc d) e l h =
    let t : bytes_eq (b_name i) (b_name s) ≡ false = differ 66 i s h (omega arith) (λ q. omega arith) in
    passed (b_name i) (a_name s) (b_name s ∷ pairs (suc s) k) (behind 1 (Some (1 + 2 * d))) refl
    (passed (b_name i) (b_name s) (pairs (suc s) k) (Some (1 + 2 * d)) t (b-place i (suc s) k d (omega arith) (omega arith) h))
    ∙ ap Some (let z : 1 + (1 + (1 + 2 * d)) ≡ 1 + 2 * suc d = omega arith in z)

pub no-place : (x : Text) (s k : ℕ) → ((i : ℕ) → bytes_eq x (a_name i) ≡ false) → ((i : ℕ) → bytes_eq x (b_name i) ≡ false) → position (bytes_eq x) (pairs s k) ≡ None
no-place x s zero a b = refl
no-place x s (suc k) a b = passed x (a_name s) (b_name s ∷ pairs (suc s) k) None (a s) (passed x (b_name s) (pairs (suc s) k) None (b s) (no-place x (suc s) k a b))

pub a-input : (n i : ℕ) → i < n → i < 2 ^ 64 → position (bytes_eq (a_name i)) (adder_inputs n) ≡ Some (1 + 2 * i)
a-input n i l h = passed (a_name i) (codes "C0") (pairs 0 n) (Some (2 * i)) refl (a-place i 0 n i (omega arith) l h)

pub b-input : (n i : ℕ) → i < n → i < 2 ^ 64 → position (bytes_eq (b_name i)) (adder_inputs n) ≡ Some (2 + 2 * i)
b-input n i l h = passed (b_name i) (codes "C0") (pairs 0 n) (Some (1 + 2 * i)) refl (b-place i 0 n i (omega arith) l h) ∙ ap Some (let z : 1 + (1 + 2 * i) ≡ 2 + 2 * i = omega arith in z)

pub c-input : (n : ℕ) → position (bytes_eq (c_name 0)) (adder_inputs n) ≡ Some 0
c-input n = found (c_name 0) (codes "C0") (pairs 0 n) (subst (λ x. bytes_eq (c_name 0) x ≡ true) first-carry (bytes_eq-refl (c_name 0)))

pub s-input : (n i : ℕ) → position (bytes_eq (s_name i)) (adder_inputs n) ≡ None
s-input n i = passed (s_name i) (codes "C0") (pairs 0 n) None refl (no-place (s_name i) 0 n (λ j. refl) (λ j. refl))

pub next-carry : (i : ℕ) → i < 2 ^ 63 → bytes_eq (c_name (suc i)) (codes "C0") ≡ false
next-carry i h = subst (λ x. bytes_eq (c_name (suc i)) x ≡ false) first-carry (differ 67 (suc i) 0 (omega arith) (omega arith) (λ q. omega arith))

pub next-input : (n i : ℕ) → i < 2 ^ 63 → position (bytes_eq (c_name (suc i))) (adder_inputs n) ≡ None
next-input n i h = passed (c_name (suc i)) (codes "C0") (pairs 0 n) None (next-carry i h) (no-place (c_name (suc i)) 0 n (λ j. refl) (λ j. refl))
