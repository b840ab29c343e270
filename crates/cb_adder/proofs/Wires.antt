-- What drives the adder's nets.
use Rattle.std.proofs.Common.{◌≡◌, ℕ, zero, suc, ◌+◌, ◌*◌, ◌<◌, ◌^◌, true, List, [], ◌∷◌, map, length, Option, Some, None, refl, sym, ◌∙◌, ap, subst, arith}
use Rattle.std.specs.Prelude.{bytes_eq, position}
use Rattle.cb_model.specs.Bits.{numbers_from}
use Rattle.cb_model.specs.Text.{Text}
use Rattle.cb_model.specs.Circuits.{Net, In, Own, Placed, placed_from, part_of, pin_of, drive, drive_pin, driver_within}
use Rattle.cb_adder.proofs.Modules.{a_name, b_name, s_name, c_name, adder_inputs, adder_part, adder_module, full_flat, parts}
use Rattle.cb_flat.proofs.Places.{bytes_eq-refl}
use Rattle.cb_adder.proofs.Names.{differ, passed, found, a-input, b-input, c-input, s-input, next-input}

-- the full adder of bit i, whose first gate has this number
abbrev pub placed_full : ℕ → ℕ → Placed
placed_full i f = record { instance = adder_part i; flat = full_flat; first = f }

abbrev pub row : ℕ → ℕ → ℕ → List Placed
row at s k = placed_from (part_of parts) at (map adder_part (numbers_from s k))

s-same : (i s : ℕ) → s ≡ i → position (bytes_eq (s_name i)) (s_name s ∷ c_name (suc s) ∷ []) ≡ Some 0
s-same i s e = found (s_name i) (s_name s) (c_name (suc s) ∷ []) (subst (λ j. bytes_eq (s_name i) (s_name j) ≡ true) (sym e) (bytes_eq-refl (s_name i)))

s-other : (i s : ℕ) → i < 2 ^ 63 → s < 2 ^ 63 → (i ≡ s → ⊥) → position (bytes_eq (s_name i)) (s_name s ∷ c_name (suc s) ∷ []) ≡ None
s-other i s hi hs a = passed (s_name i) (s_name s) (c_name (suc s) ∷ []) None (differ 83 i s (omega arith) (omega arith) a) (passed (s_name i) (c_name (suc s)) [] None refl refl)

c-same : (i s : ℕ) → s ≡ i → position (bytes_eq (c_name (suc i))) (s_name s ∷ c_name (suc s) ∷ []) ≡ Some 1
c-same i s e = passed (c_name (suc i)) (s_name s) (c_name (suc s) ∷ []) (Some 0) refl
    (found (c_name (suc i)) (c_name (suc s)) [] (subst (λ j. bytes_eq (c_name (suc i)) (c_name (suc j)) ≡ true) (sym e) (bytes_eq-refl (c_name (suc i)))))

c-other : (i s : ℕ) → i < 2 ^ 63 → s < 2 ^ 63 → (i ≡ s → ⊥) → position (bytes_eq (c_name (suc i))) (s_name s ∷ c_name (suc s) ∷ []) ≡ None
c-other i s hi hs a = passed (c_name (suc i)) (s_name s) (c_name (suc s) ∷ []) None refl
    (passed (c_name (suc i)) (c_name (suc s)) [] None (differ 67 (suc i) (suc s) (omega arith) (omega arith) (λ q. let r : i ≡ s = omega arith in a r)) refl)

-- the pin of a net, where it is one of the outputs of bit i
pin-here : (x : Text) (i s at k j f : ℕ) → s ≡ i → f ≡ at → position (bytes_eq x) (s_name s ∷ c_name (suc s) ∷ []) ≡ Some j → pin_of x (row at s (suc k)) ≡ Some (placed_full i f, j)
pin-here x i s at k j f e g p = rw p (ap (λ z. Some (placed_full z at, j)) e ∙ ap (λ z. Some (placed_full i z, j)) (sym g))

pin-later : (x : Text) (s at k : ℕ) (r : Option (Placed × ℕ)) → position (bytes_eq x) (s_name s ∷ c_name (suc s) ∷ []) ≡ None → pin_of x (row (at + 5) (suc s) k) ≡ r → pin_of x (row at s (suc k)) ≡ r
pin-later x s at k r p q = rw p q

pub s-pin : (i s k d at f : ℕ) → s + d ≡ i → d < k → i < 2 ^ 63 → f ≡ at + 5 * d → pin_of (s_name i) (row at s k) ≡ Some (placed_full i f, 0)
s-pin i s zero d at f e l h g = absurd (omega arith)
s-pin i s (suc k) zero at f e l h g = pin-here (s_name i) i s at k 0 f (omega arith) (omega arith) (s-same i s (omega arith))
s-pin i s (suc k) (suc d) at f e l h g = pin-later (s_name i) s at k (Some (placed_full i f, 0)) (s-other i s h (omega arith) (λ q. omega arith)) (s-pin i (suc s) k d (at + 5) f (omega arith) (omega arith) h (omega arith))

pub c-pin : (i s k d at f : ℕ) → s + d ≡ i → d < k → i < 2 ^ 63 → f ≡ at + 5 * d → pin_of (c_name (suc i)) (row at s k) ≡ Some (placed_full i f, 1)
c-pin i s zero d at f e l h g = absurd (omega arith)
c-pin i s (suc k) zero at f e l h g = pin-here (c_name (suc i)) i s at k 1 f (omega arith) (omega arith) (c-same i s (omega arith))
c-pin i s (suc k) (suc d) at f e l h g = pin-later (c_name (suc i)) s at k (Some (placed_full i f, 1)) (c-other i s h (omega arith) (λ q. omega arith)) (c-pin i (suc s) k d (at + 5) f (omega arith) (omega arith) h (omega arith))

-- ---- the drivers

module _ (n : ℕ) (small : n < 2 ^ 32) where
  abbrev pub placed : List Placed
  placed = row 0 0 n

  abbrev pub driver : Text → Net
  driver = driver_within (suc (length (adder_module n).instances)) (adder_inputs n) placed

  abbrev next : Text → Net
  next = driver_within (length (adder_module n).instances) (adder_inputs n) placed

  pub a-driver : (i : ℕ) → i < n → driver (a_name i) ≡ In (1 + 2 * i)
  a-driver i l = ap (λ o. drive next o (pin_of (a_name i) placed)) (a-input n i l (omega arith))

  pub b-driver : (i : ℕ) → i < n → driver (b_name i) ≡ In (2 + 2 * i)
  b-driver i l = ap (λ o. drive next o (pin_of (b_name i) placed)) (b-input n i l (omega arith))

  pub c-driver : driver (c_name 0) ≡ In 0
  c-driver = ap (λ o. drive next o (pin_of (c_name 0) placed)) (c-input n)

  pub s-driver : (i : ℕ) → i < n → driver (s_name i) ≡ Own (5 * i + 2)
  s-driver i l =
      ap (λ o. drive next o (pin_of (s_name i) placed)) (s-input n i)
      ∙ ap (drive_pin next) (s-pin i 0 n i 0 (5 * i) (omega arith) l (omega arith) (omega arith))

  pub next-driver : (i : ℕ) → i < n → driver (c_name (suc i)) ≡ Own (5 * i + 4)
  next-driver i l =
      ap (λ o. drive next o (pin_of (c_name (suc i)) placed)) (next-input n i (omega arith))
      ∙ ap (drive_pin next) (c-pin i 0 n i 0 (5 * i) (omega arith) l (omega arith) (omega arith))
