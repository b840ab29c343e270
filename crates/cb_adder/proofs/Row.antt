-- The bits of full adders in a row, in a consistent valuation.
use Rattle.std.proofs.Common.{◌≡◌, ℕ, zero, suc, ◌+◌, ◌*◌, ◌<◌, ◌≤◌, ◌^◌, Bool, true, false, List, [], ◌∷◌, ◌++◌, map, length, get_or, take, refl, sym, ◌∙◌, ap, subst, arith, length-append}
use Rattle.std.specs.Prelude.{flat_map}
use Rattle.cb_model.specs.declared.Expr.{Expr}
use Rattle.cb_model.specs.Bits.{numbers, numbers_from, bits_of, odd_of, all_of, some_of, Each}
use Rattle.cb_model.specs.Text.{Text}
use Rattle.cb_model.specs.Values.{expr_value}
use Rattle.cb_model.specs.Circuits.{Net, GateHolds, Consistent, read_all, net_number, gates_from, own_gates, circuit_of, BySpec, Agrees}
use Rattle.cb_laws.proofs.Values.{expr_values}
use Rattle.cb_adder.proofs.Modules.{a_name, b_name, s_name, c_name, adder_inputs, adder_flat, a_expr, b_expr, carry_expr, sum_expr, adder_exprs, Adds}
use Rattle.cb_adder.proofs.Names.{pairs}
use Rattle.cb_adder.proofs.Wires.{row, driver, a-driver, b-driver, c-driver, s-driver, next-driver}

-- ---- three bits

abbrev sum_of : Bool → Bool → Bool → Bool
sum_of a b c = odd_of (a ∷ b ∷ c ∷ [])

-- the carry as the specification writes it
abbrev carry_of : Bool → Bool → Bool → Bool
carry_of a b c = some_of (all_of (a ∷ b ∷ []) ∷ all_of (some_of (a ∷ b ∷ []) ∷ c ∷ []) ∷ [])

sum-is : (a b c : Bool) → odd_of (odd_of (a ∷ b ∷ []) ∷ c ∷ []) ≡ sum_of a b c
sum-is true true true = refl
sum-is true true false = refl
sum-is true false true = refl
sum-is true false false = refl
sum-is false true true = refl
sum-is false true false = refl
sum-is false false true = refl
sum-is false false false = refl

carry-is : (a b c : Bool) → some_of (all_of (a ∷ b ∷ []) ∷ all_of (odd_of (a ∷ b ∷ []) ∷ c ∷ []) ∷ []) ≡ carry_of a b c
carry-is true true true = refl
carry-is true true false = refl
carry-is true false true = refl
carry-is true false false = refl
carry-is false true true = refl
carry-is false true false = refl
carry-is false false true = refl
carry-is false false false = refl

-- ---- one full adder

-- the values of two outputs, from the values of the five gates
both-bits : (a b c x0 x1 x2 x3 x4 : Bool) → x0 ≡ odd_of (a ∷ b ∷ []) → x1 ≡ all_of (a ∷ b ∷ []) → x2 ≡ odd_of (x0 ∷ c ∷ []) → x3 ≡ all_of (x0 ∷ c ∷ []) → x4 ≡ some_of (x1 ∷ x3 ∷ []) →
    (x2 ≡ sum_of a b c) × (x4 ≡ carry_of a b c)
both-bits a b c x0 x1 x2 x3 x4 e0 e1 e2 e3 e4 = (
  e2 ∙ ap (λ z. odd_of (z ∷ c ∷ [])) e0 ∙ sum-is a b c,
  e4 ∙ ap (λ z. some_of (z ∷ x3 ∷ [])) e1 ∙ ap (λ z. some_of (all_of (a ∷ b ∷ []) ∷ z ∷ [])) (e3 ∙ ap (λ z. all_of (z ∷ c ∷ [])) e0) ∙ carry-is a b c,
)

module _ (N : ℕ) (drives : Text → Net) (v : List Bool) where
  abbrev bit : Text → Bool
  bit x = get_or v (net_number N (drives x)) false

  abbrev gate_bit : ℕ → Bool
  gate_bit k = get_or v k false

  -- what the gates of bit i give, where its first gate is this net
  record Gives (i at : ℕ) : Type 0 where
    sum : gate_bit (at + 2) ≡ sum_of (bit (a_name i)) (bit (b_name i)) (bit (c_name i))
    carry : gate_bit (at + 4) ≡ carry_of (bit (a_name i)) (bit (b_name i)) (bit (c_name i))

  gives-first : (i at first : ℕ) (k : ℕ) → at ≡ N + first → Each (GateHolds v) (gates_from N at (flat_map (own_gates drives) (row first i (suc k)))) → Gives i at
  gives-first i at first k e h =
      let r = both-bits (bit (a_name i)) (bit (b_name i)) (bit (c_name i)) (gate_bit (N + (first + 0))) (gate_bit (N + (first + 1))) (gate_bit (at + 2)) (gate_bit (N + (first + 3))) (gate_bit (at + 4))
      (ap gate_bit (let z : N + (first + 0) ≡ at = omega arith in z) ∙ h.0)
      (ap gate_bit (let z : N + (first + 1) ≡ suc at = omega arith in z) ∙ h.1.0)
      (ap gate_bit (let z : at + 2 ≡ suc (suc at) = omega arith in z) ∙ h.1.1.0)
      (ap gate_bit (let z : N + (first + 3) ≡ suc (suc (suc at)) = omega arith in z) ∙ h.1.1.1.0)
      (ap gate_bit (let z : at + 4 ≡ suc (suc (suc (suc at))) = omega arith in z) ∙ h.1.1.1.1.0) in
      record { sum = r.0; carry = r.1 }

  gives : (i s k d at first : ℕ) → s + d ≡ i → d < k → at ≡ N + first → Each (GateHolds v) (gates_from N at (flat_map (own_gates drives) (row first s k))) → Gives i (at + 5 * d)
  gives i s zero d at first e l a h = absurd (omega arith)
  gives i s (suc k) zero at first e l a h =
      let same : s ≡ i = omega arith in
      let same' : at ≡ at + 5 * 0 = omega arith in
      subst (λ z. Gives z (at + 5 * 0)) same (subst (Gives s) same' (gives-first s at first k a h))
  gives i s (suc k) (suc d) at first e l a h =
      let up : suc (suc (suc (suc (suc at)))) ≡ N + (first + 5) = omega arith in
      let same : suc (suc (suc (suc (suc at)))) + 5 * d ≡ at + 5 * suc d = omega arith in
      subst (Gives i) same (gives i (suc s) k d (suc (suc (suc (suc (suc at))))) (first + 5) (omega arith) (omega arith) up h.1.1.1.1.1)

-- ---- sizes

pairs-long : (s k : ℕ) → length (pairs s k) ≡ 2 * k
pairs-long s zero = refl
pairs-long s (suc k) = let e = pairs-long (suc s) k in omega (arith, e)

pub numbers-long : (s k : ℕ) → length (numbers_from s k) ≡ k
numbers-long s zero = refl
numbers-long s (suc k) = ap suc (numbers-long (suc s) k)

pub long-map : {X Y : Type 0} (f : X → Y) (xs : List X) → length (map f xs) ≡ length xs
long-map f [] = refl
long-map f (x ∷ xs) = ap suc (long-map f xs)

pub inputs-long : (n : ℕ) → length (adder_inputs n) ≡ 2 * n + 1
inputs-long n = omega (arith, pairs-long 0 n)

pub end-long : {X : Type 0} (f : ℕ → X) (x : X) (n : ℕ) → length (map f (numbers n) ++ x ∷ []) ≡ n + 1
end-long f x n = omega (arith, length-append (map f (numbers n)) (x ∷ []), long-map f (numbers n), numbers-long 0 n)

gates-long : (drives : Text → Net) (s k at : ℕ) → length (flat_map (own_gates drives) (row at s k)) ≡ 5 * k
gates-long drives s zero at = refl
gates-long drives s (suc k) at = let e = gates-long drives (suc s) k (at + 5) in omega (arith, e)

-- ---- the whole

front : (n : ℕ) (v : List Bool) (i : ℕ) → i < n → get_or (take n v) i false ≡ get_or v i false
front zero v i l = absurd (omega arith)
front (suc n) [] i l = refl
front (suc n) (x ∷ v) zero l = refl
front (suc n) (x ∷ v) (suc i) l = front n v i (omega arith)

module _ (n : ℕ) (small : n < 2 ^ 32) (input v : List Bool) (c : Consistent (circuit_of (adder_flat n)) input v) where
  abbrev N : ℕ
  N = length (adder_inputs n)

  abbrev wire : Text → Bool
  wire x = bit N (driver n small) v x

  abbrev value : Expr → Bool
  value e = expr_value (bits_of []) (bits_of input) e

  -- an input has its bit
  input-bit : (i : ℕ) → i < N → get_or v i false ≡ get_or input i false
  input-bit i l = sym (front N v i l) ∙ ap (λ w. get_or w i false) c.inputs

  a-bit : (i : ℕ) → i < n → wire (a_name i) ≡ value (a_expr i)
  a-bit i l =
      ap (λ (d : Net). get_or v (net_number N d) false) (a-driver n small i l) ∙ input-bit (1 + 2 * i) (omega (arith, inputs-long n))
      ∙ (let e : get_or input (1 + 2 * i) false ≡ value (a_expr i) = simp expr_values refl in e)

  b-bit : (i : ℕ) → i < n → wire (b_name i) ≡ value (b_expr i)
  b-bit i l =
      ap (λ (d : Net). get_or v (net_number N d) false) (b-driver n small i l) ∙ input-bit (2 + 2 * i) (omega (arith, inputs-long n))
      ∙ (let e : get_or input (2 + 2 * i) false ≡ value (b_expr i) = simp expr_values refl in e)

  full-bits : (i : ℕ) → i < n → Gives N (driver n small) v i (N + 5 * i)
  full-bits i l = gives N (driver n small) v i 0 n i N 0 (omega arith) l (omega arith) c.gates

  next-value : (i : ℕ) → carry_of (value (a_expr i)) (value (b_expr i)) (value (carry_expr i)) ≡ value (carry_expr (suc i))
  next-value i = simp expr_values refl

  sum-value : (i : ℕ) → sum_of (value (a_expr i)) (value (b_expr i)) (value (carry_expr i)) ≡ value (sum_expr i)
  sum-value i = simp expr_values refl

  c-bit : (i : ℕ) → i ≤ n → wire (c_name i) ≡ value (carry_expr i)
  c-bit zero l =
      ap (λ (d : Net). get_or v (net_number N d) false) (c-driver n small) ∙ input-bit 0 (omega (arith, inputs-long n))
      ∙ (let e : get_or input 0 false ≡ value (carry_expr 0) = simp expr_values refl in e)
  c-bit (suc i) l =
      let h : i < n = omega arith in
      ap (λ (d : Net). get_or v (net_number N d) false) (next-driver n small i h)
      ∙ ap (λ k. get_or v k false) (let z : N + (5 * i + 4) ≡ (N + 5 * i) + 4 = omega arith in z)
      ∙ (full-bits i h).carry
      ∙ ap (λ x. carry_of x (wire (b_name i)) (wire (c_name i))) (a-bit i h) ∙ ap (λ x. carry_of (value (a_expr i)) x (wire (c_name i))) (b-bit i h)
      ∙ ap (λ x. carry_of (value (a_expr i)) (value (b_expr i)) x) (c-bit i (omega arith))
      ∙ next-value i

  s-bit : (i : ℕ) → i < n → wire (s_name i) ≡ value (sum_expr i)
  s-bit i h =
      ap (λ (d : Net). get_or v (net_number N d) false) (s-driver n small i h)
      ∙ ap (λ k. get_or v k false) (let z : N + (5 * i + 2) ≡ (N + 5 * i) + 2 = omega arith in z)
      ∙ (full-bits i h).sum
      ∙ ap (λ x. sum_of x (wire (b_name i)) (wire (c_name i))) (a-bit i h) ∙ ap (λ x. sum_of (value (a_expr i)) x (wire (c_name i))) (b-bit i h)
      ∙ ap (λ x. sum_of (value (a_expr i)) (value (b_expr i)) x) (c-bit i (omega arith))
      ∙ sum-value i

  outputs-are : (s k : ℕ) → s + k ≡ n →
      read_all v (map (net_number N) (map (driver n small) (map s_name (numbers_from s k) ++ c_name n ∷ []))) ≡ map value (map sum_expr (numbers_from s k) ++ carry_expr n ∷ [])
  outputs-are s zero e = ap (λ b. b ∷ []) (c-bit n (omega arith))
  outputs-are s (suc k) e =
      ap (λ b. b ∷ read_all v (map (net_number N) (map (driver n small) (map s_name (numbers_from (suc s) k) ++ c_name n ∷ [])))) (s-bit s (omega arith))
      ∙ ap (λ bs. value (sum_expr s) ∷ bs) (outputs-are (suc s) k (omega arith))

agrees : (n : ℕ) → n < 2 ^ 32 → Agrees (circuit_of (adder_flat n)) (BySpec (adder_exprs n))
agrees n small input xs ys wide o wanted = o.outputs ∙ outputs-are n small input o.v o.consistent 0 n (omega arith) ∙ sym wanted

pub adder_adds : (n : ℕ) → n < 2 ^ 32 → Adds n
adder_adds n small = record {
  inputs = inputs-long n;
  outputs = end-long s_name (c_name n) n;
  exprs = end-long sum_expr (carry_expr n) n;
  gates = gates-long (driver n small) 0 n 0;
  agrees = agrees n small;
}
