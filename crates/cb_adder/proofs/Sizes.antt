-- The generated text is short enough.
use Rattle.std.proofs.Common.{◌≡◌, ℕ, zero, suc, ◌+◌, ◌*◌, ◌≤◌, List, [], ◌∷◌, ◌++◌, map, length, arith, codes, length-append}
use Rattle.std.specs.Prelude.{decimal}
use Rattle.std.proofs.lemmas.Fmt.{length-decimal-le_succ}
use Rattle.cb_model.specs.Bits.{numbers, numbers_from, Each}
use Rattle.cb_model.specs.Text.{Text, joined}
use Rattle.cb_model.specs.Adder.{part_text, carry_text, sum_text, ports_text, outs_text, exprs_text, adder_text}
use Rattle.cb_adder.proofs.Modules.{a_name, b_name, s_name, c_name, adder_inputs, adder_outputs}
use Rattle.cb_adder.proofs.Names.{pairs}
use Rattle.cb_adder.proofs.Row.{inputs-long, end-long, long-map, numbers-long}

-- ---- texts one behind another

abbrev chained : Text → List Text → Text
chained t [] = t
chained t (x ∷ xs) = chained (t ++ x) xs

abbrev total : List Text → ℕ
total [] = 0
total (x ∷ xs) = length x + total xs

chained-long : (t : Text) (xs : List Text) → length (chained t xs) ≡ length t + total xs
chained-long t [] = omega arith
chained-long t (x ∷ xs) = let e = chained-long (t ++ x) xs in let f = length-append t x in omega (arith, e, f)

-- ---- joined texts of at most so many bytes

abbrev Within : ℕ → List Text → Type 0
Within b xs = Each (λ (x : Text). length x ≤ b) xs

abbrev room : ℕ → ℕ → ℕ
room b zero = 0
room b (suc k) = b + 1 + room b k

joined-long : (b : ℕ) (xs : List Text) → Within b xs → length (joined (codes ",") xs) ≤ room b (length xs)
joined-long b [] h = omega arith
joined-long b (x ∷ []) h = let l : length x ≤ b = h.0 in omega (arith, l)
joined-long b (x ∷ y ∷ ys) h =
    let l : length x ≤ b = h.0 in
    let r = joined-long b (y ∷ ys) h.1 in
    let e = length-append (x ++ codes ",") (joined (codes ",") (y ∷ ys)) in
    let f = length-append x (codes ",") in
    omega (arith, l, r, e, f)

room-few : (k : ℕ) → room 400 k ≡ 401 * k
room-few zero = omega arith
room-few (suc k) = let e = room-few k in omega (arith, e)

room-many : (k : ℕ) → room 20000 k ≡ 20001 * k
room-many zero = omega arith
room-many (suc k) = let e = room-many k in omega (arith, e)

-- ---- names, full adders and expressions

name-long : (c i : ℕ) → i ≤ 65 → length (c ∷ decimal i) ≤ 67
name-long c i l = let d = length-decimal-le_succ i (omega arith) in omega (arith, d)

part-long : (i : ℕ) → i ≤ 64 → length (part_text i) ≤ 400
part-long i l =
    let e : length (part_text i) ≡ length (codes "full([") + total (a_name i ∷ codes "," ∷ b_name i ∷ codes "," ∷ c_name i ∷ codes "],[" ∷ s_name i ∷ codes "," ∷ c_name (suc i) ∷ codes "])" ∷ []) =
    chained-long (codes "full([") (a_name i ∷ codes "," ∷ b_name i ∷ codes "," ∷ c_name i ∷ codes "],[" ∷ s_name i ∷ codes "," ∷ c_name (suc i) ∷ codes "])" ∷ []) in
    let a = name-long 65 i (omega arith) in
    let b = name-long 66 i (omega arith) in
    let c = name-long 67 i (omega arith) in
    let s = name-long 83 i (omega arith) in
    let d = name-long 67 (suc i) (omega arith) in
    omega (arith, e, a, b, c, s, d)

carry-long : (i : ℕ) → i ≤ 64 → length (carry_text i) ≤ 2 + 280 * i
carry-long zero l = omega arith
carry-long (suc i) l =
    let e : length (carry_text (suc i)) ≡ length (codes "(") + total (a_name i ∷ codes "*" ∷ b_name i ∷ codes "+(" ∷ a_name i ∷ codes "+" ∷ b_name i ∷ codes ")*" ∷ carry_text i ∷ codes ")" ∷ []) =
    chained-long (codes "(") (a_name i ∷ codes "*" ∷ b_name i ∷ codes "+(" ∷ a_name i ∷ codes "+" ∷ b_name i ∷ codes ")*" ∷ carry_text i ∷ codes ")" ∷ []) in
    let a = name-long 65 i (omega arith) in
    let b = name-long 66 i (omega arith) in
    let k = carry-long i (omega arith) in
    omega (arith, e, a, b, k)

carry-short : (i : ℕ) → i ≤ 64 → length (carry_text i) ≤ 20000
carry-short i l = let k = carry-long i l in omega (arith, k)

sum-short : (i : ℕ) → i ≤ 64 → length (sum_text i) ≤ 20000
sum-short i l =
    let e : length (sum_text i) ≡ length (a_name i) + total (codes "#" ∷ b_name i ∷ codes "#" ∷ carry_text i ∷ []) = chained-long (a_name i) (codes "#" ∷ b_name i ∷ codes "#" ∷ carry_text i ∷ []) in
    let a = name-long 65 i (omega arith) in
    let b = name-long 66 i (omega arith) in
    let k = carry-long i l in
    omega (arith, e, a, b, k)

-- ---- lists

pairs-within : (s k : ℕ) → s + k ≤ 64 → Within 400 (pairs s k)
pairs-within s zero l = tt
pairs-within s (suc k) l =
    let a = name-long 65 s (omega arith) in
    let b = name-long 66 s (omega arith) in
    (omega (arith, a), (omega (arith, b), pairs-within (suc s) k (omega arith)))

outs-within : (n s k : ℕ) → n ≤ 64 → s + k ≤ 64 → Within 400 (map s_name (numbers_from s k) ++ c_name n ∷ [])
outs-within n s zero h l = let c = name-long 67 n (omega arith) in (omega (arith, c), tt)
outs-within n s (suc k) h l = let a = name-long 83 s (omega arith) in (omega (arith, a), outs-within n (suc s) k h (omega arith))

parts-within : (s k : ℕ) → s + k ≤ 64 → Within 400 (map part_text (numbers_from s k))
parts-within s zero l = tt
parts-within s (suc k) l = (part-long s (omega arith), parts-within (suc s) k (omega arith))

exprs-within : (n s k : ℕ) → n ≤ 64 → s + k ≤ 64 → Within 20000 (map sum_text (numbers_from s k) ++ carry_text n ∷ [])
exprs-within n s zero h l = (carry-short n h, tt)
exprs-within n s (suc k) h l = (sum-short s (omega arith), exprs-within n (suc s) k h (omega arith))

-- ---- the whole

module _ (n : ℕ) (small : n ≤ 64) where
  ports-short : length (ports_text n) ≤ 60000
  ports-short =
      let first : length (codes "C0") ≤ 400 = omega arith in
      let j = joined-long 400 (adder_inputs n) (first, pairs-within 0 n (omega arith)) in
      let r = room-few (length (adder_inputs n)) in
      let i = inputs-long n in
      omega (arith, j, r, i)

  outs-short : length (outs_text n) ≤ 60000
  outs-short =
      let j = joined-long 400 (adder_outputs n) (outs-within n 0 n small (omega arith)) in
      let r = room-few (length (adder_outputs n)) in
      let i = end-long s_name (c_name n) n in
      omega (arith, j, r, i)

  abbrev parts_text : Text
  parts_text = joined (codes ",") (map part_text (numbers n))

  parts-short : length parts_text ≤ 60000
  parts-short =
      let j = joined-long 400 (map part_text (numbers n)) (parts-within 0 n (omega arith)) in
      let r = room-few (length (map part_text (numbers n))) in
      let i = long-map part_text (numbers n) in
      let k = numbers-long 0 n in
      omega (arith, j, r, i, k)

  exprs-short : length (exprs_text n) ≤ 2000000
  exprs-short =
      let j = joined-long 20000 (map sum_text (numbers n) ++ carry_text n ∷ []) (exprs-within n 0 n small (omega arith)) in
      let r = room-many (length (map sum_text (numbers n) ++ carry_text n ∷ [])) in
      let i = end-long sum_text (carry_text n) n in
      omega (arith, j, r, i)

  abbrev first_line : Text
  first_line = codes "module(half,[A,B],[S,C],[xor([A,B],[S]),and([A,B],[C])])."

  abbrev second_line : Text
  second_line = codes "module(full,[A,B,C],[S,D],[half([A,B],[T,U]),half([T,C],[S,V]),or([U,V],[D])])."

  abbrev third_line : Text
  third_line = chained (codes "module(adder,[") (ports_text n ∷ codes "],[" ∷ outs_text n ∷ codes "],[" ∷ parts_text ∷ codes "])." ∷ [])

  abbrev fourth_line : Text
  fourth_line = chained (codes "spec(adder,[") (ports_text n ∷ codes "],[" ∷ exprs_text n ∷ codes "])." ∷ [])

  third-long : length third_line ≤ 200000
  third-long =
      let e = chained-long (codes "module(adder,[") (ports_text n ∷ codes "],[" ∷ outs_text n ∷ codes "],[" ∷ parts_text ∷ codes "])." ∷ []) in
      let p = ports-short in
      let o = outs-short in
      let q = parts-short in
      omega (arith, e, p, o, q)

  fourth-long : length fourth_line ≤ 2100000
  fourth-long =
      let e = chained-long (codes "spec(adder,[") (ports_text n ∷ codes "],[" ∷ exprs_text n ∷ codes "])." ∷ []) in
      let p = ports-short in
      let x = exprs-short in
      omega (arith, e, p, x)

  abbrev after_three : Text
  after_three = fourth_line ++ (10 ∷ [])

  abbrev after_two : Text
  after_two = third_line ++ (10 ∷ after_three)

  abbrev after_one : Text
  after_one = second_line ++ (10 ∷ after_two)

  pub text-short : length (adder_text n) ≤ 4194304
  text-short =
      let one : length (adder_text n) ≡ length first_line + length {A = ℕ} (10 ∷ after_one) = length-append first_line (10 ∷ after_one) in
      let two : length after_one ≡ length second_line + length {A = ℕ} (10 ∷ after_two) = length-append second_line (10 ∷ after_two) in
      let three : length after_two ≡ length third_line + length {A = ℕ} (10 ∷ after_three) = length-append third_line (10 ∷ after_three) in
      let four : length after_three ≡ length fourth_line + length {A = ℕ} (10 ∷ []) = length-append fourth_line (10 ∷ []) in
      let t = third-long in
      let f = fourth-long in
      omega (arith, one, two, three, four, t, f)
