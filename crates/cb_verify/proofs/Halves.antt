-- A chain of expressions by halves.
use Rattle.std.proofs.Common.{◌≡◌, ℕ, ◌+◌, ◌-◌, ◌*◌, ◌/◌, ◌<◌, ◌≤◌, Bool, true, false, ◌&&◌, List, [], ◌∷◌, ◌++◌, map, length, get_or, take, drop, sum, refl, sym, ◌∙◌, ap, ap₂, arith}
use Rattle.std.proofs.lemmas.List.{length-append, length-drop, length-take-le, map-append, take-append-drop}
use Rattle.std.proofs.lemmas.List.Sums.{sum-map, sum_by-append}
use Rattle.std.proofs.lemmas.Bool.{false≢true}
use Rattle.std.specs.List.{sum_by}
use Rattle.std.proofs.Math.Seq.{take-length}
use Rattle.cb_model.specs.declared.Expr.{Expr}
use Rattle.cb_model.specs.Bits.{Bits, bits_of, all_of}
use Rattle.cb_model.specs.Values.{expr_value}
use Rattle.cb_model.specs.Room.{expr_size}
use Rattle.cb_dd.specs.declared.Node.{Node}
use Rattle.cb_dd.specs.declared.Triple.{Triple}
use Rattle.cb_dd.specs.Diagram.{Store, IsNode, function_of}
use Rattle.cb_ops.specs.Ops.{Grows}
use Rattle.cb_verify.specs.declared.nodes.Operator.{Operator}
use Rattle.cb_verify.specs.declared.nodes.Operator.TheVariants as operator
use Rattle.cb_verify.specs.Nodes.{AreNodes, node_bits, Adds, operator_value, chain_value}
use Rattle.cb_verify.proofs.Kept.{node_bits-kept, function-kept, DependOn-kept, depends-kept, depends-by}
use Rattle.cb_verify.proofs.Chains.{Adds-within, chain_more, chain_end, operator_assoc}
use Rattle.cb_verify.proofs.Operands.{weight, then-room, same-room}

-- ---- the value of a chain

chain-none : (o : Operator) (x : Bool) → operator_value o (chain_value o []) x ≡ x
chain-none operator.And x = refl
chain-none operator.Or x = refl
chain-none operator.Xor x = refl

chain-both : (o : Operator) (xs ys : List Bool) → chain_value o (xs ++ ys) ≡ operator_value o (chain_value o xs) (chain_value o ys)
chain-both o [] ys = sym (chain-none o (chain_value o ys))
chain-both o (x ∷ xs) ys =
    chain_more o x (xs ++ ys) ∙ ap (operator_value o x) (chain-both o xs ys) ∙ operator_assoc o x (chain_value o xs) (chain_value o ys)
    ∙ ap (λ z. operator_value o z (chain_value o ys)) (sym (chain_more o x xs))

chain-one : (o : Operator) (x : Bool) → chain_value o (x ∷ []) ≡ x
chain-one o x = chain_more o x [] ∙ chain_end o x

-- ---- the parts of a list as the code takes them

pub half-some : (n : ℕ) → 2 ≤ n → 0 < n / 2
half-some n h = omega arith

pub half-less : (n : ℕ) → 2 ≤ n → n / 2 < n
half-less n h = omega arith

pub parts-are : (xs : List Expr) (k : ℕ) → xs ≡ take k xs ++ take (length xs - k) (drop k xs)
parts-are xs k = sym (ap (λ ys. take k xs ++ ys) (ap (λ n. take n (drop k xs)) (sym (length-drop k xs)) ∙ take-length (drop k xs)) ∙ take-append-drop k xs)

pub high-is : (xs : List Expr) (k : ℕ) → take (length xs - k) (drop k xs) ≡ drop k xs
high-is xs k = ap (λ n. take n (drop k xs)) (sym (length-drop k xs)) ∙ take-length (drop k xs)

pub low-some : (xs : List Expr) → 2 ≤ length xs → 0 < length (take (length xs / 2) xs)
low-some xs h = let p = half-some (length xs) h in let q = half-less (length xs) h in omega (arith, length-take-le (length xs / 2) xs (omega arith))

pub high-some : (xs : List Expr) → 2 ≤ length xs → 0 < length (take (length xs - length xs / 2) (drop (length xs / 2) xs))
high-some xs h = let q = half-less (length xs) h in omega (arith, ap length (high-is xs (length xs / 2)), length-drop (length xs / 2) xs)

pub single : (xs : List Expr) (x : Expr) → 1 ≤ length xs → length xs < 2 → x ≡ get_or xs 0 x → xs ≡ x ∷ []
single [] x h less e = absurd (omega arith)
single (y ∷ []) x h less e = ap (λ z. z ∷ []) (sym e)
single (y ∷ (z ∷ zs)) x h less e = absurd (omega arith)

-- ---- the measure falls

weight-parts : (xs : List Expr) (k : ℕ) → sum (map weight (take k xs)) + sum (map weight (drop k xs)) ≡ sum (map weight xs)
weight-parts xs k = omega (arith, sum-map weight xs, sum-map weight (take k xs), sum-map weight (drop k xs), sum_by-append weight (take k xs) (drop k xs), ap (λ ys. sum_by weight ys) (take-append-drop k xs))

pub weight-low : (xs : List Expr) → 2 ≤ length xs → 2 * sum (map weight (take (length xs / 2) xs)) + length (take (length xs / 2) xs) < 2 * sum (map weight xs) + length xs
weight-low xs h =
    let q = half-less (length xs) h in
    let r = weight-parts xs (length xs / 2) in
    omega (arith, length-take-le (length xs / 2) xs (omega arith))

pub weight-high : (xs : List Expr) → 2 ≤ length xs → 2 * sum (map weight (take (length xs - length xs / 2) (drop (length xs / 2) xs))) + length (take (length xs - length xs / 2) (drop (length xs / 2) xs)) < 2 * sum (map weight xs) + length xs
weight-high xs h =
    let k = length xs / 2 in
    let p = half-some (length xs) h in
    let q = half-less (length xs) h in
    let r = weight-parts xs k in
    omega (arith, length-drop k xs, ap length (high-is xs k), ap (λ ys. sum (map weight ys)) (high-is xs k))

-- ---- scopes

and-left : (x y : Bool) → (x && y) ≡ true → x ≡ true
and-left true y h = refl
and-left false y h = absurd (false≢true h)

and-right : (x y : Bool) → (x && y) ≡ true → y ≡ true
and-right true y h = h
and-right false y h = absurd (false≢true h)

scopes : (p : Expr → Bool) (xs low high : List Expr) → xs ≡ low ++ high → all_of (map p xs) ≡ true → (all_of (map p low) && all_of (map p high)) ≡ true
scopes p xs low high parts h = sym (ap (λ ys. all_of (map p ys)) parts ∙ ap all_of (map-append p low high) ∙ chain-both operator.And (map p low) (map p high)) ∙ h

pub low-scope : (p : Expr → Bool) (xs : List Expr) (k : ℕ) → all_of (map p xs) ≡ true → all_of (map p (take k xs)) ≡ true
low-scope p xs k h = and-left (all_of (map p (take k xs))) (all_of (map p (take (length xs - k) (drop k xs)))) (scopes p xs (take k xs) (take (length xs - k) (drop k xs)) (parts-are xs k) h)

pub high-scope : (p : Expr → Bool) (xs : List Expr) (k : ℕ) → all_of (map p xs) ≡ true → all_of (map p (take (length xs - k) (drop k xs))) ≡ true
high-scope p xs k h = and-right (all_of (map p (take k xs))) (all_of (map p (take (length xs - k) (drop k xs)))) (scopes p xs (take k xs) (take (length xs - k) (drop k xs)) (parts-are xs k) h)

-- ---- rooms and functions

-- the operations of a chain
abbrev operations : List Expr → ℕ
operations xs = sum (map expr_size xs) + (length xs - 1)

-- one operand
pub one-room : (s t : Store) (inputs : List Node) (xs : List Expr) (x : Expr) → xs ≡ x ∷ [] → Adds s t (expr_size x) inputs → Adds s t (operations xs) inputs
one-room s t inputs xs x is h = same-room s t (expr_size x) (operations xs) inputs (omega (arith, ap (λ ys. sum (map expr_size ys)) is, ap length is)) h

pub one-operand : (t : List Triple) (b : Bits → Bits) (o : Operator) (xs : List Expr) (x : Expr) (r : ℕ) → xs ≡ x ∷ [] → ((a : Bits) → function_of t r a ≡ expr_value (bits_of []) (b a) x)
    → (a : Bits) → function_of t r a ≡ chain_value o (map (expr_value (bits_of []) (b a)) xs)
one-operand t b o xs x r is made a = made a ∙ sym (ap (λ zs. chain_value o (map (expr_value (bits_of []) (b a)) zs)) is ∙ chain-one o (expr_value (bits_of []) (b a) x))

module _ (s t u : Store) (st : Grows s t) (inputs : List Node) (are : AreNodes s.triples inputs) (xs low high : List Expr) (parts : xs ≡ low ++ high) (some : 0 < length low) (more : 0 < length high) where
  sizes : sum (map expr_size xs) ≡ sum (map expr_size low) + sum (map expr_size high)
  sizes = omega (arith, ap (λ ys. sum (map expr_size ys)) parts, sum-map expr_size (low ++ high), sum-map expr_size low, sum-map expr_size high, sum_by-append expr_size low high)

  lengths : length xs ≡ length low + length high
  lengths = ap length parts ∙ length-append low high

  pub low-room : Adds s t (operations low) inputs → Adds s t (operations xs) inputs
  low-room h = Adds-within s t (operations low) (operations xs) inputs (omega (arith, sizes, lengths, some, more)) h

  both : Adds s t (operations low) inputs → Adds t u (operations high) inputs → Adds s u (operations low + operations high) inputs
  both h k = then-room s t u inputs inputs (operations low) (operations high) (DependOn-kept s t st inputs are) h k

  pub both-room : Adds s t (operations low) inputs → Adds t u (operations high) inputs → Adds s u (operations xs) inputs
  both-room h k = Adds-within s u (operations low + operations high) (operations xs) inputs (omega (arith, sizes, lengths, some, more)) (both h k)

  module _ (v : Store) (tu : Grows t u) (o : Operator) (left right : Node) (is : IsNode t.triples left.0)
      (first : (a : Bits) → function_of t.triples left.0 a ≡ chain_value o (map (expr_value (bits_of []) (bits_of (node_bits s.triples inputs a))) low))
      (second : (a : Bits) → function_of u.triples right.0 a ≡ chain_value o (map (expr_value (bits_of []) (bits_of (node_bits t.triples inputs a))) high)) where
    pub halves-room : Adds s t (operations low) inputs → Adds t u (operations high) inputs → Adds u v 1 (left ∷ right ∷ []) → Adds s v (operations xs) inputs
    halves-room h k l =
        same-room s v (operations low + operations high + 1) (operations xs) inputs (omega (arith, sizes, lengths, some, more))
        (then-room s u v inputs (left ∷ right ∷ []) (operations low + operations high) 1 (λ ls d. (
          depends-kept t u tu left.0 is ls (depends-by s.triples t.triples inputs left.0 (λ b. chain_value o (map (expr_value (bits_of []) (bits_of b)) low)) first ls d),
          (depends-by t.triples u.triples inputs right.0 (λ b. chain_value o (map (expr_value (bits_of []) (bits_of b)) high)) second ls (DependOn-kept s t st inputs are ls d), tt),
        )) (both h k) l)

    pub halves-function : (r : ℕ) → ((a : Bits) → function_of v.triples r a ≡ operator_value o (function_of u.triples left.0 a) (function_of u.triples right.0 a))
        → (a : Bits) → function_of v.triples r a ≡ chain_value o (map (expr_value (bits_of []) (bits_of (node_bits s.triples inputs a))) xs)
    halves-function r applied a =
        let F : Expr → Bool = expr_value (bits_of []) (bits_of (node_bits s.triples inputs a)) in
        applied a
        ∙ ap₂ (operator_value o)
        (function-kept t u tu left.0 is a ∙ first a)
        (second a ∙ ap (λ b. chain_value o (map (expr_value (bits_of []) (bits_of b)) high)) (node_bits-kept s t st inputs are a))
        ∙ sym (ap (λ zs. chain_value o (map F zs)) parts ∙ ap (chain_value o) (map-append F low high) ∙ chain-both o (map F low) (map F high))
