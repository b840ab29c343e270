-- Where two lists of bits differ, and the nodes that say so.
use Rattle.std.proofs.Common.{◌≡◌, ◌≢◌, ℕ, ◌+◌, ◌*◌, ◌^◌, ◌<◌, ◌≤◌, Bool, true, false, not, ◌||◌, List, [], ◌∷◌, length, get_or, take, drop, refl, sym, ◌∙◌, ap, arith, nat_eq, ◌⊎◌, inl, inr}
use Rattle.std.proofs.lemmas.List.{drop_more, drop_all, take_all, take_more_same, length-map, get_or-map}
use mathlib.Core.Bool.{beq}
use Rattle.std.proofs.lemmas.Bool.{false≢true}
use Rattle.std.proofs.Math.Nat.{mul-le-mul_right}
use Rattle.cb_model.specs.Bits.{Bits, xor}
use Rattle.cb_dd.specs.declared.Node.{Node}
use Rattle.cb_dd.specs.declared.Triple.{Triple}
use Rattle.cb_dd.specs.Diagram.{Store, IsNode, function_of}
use Rattle.cb_dd.proofs.Diagrams.{function_of-zero, function_of-one}
use Rattle.cb_ops.specs.Ops.{Grows, DependsOn, Room}
use Rattle.cb_verify.specs.Nodes.{AreNodes, node_bits, DependOn, unequal, IsFirst}
use Rattle.cb_verify.proofs.Kept.{node-kept, function-kept, depends-kept, depends-two, two-room}
use Rattle.cb_verify.proofs.Chains.{Each-at}

-- ---- two lists of bits

xor-same : (x : Bool) → xor x x ≡ false
xor-same true = refl
xor-same false = refl

same-by : (x y : Bool) → xor x y ≡ false → x ≡ y
same-by true true h = refl
same-by true false h = h
same-by false true h = sym h
same-by false false h = refl

left-false : (x y : Bool) → (x || y) ≡ false → x ≡ false
left-false true y h = h
left-false false y h = refl

right-false : (x y : Bool) → (x || y) ≡ false → y ≡ false
right-false true y h = absurd (false≢true (sym h))
right-false false y h = h

-- lists of one length that differ nowhere
pub equal-by : (xs ys : List Bool) → length xs ≡ length ys → unequal xs ys ≡ false → xs ≡ ys
equal-by [] [] e h = refl
equal-by [] (y ∷ ys) e h = absurd (omega arith)
equal-by (x ∷ xs) [] e h = absurd (omega arith)
equal-by (x ∷ xs) (y ∷ ys) e h =
    λ j. same-by x y (left-false (xor x y) (unequal xs ys) h) j ∷ equal-by xs ys (omega arith) (right-false (xor x y) (unequal xs ys) h) j

unequal-same : (xs : List Bool) → unequal xs xs ≡ false
unequal-same [] = refl
unequal-same (x ∷ xs) = (λ j. xor-same x j || unequal-same xs j)

-- equal lists differ nowhere
pub unequal-equal : (xs ys : List Bool) → xs ≡ ys → unequal xs ys ≡ false
unequal-equal xs ys e = ap (unequal xs) (sym e) ∙ unequal-same xs

-- ---- the first difference

module _ (ts : List Triple) (got wanted : List Node) (a : Bits) (same : length wanted ≡ length got) (i : ℕ) (lt : i < length got) (d : Node) (x y : Bool)
    (is : x ≡ function_of ts (get_or got i d).0 a) (wants : y ≡ function_of ts (get_or wanted i d).0 a)
    (before : take i (node_bits ts got a) ≡ take i (node_bits ts wanted a)) where
  has : x ≡ get_or (node_bits ts got a) i false
  has = is ∙ sym (get_or-map (λ n. function_of ts n.0 a) got i d false lt)

  has_too : y ≡ get_or (node_bits ts wanted a) i false
  has_too = wants ∙ sym (get_or-map (λ n. function_of ts n.0 a) wanted i d false (omega arith))

  pub first-here : x ≢ y → IsFirst (node_bits ts got a) (node_bits ts wanted a) i x y
  first-here differ = record {
    within = omega (arith, length-map got (λ n. function_of ts n.0 a));
    has = has;
    wants = has_too;
    differ = differ;
    least = before;
  }

  pub not-here : x ≡ y → take (i + 1) (node_bits ts got a) ≡ take (i + 1) (node_bits ts wanted a)
  not-here e =
      take_more_same (node_bits ts got a) (node_bits ts wanted a) i false
      (omega (arith, length-map got (λ n. function_of ts n.0 a)))
      (omega (arith, length-map wanted (λ n. function_of ts n.0 a)))
      before
      (sym has ∙ e ∙ has_too)

-- there is one
pub some-differs : (ts : List Triple) (got wanted : List Node) (a : Bits) (i : ℕ) → length wanted ≡ length got → length got ≤ i
    → take i (node_bits ts got a) ≡ take i (node_bits ts wanted a) → unequal (node_bits ts got a) (node_bits ts wanted a) ≡ true → ⊥
some-differs ts got wanted a i same last before h =
    let xs = node_bits ts got a in
    let ys = node_bits ts wanted a in
    let e : xs ≡ ys =
    sym (take_all i xs (omega (arith, length-map got (λ n. function_of ts n.0 a)))) ∙ before
    ∙ take_all i ys (omega (arith, length-map wanted (λ n. function_of ts n.0 a))) in
    false≢true (sym (unequal-equal xs ys e) ∙ h)

-- a walk ends at a constant
pub value-end : (ts : List Triple) (n m : ℕ) (b : Bool) (a : Bits) → (n ≡ 0) ⊎ (n ≡ 1) → function_of ts n a ≡ function_of ts m a → b ≡ nat_eq n 1 → b ≡ function_of ts m a
value-end ts n m b a (inl e) same is = is ∙ ap (λ k. nat_eq k 1) e ∙ sym (function_of-zero ts a) ∙ ap (λ k. function_of ts k a) (sym e) ∙ same
value-end ts n m b a (inr e) same is = is ∙ ap (λ k. nat_eq k 1) e ∙ sym (function_of-one ts a) ∙ ap (λ k. function_of ts k a) (sym e) ∙ same

-- bits that are not different
pub same_bits : (x y : Bool) → not (beq x y) ≡ false → x ≡ y
same_bits true true h = refl
same_bits true false h = h
same_bits false true h = sym h
same_bits false false h = refl
