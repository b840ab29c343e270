-- Inputs that have 1 wherever a node is 1.
use Rattle.std.proofs.Common.{◌≡◌, ℕ, zero, suc, ◌+◌, ◌-◌, ◌<◌, ◌≤◌, nat_le, Bool, true, false, ◌&&◌, if◌then◌else◌, List, [], ◌∷◌, length, get_or, slice_set, inl, inr, refl, sym, ap, subst, ◌∙◌, arith, get_or-set_other, get_or-set_same}
use Rattle.std.proofs.lemmas.Bool.{cases_Bool, cases_eq, cases_lt, true≢false}
use Rattle.std.proofs.lemmas.Bool.Decides.{nat_tests}
use Rattle.std.proofs.lemmas.List.{get_or_default}
use Rattle.cb_model.specs.Bits.{Bits}
use Rattle.cb_dd.specs.declared.Triple.{Triple}
use Rattle.cb_dd.specs.Diagram.{HasParts, function_of, level_of}
use Rattle.cb_dd.proofs.Diagrams.{function_of-zero}
use Rattle.cb_levels.specs.Inverse.{IsInverse}
use Rattle.cb_least.specs.Beginning.{Begins, AreBits, IsAbove, AreFound, AreOnes, HasOnes, ones}
use Rattle.cb_least.proofs.Reaches.{get-within}

le-test : (a b : ℕ) → a ≤ b → nat_le a b ≡ true
le-test a b l = grind (arith, nat_tests)

gt-test : (a b : ℕ) → b < a → nat_le a b ≡ false
gt-test a b l = grind (arith, nat_tests)

pub le-true : (a b : ℕ) → nat_le a b ≡ true → a ≤ b
le-true a b e = elim (cases_lt b a) [ inl lt ↦ absurd (true≢false (sym e ∙ gt-test a b lt)) | inr ge ↦ ge ]

abbrev one_of : ℕ → ℕ → Bool → ℕ
one_of low x b = if nat_le low x && b then 1 else 0

one-less : (low high x : ℕ) (b : Bool) → low ≤ high → one_of high x b ≤ one_of low x b
one-less low high x b l = elim (cases_lt x high) [
  | inl lt ↦ let e : one_of high x b ≡ 0 = ap (λ t. if t && b then 1 else 0) (gt-test high x lt) in omega (arith, e)
  | inr ge ↦
      let e : one_of high x b ≡ (if b then 1 else 0) = ap (λ t. if t && b then 1 else 0) (le-test high x ge) in
      let d : one_of low x b ≡ (if b then 1 else 0) = ap (λ t. if t && b then 1 else 0) (le-test low x (omega (arith, l, ge))) in
      omega (arith, e, d)
]

module _ (levels : List ℕ) (a : Bits) where
  pub ones-less : (low high : ℕ) → low ≤ high → (from count : ℕ) → ones levels a high from count ≤ ones levels a low from count
  ones-less low high l from zero = omega arith
  ones-less low high l from (suc count) = let h = one-less low high (get_or levels from 0) (a (get_or levels from 0)) l in let r = ones-less low high l (suc from) count in omega (arith, h, r)

  pub ones-hit : (l i from count : ℕ) → from ≤ i → i < from + count → get_or levels i 0 ≡ l → a l ≡ true → 1 + ones levels a (suc l) from count ≤ ones levels a l from count
  ones-hit l i from zero low high e one = absurd (omega (arith, low, high))
  ones-hit l i from (suc count) low high e one = elim (cases_eq i from) [
    | inl here ↦
        let x : get_or levels from 0 ≡ l = ap (λ j. get_or levels j 0) (sym here) ∙ e in
        let t : one_of l (get_or levels from 0) (a (get_or levels from 0)) ≡ 1 = ap (λ y. one_of l y (a y)) x ∙ ap (one_of l l) one ∙ ap (λ t. if t && true then 1 else 0) (le-test l l (omega arith)) in
        let f : one_of (suc l) (get_or levels from 0) (a (get_or levels from 0)) ≡ 0 = ap (λ y. one_of (suc l) y (a y)) x ∙ ap (λ t. if t && a l then 1 else 0) (gt-test (suc l) l (omega arith)) in
        let r = ones-less l (suc l) (omega arith) (suc from) count in
        omega (arith, t, f, r)
    | inr other ↦
        let h = one-less l (suc l) (get_or levels from 0) (a (get_or levels from 0)) (omega arith) in
        let r = ones-hit l i (suc from) count (omega (arith, low, other)) (omega (arith, high)) e one in
        omega (arith, h, r)
  ]

  ones-most : (low from count : ℕ) → ones levels a low from count ≤ count
  ones-most low from zero = omega arith
  ones-most low from (suc count) =
      let r = ones-most low (suc from) count in
      elim (cases_Bool (nat_le low (get_or levels from 0) && a (get_or levels from 0))) [
        | inl t ↦ let e : one_of low (get_or levels from 0) (a (get_or levels from 0)) ≡ 1 = ap (λ x. if x then 1 else 0) t in omega (arith, r, e)
        | inr f ↦ let e : one_of low (get_or levels from 0) (a (get_or levels from 0)) ≡ 0 = ap (λ x. if x then 1 else 0) f in omega (arith, r, e)
      ]

  pub ones-all : (low from count : ℕ) → count ≤ ones levels a low from count → (i : ℕ) → from ≤ i → i < from + count → a (get_or levels i 0) ≡ true
  ones-all low from zero h i lo hi = absurd (omega (arith, lo, hi))
  ones-all low from (suc count) h i lo hi =
      let r = ones-most low (suc from) count in
      elim (cases_Bool (nat_le low (get_or levels from 0) && a (get_or levels from 0))) [
        | inl t ↦
            let e : one_of low (get_or levels from 0) (a (get_or levels from 0)) ≡ 1 = ap (λ x. if x then 1 else 0) t in
            elim (cases_eq i from) [
              | inl here ↦ ap (λ j. a (get_or levels j 0)) here ∙ second (nat_le low (get_or levels from 0)) (a (get_or levels from 0)) t
              | inr other ↦ ones-all low (suc from) count (omega (arith, h, e)) i (omega (arith, lo, other)) (omega (arith, hi))
            ]
        | inr f ↦ absurd (let e : one_of low (get_or levels from 0) (a (get_or levels from 0)) ≡ 0 = ap (λ x. if x then 1 else 0) f in omega (arith, h, r, e))
      ]
    where
      second : (x y : Bool) → x && y ≡ true → y ≡ true
      second true y e = e
      second false y e = absurd (true≢false (sym e))

module _ (ts : List Triple) (order : List ℕ) (bits : List Bool) (next upto : ℕ) (b : AreBits order bits next) (n level lo hi : ℕ) (h : HasParts ts n level lo hi) where
  one-side : (a : Bits) (x : Bool) → a level ≡ x → function_of ts n a ≡ true → function_of ts (if x then hi else lo) a ≡ true
  one-side a x e f = sym (sides x) ∙ ap (λ y. if y then function_of ts hi a else function_of ts lo a) (sym e) ∙ sym (h.function a) ∙ f
    where
      sides : (x : Bool) → (if x then function_of ts hi a else function_of ts lo a) ≡ function_of ts (if x then hi else lo) a
      sides true = refl
      sides false = refl

  lower-lo : (levels : List ℕ) (a : Bits) (from count : ℕ) → ones levels a (level_of ts lo) from count ≤ ones levels a (level_of ts n) from count
  lower-lo levels a from count = ones-less levels a (level_of ts n) (level_of ts lo) (omega (arith, h.lo_below, h.at)) from count

  lower-hi : (levels : List ℕ) (a : Bits) (from count : ℕ) → ones levels a (level_of ts hi) from count ≤ ones levels a (level_of ts n) from count
  lower-hi levels a from count = ones-less levels a (level_of ts n) (level_of ts hi) (omega (arith, h.hi_below, h.at)) from count

  pub ones-in : (v w r : ℕ) → next ≤ get_or order level (length order) → get_or order level (length order) < upto → upto ≤ length order → HasOnes ts order bits next upto lo v → HasOnes ts order bits next upto hi w → r ≤ v → r ≤ w + 1 → HasOnes ts order bits next upto n r
  ones-in v w r low high most rlo rhi below above levels inverse a begins f = elim (cases_Bool (a level)) [
    | inl one ↦
        let c = rhi levels inverse a begins (one-side a true one f) in
        let d = ones-less levels a (suc level) (level_of ts hi) (omega (arith, h.hi_below)) next (upto - next) in
        let within : level < length order = get-within order level (omega (arith, high, most)) in
        let same = get_or_default order level 0 (length order) within in
        let k = inverse.to_input level within in
        let hit = ones-hit levels a level (get_or order level 0) next (upto - next) (omega (arith, same, low)) (omega (arith, same, low, high)) k.1 one in
        let e = ap (λ m. ones levels a m next (upto - next)) h.at in
        omega (arith, c, d, hit, e, above)
    | inr nil ↦
        let c = rlo levels inverse a begins (one-side a false nil f) in
        let d = lower-lo levels a next (upto - next) in
        omega (arith, c, d, below)
  ]

  pub ones-out : (v w r : ℕ) → HasOnes ts order bits next upto lo v → HasOnes ts order bits next upto hi w → r ≤ v → r ≤ w → HasOnes ts order bits next upto n r
  ones-out v w r rlo rhi below above levels inverse a begins f = elim (cases_Bool (a level)) [
    | inl one ↦
        let c = rhi levels inverse a begins (one-side a true one f) in
        let d = lower-hi levels a next (upto - next) in
        omega (arith, c, d, above)
    | inr nil ↦
        let c = rlo levels inverse a begins (one-side a false nil f) in
        let d = lower-lo levels a next (upto - next) in
        omega (arith, c, d, below)
  ]

  pub ones-found : get_or order level (length order) < next → (x : Bool) → get_or bits (get_or order level (length order)) false ≡ x → (v : ℕ) → HasOnes ts order bits next upto (if x then hi else lo) v → HasOnes ts order bits next upto n v
  ones-found found x is v r levels inverse a begins f =
      let within : level < length order = get-within order level (omega (arith, found, b.within)) in
      let same = get_or_default order level 0 (length order) within in
      let e : a level ≡ x = begins level within (omega (arith, same, found)) ∙ ap (λ i. get_or bits i false) same ∙ is in
      let c = r levels inverse a begins (one-side a x e f) in
      let d : ones levels a (level_of ts (if x then hi else lo)) next (upto - next) ≤ ones levels a (level_of ts n) next (upto - next) =
      elim x as (λ y. ones levels a (level_of ts (if y then hi else lo)) next (upto - next) ≤ ones levels a (level_of ts n) next (upto - next)) [ true ↦ lower-hi levels a next (upto - next) | false ↦ lower-lo levels a next (upto - next) ] in
      omega (arith, c, d)

-- the table where only the constants are in it, and one node more in it
pub start-ones : (ts : List Triple) (order : List ℕ) (bits : List Bool) (next upto : ℕ) (rs : List ℕ) → 2 ≤ length rs → (n : ℕ) → n < 2 → HasOnes ts order bits next upto n (get_or (slice_set (slice_set rs 0 (length order)) 1 0) n 0)
start-ones ts order bits next upto [] long n l = absurd (omega (arith, long))
start-ones ts order bits next upto (r ∷ []) long n l = absurd (omega (arith, long))
start-ones ts order bits next upto (r ∷ s ∷ rs) long zero l = λ levels inverse a begins f. absurd (true≢false (sym f ∙ function_of-zero ts a))
start-ones ts order bits next upto (r ∷ s ∷ rs) long (suc zero) l = λ levels inverse a begins f. omega arith
start-ones ts order bits next upto (r ∷ s ∷ rs) long (suc (suc n)) l = absurd (omega (arith, l))

pub next-ones : (ts : List Triple) (order : List ℕ) (bits : List Bool) (next upto at v : ℕ) (marks : List Bool) (rs : List ℕ) → at < length rs → HasOnes ts order bits next upto at v
    → ((n : ℕ) → n < at → get_or marks n false ≡ true → HasOnes ts order bits next upto n (get_or rs n 0))
    → (n : ℕ) → n < at + 1 → get_or marks n false ≡ true → HasOnes ts order bits next upto n (get_or (slice_set rs at v) n 0)
next-ones ts order bits next upto at v marks rs l r old n lt is = elim (cases_eq n at) [
  | inl e ↦ subst (λ m. HasOnes ts order bits next upto m (get_or (slice_set rs at v) m 0)) (sym e) (subst (HasOnes ts order bits next upto at) (sym (get_or-set_same rs at v 0 l)) r)
  | inr ne ↦ subst (HasOnes ts order bits next upto n) (sym (get_or-set_other rs at n v 0 ne)) (old n (omega (arith, lt, ne)) is)
]

-- as many as there are inputs: all
pub all-ones : (ts : List Triple) (order levels : List ℕ) → IsInverse order levels → (bits : List Bool) (next upto n count : ℕ) → next ≤ upto → HasOnes ts order bits next upto n count → upto - next ≤ count → AreOnes ts order bits next upto n
all-ones ts order levels inverse bits next upto n count low r many a begins f k l from lt =
    let c = r levels inverse a begins f in
    let one = ones-all levels a (level_of ts n) next (upto - next) (omega (arith, c, many)) (get_or order k 0) from (omega (arith, lt, low)) in
    ap a (sym (inverse.to_input k l).1) ∙ one

-- these inputs have 1
pub filled : (ts : List Triple) (order : List ℕ) (bits more : List Bool) (next upto n : ℕ) → next ≤ upto → upto ≤ length order → length more ≡ length bits
    → ((i : ℕ) → next ≤ i → i < upto → get_or more i false ≡ true) → ((i : ℕ) → i < next → get_or more i false ≡ get_or bits i false) → ((i : ℕ) → upto ≤ i → get_or more i false ≡ get_or bits i false)
    → AreOnes ts order bits next upto n → AreFound ts order bits next n → AreFound ts order more upto n
filled ts order bits more next upto n low most long inside below above are found = record {
  bits_so_far = record { long = long ∙ found.bits_so_far.long; within = most; rest = λ i from. above i from ∙ found.bits_so_far.rest i (omega (arith, from, low)) };
  some = (found.some.0, (up found.some.0 found.some.1.1 found.some.1.0, found.some.1.1));
  least = λ a f. elim (found.least a f) [ inl begins ↦ inl (up a f begins) | inr h ↦ inr (over a h) ];
}
  where
    up : (a : Bits) → function_of ts n a ≡ true → Begins order bits next a → Begins order more upto a
    up a f begins k l lt = elim (cases_lt (get_or order k 0) next) [
      | inl before ↦ begins k l before ∙ sym (below (get_or order k 0) before)
      | inr ge ↦ are a begins f k l ge lt ∙ sym (inside (get_or order k 0) ge lt)
    ]

    over : (a : Bits) → IsAbove order bits next a → IsAbove order more upto a
    over a h =
        (h.0, (h.1.0, omega (arith, h.1.1, low), (λ k l lt. h.1.2 k l lt ∙ sym (below (get_or order k 0) (omega (arith, lt, h.1.1)))), h.1.3, below (get_or order h.0 0) h.1.1 ∙ h.1.4))
