-- The least input, bit by bit.
use Rattle.std.proofs.Common.{◌≡◌, ◌⊎◌, ℕ, zero, suc, ◌+◌, ◌-◌, ◌^◌, ◌<◌, ◌≤◌, Bool, true, false, if◌then◌else◌, List, [], ◌∷◌, map, length, get_or, slice_set, inl, inr, refl, sym, ap, subst, ◌∙◌, arith, replicate, length-set, get_or-set_other, get_or-set_same}
use Rattle.std.proofs.lemmas.Bool.{cases_Bool, cases_lt, true≢false}
use Rattle.std.proofs.lemmas.List.{get_or-map, length-replicate}
use Rattle.std.proofs.Math.Nat.{pow-suc}
use Rattle.cb_model.specs.Bits.{Bits, weight}
use Rattle.cb_dd.specs.declared.Triple.{Triple}
use Rattle.cb_dd.specs.Diagram.{function_of}
use Rattle.cb_ops.specs.Ops.{Agree, DependsOn, IsLeastTrue}
use Rattle.cb_levels.specs.Inverse.{IsInverse}
use Rattle.cb_least.specs.Beginning.{Begins, CanBegin, IsReach, AreBits, IsAbove, AreLeast}

weight-low : (xs : List Bool) → weight xs < 2 ^ length xs
weight-low [] = omega arith
weight-low (x ∷ xs) =
    let w = weight-low xs in
    let e : 2 ^ suc (length xs) ≡ 2 ^ length xs + 2 ^ length xs = (let h = pow-suc 2 (length xs) in omega (arith, h)) in
    elim x as (λ y. (if y then 2 ^ length xs else 0) + weight xs < 2 ^ suc (length xs)) [ true ↦ omega (arith, e, w) | false ↦ omega (arith, e, w) ]

long-map : (a : Bits) (ls : List ℕ) → length (map a ls) ≡ length ls
long-map a [] = refl
long-map a (l ∷ ls) = ap suc (long-map a ls)

-- of two rows the one with 0 at the first place where they differ weighs less
weight-first : (xs ys : List Bool) (i : ℕ) → length xs ≡ length ys → i < length xs → ((j : ℕ) → j < i → get_or xs j false ≡ get_or ys j false) → get_or xs i false ≡ false → get_or ys i false ≡ true → weight xs ≤ weight ys
weight-first [] ys i e l same x y = absurd (omega (arith, l))
weight-first (x ∷ xs) [] i e l same p q = absurd (omega (arith, e))
weight-first (true ∷ xs) (y ∷ ys) zero e l same p q = absurd (true≢false p)
weight-first (false ∷ xs) (false ∷ ys) zero e l same p q = absurd (true≢false (sym q))
weight-first (false ∷ xs) (true ∷ ys) zero e l same p q =
    let w = weight-low xs in
    let m : 2 ^ length xs ≡ 2 ^ length ys = (let k : length xs ≡ length ys = omega (arith, e) in ap (λ k. 2 ^ k) k) in
    omega (arith, w, m)
weight-first (x ∷ xs) (y ∷ ys) (suc i) e l same p q =
    let k : length xs ≡ length ys = omega (arith, e) in
    let w = weight-first xs ys i k (omega (arith, l)) (λ j m. same (suc j) (omega (arith, m))) p q in
    let x-is : x ≡ y = same 0 (omega arith) in
    let h : (if x then 2 ^ length xs else 0) ≡ (if y then 2 ^ length ys else 0) = ap (λ z. if z then 2 ^ length xs else 0) x-is ∙ ap (λ m. if y then 2 ^ m else 0) k in
    omega (arith, w, h)

agree-all : (ls : List ℕ) (a b : Bits) → ((i : ℕ) → i < length ls → a (get_or ls i 0) ≡ b (get_or ls i 0)) → Agree ls a b
agree-all [] a b h = tt
agree-all (l ∷ ls) a b h = (h 0 (omega arith), agree-all ls a b (λ i m. h (suc i) (omega (arith, m))))

map-is : (ls : List ℕ) (a : Bits) (bits : List Bool) → length bits ≡ length ls → ((i : ℕ) → i < length ls → a (get_or ls i 0) ≡ get_or bits i false) → map a ls ≡ bits
map-is [] a [] e h = refl
map-is [] a (b ∷ bits) e h = absurd (omega (arith, e))
map-is (l ∷ ls) a [] e h = absurd (omega (arith, e))
map-is (l ∷ ls) a (b ∷ bits) e h = λ j. h 0 (omega arith) j ∷ map-is ls a bits (omega (arith, e)) (λ i m. h (suc i) (omega (arith, m))) j

module _ (ts : List Triple) (order levels : List ℕ) (inverse : IsInverse order levels) (n : ℕ) where
  -- the level of an input is the only one with that input
  only : (i k : ℕ) → i < length order → k < length order → get_or order k 0 ≡ i → k ≡ get_or levels i 0
  only i k l m e = sym (inverse.to_input k m).1 ∙ ap (λ x. get_or levels x 0) e

  module _ (bits : List Bool) (next : ℕ) (b : AreBits order bits next) where
    -- an assignment that begins with the bits goes on with zeros, or is above
    begins-zero : (m : ℕ) → next ≤ m → m < length order → (a : Bits) → Begins order bits m a → a (get_or levels m 0) ≡ false → Begins order bits (suc m) a
    begins-zero m from l a begins nil k w lt = elim (cases_lt (get_or order k 0) m) [
      | inl before ↦ begins k w before
      | inr ge ↦
          let e : get_or order k 0 ≡ m = omega (arith, ge, lt) in
          ap a (only m k l w e) ∙ nil ∙ sym (b.rest m from) ∙ ap (λ i. get_or bits i false) (sym e)
    ]

    above-more : (m p : ℕ) → m ≤ p → (a : Bits) → IsAbove order bits m a → IsAbove order bits p a
    above-more m p l a h = (h.0, (h.1.0, omega (arith, l, h.1.1), h.1.2, h.1.3, h.1.4))

    goes-on : (d m : ℕ) → next ≤ m → m + d ≤ length order → (a : Bits) → Begins order bits m a → Begins order bits (m + d) a ⊎ IsAbove order bits (m + d) a
    goes-on zero m from l a begins = let e : m ≡ m + 0 = omega arith in inl (subst (λ x. Begins order bits x a) e begins)
    goes-on (suc d) m from l a begins =
        let w : m < length order = omega (arith, l) in
        let e : suc m + d ≡ m + suc d = omega arith in
        let k = inverse.to_level m w in
        elim (cases_Bool (a (get_or levels m 0))) [
          | inl one ↦ inr (get_or levels m 0, (k.0, omega (arith, k.1), subst (λ x. Begins order bits x a) (sym k.1) begins, one, ap (λ i. get_or bits i false) k.1 ∙ b.rest m from))
          | inr nil ↦ subst (λ x. Begins order bits x a ⊎ IsAbove order bits x a) e (goes-on d (suc m) (omega (arith, from)) (omega (arith, l)) a (begins-zero m from w a begins nil))
        ]

    goes-to : (p : ℕ) → next ≤ p → p ≤ length order → (a : Bits) → Begins order bits next a → Begins order bits p a ⊎ IsAbove order bits p a
    goes-to p from l a begins =
        let e : next + (p - next) ≡ p = omega (arith, from) in
        subst (λ x. Begins order bits x a ⊎ IsAbove order bits x a) e (goes-on (p - next) next (omega arith) (omega (arith, from, l)) a begins)

    -- the next 1
    module _ (p : ℕ) (r : IsReach ts order bits next n (suc p)) (from : next ≤ p) (l : p < length order) where
      abbrev more : List Bool
      more = slice_set bits p true

      same-before : (i : ℕ) → i < p → get_or more i false ≡ get_or bits i false
      same-before i lt = get_or-set_other bits p i true false (λ e. omega (arith, e, lt))

      begins-same : (m : ℕ) → m ≤ p → (a : Bits) → Begins order bits m a → Begins order more m a
      begins-same m low a begins k w lt = begins k w lt ∙ sym (same-before (get_or order k 0) (omega (arith, lt, low)))

      begins-one : (a : Bits) → function_of ts n a ≡ true → Begins order bits p a → Begins order more (suc p) a
      begins-one a f begins k w lt = elim (cases_lt (get_or order k 0) p) [
        | inl before ↦ begins-same p (omega arith) a begins k w before
        | inr ge ↦
            let e : get_or order k 0 ≡ p = omega (arith, ge, lt) in
            let one : a (get_or levels p 0) ≡ true = elim (cases_Bool (a (get_or levels p 0))) [
              | inl is ↦ is
              | inr nil ↦ absurd (let h : suc p < suc p = (r.is (suc p) (omega (arith, from)) (omega (arith, l))).1 (a, (begins-zero p from l a begins nil, f)) in omega (arith, h))
            ] in
            ap a (only p k l w e) ∙ one ∙ sym (get_or-set_same bits p true false (omega (arith, l, b.long))) ∙ ap (λ i. get_or more i false) (sym e)
      ]

      above-same : (m : ℕ) → m ≤ p → (a : Bits) → IsAbove order bits m a → IsAbove order more (suc p) a
      above-same m low a h =
          (h.0, (h.1.0, omega (arith, h.1.1, low), begins-same (get_or order h.0 0) (omega (arith, h.1.1, low)) a h.1.2, h.1.3, same-before (get_or order h.0 0) (omega (arith, h.1.1, low)) ∙ h.1.4))

      pub next-bits : AreBits order more (suc p)
      next-bits = record {
        long = length-set bits p true ∙ b.long;
        within = omega (arith, l);
        rest = λ i low. get_or-set_other bits p i true false (λ e. omega (arith, e, low)) ∙ b.rest i (omega (arith, low, from));
      }

      pub next-some : CanBegin ts order more (suc p) n
      next-some = let c = (r.is p from (omega (arith, l))).0 (omega arith) in (c.0, (begins-one c.0 c.1.1 c.1.0, c.1.1))

      pub next-least : AreLeast ts order bits next n → AreLeast ts order more (suc p) n
      next-least least a f = elim (least a f) [
        | inl begins ↦ elim (goes-to p from (omega (arith, l)) a begins) [
          | inl far ↦ inl (begins-one a f far)
          | inr above ↦ inr (above-same p (omega arith) a above)
        ]
        | inr above ↦ inr (above-same next from a above)
      ]

    -- the end
    pub all-least : AreLeast ts order bits next n → CanBegin ts order bits (length order) n → DependsOn ts n levels → IsLeastTrue ts n levels bits
    all-least least c d = record {
      as_many = b.long ∙ sym inverse.as_many;
      makes_true = λ a e. d.agrees a c.0 (agree-all levels a c.0 (λ i l. at a i l e ∙ sym (begun c.0 c.1.0 i l))) ∙ c.1.1;
      least = λ a f. elim (least a f) [
        | inl begins ↦ elim (goes-to (length order) b.within (omega arith) a begins) [ inl far ↦ same a far | inr above ↦ greater a (length order) above ]
        | inr above ↦ greater a next above
      ];
    }
      where
        begun : (a : Bits) → Begins order bits (length order) a → (i : ℕ) → i < length levels → a (get_or levels i 0) ≡ get_or bits i false
        begun a begins i l =
            let k = inverse.to_level i (omega (arith, l, inverse.as_many)) in
            begins (get_or levels i 0) k.0 (omega (arith, k.1, l, inverse.as_many)) ∙ ap (λ x. get_or bits x false) k.1

        at : (a : Bits) (i : ℕ) → i < length levels → map a levels ≡ bits → a (get_or levels i 0) ≡ get_or bits i false
        at a i l e = sym (get_or-map a levels i 0 false l) ∙ ap (λ xs. get_or xs i false) e

        same : (a : Bits) → Begins order bits (length order) a → weight bits ≤ weight (map a levels)
        same a begins = let e = ap weight (map-is levels a bits (b.long ∙ sym inverse.as_many) (begun a begins)) in omega (arith, e)

        greater : (a : Bits) (m : ℕ) → IsAbove order bits m a → weight bits ≤ weight (map a levels)
        greater a m h =
            let i = get_or order h.0 0 in
            let low = inverse.to_input h.0 h.1.0 in
            let long : length bits ≡ length levels = b.long ∙ sym inverse.as_many in
            weight-first bits (map a levels) i (long ∙ sym (long-map a levels)) (omega (arith, low.0, b.long))
            (λ j lt.
            let k = inverse.to_level j (omega (arith, lt, low.0)) in
            sym (get_or-map a levels j 0 false (omega (arith, lt, low.0, inverse.as_many)) ∙ h.1.2 (get_or levels j 0) k.0 (omega (arith, k.1, lt)) ∙ ap (λ x. get_or bits x false) k.1))
            h.1.4
            (get_or-map a levels i 0 false (omega (arith, low.0, inverse.as_many)) ∙ ap a low.1 ∙ h.1.3)

-- ---- the beginning, and one bit more

no-bits : (n i : ℕ) → get_or (replicate n false) i false ≡ false
no-bits zero i = refl
no-bits (suc n) zero = refl
no-bits (suc n) (suc i) = no-bits n i

pub start-bits : (order : List ℕ) (bits : List Bool) → bits ≡ replicate (length order) false → AreBits order bits 0
start-bits order bits e = record {
  long = ap length e ∙ length-replicate (length order) false;
  within = omega arith;
  rest = λ i low. ap (λ l. get_or l i false) e ∙ no-bits (length order) i;
}

pub start-begins : (order : List ℕ) (bits : List Bool) (a : Bits) → Begins order bits 0 a
start-begins order bits a k l lt = absurd (omega (arith, lt))

-- what a 1 more keeps
pub record HasNext (ts : List Triple) (order : List ℕ) (bits : List Bool) (next reach n : ℕ) : Type 0 where
  pub later : next < reach
  pub found : AreBits order (slice_set bits (reach - 1) true) reach
  pub some : CanBegin ts order (slice_set bits (reach - 1) true) reach n
  pub least : AreLeast ts order (slice_set bits (reach - 1) true) reach n

pub has-next : (ts : List Triple) (order levels : List ℕ) → IsInverse order levels → (n : ℕ) (bits : List Bool) (next reach : ℕ) → AreBits order bits next → CanBegin ts order bits next n → AreLeast ts order bits next n → IsReach ts order bits next n reach → reach ≤ length order → HasNext ts order bits next reach n
has-next ts order levels inverse n bits next reach b some least r low =
    let later : next < reach = (r.is next (omega arith) b.within).1 some in
    let e : suc (reach - 1) ≡ reach = omega (arith, later) in
    let s : IsReach ts order bits next n (suc (reach - 1)) = subst (IsReach ts order bits next n) (sym e) r in
    let from : next ≤ reach - 1 = omega (arith, later) in
    let l : reach - 1 < length order = omega (arith, later, low) in
    record {
      later = later;
      found = subst (AreBits order (slice_set bits (reach - 1) true)) e (next-bits ts order levels inverse n bits next b (reach - 1) s from l);
      some = subst (λ m. CanBegin ts order (slice_set bits (reach - 1) true) m n) e (next-some ts order levels inverse n bits next b (reach - 1) s from l);
      least = subst (λ m. AreLeast ts order (slice_set bits (reach - 1) true) m n) e (next-least ts order levels inverse n bits next b (reach - 1) s from l least);
    }
