-- How far bits reach at a node.
use Rattle.std.proofs.Common.{◌≡◌, ◌≢◌, ℕ, zero, suc, ◌+◌, ◌<◌, ◌≤◌, min, max, Bool, true, false, if◌then◌else◌, List, [], ◌∷◌, length, get_or, slice_set, get_or-set_other, get_or-set_same, inl, inr, refl, sym, ap, subst, ◌∙◌, arith}
use Rattle.std.proofs.lemmas.Bool.{cases_Bool, cases_eq, cases_lt, true≢false}
use Rattle.std.proofs.lemmas.List.{get_or_default}
use Rattle.std.proofs.Math.ListN.{get_or-eq_default}
use Rattle.cb_model.specs.Bits.{Bits, put}
use Rattle.cb_dd.specs.declared.Triple.{Triple}
use Rattle.cb_dd.specs.Diagram.{HasParts, IsDiagram, IsNode, function_of}
use Rattle.cb_dd.proofs.Diagrams.{function_of-zero, function_of-one, function_of-lo, function_of-hi, node-within, kind_of, bottom, top, inner}
use Rattle.cb_ops.proofs.Ite.{put-same, put-other}
use Rattle.cb_least.specs.Beginning.{Begins, CanBegin, IsReach, AreBits}

pub get-within : (xs : List ℕ) (k : ℕ) → get_or xs k (length xs) < length xs → k < length xs
get-within xs k l = elim (cases_lt k (length xs)) [ inl lt ↦ lt | inr ge ↦ absurd (omega (arith, l, get_or-eq_default xs (length xs) ge)) ]

module _ (ts : List Triple) (order : List ℕ) (bits : List Bool) (next : ℕ) (b : AreBits order bits next) (n level lo hi : ℕ) (h : HasParts ts n level lo hi) where
  abbrev input : ℕ
  input = get_or order level (length order)

  -- one bit of an assignment changed
  put-begins : (count : ℕ) (a : Bits) (x : Bool) → (level < length order → get_or order level 0 < count → x ≡ get_or bits (get_or order level 0) false) → Begins order bits count a → Begins order bits count (put level x a)
  put-begins count a x same old k l lt = elim (cases_eq k level) [
    | inl e ↦ put-same a level k x e ∙ same (subst (λ m. m < length order) e l) (subst (λ m. get_or order m 0 < count) e lt) ∙ ap (λ m. get_or bits (get_or order m 0) false) (sym e)
    | inr ne ↦ put-other a level x k ne ∙ old k l lt
  ]

  input-is : level < length order → get_or order level 0 ≡ input
  input-is l = get_or_default order level 0 (length order) l

  value-at : (a : Bits) (x : Bool) → a level ≡ x → function_of ts n a ≡ (if x then function_of ts hi a else function_of ts lo a)
  value-at a x e = h.function a ∙ ap (λ y. if y then function_of ts hi a else function_of ts lo a) e

  -- a bit that is still open
  pub later-step : (v w : ℕ) → next ≤ input → IsReach ts order bits next lo v → IsReach ts order bits next hi w → IsReach ts order bits next n (max v (min w (input + 1)))
  later-step v w later rlo rhi = record {
    low = omega (arith, rlo.low, rhi.low);
    is = λ count from upto. (to count from upto, back count from upto);
  }
    where
      to : (count : ℕ) → next ≤ count → count ≤ length order → count < max v (min w (input + 1)) → CanBegin ts order bits count n
      to count from upto l = elim (cases_lt count v) [
        | inl lt ↦
            let c = (rlo.is count from upto).0 lt in
            (put level false c.0, (put-begins count c.0 false (λ m k. sym (ap (λ i. get_or bits i false) (input-is m) ∙ b.rest input later)) c.1.0, sym (h.lo_function c.0) ∙ c.1.1))
        | inr ge ↦
            let c = (rhi.is count from upto).0 (omega (arith, l, ge)) in
            (put level true c.0, (put-begins count c.0 true (λ m k. absurd (omega (arith, l, ge, k, input-is m))) c.1.0, sym (h.hi_function c.0) ∙ c.1.1))
      ]

      back : (count : ℕ) → next ≤ count → count ≤ length order → CanBegin ts order bits count n → count < max v (min w (input + 1))
      back count from upto c = elim (cases_Bool (c.0 level)) [
        | inl one ↦
            let d : count < w = (rhi.is count from upto).1 (c.0, (c.1.0, sym (value-at c.0 true one) ∙ c.1.1)) in
            let e : count ≤ input = elim (cases_lt input count) [
              | inl lt ↦
                  let m : level < length order = get-within order level (omega (arith, lt, upto)) in
                  absurd (true≢false (sym one ∙ c.1.0 level m (omega (arith, lt, input-is m)) ∙ ap (λ i. get_or bits i false) (input-is m) ∙ b.rest input later))
              | inr ge ↦ ge
            ] in
            omega (arith, d, e)
        | inr nil ↦
            let d : count < v = (rlo.is count from upto).1 (c.0, (c.1.0, sym (value-at c.0 false nil) ∙ c.1.1)) in
            omega (arith, d)
      ]

  -- a bit that is found: the side of that bit
  module _ (found : input < next) (x : Bool) (is : get_or bits input false ≡ x) where
    there : level < length order
    there = get-within order level (omega (arith, found, b.within))

    found-bit : (count : ℕ) → next ≤ count → (a : Bits) → Begins order bits count a → a level ≡ x
    found-bit count from a begins = begins level there (omega (arith, found, from, input-is there)) ∙ ap (λ i. get_or bits i false) (input-is there) ∙ is

    pub found-step : (v : ℕ) → IsReach ts order bits next (if x then hi else lo) v → IsReach ts order bits next n v
    found-step v r = record {
      low = r.low;
      is = λ count from upto. (
        λ l. let c = (r.is count from upto).0 l in (c.0, (c.1.0, value-at c.0 x (found-bit count from c.0 c.1.0) ∙ sides c.0 ∙ c.1.1)),
        λ c. (r.is count from upto).1 (c.0, (c.1.0, sym (sides c.0) ∙ sym (value-at c.0 x (found-bit count from c.0 c.1.0)) ∙ c.1.1)),
      );
    }
      where
        sides : (a : Bits) → (if x then function_of ts hi a else function_of ts lo a) ≡ function_of ts (if x then hi else lo) a
        sides a = elim x as (λ y. (if y then function_of ts hi a else function_of ts lo a) ≡ function_of ts (if y then hi else lo) a) [ true ↦ refl | false ↦ refl ]

-- the constants
pub reach-zero : (ts : List Triple) (order : List ℕ) (bits : List Bool) (next : ℕ) → IsReach ts order bits next 0 0
reach-zero ts order bits next = record {
  low = omega arith;
  is = λ count from upto. (λ l. absurd (omega (arith, l)), λ c. absurd (true≢false (sym c.1.1 ∙ function_of-zero ts c.0)));
}

pub reach-one : (ts : List Triple) (order : List ℕ) (bits : List Bool) (next : ℕ) → IsReach ts order bits next 1 (length order + 1)
reach-one ts order bits next = record {
  low = omega arith;
  is = λ count from upto. (λ l. (λ k. get_or bits (get_or order k 0) false, (λ k m lt. refl, function_of-one ts (λ k. get_or bits (get_or order k 0) false))), λ c. omega (arith, upto));
}

-- the table where only the constants are in it
pub start-right : (ts : List Triple) (order : List ℕ) (bits : List Bool) (next : ℕ) (rs : List ℕ) → 2 ≤ length rs → (n : ℕ) → n < 2 → IsReach ts order bits next n (get_or (slice_set (slice_set rs 0 0) 1 (length order + 1)) n 0)
start-right ts order bits next [] long n l = absurd (omega (arith, long))
start-right ts order bits next (r ∷ []) long n l = absurd (omega (arith, long))
start-right ts order bits next (r ∷ s ∷ rs) long zero l = reach-zero ts order bits next
start-right ts order bits next (r ∷ s ∷ rs) long (suc zero) l = reach-one ts order bits next
start-right ts order bits next (r ∷ s ∷ rs) long (suc (suc n)) l = absurd (omega (arith, l))

-- one node more in it
pub next-right : (ts : List Triple) (order : List ℕ) (bits : List Bool) (next at v : ℕ) (marks : List Bool) (rs : List ℕ) → at < length rs → IsReach ts order bits next at v
    → ((n : ℕ) → n < at → get_or marks n false ≡ true → IsReach ts order bits next n (get_or rs n 0))
    → (n : ℕ) → n < at + 1 → get_or marks n false ≡ true → IsReach ts order bits next n (get_or (slice_set rs at v) n 0)
next-right ts order bits next at v marks rs l r old n lt is = elim (cases_eq n at) [
  | inl e ↦ subst (λ m. IsReach ts order bits next m (get_or (slice_set rs at v) m 0)) (sym e) (subst (IsReach ts order bits next at) (sym (get_or-set_same rs at v 0 l)) r)
  | inr ne ↦ subst (IsReach ts order bits next n) (sym (get_or-set_other rs at n v 0 ne)) (old n (omega (arith, lt, ne)) is)
]

-- a node that isn't the constant 0 is 1 at some assignment
pub some-true : (ts : List Triple) (is : IsDiagram ts) (most n : ℕ) → n < most → IsNode ts n → n ≢ 0 → (a : Bits) × (function_of ts n a ≡ true)
some-true ts is zero n l w ne = absurd (omega (arith, l))
some-true ts is (suc most) n l w ne = elim (kind_of ts n w) [
  | bottom z ↦ absurd (ne z)
  | top z ↦ ((λ k. false), ap (λ m. function_of ts m (λ k. false)) z ∙ function_of-one ts (λ k. false))
  | inner k t z at ↦
      let o = is.ordered k t at in
      let v = node-within ts is k t at in
      elim (cases_eq t.lo 0) [
        | inl lo ↦
            let c = some-true ts is most t.hi (omega (arith, o.hi, z, l)) v.2 (λ e. o.differ (lo ∙ sym e)) in
            (put t.level true c.0, ap (λ m. function_of ts m (put t.level true c.0)) z ∙ function_of-hi ts is k t at c.0 ∙ c.1)
        | inr other ↦
            let c = some-true ts is most t.lo (omega (arith, o.lo, z, l)) v.1 other in
            (put t.level false c.0, ap (λ m. function_of ts m (put t.level false c.0)) z ∙ function_of-lo ts is k t at c.0 ∙ c.1)
      ]
]
