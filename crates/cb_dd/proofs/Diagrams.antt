-- The laws of diagrams: what each node stands for, that older nodes keep their functions, and that nodes are canonical.
use Rattle.std.proofs.Common.{◌≡◌, ℕ, zero, suc, ◌+◌, ◌<◌, ◌≤◌, ◌^◌, Bool, true, false, List, [], ◌∷◌, ◌++◌, map, length, get_or, slice_get, if◌then◌else◌, Some, refl, sym, ap, subst, ◌∙◌, ◌⊎◌, inl, inr, arith, length-append}
use Rattle.std.proofs.lemmas.List.{length-map, get_or-map, get_or_append_left}
use Rattle.std.proofs.Math.Seq.{get_or-append_seam}
use Rattle.std.proofs.lemmas.Option.{slice_get_within, slice_get-get_or, get_or_from_slice_get, same_Some}
use Rattle.std.proofs.lemmas.Bool.{cases_order, eq-eqb, ne_eqb, true≢false}
use Rattle.std.specs.List.{fold}
use Rattle.cb_model.specs.Bits.{Bits, put}
use Rattle.cb_dd.specs.declared.Triple.{Triple}
use Rattle.cb_dd.specs.Diagram.{with_value, values_at, function_of, level_of, IsNode, IsDiagram, IsCanonical}

-- the values of the triples after those whose values are vs
abbrev from : Bits → List Bool → List Triple → List Bool
from a vs ts = fold (with_value a) vs ts

length-from : (a : Bits) (vs : List Bool) (ts : List Triple) → length (from a vs ts) ≡ length vs + length ts
length-from a vs [] = omega arith
length-from a vs (t ∷ ts) = omega (arith, length-from a (with_value a vs t) ts, length-append {A = Bool})

from-keeps : (a : Bits) (vs : List Bool) (ts : List Triple) (n : ℕ) → n < length vs → get_or (from a vs ts) n false ≡ get_or vs n false
from-keeps a vs [] n h = refl
from-keeps a vs (t ∷ ts) n h =
    let h2 : n < length (with_value a vs t) = omega (arith, length-append {A = Bool}) in
    from-keeps a (with_value a vs t) ts n h2 ∙ get_or_append_left vs _ false n h

-- a choice between equal values
choose : (b : Bool) (x y z w : Bool) → x ≡ z → y ≡ w → (if b then x else y) ≡ (if b then z else w)
choose b x y z w p q = λ j. if b then p j else q j

from-first : (a : Bits) (vs : List Bool) (ts : List Triple) (t : Triple) → t.lo < length vs → t.hi < length vs
    → get_or (from a (with_value a vs t) ts) (length vs) false ≡ (if a t.level then get_or (from a (with_value a vs t) ts) t.hi false else get_or (from a (with_value a vs t) ts) t.lo false)
from-first a vs ts t lo hi =
    let here : length vs < length (with_value a vs t) = omega (arith, length-append {A = Bool}) in
    let lo2 : t.lo < length (with_value a vs t) = omega (arith, length-append {A = Bool}) in
    let hi2 : t.hi < length (with_value a vs t) = omega (arith, length-append {A = Bool}) in
    from-keeps a (with_value a vs t) ts (length vs) here
    ∙ get_or-append_seam vs _ [] false
    ∙ choose (a t.level) _ _ _ _
    (sym (from-keeps a (with_value a vs t) ts t.hi hi2 ∙ get_or_append_left vs _ false t.hi hi))
    (sym (from-keeps a (with_value a vs t) ts t.lo lo2 ∙ get_or_append_left vs _ false t.lo lo))

-- the value of the k-th triple
from-at : (a : Bits) (vs : List Bool) (ts : List Triple) (k : ℕ) (t : Triple) → slice_get ts k ≡ Some t → t.lo < length vs + k → t.hi < length vs + k
    → get_or (from a vs ts) (length vs + k) false ≡ (if a t.level then get_or (from a vs ts) t.hi false else get_or (from a vs ts) t.lo false)
from-at a vs [] k t at lo hi = absurd (cc)
from-at a vs (u ∷ us) zero t at lo hi =
    let e : length vs + 0 ≡ length vs = omega arith in
    let same : u ≡ t = same_Some u t at in
    let lo2 : t.lo < length vs = omega arith in
    let hi2 : t.hi < length vs = omega arith in
    let P : Triple → Type 0 = λ w. get_or (from a (with_value a vs w) us) (length vs) false ≡ (if a t.level then get_or (from a (with_value a vs w) us) t.hi false else get_or (from a (with_value a vs w) us) t.lo false) in
    ap (λ n. get_or (from a (with_value a vs u) us) n false) e ∙ subst P (sym same) (from-first a vs us t lo2 hi2)
from-at a vs (u ∷ us) (suc k) t at lo hi =
    let e : length vs + suc k ≡ length (with_value a vs u) + k = omega (arith, length-append {A = Bool}) in
    let lo2 : t.lo < length (with_value a vs u) + k = omega (arith, length-append {A = Bool}) in
    let hi2 : t.hi < length (with_value a vs u) + k = omega (arith, length-append {A = Bool}) in
    ap (λ n. get_or (from a (with_value a vs u) us) n false) e ∙ from-at a (with_value a vs u) us k t at lo2 hi2

-- the constants
pub function_of-zero : (ts : List Triple) (a : Bits) → function_of ts 0 a ≡ false
unfolding function_of values_at
function_of-zero ts a = from-keeps a (false ∷ true ∷ []) ts 0 (omega arith)

pub function_of-one : (ts : List Triple) (a : Bits) → function_of ts 1 a ≡ true
unfolding function_of values_at
function_of-one ts a = from-keeps a (false ∷ true ∷ []) ts 1 (omega arith)

-- a node chooses between its children by its level
pub function_of-node : (ts : List Triple) (k : ℕ) (t : Triple) → slice_get ts k ≡ Some t → t.lo < k + 2 → t.hi < k + 2
    → (a : Bits) → function_of ts (k + 2) a ≡ (if a t.level then function_of ts t.hi a else function_of ts t.lo a)
unfolding function_of values_at
function_of-node ts k t at lo hi a =
    let e : k + 2 ≡ 2 + k = omega arith in
    let lo2 : t.lo < 2 + k = omega arith in
    let hi2 : t.hi < 2 + k = omega arith in
    ap (λ n. get_or (from a (false ∷ true ∷ []) ts) n false) e ∙ from-at a (false ∷ true ∷ []) ts k t at lo2 hi2

fold-append : (a : Bits) (vs : List Bool) (ts us : List Triple) → from a vs (ts ++ us) ≡ from a (from a vs ts) us
fold-append a vs [] us = refl
fold-append a vs (t ∷ ts) us = fold-append a (with_value a vs t) ts us

-- older nodes keep their functions
pub function_of-append : (ts us : List Triple) (n : ℕ) → IsNode ts n → (a : Bits) → function_of (ts ++ us) n a ≡ function_of ts n a
unfolding function_of values_at
function_of-append ts us n h a =
    let h2 : n < length (from a (false ∷ true ∷ []) ts) = omega (arith, length-from a (false ∷ true ∷ []) ts) in
    ap (λ vs. get_or vs n false) (fold-append a (false ∷ true ∷ []) ts us) ∙ from-keeps a (from a (false ∷ true ∷ []) ts) us n h2

pub level_of-zero : (ts : List Triple) → level_of ts 0 ≡ 2 ^ 32
unfolding level_of
level_of-zero ts = refl

pub level_of-one : (ts : List Triple) → level_of ts 1 ≡ 2 ^ 32
unfolding level_of
level_of-one ts = refl

pub level_of-node : (ts : List Triple) (k : ℕ) (t : Triple) → slice_get ts k ≡ Some t → level_of ts (k + 2) ≡ t.level
unfolding level_of
level_of-node ts k t at =
    let e : k + 2 ≡ suc (suc k) = omega arith in
    let h : k < length ts = slice_get_within ts k t at in
    rw e (get_or-map (λ u. u.level) ts k t (2 ^ 32) h ∙ ap (λ u. u.level) (get_or_from_slice_get ts k t t at))

map-append : (ts us : List Triple) → map (λ t. t.level) (ts ++ us) ≡ map (λ t. t.level) ts ++ map (λ t. t.level) us
map-append [] us = refl
map-append (t ∷ ts) us = ap (λ l. t.level ∷ l) (map-append ts us)

pub level_of-append : (ts us : List Triple) (n : ℕ) → IsNode ts n → level_of (ts ++ us) n ≡ level_of ts n
unfolding level_of
level_of-append ts us n h =
    let M : ℕ = 2 ^ 32 in
    let h2 : n < length (M ∷ M ∷ map (λ t. t.level) ts) = omega (arith, length-map ts (λ t. t.level)) in
    ap (λ l. get_or (M ∷ M ∷ l) n M) (map-append ts us) ∙ get_or_append_left (M ∷ M ∷ map (λ t. t.level) ts) (map (λ t. t.level) us) M n h2

-- a node is a constant or a triple
pub data Kind (ts : List Triple) (n : ℕ) : Type 0 where
  bottom : n ≡ 0 → Kind ts n
  top : n ≡ 1 → Kind ts n
  inner : (k : ℕ) (t : Triple) → n ≡ k + 2 → slice_get ts k ≡ Some t → Kind ts n

pub kind_of : (ts : List Triple) (n : ℕ) → IsNode ts n → Kind ts n
kind_of ts zero h = bottom refl
kind_of ts (suc zero) h = top refl
kind_of ts (suc (suc k)) h = inner k (get_or ts k (record { level = 0; lo = 0; hi = 0 })) (omega arith) (slice_get-get_or ts k _ (omega arith))

put-same : (a : Bits) (l : ℕ) (b : Bool) → put l b a l ≡ b
put-same a l b = ap (λ c. if c then b else a l) (eq-eqb l l refl)

put-other : (a : Bits) (l : ℕ) (b : Bool) (k : ℕ) → (k ≡ l → ⊥) → put l b a k ≡ a k
put-other a l b k h = ap (λ c. if c then b else a k) (ne_eqb k l h)

module _ (ts : List Triple) (is : IsDiagram ts) where
  -- the k-th triple as a node
  pub node-within : (k : ℕ) (t : Triple) → slice_get ts k ≡ Some t → (k + 2 < length ts + 2) × (t.lo < length ts + 2) × (t.hi < length ts + 2)
  node-within k t at =
      let h : k < length ts = slice_get_within ts k t at in
      let o = is.ordered k t at in
      (omega arith, omega (arith, o.lo), omega (arith, o.hi))

  -- a bit below a node's level doesn't matter
  indep : (fuel n : ℕ) → n < fuel → IsNode ts n → (l : ℕ) → l < level_of ts n → (a : Bits) (b : Bool) → function_of ts n (put l b a) ≡ function_of ts n a
  indep zero n h w l below a b = absurd (omega arith)
  indep (suc fuel) n h w l below a b = elim (kind_of ts n w) [
    | bottom e ↦ rw e (function_of-zero ts (put l b a) ∙ sym (function_of-zero ts a))
    | top e ↦ rw e (function_of-one ts (put l b a) ∙ sym (function_of-one ts a))
    | inner k t e at ↦
        let o = is.ordered k t at in
        let w2 = node-within k t at in
        let lev : level_of ts (k + 2) ≡ t.level = level_of-node ts k t at in
        let below2 : l < t.level = subst (λ (x : ℕ). l < x) (ap (level_of ts) e ∙ lev) below in
        let ne : t.level ≡ l → ⊥ = λ (q : t.level ≡ l). omega arith in
        rw e (function_of-node ts k t at o.lo o.hi (put l b a)
        ∙ ap (λ c. if c then function_of ts t.hi (put l b a) else function_of ts t.lo (put l b a)) (put-other a l b t.level ne)
        ∙ choose (a t.level) _ _ _ _
        (indep fuel t.hi (omega (arith, o.hi)) w2.2 l (omega (arith, o.hi_below)) a b)
        (indep fuel t.lo (omega (arith, o.lo)) w2.1 l (omega (arith, o.lo_below)) a b)
        ∙ sym (function_of-node ts k t at o.lo o.hi a))
  ]

  pub function_of-put : (n : ℕ) → IsNode ts n → (l : ℕ) → l < level_of ts n → (a : Bits) (b : Bool) → function_of ts n (put l b a) ≡ function_of ts n a
  function_of-put n w l below a b = indep (suc n) n (omega arith) w l below a b

  -- the two cofactors
  pub function_of-lo : (k : ℕ) (t : Triple) → slice_get ts k ≡ Some t → (a : Bits) → function_of ts (k + 2) (put t.level false a) ≡ function_of ts t.lo a
  function_of-lo k t at a =
      let o = is.ordered k t at in
      let w2 = node-within k t at in
      function_of-node ts k t at o.lo o.hi (put t.level false a)
      ∙ ap (λ c. if c then function_of ts t.hi (put t.level false a) else function_of ts t.lo (put t.level false a)) (put-same a t.level false)
      ∙ function_of-put t.lo w2.1 t.level o.lo_below a false

  pub function_of-hi : (k : ℕ) (t : Triple) → slice_get ts k ≡ Some t → (a : Bits) → function_of ts (k + 2) (put t.level true a) ≡ function_of ts t.hi a
  function_of-hi k t at a =
      let o = is.ordered k t at in
      let w2 = node-within k t at in
      function_of-node ts k t at o.lo o.hi (put t.level true a)
      ∙ ap (λ c. if c then function_of ts t.hi (put t.level true a) else function_of ts t.lo (put t.level true a)) (put-same a t.level true)
      ∙ function_of-put t.hi w2.2 t.level o.hi_below a true

  -- a function that no longer depends on a node's level isn't that node's
  apart : (k : ℕ) (t : Triple) (n : ℕ) → slice_get ts k ≡ Some t → IsNode ts n → t.level < level_of ts n → ((a : Bits) → function_of ts (k + 2) a ≡ function_of ts n a)
      → (a : Bits) → function_of ts t.lo a ≡ function_of ts t.hi a
  apart k t n at w below same a =
      sym (function_of-lo k t at a) ∙ same (put t.level false a) ∙ function_of-put n w t.level below a false
      ∙ sym (function_of-put n w t.level below a true) ∙ sym (same (put t.level true a)) ∙ function_of-hi k t at a

  level-within : (n : ℕ) → IsNode ts n → level_of ts n ≤ 2 ^ 32
  level-within n w = elim (kind_of ts n w) [
    | bottom e ↦ rw (e, level_of-zero ts) (omega arith)
    | top e ↦ rw (e, level_of-one ts) (omega arith)
    | inner k t e at ↦ rw (e, level_of-node ts k t at) (let h : t.level < 2 ^ 32 = (is.ordered k t at).level in omega arith)
  ]

  -- canonicity below a bound
  Below : ℕ → Type 0
  Below fuel = (m n : ℕ) → m < fuel → n < fuel → IsNode ts m → IsNode ts n → ((a : Bits) → function_of ts m a ≡ function_of ts n a) → m ≡ n

  constant-level : (n : ℕ) → (n ≡ 0) ⊎ (n ≡ 1) → level_of ts n ≡ 2 ^ 32
  constant-level n (inl e) = ap (level_of ts) e ∙ level_of-zero ts
  constant-level n (inr e) = ap (level_of ts) e ∙ level_of-one ts

  -- a node whose level is less than the other's can't have the other's function
  less : (fuel : ℕ) → Below fuel → (p q : ℕ) → p < suc fuel → IsNode ts p → IsNode ts q → level_of ts p < level_of ts q → ((a : Bits) → function_of ts p a ≡ function_of ts q a) → ⊥
  unfolding Below
  less fuel ih p q hp wp wq lt eqs = elim (kind_of ts p wp) [
    | bottom e ↦ let z : level_of ts p ≡ 2 ^ 32 = constant-level p (inl e) in omega (arith, level-within q wq)
    | top e ↦ let z : level_of ts p ≡ 2 ^ 32 = constant-level p (inr e) in omega (arith, level-within q wq)
    | inner k t e at ↦
        let o = is.ordered k t at in
        let w2 = node-within k t at in
        let lev : level_of ts p ≡ t.level = ap (level_of ts) e ∙ level_of-node ts k t at in
        let below : t.level < level_of ts q = omega arith in
        let eqs2 : (a : Bits) → function_of ts (k + 2) a ≡ function_of ts q a = λ a. ap (λ x. function_of ts x a) (sym e) ∙ eqs a in
        o.differ (ih t.lo t.hi (omega (arith, o.lo)) (omega (arith, o.hi)) w2.1 w2.2 (apart k t q at wq below eqs2))
  ]

  -- a constant's level is no triple's
  not-both : (m n : ℕ) → level_of ts m ≡ level_of ts n → (m ≡ 0) ⊎ (m ≡ 1) → (k : ℕ) (t : Triple) → n ≡ k + 2 → slice_get ts k ≡ Some t → ⊥
  not-both m n lv c k t f at =
      let h : t.level < 2 ^ 32 = (is.ordered k t at).level in
      let x : level_of ts m ≡ 2 ^ 32 = constant-level m c in
      let y : level_of ts n ≡ t.level = ap (level_of ts) f ∙ level_of-node ts k t at in
      omega arith

  zero-is-not-one : (m n : ℕ) → m ≡ 0 → n ≡ 1 → ((a : Bits) → function_of ts m a ≡ function_of ts n a) → ⊥
  zero-is-not-one m n e f same =
      let a : Bits = λ _. false in
      true≢false (sym (function_of-one ts a) ∙ ap (λ x. function_of ts x a) (sym f) ∙ sym (same a) ∙ ap (λ x. function_of ts x a) e ∙ function_of-zero ts a)

  by-kinds : (fuel : ℕ) → Below fuel → (m n : ℕ) → m < suc fuel → n < suc fuel → ((a : Bits) → function_of ts m a ≡ function_of ts n a) → level_of ts m ≡ level_of ts n → Kind ts m → Kind ts n → m ≡ n
  unfolding Below
  by-kinds fuel ih m n hm hn same lv (bottom e) (bottom f) = e ∙ sym f
  by-kinds fuel ih m n hm hn same lv (bottom e) (top f) = absurd (zero-is-not-one m n e f same)
  by-kinds fuel ih m n hm hn same lv (top e) (bottom f) = absurd (zero-is-not-one n m f e (λ a. sym (same a)))
  by-kinds fuel ih m n hm hn same lv (top e) (top f) = e ∙ sym f
  by-kinds fuel ih m n hm hn same lv (bottom e) (inner k t f at) = absurd (not-both m n lv (inl e) k t f at)
  by-kinds fuel ih m n hm hn same lv (top e) (inner k t f at) = absurd (not-both m n lv (inr e) k t f at)
  by-kinds fuel ih m n hm hn same lv (inner k t f at) (bottom e) = absurd (not-both n m (sym lv) (inl e) k t f at)
  by-kinds fuel ih m n hm hn same lv (inner k t f at) (top e) = absurd (not-both n m (sym lv) (inr e) k t f at)
  by-kinds fuel ih m n hm hn same lv (inner j s e at) (inner k t f bt) =
      let o = is.ordered j s at in
      let p = is.ordered k t bt in
      let ws = node-within j s at in
      let wt = node-within k t bt in
      let x : level_of ts m ≡ s.level = ap (level_of ts) e ∙ level_of-node ts j s at in
      let y : level_of ts n ≡ t.level = ap (level_of ts) f ∙ level_of-node ts k t bt in
      let lev : s.level ≡ t.level = omega arith in
      let eqs : (a : Bits) → function_of ts (j + 2) a ≡ function_of ts (k + 2) a = λ a. ap (λ z. function_of ts z a) (sym e) ∙ same a ∙ ap (λ z. function_of ts z a) f in
      let los : s.lo ≡ t.lo = ih s.lo t.lo (omega (arith, o.lo)) (omega (arith, p.lo)) ws.1 wt.1
      (λ a. sym (function_of-lo j s at a) ∙ eqs (put s.level false a) ∙ ap (λ l. function_of ts (k + 2) (put l false a)) lev ∙ function_of-lo k t bt a) in
      let his : s.hi ≡ t.hi = ih s.hi t.hi (omega (arith, o.hi)) (omega (arith, p.hi)) ws.2 wt.2
      (λ a. sym (function_of-hi j s at a) ∙ eqs (put s.level true a) ∙ ap (λ l. function_of ts (k + 2) (put l true a)) lev ∙ function_of-hi k t bt a) in
      let st : s ≡ t = λ i. record { level = lev i; lo = los i; hi = his i } in
      e ∙ ap (λ z. z + 2) (is.once j k t (at ∙ ap Some st) bt) ∙ sym f

  canon : (fuel : ℕ) → Below fuel
  unfolding Below
  canon zero = λ m n hm hn wm wn same. absurd (omega arith)
  canon (suc fuel) = λ m n hm hn wm wn same. elim (cases_order (level_of ts m) (level_of ts n)) [
    | inl lv ↦ by-kinds fuel (canon fuel) m n hm hn same lv (kind_of ts m wm) (kind_of ts n wn)
    | inr other ↦ elim other [
      | inl lt ↦ absurd (less fuel (canon fuel) m n hm wm wn lt same)
      | inr gt ↦ absurd (less fuel (canon fuel) n m hn wn wm gt (λ a. sym (same a)))
    ]
  ]

  -- two nodes with one function are one node
  pub canonical : (m n : ℕ) → IsNode ts m → IsNode ts n → ((a : Bits) → function_of ts m a ≡ function_of ts n a) → m ≡ n
  unfolding Below
  canonical m n wm wn same = canon (m + n + 1) m n (omega arith) (omega arith) wm wn same

  -- two nodes are equal exactly where their functions are
  pub is_canonical : IsCanonical ts
  is_canonical m n wm wn = (λ e a. ap (λ x. function_of ts x a) e, canonical m n wm wn)
