-- Which levels are eliminated for a leaf.
use Rattle.std.proofs.Common.{◌≡◌, ◌≢◌, ◌⊎◌, inl, inr, ℕ, suc, ◌+◌, ◌<◌, ◌≤◌, Bool, true, false, ◌&&◌, cond, List, [], ◌∷◌, ◌++◌, length, reverse, nat_eq, nat_lt, nat_le, get_or, if◌then◌else◌, sym, ap, ◌∙◌, subst, append-nil, arith}
use Rattle.std.proofs.lemmas.Bool.{cases_Bool, cases_lt, eqb-true, true≢false, false≢true, and_parts, leb-true, le-leb, ltb-true, lt-ltb, le-ltb}
use Rattle.std.proofs.lemmas.Grind.{reverse_onto}
use Rattle.std.proofs.lemmas.List.Elements.{filter-append}
use Rattle.std.proofs.lemmas.Map.Views.{Contains-from_any}
use Rattle.std.specs.List.{list_any, filter, Contains}
use Rattle.std.specs.List.Sorted.{IsStrictlyIncreasing}
use Rattle.cb_model.specs.Bits.{Bits, Each, put}
use Rattle.cb_dd.specs.declared.Triple.{Triple}
use Rattle.cb_dd.specs.Diagram.{function_of}
use Rattle.cb_ops.specs.Ops.{DependsOn, IsFree}
use Rattle.cb_ops.specs.Support.{IsListed}
use Rattle.cb_ops.proofs.Ite.{without, without-lt, put-other}
use Rattle.cb_boole.specs.Elimination.{Function, DependsOnly, IsAway}
use Rattle.cb_boole.proofs.Only.{weaker}
use Rattle.cb_solution.specs.Solution.{IsFalling}
use Rattle.cb_solution.proofs.Solved.{listed-here, listed-there, listed-cases, only-from}
use Rattle.cb_boole.specs.Stages.{IsSettled, AreFor}
use Rattle.cb_project.specs.Leaves.{AreInner}

-- ---- lists of levels

pub listed-none : (k : ℕ) → IsListed [] k → ⊥
listed-none k h = false≢true h

listed-append : (xs ys : List ℕ) (k : ℕ) → IsListed (xs ++ ys) k → IsListed xs k ⊎ IsListed ys k
listed-append [] ys k h = inr h
listed-append (x ∷ xs) ys k h = elim (listed-cases x k (xs ++ ys) h) [
  | inl e ↦ inl (subst (IsListed (x ∷ xs)) (sym e) (listed-here x xs))
  | inr more ↦ elim (listed-append xs ys k more) [ inl w ↦ inl (listed-there x k xs w) | inr w ↦ inr w ]
]

pub listed-left : (xs ys : List ℕ) (k : ℕ) → IsListed xs k → IsListed (xs ++ ys) k
listed-left [] ys k h = absurd (listed-none k h)
listed-left (x ∷ xs) ys k h = elim (listed-cases x k xs h) [
  | inl e ↦ subst (IsListed (x ∷ (xs ++ ys))) (sym e) (listed-here x (xs ++ ys))
  | inr more ↦ listed-there x k (xs ++ ys) (listed-left xs ys k more)
]

pub listed-right : (xs ys : List ℕ) (k : ℕ) → IsListed ys k → IsListed (xs ++ ys) k
listed-right [] ys k h = h
listed-right (x ∷ xs) ys k h = listed-there x k (xs ++ ys) (listed-right xs ys k h)

falling-last : (x : ℕ) (ys : List ℕ) → IsFalling ys → ((k : ℕ) → IsListed ys k → x < k) → IsFalling (ys ++ x ∷ [])
falling-last x [] falls above = ((λ k h. absurd (listed-none k h)), tt)
falling-last x (y ∷ ys) falls above =
    ((λ k h. first k (listed-append ys (x ∷ []) k h)), falling-last x ys falls.1 (λ k h. above k (listed-there y k ys h)))
  where
    first : (k : ℕ) → IsListed ys k ⊎ IsListed (x ∷ []) k → k < y
    first k (inl h) = falls.0 k h
    first k (inr h) = elim (listed-cases x k [] h) [
      | inl e ↦ let lt : x < y = above y (listed-here y ys) in omega (arith, e, lt)
      | inr no_more ↦ absurd (listed-none k no_more)
    ]

increasing-tail : (x : ℕ) (xs : List ℕ) → IsStrictlyIncreasing (x ∷ xs) → IsStrictlyIncreasing xs
increasing-tail x xs rise k h =
    let e : suc k + 1 ≡ suc (k + 1) = omega arith in
    subst (λ j. get_or xs k 0 < get_or (x ∷ xs) j 0) e (rise (suc k) (omega arith))

increasing-above : (x : ℕ) (xs : List ℕ) → IsStrictlyIncreasing (x ∷ xs) → (k : ℕ) → IsListed xs k → x < k
increasing-above x [] rise k h = absurd (listed-none k h)
increasing-above x (y ∷ ys) rise k h =
    let lt : x < y = rise 0 (omega arith) in
    elim (listed-cases y k ys h) [
      | inl e ↦ omega (arith, e, lt)
      | inr more ↦ let up : y < k = increasing-above y ys (increasing-tail x (y ∷ ys) rise) k more in omega (arith, up, lt)
    ]

-- ---- the levels that pass a test, in the other order

chosen-cases : (p : ℕ → Bool) (x : ℕ) → ((p x ≡ true) × (filter p (x ∷ []) ≡ x ∷ [])) ⊎ ((p x ≡ false) × (filter p (x ∷ []) ≡ []))
chosen-cases p x = elim (cases_Bool (p x)) [
  | inl passes ↦ inl (passes, ap (λ b. cond b (x ∷ []) []) passes)
  | inr fails ↦ inr (fails, ap (λ b. cond b (x ∷ []) []) fails)
]

turned : (p : ℕ → Bool) (x : ℕ) (xs : List ℕ) → filter p (reverse (x ∷ xs)) ≡ filter p (reverse xs) ++ filter p (x ∷ [])
turned p x xs = ap (filter p) (reverse_onto xs x []) ∙ filter-append p (reverse xs) (x ∷ [])

pub chosen-from : (p : ℕ → Bool) (xs : List ℕ) (k : ℕ) → IsListed (filter p (reverse xs)) k → IsListed xs k × (p k ≡ true)
chosen-from p [] k h = absurd (listed-none k h)
chosen-from p (x ∷ xs) k h = elim (listed-append (filter p (reverse xs)) (filter p (x ∷ [])) k (subst (λ l. IsListed l k) (turned p x xs) h)) [
  | inl before ↦ let w = chosen-from p xs k before in (listed-there x k xs w.0, w.1)
  | inr last ↦ elim (chosen-cases p x) [
    | inl w ↦ elim (listed-cases x k [] (subst (λ l. IsListed l k) w.1 last)) [
      | inl e ↦ (subst (IsListed (x ∷ xs)) (sym e) (listed-here x xs), subst (λ j. p j ≡ true) (sym e) w.0)
      | inr no_more ↦ absurd (listed-none k no_more)
    ]
    | inr w ↦ absurd (listed-none k (subst (λ l. IsListed l k) w.1 last))
  ]
]

pub chosen-into : (p : ℕ → Bool) (xs : List ℕ) (k : ℕ) → IsListed xs k → p k ≡ true → IsListed (filter p (reverse xs)) k
chosen-into p [] k h t = absurd (listed-none k h)
chosen-into p (x ∷ xs) k h t = subst (λ l. IsListed l k) (sym (turned p x xs)) (elim (listed-cases x k xs h) [
  | inl e ↦ listed-right (filter p (reverse xs)) (filter p (x ∷ [])) k (elim (chosen-cases p x) [
    | inl w ↦ subst (λ l. IsListed l k) (sym w.1) (subst (IsListed (x ∷ [])) (sym e) (listed-here x []))
    | inr w ↦ absurd (true≢false (sym t ∙ ap p e ∙ w.0))
  ])
  | inr more ↦ listed-left (filter p (reverse xs)) (filter p (x ∷ [])) k (chosen-into p xs k more t)
])

pub chosen-falls : (p : ℕ → Bool) (xs : List ℕ) → IsStrictlyIncreasing xs → IsFalling (filter p (reverse xs))
chosen-falls p [] rise = tt
chosen-falls p (x ∷ xs) rise = subst IsFalling (sym (turned p x xs)) (elim (chosen-cases p x) [
  | inl w ↦ subst (λ l. IsFalling (filter p (reverse xs) ++ l)) (sym w.1)
      (falling-last x (filter p (reverse xs)) (chosen-falls p xs (increasing-tail x xs rise)) (λ k h. increasing-above x xs rise k (chosen-from p xs k h).0))
  | inr w ↦ subst (λ l. IsFalling (filter p (reverse xs) ++ l)) (sym w.1)
      (subst IsFalling (sym (append-nil (filter p (reverse xs)))) (chosen-falls p xs (increasing-tail x xs rise)))
])

each-listed : (P : ℕ → Type 0) (xs : List ℕ) → ((k : ℕ) → IsListed xs k → P k) → Each P xs
each-listed P [] h = tt
each-listed P (x ∷ xs) h = (h x (listed-here x xs), each-listed P xs (λ k w. h k (listed-there x k xs w)))

pub listed-each : (P : ℕ → Type 0) (xs : List ℕ) → Each P xs → (k : ℕ) → IsListed xs k → P k
listed-each P [] h k w = absurd (listed-none k w)
listed-each P (x ∷ xs) h k w = elim (listed-cases x k xs w) [
  | inl e ↦ subst P (sym e) h.0
  | inr more ↦ listed-each P xs h.1 k more
]

pub listed-not_away : (xs : List ℕ) (k : ℕ) → IsListed xs k → IsAway k xs → ⊥
listed-not_away [] k h away = listed-none k h
listed-not_away (x ∷ xs) k h away = elim (listed-cases x k xs h) [ inl e ↦ away.0 e | inr more ↦ listed-not_away xs k more away.1 ]

-- ---- the levels of a leaf

abbrev pub is_between : ℕ → ℕ → ℕ → Bool
is_between c first l = nat_le c l && nat_lt l first

within : (c first l : ℕ) → is_between c first l ≡ true → (c ≤ l) × (l < first)
within c first l h =
    let w = and_parts (nat_le c l) (nat_lt l first) h in
    (leb-true c l w.0, ltb-true l first w.1)

inside : (c first l : ℕ) → (((l < c) ⊎ (first ≤ l)) ⊎ (is_between c first l ≡ true))
inside c first l = elim (cases_lt l c) [
  | inl lt ↦ inl (inl lt)
  | inr ge ↦ elim (cases_lt l first) [
    | inl lt ↦ inr (ap (λ b. b && nat_lt l first) (le-leb c l ge) ∙ lt-ltb l first lt)
    | inr more ↦ inl (inr more)
  ]
]

pub are-inner : (ts : List Triple) (f c first : ℕ) (xs : List ℕ) → DependsOn ts f xs → ((l : ℕ) → Contains xs l → IsFree ts f l → ⊥) →
    AreInner ts f c first (filter (is_between c first) (reverse xs))
are-inner ts f c first xs enough needed = record {
  between = each-listed (λ l. (c ≤ l) × (l < first)) (filter (is_between c first) (reverse xs)) (λ k h. within c first k (chosen-from (is_between c first) xs k h).1);
  others = weaker (IsListed xs) (λ k. ((k < c) ⊎ (first ≤ k)) ⊎ (IsAway k (filter (is_between c first) (reverse xs)) → ⊥)) (function_of ts f) (only-from ts f xs enough) other;
  needed = λ l h free. needed l (Contains-from_any {eq = nat_eq} (λ x y e. eqb-true x y e) l xs (chosen-from (is_between c first) xs l h).0) free;
}
  where
    other : (k : ℕ) → IsListed xs k → ((k < c) ⊎ (first ≤ k)) ⊎ (IsAway k (filter (is_between c first) (reverse xs)) → ⊥)
    other k h = elim (inside c first k) [
      | inl w ↦ inl w
      | inr t ↦ inr (listed-not_away (filter (is_between c first) (reverse xs)) k (chosen-into (is_between c first) xs k h t))
    ]

between-away : (c first : ℕ) (xs : List ℕ) → Each (λ l. (c ≤ l) × (l < first)) xs → (k : ℕ) → (k < c) ⊎ (first ≤ k) → IsAway k xs
between-away c first [] h k w = tt
between-away c first (x ∷ xs) h k w = ((λ e. clash w e), between-away c first xs h.1 k w)
  where
    clash : (k < c) ⊎ (first ≤ k) → k ≡ x → ⊥
    clash (inl lt) e = let b : c ≤ x = h.0.0 in omega (arith, lt, e, b)
    clash (inr ge) e = let b : x < first = h.0.1 in omega (arith, ge, e, b)

-- what depends on levels below a number alone, and on some levels alone, depends on those below the number
cut-low : (n : ℕ) (p q : Bits) (k : ℕ) → k < n → (if nat_lt k n then p k else q k) ≡ p k
cut-low n p q k lt = ap (λ b. if b then p k else q k) (lt-ltb k n lt)

cut-high : (n : ℕ) (p q : Bits) (k : ℕ) → n ≤ k → (if nat_lt k n then p k else q k) ≡ q k
cut-high n p q k ge = ap (λ b. if b then p k else q k) (le-ltb k n ge)

cut-only : (n : ℕ) (Q : ℕ → Type 0) (f : Function) → DependsOnly (λ k. k < n) f → DependsOnly Q f → DependsOnly (λ k. (k < n) × Q k) f
cut-only n Q f below only p q h =
    below p (λ k. if nat_lt k n then p k else q k) (λ k lt. sym (cut-low n p q k lt)) ∙
    only (λ k. if nat_lt k n then p k else q k) q (λ k w. second k w (cases_lt k n))
  where
    second : (k : ℕ) → Q k → (k < n) ⊎ (n ≤ k) → (if nat_lt k n then p k else q k) ≡ q k
    second k w (inl lt) = cut-low n p q k lt ∙ h k (lt, w)
    second k w (inr ge) = cut-high n p q k ge

pub are-for : (ts : List Triple) (f c first n : ℕ) (levels : List ℕ) → AreInner ts f c first levels → DependsOnly (λ k. k < first + n) (function_of ts f) →
    AreFor c first n (function_of ts f) levels
are-for ts f c first n levels are below = record {
  away = λ k w. between-away c first levels are.between k (settled k w);
  depends = weaker (λ k. (k < first + n) × (((k < c) ⊎ (first ≤ k)) ⊎ (IsAway k levels → ⊥))) (λ k. IsSettled c first n k ⊎ (IsAway k levels → ⊥)) (function_of ts f)
      (cut-only (first + n) (λ k. ((k < c) ⊎ (first ≤ k)) ⊎ (IsAway k levels → ⊥)) (function_of ts f) below are.others) (λ k w. stays k w.0 w.1);
}
  where
    settled : (k : ℕ) → IsSettled c first (suc n) k → (k < c) ⊎ (first ≤ k)
    settled k (inl lt) = inl lt
    settled k (inr w) = inr w.0

    stays : (k : ℕ) → k < first + n → ((k < c) ⊎ (first ≤ k)) ⊎ (IsAway k levels → ⊥) → IsSettled c first n k ⊎ (IsAway k levels → ⊥)
    stays k lt (inl (inl below)) = inl (inl below)
    stays k lt (inl (inr above)) = inl (inr (above, lt))
    stays k lt (inr there) = inr there

-- ---- how many they are

-- a level on which the node depends is in each list of levels on which it depends alone
pub needed-listed : (ts : List Triple) (f : ℕ) (ls : List ℕ) → DependsOn ts f ls → (l : ℕ) → (IsFree ts f l → ⊥) → IsListed ls l
needed-listed ts f ls d l needed = elim (cases_Bool (list_any (nat_eq l) ls)) [
  | inl there ↦ there
  | inr absent ↦ absurd (needed (λ a b. only-from ts f ls d (put l b a) a (λ k h. put-other a l b k (λ (e : k ≡ l). true≢false (sym (subst (IsListed ls) e h) ∙ absent)))))
]

without-listed : (l : ℕ) (ls : List ℕ) (k : ℕ) → IsListed ls k → k ≢ l → IsListed (without l ls) k
unfolding without
without-listed l [] k h ne = h
without-listed l (x ∷ xs) k h ne = elim (cases_Bool (nat_eq x l)) [
  | inl same ↦ subst (λ c. IsListed (if c then without l xs else x ∷ without l xs) k) (sym same) (elim (listed-cases x k xs h) [
    | inl e ↦ absurd (ne (e ∙ eqb-true x l same))
    | inr more ↦ without-listed l xs k more ne
  ])
  | inr other ↦ subst (λ c. IsListed (if c then without l xs else x ∷ without l xs) k) (sym other) (elim (listed-cases x k xs h) [
    | inl e ↦ subst (IsListed (x ∷ without l xs)) (sym e) (listed-here x (without l xs))
    | inr more ↦ listed-there x k (without l xs) (without-listed l xs k more ne)
  ])
]

pub falling-within : (levels ls : List ℕ) → IsFalling levels → ((l : ℕ) → IsListed levels l → IsListed ls l) → length levels ≤ length ls
falling-within [] ls falls all = omega arith
falling-within (l ∷ levels) ls falls all =
    let fewer : length levels ≤ length (without l ls) = falling-within levels (without l ls) falls.1
    (λ k h. without-listed l ls k (all k (listed-there l k levels h)) (λ (e : k ≡ l). let lt : k < l = falls.0 k h in omega (arith, e, lt))) in
    let less : length (without l ls) + 1 ≤ length ls = without-lt l ls (all l (listed-here l levels)) in
    omega arith
