-- How the least assignment that makes a node true is built up, level by level.
use Rattle.std.proofs.Common.{◌≡◌, ◌≢◌, ℕ, zero, suc, ◌+◌, ◌<◌, ◌≤◌, ◌^◌, Bool, true, false, ◌||◌, List, [], ◌∷◌, ◌++◌, map, length, take, drop, get_or, nat_eq, if◌then◌else◌, refl, sym, ap, subst, ◌∙◌, inl, inr, arith, append_assoc, append-nil}
use Rattle.std.proofs.lemmas.Bool.{cases_Bool, cases_lt, eqb-true, true≢false}
use Rattle.std.proofs.Math.Nat.{pow-suc}
use Rattle.std.proofs.lemmas.List.{length-map, take_more_set, take_all, drop_more}
use Rattle.std.proofs.Math.ListN.{drop_of_length-le, set}
use Rattle.std.proofs.lemmas.List.Kept.{AllPairs-from_increasing}
use Rattle.std.specs.List.{list_any, AllPairs}
use Rattle.std.specs.List.Sorted.{IsStrictlyIncreasing}
use Rattle.cb_model.specs.Bits.{Bits, put, weight}
use Rattle.cb_dd.specs.declared.Triple.{Triple}
use Rattle.cb_dd.specs.Diagram.{IsNode, IsDiagram, HasParts, function_of, level_of}
use Rattle.cb_dd.proofs.Diagrams.{function_of-zero, function_of-one, level_of-node, kind_of, bottom, top, inner}
use Rattle.cb_ops.specs.Ops.{Agree, DependsOn, IsCofactor, IsLeastTrue, IsLeastSide}
use Rattle.cb_ops.proofs.Ite.{put-id, put-same, put-other, listed, cofactor-at, cofactor-self}

-- the level is below all of the list
abbrev pub AllAbove : ℕ → List ℕ → Type 0
AllAbove l [] = Unit {0}
AllAbove l (k ∷ ks) = (l < k) × AllAbove l ks

abbrev pub Rising : List ℕ → Type 0
Rising [] = Unit {0}
Rising (l ∷ ls) = AllAbove l ls × Rising ls

above-from : (l : ℕ) (ls : List ℕ) → ((j : ℕ) → j < length ls → l < get_or ls j 0) → AllAbove l ls
above-from l [] h = tt
above-from l (k ∷ ks) h = (h 0 (omega arith), above-from l ks (λ j q. h (suc j) (omega arith)))

rising-pairs : (ls : List ℕ) → ((i j : ℕ) → i < j → j < length ls → get_or ls i 0 < get_or ls j 0) → Rising ls
rising-pairs [] h = tt
rising-pairs (l ∷ ls) h = (above-from l ls (λ j q. h 0 (suc j) (omega arith) (omega arith)), rising-pairs ls (λ i j p q. h (suc i) (suc j) (omega arith) (omega arith)))

pub rising-from : (ls : List ℕ) → IsStrictlyIncreasing ls → Rising ls
rising-from ls h = let all : AllPairs (λ (x y : ℕ). x < y) ls = AllPairs-from_increasing ls h in rising-pairs ls (λ i j p q. all i j 0 p q)

rising-drop : (i : ℕ) (ls : List ℕ) → Rising ls → Rising (drop i ls)
rising-drop zero ls h = h
rising-drop (suc i) [] h = tt
rising-drop (suc i) (l ∷ ls) h = rising-drop i ls h.1

pub above-any : (l k : ℕ) (ls : List ℕ) → AllAbove l ls → list_any (nat_eq k) ls ≡ true → l < k
above-any l k [] h any = absurd (true≢false (sym any))
above-any l k (m ∷ ms) h any = elim (cases_Bool (nat_eq k m)) [
  | inl same ↦ let e : k ≡ m = eqb-true k m same in let lt : l < m = h.0 in omega arith
  | inr other ↦ above-any l k ms h.1 (sym (ap (λ c. c || list_any (nat_eq k) ms) other) ∙ any)
]

pub agree-above : (l : ℕ) (ls : List ℕ) (a b : Bits) (x : Bool) → AllAbove l ls → Agree ls a b → Agree ls (put l x a) (put l x b)
agree-above l [] a b x h same = tt
agree-above l (k ∷ ks) a b x h same =
    let lt : l < k = h.0 in
    let ne : k ≡ l → ⊥ = λ (e : k ≡ l). omega arith in
    (put-other a l x k ne ∙ same.0 ∙ sym (put-other b l x k ne), agree-above l ks a b x h.1 same.1)

weight-below : (xs : List Bool) → weight xs < 2 ^ length xs
weight-below [] = omega arith
weight-below (x ∷ xs) =
    let w = weight-below xs in
    let e : 2 ^ suc (length xs) ≡ 2 ^ length xs + 2 ^ length xs = (let h = pow-suc 2 (length xs) in omega arith) in
    elim x as (λ y. (if y then 2 ^ length xs else 0) + weight xs < 2 ^ suc (length xs)) [ true ↦ omega arith | false ↦ omega arith ]

module _ (ts : List Triple) (n l : ℕ) (rest : List ℕ) where
  -- a node that depends on a level and greater ones has no lower level
  head-below : IsDiagram ts → IsNode ts n → DependsOn ts n (l ∷ rest) → AllAbove l rest → l < 2 ^ 32 → l ≤ level_of ts n
  head-below is w d above small = elim (cases_lt (level_of ts n) (2 ^ 32)) [
    | inl deep ↦
        let any : list_any (nat_eq (level_of ts n)) (l ∷ rest) ≡ true = listed ts is n (l ∷ rest) w deep d in
        elim (cases_Bool (nat_eq (level_of ts n) l)) [
          | inl same ↦ let e : level_of ts n ≡ l = eqb-true (level_of ts n) l same in omega arith
          | inr other ↦ let lt : l < level_of ts n = above-any l (level_of ts n) rest above (sym (ap (λ c. c || list_any (nat_eq (level_of ts n)) rest) other) ∙ any) in omega arith
        ]
    | inr constant ↦ omega arith
  ]

  pub side-depends : (bit : Bool) (r : ℕ) → IsCofactor ts n l bit r → DependsOn ts n (l ∷ rest) → AllAbove l rest → DependsOn ts r rest
  side-depends bit r c d above = record {
    agrees = λ a b h. c.function a ∙ d.agrees (put l bit a) (put l bit b) (put-same a l l bit refl ∙ sym (put-same b l l bit refl), agree-above l rest a b bit above h) ∙ sym (c.function b);
  }

  step-least : (bit : Bool) (r : ℕ) (ys : List Bool) → IsLeastSide ts n l bit r → IsLeastTrue ts r rest ys → IsLeastTrue ts n (l ∷ rest) (bit ∷ ys)
  step-least true r ys side least = record {
    as_many = ap suc least.as_many;
    makes_true = λ a e. let b : a l ≡ true = cc in let es : map a rest ≡ ys = cc in sym (cofactor-at ts n l true r a side.cofactor b) ∙ least.makes_true a es;
    least = λ a h. elim (cases_Bool (a l)) [
      | inl is_one ↦
          let k = least.least a (cofactor-at ts n l true r a side.cofactor is_one ∙ h) in
          let long : length (map a rest) ≡ length ys = length-map rest a ∙ sym least.as_many in
          subst (λ x. 2 ^ length ys + weight ys ≤ (if x then 2 ^ length (map a rest) else 0) + weight (map a rest)) (sym is_one) (let p : 2 ^ length (map a rest) ≡ 2 ^ length ys = ap (λ m. 2 ^ m) long in omega arith)
      | inr is_zero ↦ absurd (true≢false (sym h ∙ sym (ap (function_of ts n) (put-id a l false is_zero)) ∙ side.other refl a))
    ];
  }
  step-least false r ys side least = record {
    as_many = ap suc least.as_many;
    makes_true = λ a e. let b : a l ≡ false = cc in let es : map a rest ≡ ys = cc in sym (cofactor-at ts n l false r a side.cofactor b) ∙ least.makes_true a es;
    least = λ a h. elim (cases_Bool (a l)) [
      | inl is_one ↦
          let w = weight-below ys in
          let long : length (map a rest) ≡ length ys = length-map rest a ∙ sym least.as_many in
          subst (λ x. 0 + weight ys ≤ (if x then 2 ^ length (map a rest) else 0) + weight (map a rest)) (sym is_one) (let p : 2 ^ length (map a rest) ≡ 2 ^ length ys = ap (λ m. 2 ^ m) long in omega arith)
      | inr is_zero ↦
          let k = least.least a (cofactor-at ts n l false r a side.cofactor is_zero ∙ h) in
          subst (λ x. 0 + weight ys ≤ (if x then 2 ^ length (map a rest) else 0) + weight (map a rest)) (sym is_zero) (omega arith)
    ];
  }

-- a node that depends on no level, and isn't 0, is 1
end-least : (ts : List Triple) (n : ℕ) → IsDiagram ts → IsNode ts n → n ≢ 0 → DependsOn ts n [] → IsLeastTrue ts n [] []
end-least ts n is w some d = record {
  as_many = refl;
  makes_true = λ a _. elim (kind_of ts n w) [
    | bottom e ↦ absurd (some e)
    | top e ↦ ap (λ m. function_of ts m a) e ∙ function_of-one ts a
    | inner k t e at ↦
        let small : level_of ts n < 2 ^ 32 = let lev : level_of ts n ≡ t.level = ap (level_of ts) e ∙ level_of-node ts k t at in let s : t.level < 2 ^ 32 = (is.ordered k t at).level in omega arith in
        absurd (true≢false (sym (listed ts is n [] w small d)))
  ];
  least = λ a h. omega arith;
}

-- the first i bits are those of the least assignment, and the node is what is left to be made true
pub record IsLeastSoFar (ts : List Triple) (f : ℕ) (levels : List ℕ) (i : ℕ) (bits : List Bool) (n : ℕ) : Type 0 where
  pub node : IsNode ts n
  pub some : n ≢ 0
  pub depends : DependsOn ts n (drop i levels)
  pub goes_on : (ys : List Bool) → IsLeastTrue ts n (drop i levels) ys → IsLeastTrue ts f levels (take i bits ++ ys)

module _ (ts : List Triple) (is : IsDiagram ts) (f : ℕ) (levels : List ℕ) (i : ℕ) (bits : List Bool) (n : ℕ) (rise : IsStrictlyIncreasing levels) (within : i < length levels) (so : IsLeastSoFar ts f levels i bits n) where
  split : drop i levels ≡ get_or levels i 0 ∷ drop (i + 1) levels
  split = drop_more levels i 0 within

  above : AllAbove (get_or levels i 0) (drop (i + 1) levels)
  above = let r : Rising (get_or levels i 0 ∷ drop (i + 1) levels) = subst Rising split (rising-drop i levels (rising-from levels rise)) in r.0

  here : DependsOn ts n (get_or levels i 0 ∷ drop (i + 1) levels)
  here = subst (DependsOn ts n) split so.depends

  pub least-above : (level : ℕ) → level ≡ get_or levels i 0 → level < 2 ^ 32 → level ≤ level_of ts n
  least-above level e small =
      let h : get_or levels i 0 ≤ level_of ts n = head-below ts n (get_or levels i 0) (drop (i + 1) levels) is so.node here above (omega arith) in
      omega arith

  pub least-more : (level : ℕ) → level ≡ get_or levels i 0 → length bits ≡ length levels → (bit : Bool) (r : ℕ) → IsLeastSide ts n level bit r → IsLeastSoFar ts f levels (i + 1) (set bits i bit) r
  least-more level e long bit r given =
      let P : ℕ → Type 0 = λ m. IsLeastSide ts n m bit r in
      let side = subst P e given in
      record {
        node = side.cofactor.node;
        some = side.some;
        depends = side-depends ts n (get_or levels i 0) (drop (i + 1) levels) bit r side.cofactor here above;
        goes_on = λ ys h.
            let next : IsLeastTrue ts n (drop i levels) (bit ∷ ys) = subst (λ ls. IsLeastTrue ts n ls (bit ∷ ys)) (sym split) (step-least ts n (get_or levels i 0) (drop (i + 1) levels) bit r ys side h) in
            let room : i < length bits = omega arith in
            let e : take (i + 1) (set bits i bit) ++ ys ≡ take i bits ++ (bit ∷ ys) = ap (λ xs. xs ++ ys) (take_more_set bits i bit room) ∙ append_assoc (take i bits) (bit ∷ []) ys in
            subst (IsLeastTrue ts f levels) (sym e) (so.goes_on (bit ∷ ys) next);
      }

pub least-end : (ts : List Triple) → IsDiagram ts → (f : ℕ) (levels : List ℕ) (bits : List Bool) (n i : ℕ) → i ≡ length levels → length bits ≡ length levels → IsLeastSoFar ts f levels i bits n → IsLeastTrue ts f levels bits
least-end ts is f levels bits n i end long so =
    let none : drop i levels ≡ [] = drop_of_length-le levels (let h : length levels ≤ i = omega arith in h) in
    let last : IsLeastTrue ts n (drop i levels) [] = subst (λ ls. IsLeastTrue ts n ls []) (sym none) (end-least ts n is so.node so.some (subst (DependsOn ts n) none so.depends)) in
    let all : take i bits ++ [] ≡ bits = append-nil (take i bits) ∙ take_all i bits (omega arith) in
    subst (IsLeastTrue ts f levels) all (so.goes_on [] last)

-- the three cases of a side
pub zero-side : (ts : List Triple) (n level at lo hi : ℕ) → HasParts ts n at lo hi → at ≡ level → lo ≡ 0 → IsLeastSide ts n level true hi
zero-side ts n level at lo hi p e z =
    let side : IsLeastSide ts n at true hi = record {
      cofactor = record { node = p.hi_node; above = p.hi_below; function = p.hi_function };
      some = λ h. p.differ (z ∙ sym h);
      other = λ _ a. sym (p.lo_function a) ∙ ap (λ m. function_of ts m a) z ∙ function_of-zero ts a;
    } in
    let P : ℕ → Type 0 = λ l. IsLeastSide ts n l true hi in
    subst P e side

pub skip-side : (ts : List Triple) → IsDiagram ts → (n level : ℕ) → IsNode ts n → n ≢ 0 → level < level_of ts n → IsLeastSide ts n level false n
skip-side ts is n level w some below = record {
  cofactor = cofactor-self ts is n level false w below;
  some = some;
  other = λ h a. absurd (cc);
}
