-- The laws behind `support`.
use Rattle.std.proofs.Common.{◌≡◌, ℕ, zero, suc, ◌+◌, ◌-◌, ◌<◌, ◌≤◌, ◌^◌, Bool, true, false, cond, ◌||◌, List, [], ◌∷◌, ◌++◌, length, slice_get, get_or, nat_eq, None, Some, refl, sym, ap, subst, ◌∙◌, ◌⊎◌, inl, inr, arith, length-append, append-nil, append_assoc, if◌then◌else◌}
use Rattle.std.proofs.lemmas.Bool.{cases_Bool, cases_eq, cases_lt, eqb-true, eq-eqb, true≢false}
use Rattle.std.proofs.lemmas.Option.{same_Some, slice_get_within, slice_get-get_or, get_or_from_slice_get}
use Rattle.std.proofs.lemmas.Map.Steps.{length-le_from_distinct_below}
use Rattle.std.proofs.lemmas.Map.Views.{Contains-from_any}
use Rattle.std.specs.List.{list_any, Contains}
use Rattle.std.specs.List.{IsDistinct}
use Rattle.std.proofs.lemmas.List.Folds.{list_any_at}
use Rattle.cb_model.specs.Bits.{Bits, put}
use Rattle.cb_dd.specs.declared.Triple.{Triple}
use Rattle.cb_dd.specs.Diagram.{IsNode, IsDiagram, HasParts, function_of, level_of}
use Rattle.cb_dd.proofs.Diagrams.{function_of-zero, function_of-one}
use Rattle.cb_ops.specs.Ops.{Agree, DependsOn, IsFree}
use Rattle.cb_ops.specs.Support.{IsListed, IsWithin, IsSideOf, IsClosed, Adds}
use Rattle.cb_ops.proofs.Ite.{essential, choose-all}
use Rattle.cb_ops.proofs.Restrict.{put-swap}

pub within-constant : (ts : List Triple) (n : ℕ) (levels : List ℕ) → (n ≡ 0) ⊎ (n ≡ 1) → IsWithin ts n levels
within-constant ts n levels (inl e) = record { agrees = λ a b h. ap (λ m. function_of ts m a) e ∙ function_of-zero ts a ∙ sym (ap (λ m. function_of ts m b) e ∙ function_of-zero ts b) }
within-constant ts n levels (inr e) = record { agrees = λ a b h. ap (λ m. function_of ts m a) e ∙ function_of-one ts a ∙ sym (ap (λ m. function_of ts m b) e ∙ function_of-one ts b) }

-- ---- what is among the reached nodes
listed-front : (xs ys : List ℕ) (j : ℕ) → j < length xs → slice_get (xs ++ ys) j ≡ slice_get xs j
listed-front [] ys j h = absurd (omega arith)
listed-front (x ∷ xs) ys zero h = refl
listed-front (x ∷ xs) ys (suc j) h = listed-front xs ys j (omega arith)

pub listed-at : (xs : List ℕ) (j n : ℕ) → slice_get xs j ≡ Some n → IsListed xs n
listed-at xs j n at = list_any_at (nat_eq n) xs j n (slice_get_within xs j n at) (eq-eqb n _ (sym (get_or_from_slice_get xs j n n at)))

pub listed-place : (xs : List ℕ) (n : ℕ) → IsListed xs n → (j : ℕ) × (slice_get xs j ≡ Some n)
listed-place xs n h =
    let c : Contains xs n = Contains-from_any (λ x y e. eqb-true x y e) n xs h in
    (c.0, slice_get-get_or xs c.0 n c.1 ∙ ap Some c.2)

pub past-none : (xs : List ℕ) (i : ℕ) → slice_get xs i ≡ None → length xs ≤ i
past-none xs i e = elim (cases_lt i (length xs)) [
  | inl lt ↦ absurd (let d : None ≡ Some (get_or xs i 0) = sym e ∙ slice_get-get_or xs i 0 lt in cc)
  | inr ge ↦ ge
]

-- a node of the diagram that is free of each level of which the first one is
pub record IsReached (ts : List Triple) (f q : ℕ) : Type 0 where
  pub node : IsNode ts q
  pub free : (l : ℕ) → IsFree ts f l → IsFree ts q l

-- what the loop keeps: the first nodes are done
pub record Gathering (ts : List Triple) (f : ℕ) (nodes levels : List ℕ) (i : ℕ) : Type 0 where
  pub unique : IsDistinct nat_eq nodes
  pub root : IsListed nodes f
  pub reached : (q : ℕ) → IsListed nodes q → IsReached ts f q
  pub closed : (j n : ℕ) → j < i → slice_get nodes j ≡ Some n → IsClosed ts n nodes levels
  pub matter : (l : ℕ) → IsListed levels l → IsFree ts f l → ⊥
  pub within : i ≤ length nodes

pub gathering-start : (ts : List Triple) (f : ℕ) (nodes levels : List ℕ) → IsNode ts f → IsDistinct nat_eq nodes → ((q : ℕ) → list_any (nat_eq q) nodes ≡ cond (nat_eq f q) true (list_any (nat_eq q) [])) → levels ≡ [] → Gathering ts f nodes levels 0
gathering-start ts f nodes levels w unique says none = record {
  unique = unique;
  root = says f ∙ ap (λ b. cond b true (list_any (nat_eq f) [])) (eq-eqb f f refl);
  reached = λ q h. elim (cases_Bool (nat_eq f q)) [
    | inl same ↦ let P : ℕ → Type 0 = λ x. IsReached ts f x in subst P (eqb-true f q same) (record { node = w; free = λ l free. free })
    | inr other ↦ absurd (true≢false (sym h ∙ says q ∙ ap (λ b. cond b true (list_any (nat_eq q) [])) other))
  ];
  closed = λ j n lt at. absurd (omega (arith, lt));
  matter = λ l h free. true≢false (sym (sym (ap (list_any (nat_eq l)) none) ∙ h));
  within = omega arith;
}

pub gathering-node : (ts : List Triple) (f : ℕ) (nodes levels : List ℕ) (i n : ℕ) → Gathering ts f nodes levels i → slice_get nodes i ≡ Some n → IsNode ts n
gathering-node ts f nodes levels i n g at = (g.reached n (listed-at nodes i n at)).node

pub gathering-bound : (ts : List Triple) (f : ℕ) (nodes levels : List ℕ) (i : ℕ) → Gathering ts f nodes levels i → length nodes ≤ length ts + 2
gathering-bound ts f nodes levels i g = length-le_from_distinct_below nodes (length ts + 2) g.unique (λ q h. (g.reached q h).node)

module _ (ts : List Triple) (is : IsDiagram ts) (f : ℕ) (nodes new levels now : List ℕ) (i n : ℕ) (g : Gathering ts f nodes levels i) (at : slice_get nodes i ≡ Some n) (adds : Adds ts n nodes new levels now) where
  here : IsReached ts f n
  here = g.reached n (listed-at nodes i n at)

  closed-more : (m : ℕ) → IsClosed ts m nodes levels → IsClosed ts m new now
  closed-more m (inl constant) = inl constant
  closed-more m (inr sides) = inr (record {
    at = sides.at;
    lo = sides.lo;
    hi = sides.hi;
    parts = sides.parts;
    level = adds.kept sides.at sides.level;
    low = adds.stay sides.lo sides.low;
    high = adds.stay sides.hi sides.high;
  })

  side-reached : (q : ℕ) → IsSideOf ts n q → IsReached ts f q
  side-reached q side = record {
    node = side.node;
    free = λ l free.
        let known : IsFree ts n l = here.free l free in
        λ a b. elim (cases_eq l (level_of ts n)) [
          | inl e ↦ absurd (essential ts is n l here.node (sym e) (let s = side.small in omega (arith, s, e)) known)
          | inr ne ↦ side.is (put l b a) ∙ ap (function_of ts n) (put-swap l (level_of ts n) b side.bit a ne) ∙ known (put (level_of ts n) side.bit a) b ∙ sym (side.is a)
        ];
  }

  place : i < length nodes
  place = slice_get_within nodes i n at

  pub gathering-step : Gathering ts f new now (i + 1)
  gathering-step = record {
    unique = adds.unique;
    root = adds.stay f g.root;
    reached = λ q h. elim (adds.sides q h) [ inl old ↦ g.reached q old | inr side ↦ side-reached q side ];
    closed = λ j m lt there. elim (cases_lt j i) [
      | inl less ↦ closed-more m (g.closed j m less (sym (listed-front nodes adds.more j (let p = place in omega (arith, p, less))) ∙ sym (ap (λ xs. slice_get xs j) adds.nodes) ∙ there))
      | inr more ↦
          let e : j ≡ i = omega (arith, lt, more) in
          let same : Some n ≡ Some m = sym at ∙ sym (listed-front nodes adds.more i place) ∙ sym (ap (λ xs. slice_get xs i) adds.nodes) ∙ ap (slice_get new) (sym e) ∙ there in
          subst (λ x. IsClosed ts x new now) (same_Some n m same) adds.closed
    ];
    matter = λ l h free. elim (adds.levels l h) [
      | inl old ↦ g.matter l old free
      | inr own ↦ essential ts is n l here.node (sym own.0) own.1 (here.free l free)
    ];
    within = let p = place in let e = ap length adds.nodes in omega (arith, p, e, length-append nodes adds.more);
  }

module _ (ts : List Triple) (is : IsDiagram ts) (f : ℕ) (nodes levels : List ℕ) (i : ℕ) (g : Gathering ts f nodes levels i) (all : length nodes ≤ i) where
  all-within : (fuel n : ℕ) → 2 ^ 32 - level_of ts n < fuel → IsListed nodes n → IsWithin ts n levels
  all-within zero n h there = absurd (omega arith)
  all-within (suc fuel) n h there =
      let p = listed-place nodes n there in
      elim (g.closed p.0 n (let w = slice_get_within nodes p.0 n p.1 in omega (arith, w, all)) p.1) [
        | inl constant ↦ within-constant ts n levels constant
        | inr sides ↦
            let low : IsWithin ts sides.lo levels = all-within fuel sides.lo (let e = sides.parts.at in let m = sides.parts.small in let b = sides.parts.lo_below in omega (arith, h, e, m, b)) sides.low in
            let high : IsWithin ts sides.hi levels = all-within fuel sides.hi (let e = sides.parts.at in let m = sides.parts.small in let b = sides.parts.hi_below in omega (arith, h, e, m, b)) sides.high in
            record {
              agrees = λ a b same. sides.parts.function a ∙ choose-all _ _ _ _ _ _ (same sides.at sides.level) (high.agrees a b same) (low.agrees a b same) ∙ sym (sides.parts.function b);
            }
      ]

  pub gathered : IsWithin ts f levels
  gathered = all-within (suc (2 ^ 32 - level_of ts f)) f (omega arith) g.root

-- ---- one step
insert-more : (old : List ℕ) (v : ℕ) → (more : List ℕ) × ((if list_any (nat_eq v) old then old else old ++ v ∷ []) ≡ old ++ more)
insert-more old v = elim (cases_Bool (list_any (nat_eq v) old)) [
  | inl there ↦ ([], ap (λ b. if b then old else old ++ v ∷ []) there ∙ sym (append-nil old))
  | inr none ↦ (v ∷ [], ap (λ b. if b then old else old ++ v ∷ []) none)
]

one-more : (v q : ℕ) (b : Bool) → b ≡ true → cond (nat_eq v q) true b ≡ true
one-more v q b h = elim (cases_Bool (nat_eq v q)) [ inl same ↦ ap (λ c. cond c true b) same | inr other ↦ ap (λ c. cond c true b) other ∙ h ]

pub adds-none : (ts : List Triple) (n : ℕ) (nodes levels : List ℕ) → IsDistinct nat_eq nodes → (n ≡ 0) ⊎ (n ≡ 1) → Adds ts n nodes nodes levels levels
adds-none ts n nodes levels unique e = record {
  more = [];
  nodes = sym (append-nil nodes);
  unique = unique;
  stay = λ q h. h;
  sides = λ q h. inl h;
  kept = λ l h. h;
  levels = λ l h. inl h;
  closed = inl e;
}

-- after the level, the one side and the other were inserted
pub adds-sides : (ts : List Triple) (n at lo hi : ℕ) (old mid new before now : List ℕ) → HasParts ts n at lo hi
    → ((q : ℕ) → list_any (nat_eq q) now ≡ cond (nat_eq at q) true (list_any (nat_eq q) before))
    → mid ≡ (if list_any (nat_eq lo) old then old else old ++ lo ∷ []) → ((q : ℕ) → list_any (nat_eq q) mid ≡ cond (nat_eq lo q) true (list_any (nat_eq q) old))
    → new ≡ (if list_any (nat_eq hi) mid then mid else mid ++ hi ∷ []) → ((q : ℕ) → list_any (nat_eq q) new ≡ cond (nat_eq hi q) true (list_any (nat_eq q) mid))
    → IsDistinct nat_eq new → Adds ts n old new before now
adds-sides ts n at lo hi old mid new before now parts level low_is low high_is high unique =
    let m = insert-more old lo in
    let k = insert-more mid hi in
    let e : mid ≡ old ++ m.0 = low_is ∙ m.1 in
    record {
      more = m.0 ++ k.0;
      nodes = high_is ∙ k.1 ∙ ap (λ xs. xs ++ k.0) e ∙ append_assoc old m.0 k.0;
      unique = unique;
      stay = λ q h. high q ∙ one-more hi q _ (low q ∙ one-more lo q _ h);
      sides = λ q h. elim (cases_Bool (nat_eq hi q)) [
        | inl same ↦ inr (let P : ℕ → Type 0 = λ x. IsSideOf ts n x in subst P (eqb-true hi q same) (record { bit = true; small = small; node = parts.hi_node; is = λ a. parts.hi_function a ∙ ap (λ l. function_of ts n (put l true a)) (sym parts.at) }))
        | inr other ↦
            let h2 : list_any (nat_eq q) mid ≡ true = sym (ap (λ b. cond b true (list_any (nat_eq q) mid)) other) ∙ sym (high q) ∙ h in
            elim (cases_Bool (nat_eq lo q)) [
              | inl same ↦ inr (let P : ℕ → Type 0 = λ x. IsSideOf ts n x in subst P (eqb-true lo q same) (record { bit = false; small = small; node = parts.lo_node; is = λ a. parts.lo_function a ∙ ap (λ l. function_of ts n (put l false a)) (sym parts.at) }))
              | inr far ↦ inl (sym (ap (λ b. cond b true (list_any (nat_eq q) old)) far) ∙ sym (low q) ∙ h2)
            ]
      ];
      kept = λ l h. level l ∙ one-more at l _ h;
      levels = λ l h. elim (cases_Bool (nat_eq at l)) [
        | inl same ↦ inr (sym (eqb-true at l same) ∙ sym parts.at, let s = parts.small in let e = eqb-true at l same in omega (arith, s, e))
        | inr other ↦ inl (sym (ap (λ b. cond b true (list_any (nat_eq l) before)) other) ∙ sym (level l) ∙ h)
      ];
      closed = inr (record {
        at = at;
        lo = lo;
        hi = hi;
        parts = parts;
        level = level at ∙ ap (λ b. cond b true (list_any (nat_eq at) before)) (eq-eqb at at refl);
        low = high lo ∙ one-more hi lo _ (low lo ∙ ap (λ b. cond b true (list_any (nat_eq lo) old)) (eq-eqb lo lo refl));
        high = high hi ∙ ap (λ b. cond b true (list_any (nat_eq hi) mid)) (eq-eqb hi hi refl);
      });
    }
  where
    small : level_of ts n < 2 ^ 32
    small = let e = parts.at in let m = parts.small in omega (arith, e, m)

pub agree-at : (ls : List ℕ) (a b : Bits) → Agree ls a b → (l : ℕ) → IsListed ls l → a l ≡ b l
agree-at [] a b h l there = absurd (true≢false (sym there))
agree-at (k ∷ ks) a b h l there = elim (cases_Bool (nat_eq l k)) [
  | inl same ↦ let e : l ≡ k = eqb-true l k same in ap a e ∙ h.0 ∙ sym (ap b e)
  | inr other ↦ agree-at ks a b h.1 l (sym (ap (λ c. c || list_any (nat_eq l) ks) other) ∙ there)
]

-- the same, in another order
pub depends-listed : (ts : List Triple) (n : ℕ) (levels list : List ℕ) → ((l : ℕ) → list_any (nat_eq l) list ≡ list_any (nat_eq l) levels) → IsWithin ts n levels → DependsOn ts n list
depends-listed ts n levels list same w = record { agrees = λ a b h. w.agrees a b (λ l there. agree-at list a b h l (same l ∙ there)) }

pub contains-listed : (xs : List ℕ) (l : ℕ) → Contains xs l → IsListed xs l
contains-listed xs l h = list_any_at (nat_eq l) xs h.0 l h.1 (eq-eqb l _ (sym h.2))
