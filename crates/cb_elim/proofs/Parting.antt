-- The differences of pairs as parts, and the levels on which they depend.
use Rattle.std.proofs.Common.{◌≡◌, ◌⊎◌, inl, inr, ℕ, zero, suc, ◌+◌, ◌*◌, ◌^◌, ◌<◌, ◌≤◌, Bool, false, ◌||◌, List, [], ◌∷◌, ◌++◌, length, take, get_or, nat_eq, reverse, if◌then◌else◌, refl, sym, ap, ap₂, subst, ◌∙◌, arith}
use Rattle.std.specs.Prelude.{Contains}
use Rattle.std.proofs.lemmas.Bool.{cases_Bool, cases_lt, eqb-true, true≢false}
use Rattle.std.proofs.lemmas.List.{take_more}
use Rattle.std.proofs.lemmas.Map.Views.{Contains-from_any}
use Rattle.std.proofs.Math.Nat.{mul-le-mul_right}
use Rattle.std.proofs.Math.Path.{fun_ext}
use Rattle.std.specs.List.{list_any}
use Rattle.std.specs.List.Sorted.{IsStrictlyIncreasing}
use Rattle.indexmap.specs.IndexSet.{insert_key}
use Rattle.cb_model.specs.Bits.{Bits, Each, put, xor}
use Rattle.cb_dd.specs.declared.Node.{Node}
use Rattle.cb_dd.specs.declared.Triple.{Triple}
use Rattle.cb_dd.specs.Diagram.{Store, IsNode, function_of}
use Rattle.cb_ops.specs.Ops.{Grows, DependsOn, IsFree, Room, StandsFor}
use Rattle.cb_ops.specs.Support.{IsListed}
use Rattle.cb_ops.specs.Substitute.{Images}
use Rattle.cb_ops.proofs.Ite.{agree-absent, grown-function, grown-node, grown-depends, Grows-same, Grows-then}
use Rattle.cb_boole.specs.Elimination.{Function, DependsOnly, rest, solved}
use Rattle.cb_boole.proofs.Only.{weaker}
use Rattle.cb_solution.specs.Differ.{ArePairs, DependPairs, some_differ}
use Rattle.cb_solution.specs.Parts.{AreParts, HasLeft, PartsDepend, PartsRoom, Solves, some_one}
use Rattle.cb_solution.proofs.Solved.{listed-here, only-from}
use Rattle.cb_solution.proofs.Stages.{solves-lower}
use Rattle.cb_elim.specs.Equation.{differ}
use Rattle.cb_elim.specs.Pairs.{AreDifferences, ArePairsGeneral, ArePairsLevels, ArePartsLevels, DifferencesRoom, HavePairsNoSolution, PairsSidesRoom}
use Rattle.cb_elim.proofs.Falling.{falling-reverse, from-reverse, listed-either, listed-left, listed-one, listed-reverse, listed-right}
use Rattle.cb_elim.proofs.Rooms.{falling-fit}

-- ---- the levels of a list, but for the constants

module _ (xs ys : List ℕ) (v : ℕ) (e : ys ≡ insert_key nat_eq xs v) where
  inserted-is : (ys ≡ xs) × IsListed xs v ⊎ (ys ≡ xs ++ v ∷ [])
  inserted-is = elim (cases_Bool (list_any (nat_eq v) xs)) [
    | inl there ↦ inl (e ∙ ap (λ c. if c then xs else xs ++ v ∷ []) there, there)
    | inr none ↦ inr (e ∙ ap (λ c. if c then xs else xs ++ v ∷ []) none)
  ]

  pub inserted-kept : (l : ℕ) → IsListed xs l → IsListed ys l
  inserted-kept l h = elim inserted-is [
    | inl w ↦ subst (λ (zs : List ℕ). IsListed zs l) (sym w.0) h
    | inr w ↦ subst (λ (zs : List ℕ). IsListed zs l) (sym w) (listed-left xs (v ∷ []) l h)
  ]

  pub inserted-here : IsListed ys v
  inserted-here = elim inserted-is [
    | inl w ↦ subst (λ (zs : List ℕ). IsListed zs v) (sym w.0) w.1
    | inr w ↦ subst (λ (zs : List ℕ). IsListed zs v) (sym w) (listed-right xs (v ∷ []) v (listed-here v []))
  ]

  pub inserted-from : (l : ℕ) → IsListed ys l → IsListed xs l ⊎ (l ≡ v)
  inserted-from l h = elim inserted-is [
    | inl w ↦ inl (subst (λ (zs : List ℕ). IsListed zs l) w.0 h)
    | inr w ↦ elim (listed-either xs (v ∷ []) l (subst (λ (zs : List ℕ). IsListed zs l) w h)) [
      | inl there ↦ inl there
      | inr here ↦ inr (listed-one v l here)
    ]
  ]

-- ---- the levels of all parts

each-more : (P : Node → Type 0) (ns : List Node) (n : Node) → Each P ns → P n → Each P (ns ++ n ∷ [])
each-more P [] n h w = (w, tt)
each-more P (m ∷ ns) n h w = (h.0, each-more P ns n h.1 w)

each-map : (P Q : Node → Type 0) (ns : List Node) → ((n : Node) → P n → Q n) → Each P ns → Each Q ns
each-map P Q [] f h = tt
each-map P Q (n ∷ ns) f h = (f n h.0, each-map P Q ns f h.1)

pub each-at : (P : Node → Type 0) (ns : List Node) (k : ℕ) (d : Node) → Each P ns → k < length ns → P (get_or ns k d)
each-at P [] k d h less = absurd (omega (arith, less))
each-at P (n ∷ ns) zero d h less = h.0
each-at P (n ∷ ns) (suc k) d h less = each-at P ns k d h.1 (omega (arith, less))

-- the levels of the first so many parts
pub record LevelsSo (constants : ℕ) (ts : List Triple) (ns : List Node) (i : ℕ) (keys : List ℕ) : Type 0 where
  pub from : (l : ℕ) → IsListed keys l → (constants ≤ l) × (Each (λ n. IsFree ts n.0 l) ns → ⊥)
  pub whole : Each (λ n. DependsOnly (λ l. (l < constants) ⊎ IsListed keys l) (function_of ts n.0)) (take i ns)

pub levels-first : (constants : ℕ) (ts : List Triple) (ns : List Node) (keys : List ℕ) → keys ≡ [] → LevelsSo constants ts ns 0 keys
levels-first constants ts ns keys e = record {
  from = λ l h. absurd (true≢false (sym (subst (λ (ks : List ℕ). IsListed ks l) e h)));
  whole = none ns;
}
  where
    none : (ms : List Node) → Each (λ n. DependsOnly (λ l. (l < constants) ⊎ IsListed keys l) (function_of ts n.0)) (take 0 ms)
    none [] = tt
    none (m ∷ ms) = tt

module _ (constants : ℕ) (ts : List Triple) (ns : List Node) (i : ℕ) (d : Node) (old new support : List ℕ) (so : LevelsSo constants ts ns i old) (less : i < length ns)
    (enough : DependsOn ts (get_or ns i d).0 support) (needed : (l : ℕ) → Contains support l → IsFree ts (get_or ns i d).0 l → ⊥)
    (kept : (l : ℕ) → IsListed old l → IsListed new l) (from : (l : ℕ) → IsListed new l → IsListed old l ⊎ ((constants ≤ l) × IsListed support l)) (whole : (l : ℕ) → IsListed support l → constants ≤ l → IsListed new l) where
  pub levels-next : LevelsSo constants ts ns (i + 1) new
  levels-next = record {
    from = λ l h. elim (from l h) [
      | inl there ↦ so.from l there
      | inr w ↦ (w.0, λ free. needed l (Contains-from_any {eq = nat_eq} (λ x y e. eqb-true x y e) l support w.1) (each-at (λ n. IsFree ts n.0 l) ns i d free less))
    ];
    whole = subst (λ (ms : List Node). Each (λ n. DependsOnly (λ l. (l < constants) ⊎ IsListed new l) (function_of ts n.0)) ms) (sym (take_more ns i d less))
        (each-more (λ n. DependsOnly (λ l. (l < constants) ⊎ IsListed new l) (function_of ts n.0)) (take i ns) (get_or ns i d)
        (each-map (λ n. DependsOnly (λ l. (l < constants) ⊎ IsListed old l) (function_of ts n.0)) (λ n. DependsOnly (λ l. (l < constants) ⊎ IsListed new l) (function_of ts n.0)) (take i ns)
        (λ n only. weaker (λ l. (l < constants) ⊎ IsListed old l) (λ l. (l < constants) ⊎ IsListed new l) (function_of ts n.0) only (λ l h. elim h [ inl below ↦ inl below | inr there ↦ inr (kept l there) ])) so.whole)
        own);
  }
    where
      own : DependsOnly (λ l. (l < constants) ⊎ IsListed new l) (function_of ts (get_or ns i d).0)
      own p q alike = only-from ts (get_or ns i d).0 support enough p q (λ l there. elim (cases_lt l constants) [
        | inl below ↦ alike l (inl below)
        | inr above ↦ alike l (inr (whole l there above))
      ])

take-past : (ns : List Node) (i : ℕ) → length ns ≤ i → take i ns ≡ ns
take-past [] zero h = refl
take-past [] (suc i) h = refl
take-past (n ∷ ns) zero h = absurd (omega (arith, h))
take-past (n ∷ ns) (suc i) h = ap (λ ms. n ∷ ms) (take-past ns i (omega (arith, h)))

pub levels-end : (constants : ℕ) (ts : List Triple) (ns : List Node) (i : ℕ) (keys sorted levels : List ℕ) → LevelsSo constants ts ns i keys → length ns ≤ i →
    IsStrictlyIncreasing sorted → ((l : ℕ) → list_any (nat_eq l) sorted ≡ list_any (nat_eq l) keys) → levels ≡ reverse sorted → ArePartsLevels constants ts ns levels
levels-end constants ts ns i keys sorted levels so past rise same e = subst (λ (ls : List ℕ). ArePartsLevels constants ts ns ls) (sym e) (record {
  falls = falling-reverse sorted rise;
  free = λ l h. (so.from l (back l h)).0;
  needed = λ l h. (so.from l (back l h)).1;
  whole = each-map (λ n. DependsOnly (λ l. (l < constants) ⊎ IsListed keys l) (function_of ts n.0)) (λ n. DependsOnly (λ l. (l < constants) ⊎ IsListed (reverse sorted) l) (function_of ts n.0)) ns
      (λ n only. weaker (λ l. (l < constants) ⊎ IsListed keys l) (λ l. (l < constants) ⊎ IsListed (reverse sorted) l) (function_of ts n.0) only (λ l h. elim h [ inl below ↦ inl below | inr there ↦ inr (listed-reverse sorted l (same l ∙ there)) ]))
      (subst (λ (ms : List Node). Each (λ n. DependsOnly (λ l. (l < constants) ⊎ IsListed keys l) (function_of ts n.0)) ms) (take-past ns i past) so.whole);
})
  where
    back : (l : ℕ) → IsListed (reverse sorted) l → IsListed keys l
    back l h = sym (same l) ∙ from-reverse sorted l h

-- ---- the differences

pub pair-at : (P : Node × Node → Type 0) (qs : List (Node × Node)) (k : ℕ) (d : Node × Node) → Each P qs → k < length qs → P (get_or qs k d)
pair-at P [] k d h less = absurd (omega (arith, less))
pair-at P (q ∷ qs) zero d h less = h.0
pair-at P (q ∷ qs) (suc k) d h less = pair-at P qs k d h.1 (omega (arith, less))

differences-grown : (old : List Triple) (t u : Store) → Grows t u → (qs : List (Node × Node)) (ns : List Node) → AreDifferences old t.triples qs ns → AreDifferences old u.triples qs ns
differences-grown old t u tu [] [] h = tt
differences-grown old t u tu [] (n ∷ ns) h = h
differences-grown old t u tu (q ∷ qs) [] h = h
differences-grown old t u tu (q ∷ qs) (n ∷ ns) h = (
  (grown-node t u tu n.0 h.0.0, record { at = λ p. grown-function t u tu n.0 h.0.0 p ∙ h.0.1.at p }),
  differences-grown old t u tu qs ns h.1,
)

differences-more : (old new : List Triple) (qs : List (Node × Node)) (ns : List Node) (q : Node × Node) (n : Node) → AreDifferences old new qs ns → IsNode new n.0 → StandsFor new n.0 (differ old q.0.0 q.1.0) → AreDifferences old new (qs ++ q ∷ []) (ns ++ n ∷ [])
differences-more old new [] [] q n h w is = ((w, is), tt)
differences-more old new [] (m ∷ ns) q n h w is = absurd h
differences-more old new (r ∷ qs) [] q n h w is = absurd h
differences-more old new (r ∷ qs) (m ∷ ns) q n h w is = (h.0, differences-more old new qs ns q n h.1 w is)

-- the differences of the first so many pairs
pub record DifferencesSo (i : ℕ) (qs : List (Node × Node)) (s t : Store) (ns : List Node) : Type 0 where
  pub grows : Grows s t
  pub parts : AreDifferences s.triples t.triples (take i qs) ns
  pub most : (ls : List ℕ) → DependPairs s.triples qs ls → length t.triples ≤ length s.triples + i * (2 * 2 ^ length ls)
  pub fulls : t.fulls ≡ s.fulls

pub differences-first : (qs : List (Node × Node)) (s : Store) (ns : List Node) → ns ≡ [] → DifferencesSo 0 qs s s ns
differences-first qs s ns e = record {
  grows = Grows-same s;
  parts = subst (λ (ms : List Node). AreDifferences s.triples s.triples (take 0 qs) ms) (sym e) (none qs);
  most = λ ls d. omega arith;
  fulls = refl;
}
  where
    none : (rs : List (Node × Node)) → AreDifferences s.triples s.triples (take 0 rs) []
    none [] = tt
    none (r ∷ rs) = tt

module _ (i : ℕ) (qs : List (Node × Node)) (s t u : Store) (ns : List Node) (so : DifferencesSo i qs s t ns) (ws : ArePairs s.triples qs) (less : i < length qs) (d : Node × Node) (tu : Grows t u) where
  pair-there : IsNode s.triples (get_or qs i d).0.0 × IsNode s.triples (get_or qs i d).1.0
  pair-there = pair-at (λ q. IsNode s.triples q.0.0 × IsNode s.triples q.1.0) qs i d ws less

  pub first-there : IsNode t.triples (get_or qs i d).0.0
  first-there = grown-node s t so.grows (get_or qs i d).0.0 pair-there.0

  pub second-there : IsNode t.triples (get_or qs i d).1.0
  second-there = grown-node s t so.grows (get_or qs i d).1.0 pair-there.1

  module _ (room : Room ((get_or qs i d).0.0 ∷ (get_or qs i d).1.0 ∷ []) 2 t u) where
    most-differences : (ls : List ℕ) → DependPairs s.triples qs ls → length u.triples ≤ length s.triples + (i + 1) * (2 * 2 ^ length ls)
    most-differences ls e =
        let m = so.most ls e in
        let w : DependsOn s.triples (get_or qs i d).0.0 ls × DependsOn s.triples (get_or qs i d).1.0 ls = pair-at (λ q. DependsOn s.triples q.0.0 ls × DependsOn s.triples q.1.0 ls) qs i d e less in
        let r = room.most ls (grown-depends s t so.grows (get_or qs i d).0.0 ls pair-there.0 w.0, (grown-depends s t so.grows (get_or qs i d).1.0 ls pair-there.1 w.1, tt)) in
        let g : (i + 1) * (2 * 2 ^ length ls) ≡ i * (2 * 2 ^ length ls) + 2 * 2 ^ length ls = grind arith in
        omega (arith, m, r, g)

    pub differences-stop : DifferencesRoom qs s u
    differences-stop = record { most = λ ls e. let m = most-differences ls e in let p = mul-le-mul_right {m = i + 1} {n = length qs} (2 * 2 ^ length ls) (omega (arith, less)) in omega (arith, m, p) }

    pub differences-next : (n : Node) → IsNode u.triples n.0 → StandsFor u.triples n.0 (λ p. xor (function_of t.triples (get_or qs i d).0.0 p) (function_of t.triples (get_or qs i d).1.0 p)) → u.fulls ≡ t.fulls →
        (ms : List Node) → ms ≡ ns ++ n ∷ [] → DifferencesSo (i + 1) qs s u ms
    differences-next n wn is fulls ms pushed = record {
      grows = Grows-then s t u so.grows tu;
      parts = subst (λ (xs : List Node). AreDifferences s.triples u.triples (take (i + 1) qs) xs) (sym pushed)
          (subst (λ (rs : List (Node × Node)). AreDifferences s.triples u.triples rs (ns ++ n ∷ [])) (sym (take_more qs i d less))
          (differences-more s.triples u.triples (take i qs) ns (get_or qs i d) n (differences-grown s.triples t u tu (take i qs) ns so.parts) wn
          (record { at = λ p. is.at p ∙ ap₂ xor (grown-function s t so.grows (get_or qs i d).0.0 pair-there.0 p) (grown-function s t so.grows (get_or qs i d).1.0 pair-there.1 p) })));
      most = most-differences;
      fulls = fulls ∙ so.fulls;
    }

pairs-past : (qs : List (Node × Node)) (i : ℕ) → length qs ≤ i → take i qs ≡ qs
pairs-past [] zero h = refl
pairs-past [] (suc i) h = refl
pairs-past (q ∷ qs) zero h = absurd (omega (arith, h))
pairs-past (q ∷ qs) (suc i) h = ap (λ ms. q ∷ ms) (pairs-past qs i (omega (arith, h)))

pub differences-end : (i : ℕ) (qs : List (Node × Node)) (s t : Store) (ns : List Node) → DifferencesSo i qs s t ns → length qs ≤ i → AreDifferences s.triples t.triples qs ns
differences-end i qs s t ns so past = subst (λ (rs : List (Node × Node)). AreDifferences s.triples t.triples rs ns) (pairs-past qs i past) so.parts

pub differences-room : (i : ℕ) (qs : List (Node × Node)) (s t : Store) (ns : List Node) → DifferencesSo i qs s t ns → i ≤ length qs → DifferencesRoom qs s t
differences-room i qs s t ns so le = record { most = λ ls e. let m = so.most ls e in let p = mul-le-mul_right {m = i} {n = length qs} (2 * 2 ^ length ls) le in omega (arith, m, p) }

-- ---- what is known of the differences is known of the pairs

pub differences-there : (old new : List Triple) (qs : List (Node × Node)) (ns : List Node) → AreDifferences old new qs ns → AreParts new ns
differences-there old new [] [] h = tt
differences-there old new [] (n ∷ ns) h = absurd h
differences-there old new (q ∷ qs) [] h = absurd h
differences-there old new (q ∷ qs) (n ∷ ns) h = (h.0.0, differences-there old new qs ns h.1)

differences-one : (old new : List Triple) (qs : List (Node × Node)) (ns : List Node) → AreDifferences old new qs ns → (p : Bits) → some_one new ns p ≡ some_differ old qs p
differences-one old new [] [] h p = refl
differences-one old new [] (n ∷ ns) h p = absurd h
differences-one old new (q ∷ qs) [] h p = absurd h
differences-one old new (q ∷ qs) (n ∷ ns) h p = ap₂ ◌||◌ (h.0.1.at p) (differences-one old new qs ns h.1 p)

differences-number : (old new : List Triple) (qs : List (Node × Node)) (ns : List Node) → AreDifferences old new qs ns → length ns ≡ length qs
differences-number old new [] [] h = refl
differences-number old new [] (n ∷ ns) h = absurd h
differences-number old new (q ∷ qs) [] h = absurd h
differences-number old new (q ∷ qs) (n ∷ ns) h = ap suc (differences-number old new qs ns h.1)

differences-depend : (old new : List Triple) (qs : List (Node × Node)) (ns : List Node) (ls : List ℕ) → AreDifferences old new qs ns → DependPairs old qs ls → PartsDepend new ns ls
differences-depend old new [] [] ls h d = tt
differences-depend old new [] (n ∷ ns) ls h d = absurd h
differences-depend old new (q ∷ qs) [] ls h d = absurd h
differences-depend old new (q ∷ qs) (n ∷ ns) ls h d = (
  record { agrees = λ p r k. h.0.1.at p ∙ ap₂ xor (d.0.0.agrees p r k) (d.0.1.agrees p r k) ∙ sym (h.0.1.at r) },
  differences-depend old new qs ns ls h.1 d.1,
)

differences-free : (old new : List Triple) (qs : List (Node × Node)) (ns : List Node) (l : ℕ) → AreDifferences old new qs ns →
    Each (λ q. (p : Bits) (b : Bool) → differ old q.0.0 q.1.0 (put l b p) ≡ differ old q.0.0 q.1.0 p) qs → Each (λ n. IsFree new n.0 l) ns
differences-free old new [] [] l h f = tt
differences-free old new [] (n ∷ ns) l h f = absurd h
differences-free old new (q ∷ qs) [] l h f = absurd h
differences-free old new (q ∷ qs) (n ∷ ns) l h f = ((λ a b. h.0.1.at (put l b a) ∙ f.0 a b ∙ sym (h.0.1.at a)), differences-free old new qs ns l h.1 f.1)

some-only : (P : ℕ → Type 0) (ts : List Triple) (ns : List Node) → Each (λ n. DependsOnly P (function_of ts n.0)) ns → DependsOnly P (some_one ts ns)
some-only P ts [] h p q alike = refl
some-only P ts (n ∷ ns) h p q alike = ap₂ ◌||◌ (h.0 p q alike) (some-only P ts ns h.1 p q alike)

module _ (s t : Store) (st : Grows s t) (constants : ℕ) (qs : List (Node × Node)) (ns : List Node) (h : AreDifferences s.triples t.triples qs ns) (levels : List ℕ) (el : ArePartsLevels constants t.triples ns levels) where
  function-is : some_one t.triples ns ≡ some_differ s.triples qs
  function-is = fun_ext (λ p. differences-one s.triples t.triples qs ns h p)

  elimination : ArePairsLevels constants s.triples qs levels
  elimination = record {
    falls = el.falls;
    free = el.free;
    needed = λ l there free. el.needed l there (differences-free s.triples t.triples qs ns l h free);
    whole = subst (λ (f : Function). DependsOnly (λ l. (l < constants) ⊎ IsListed levels l) f) function-is (some-only (λ l. (l < constants) ⊎ IsListed levels l) t.triples ns el.whole);
  }

  pub pairs-no-solution : HasLeft (some_one t.triples ns) levels → HavePairsNoSolution s.triples constants qs
  pairs-no-solution r = record { levels = levels; elimination = elimination; at = r.at; left = ap (λ (f : Function). rest levels f r.at) (sym function-is) ∙ r.left }

  pub pairs-general : (u : Store) (images : Images) → Solves u.triples (some_one t.triples ns) levels images → ArePairsGeneral s.triples u.triples constants qs images
  pairs-general u images sol = record {
    levels = levels;
    elimination = elimination;
    none_left = λ p. ap (λ (f : Function). rest levels f p) (sym function-is) ∙ sol.none_left p;
    rise = sol.rise;
    within = sol.within;
    nodes = sol.nodes;
    lower = solves-lower u.triples (some_one t.triples ns) levels images el.falls sol;
    at = λ p. sol.at p ∙ ap (λ (f : Function). solved levels f p) function-is;
  }

  within : (ls : List ℕ) → PartsDepend t.triples ns ls → (l : ℕ) → IsListed levels l → IsListed ls l
  within ls d l there = elim (cases_Bool (list_any (nat_eq l) ls)) [
    | inl listed ↦ listed
    | inr away ↦ absurd (el.needed l there (all-free ns d away))
  ]
    where
      all-free : (ms : List Node) → PartsDepend t.triples ms ls → list_any (nat_eq l) ls ≡ false → Each (λ n. IsFree t.triples n.0 l) ms
      all-free [] e away = tt
      all-free (m ∷ ms) e away = ((λ a b. e.0.agrees (put l b a) a (agree-absent l ls a b away)), all-free ms e.1 away)

  pub sides-room-second : (u : Store) → DifferencesRoom qs s t → PartsRoom ns levels t u → PairsSidesRoom qs s u
  sides-room-second u first second = record {
    most = λ ls d.
        let e = differences-depend s.triples t.triples qs ns ls h d in
        let a = first.most ls d in
        let b = second.most ls e (within ls e) in
        let k = falling-fit levels ls el.falls (within ls e) in
        let c = mul-le-mul_right {m = length levels} {n = length ls} (6 * 2 ^ length ls + 2 ^ length ls * 2 ^ length ls) k in
        let n = differences-number s.triples t.triples qs ns h in
        total (length s.triples) (length t.triples) (length u.triples) (length qs) (length ns) (length levels * (6 * 2 ^ length ls + 2 ^ length ls * 2 ^ length ls)) (length ls * (6 * 2 ^ length ls + 2 ^ length ls * 2 ^ length ls)) (2 ^ length ls) a b c n;
  }
    where
      total : (s t u n m k l x : ℕ) → t ≤ s + n * (2 * x) → u ≤ t + m * x + k → k ≤ l → m ≡ n → u ≤ s + n * (3 * x) + l
      total s t u n m k l x a b c e =
          let f : m * x ≡ n * x = ap (λ i. i * x) e in
          let g : n * (3 * x) ≡ n * (2 * x) + n * x = grind arith in
          omega (arith, a, b, c, f, g)

pub sides-room-first : (qs : List (Node × Node)) (s t : Store) → DifferencesRoom qs s t → PairsSidesRoom qs s t
sides-room-first qs s t first = record {
  most = λ ls d. let a = first.most ls d in let g : length qs * (3 * 2 ^ length ls) ≡ length qs * (2 * 2 ^ length ls) + length qs * 2 ^ length ls = grind arith in omega (arith, a, g);
}
