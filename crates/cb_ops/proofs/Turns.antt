-- The laws behind `compose_all`: levels replaced one after another.
use Rattle.std.proofs.Common.{◌≡◌, ℕ, zero, suc, ◌+◌, ◌-◌, ◌*◌, ◌<◌, ◌≤◌, ◌^◌, min, false, ◌||◌, Bool, true, List, [], ◌∷◌, take, length, get_or, nat_eq, None, Some, Result, Err, if◌then◌else◌, refl, sym, ap, subst, ◌∙◌, inl, inr, arith, cond, ◌&&◌}
use Rattle.std.proofs.lemmas.Bool.{cases_Bool, cases_eq, eq-eqb, ne_eqb, eqb-true, true≢false}
use Rattle.std.proofs.lemmas.Option.{slice_get_within, get_or_from_slice_get}
use Rattle.std.proofs.lemmas.List.{get_or-take}
use Rattle.std.proofs.lemmas.List.Folds.{list_any_more}
use Rattle.std.proofs.lemmas.List.Filters.{length-filter_more}
use Rattle.std.proofs.lemmas.List.Kept.{AllPairs-from_increasing, IsStrictlyIncreasing-filter}
use Rattle.std.proofs.lemmas.Map.Views.{any-filter_same}
use Rattle.std.proofs.lemmas.Map.Views.{Contains-from_any}
use Rattle.std.proofs.lemmas.List.{length-take-le}
use Rattle.std.proofs.Math.Nat.{mul-le-mul_right}
use Rattle.std.specs.List.{list_any, filter, AllPairs, Contains}
use Rattle.std.specs.Option.{is_some}
use Rattle.std.specs.List.Sorted.{IsStrictlyIncreasing}
use Rattle.cb_model.specs.Bits.{Bits, put}
use Rattle.cb_dd.specs.declared.Triple.{Triple}
use Rattle.cb_dd.specs.declared.Node.{Node}
use Rattle.cb_dd.specs.declared.Stop.{Stop}
use Rattle.cb_dd.specs.declared.Stop.TheVariants.{Nodes}
use Rattle.cb_dd.specs.Diagram.{Store, IsNode, IsDiagram, function_of, fulls_after}
use Rattle.cb_ops.specs.Ops.{DependsOn, StandsFor, IsFree, Room, Grows}
use Rattle.cb_ops.specs.Support.{IsListed}
use Rattle.cb_ops.specs.Substitute.{Images, AreNodes, Spreads, image_of, substituted}
use Rattle.cb_ops.specs.Composed.{AreLower, ComposedRoom, ComposedCause, LevelRoom, is_replaced}
use Rattle.cb_ops.proofs.Ite.{agree-absent, put-id, put-same, put-other, without, without-lt, grown-function, grown-depends, Grows-same, Grows-then}
use Rattle.cb_ops.proofs.Gather.{agree-at, listed-place}
use Rattle.cb_ops.proofs.Substitute.{agree-build, cases-image, at-some, at-none, image-node, substituted-grown}

-- ---- levels that rise, each of them in another list, are no more than that list

still-listed : (k : ℕ) (ls : List ℕ) (l : ℕ) → (l ≡ k → ⊥) → IsListed ls l → IsListed (without k ls) l
unfolding without
still-listed k [] l other there = there
still-listed k (x ∷ xs) l other there = elim (cases_Bool (nat_eq x k)) [
  | inl same ↦
      let e : x ≡ k = eqb-true x k same in
      let away : nat_eq l x ≡ false = ne_eqb l x (λ (p : l ≡ x). other (p ∙ e)) in
      subst (λ c. IsListed (if c then without k xs else x ∷ without k xs) l) (sym same) (still-listed k xs l other (sym (ap (λ b. b || list_any (nat_eq l) xs) away) ∙ there))
  | inr keeps ↦ subst (λ c. IsListed (if c then without k xs else x ∷ without k xs) l) (sym keeps) (elim (cases_Bool (nat_eq l x)) [
    | inl here ↦ ap (λ b. b || list_any (nat_eq l) (without k xs)) here
    | inr away ↦ ap (λ b. b || list_any (nat_eq l) (without k xs)) away ∙ still-listed k xs l other (sym (ap (λ b. b || list_any (nat_eq l) xs) away) ∙ there)
  ])
]

in-tail : (x : ℕ) (xs : List ℕ) (l : ℕ) → IsListed xs l → IsListed (x ∷ xs) l
in-tail x xs l there = elim (cases_Bool (nat_eq l x)) [
  | inl here ↦ ap (λ b. b || list_any (nat_eq l) xs) here
  | inr away ↦ ap (λ b. b || list_any (nat_eq l) xs) away ∙ there
]

pairs-count : (xs ls : List ℕ) → AllPairs (λ (x y : ℕ). x < y) xs → ((l : ℕ) → IsListed xs l → IsListed ls l) → length xs ≤ length ls
pairs-count [] ls rise all = omega arith
pairs-count (x ∷ xs) ls rise all =
    let there : IsListed ls x = all x (ap (λ b. b || list_any (nat_eq x) xs) (eq-eqb x x refl)) in
    let m = pairs-count xs (without x ls) (λ i j d lt within. rise (suc i) (suc j) d (omega arith) (omega arith)) (λ l h.
    let p = listed-place xs l h in
    let within : p.0 < length xs = slice_get_within xs p.0 l p.1 in
    let lt : x < get_or xs p.0 l = rise zero (suc p.0) l (omega arith) (omega arith) in
    let at : get_or xs p.0 l ≡ l = get_or_from_slice_get xs p.0 l l p.1 in
    still-listed x ls l (λ (e : l ≡ x). omega (arith, lt, at, e)) (all l (in-tail x xs l h))) in
    let n = without-lt x ls there in
    omega (arith, m, n)

-- the levels on which a node depends are among those on which alone it depends
support-listed : (ts : List Triple) (f : ℕ) (levels ls : List ℕ) → ((l : ℕ) → Contains levels l → IsFree ts f l → ⊥) → DependsOn ts f ls → (l : ℕ) → IsListed levels l → IsListed ls l
support-listed ts f levels ls needed d l there = elim (cases_Bool (list_any (nat_eq l) ls)) [
  | inl here ↦ here
  | inr none ↦ absurd (needed l (Contains-from_any (λ x y e. eqb-true x y e) l levels there) (λ a b. d.agrees (put l b a) a (agree-absent l ls a b none)))
]

both-true : (b c : Bool) → b && c ≡ true → (b ≡ true) × (c ≡ true)
both-true true c h = (refl, h)
both-true false c h = absurd (true≢false (sym h))

module _ (p : ℕ → Bool) where
  listed-filter : (l : ℕ) (xs : List ℕ) → list_any (nat_eq l) (filter p xs) ≡ p l && list_any (nat_eq l) xs
  listed-filter l xs = any-filter_same (nat_eq l) p (p l) (λ k e. ap p (sym (eqb-true l k e))) xs

  filter-take : (xs : List ℕ) (k : ℕ) → length (filter p (take k xs)) ≤ length (filter p xs)
  filter-take [] zero = omega arith
  filter-take [] (suc k) = omega arith
  filter-take (x ∷ xs) zero = omega arith
  filter-take (x ∷ xs) (suc k) = elim (p x) as (λ b. length (cond b (x ∷ filter p (take k xs)) (filter p (take k xs))) ≤ length (cond b (x ∷ filter p xs) (filter p xs))) [
    | true ↦ omega (arith, filter-take xs k)
    | false ↦ filter-take xs k
  ]

  -- of the first levels on which a node depends those that pass are no more than those of the list
  chosen-count : (ts : List Triple) (f : ℕ) (levels ls : List ℕ) → IsStrictlyIncreasing levels → ((l : ℕ) → Contains levels l → IsFree ts f l → ⊥) → DependsOn ts f ls → (k : ℕ) → length (filter p (take k levels)) ≤ length (filter p ls)
  chosen-count ts f levels ls rise needed d k =
      let m = pairs-count (filter p levels) (filter p ls) (AllPairs-from_increasing (filter p levels) (IsStrictlyIncreasing-filter p levels rise)) (λ l there.
      let h = both-true (p l) (list_any (nat_eq l) levels) (sym (listed-filter l levels) ∙ there) in
      listed-filter l ls ∙ ap (λ b. b && list_any (nat_eq l) ls) h.0 ∙ support-listed ts f levels ls needed d l h.1) in
      let n = filter-take levels k in
      omega (arith, m, n)

-- ---- the bits where the levels of a list are replaced, and no others

abbrev pub begun : List Triple → Images → List ℕ → Bits → Bits
begun ts list ks a = λ l. if list_any (nat_eq l) ks then substituted ts list a l else a l

begun-there : (ts : List Triple) (list : Images) (ks : List ℕ) (a : Bits) (l : ℕ) → IsListed ks l → begun ts list ks a l ≡ substituted ts list a l
begun-there ts list ks a l there = ap (λ b. if b then substituted ts list a l else a l) there

begun-away : (ts : List Triple) (list : Images) (ks : List ℕ) (a : Bits) (l : ℕ) → list_any (nat_eq l) ks ≡ false → begun ts list ks a l ≡ a l
begun-away ts list ks a l away = ap (λ b. if b then substituted ts list a l else a l) away

module _ (ts : List Triple) (list : Images) (lower : AreLower ts list) (level : ℕ) (a : Bits) where
  -- a lower level is replaced by the same bit after the level is
  lower-same : (l : ℕ) → l < level → substituted ts list (put level (substituted ts list a level) a) l ≡ substituted ts list a l
  lower-same l less = elim (cases-image (image_of list level)) [
    | inr e ↦ ap (λ (b : Bits). substituted ts list b l) (put-id a level (substituted ts list a level) (sym (at-none ts list a level e)))
    | inl g ↦ elim (cases-image (image_of list l)) [
      | inl m ↦ at-some ts list (put level (substituted ts list a level) a) l m.0 m.1 ∙ lower.free l level m.0 g.0 m.1 g.1 less a (substituted ts list a level) ∙ sym (at-some ts list a l m.0 m.1)
      | inr e ↦ at-none ts list (put level (substituted ts list a level) a) l e ∙ put-other a level (substituted ts list a level) l (λ (p : l ≡ level). omega (arith, less, p)) ∙ sym (at-none ts list a l e)
    ]
  ]

  begun-next : (ks more : List ℕ) → ((l : ℕ) → IsListed ks l → l < level) → ((l : ℕ) → list_any (nat_eq l) more ≡ (list_any (nat_eq l) ks || nat_eq l level)) → begun ts list ks (put level (substituted ts list a level) a) ≡ begun ts list more a
  begun-next ks more below says = λ i l. at l i
    where
      at : (l : ℕ) → begun ts list ks (put level (substituted ts list a level) a) l ≡ begun ts list more a l
      at l = elim (cases_Bool (list_any (nat_eq l) ks)) [
        | inl there ↦ begun-there ts list ks (put level (substituted ts list a level) a) l there ∙ lower-same l (below l there) ∙ sym (begun-there ts list more a l (says l ∙ ap (λ b. b || nat_eq l level) there))
        | inr away ↦ begun-away ts list ks (put level (substituted ts list a level) a) l away ∙ elim (cases_eq l level) [
          | inl same ↦ put-same a level l (substituted ts list a level) same ∙ ap (substituted ts list a) (sym same) ∙ sym (begun-there ts list more a l (says l ∙ ap (λ b. b || nat_eq l level) away ∙ eq-eqb l level same))
          | inr other ↦ put-other a level (substituted ts list a level) l other ∙ sym (begun-away ts list more a l (says l ∙ ap (λ b. b || nat_eq l level) away ∙ ne_eqb l level other))
        ]
      ]

-- where all levels of a node are replaced it doesn't matter what others are
begun-all : (ts : List Triple) (list : Images) (f : ℕ) (levels : List ℕ) → DependsOn ts f levels → (a : Bits) → function_of ts f (begun ts list levels a) ≡ function_of ts f (substituted ts list a)
begun-all ts list f levels d a = d.agrees _ _ (agree-build levels _ _ (λ l there. begun-there ts list levels a l there))

module _ (ts : List Triple) (list : Images) (f : ℕ) (ls : List ℕ) (sp : Spreads ts f list ls ls) where
  replaced-alike : (a b : Bits) → ((l : ℕ) → IsListed ls l → a l ≡ b l) → (l : ℕ) → IsListed ls l → substituted ts list a l ≡ substituted ts list b l
  replaced-alike a b h l there = elim (cases-image (image_of list l)) [
    | inl m ↦ at-some ts list a l m.0 m.1 ∙ (sp.images l m.0 m.1).agrees a b (agree-build ls a b h) ∙ sym (at-some ts list b l m.0 m.1)
    | inr e ↦ at-none ts list a l e ∙ h l there ∙ sym (at-none ts list b l e)
  ]

  -- a node with some of its levels replaced depends on no other levels
  begun-depends : (us : List Triple) (n : ℕ) (ks : List ℕ) → StandsFor us n (λ a. function_of ts f (begun ts list ks a)) → DependsOn us n ls
  begun-depends us n ks is = record {
    agrees = λ a b h.
        is.at a
        ∙ sp.depends.agrees _ _ (agree-build ls _ _ (λ l there. elim (cases_Bool (list_any (nat_eq l) ks)) [
          | inl done ↦ begun-there ts list ks a l done ∙ replaced-alike a b (agree-at ls a b h) l there ∙ sym (begun-there ts list ks b l done)
          | inr open_yet ↦ begun-away ts list ks a l open_yet ∙ agree-at ls a b h l there ∙ sym (begun-away ts list ks b l open_yet)
        ]))
        ∙ sym (is.at b);
  }

-- ---- one level

pub level-none : (ts : List Triple) (list : Images) (f level : ℕ) → image_of list level ≡ None → StandsFor ts f (λ a. function_of ts f (put level (substituted ts list a level) a))
level-none ts list f level e = record { at = λ a. sym (ap (function_of ts f) (put-id a level (substituted ts list a level) (sym (at-none ts list a level e)))) }

pub level-still : (s : Store) (f level : ℕ) (list : Images) → image_of list level ≡ None → LevelRoom f level list s s
level-still s f level list e = record { most = λ ls sp. subst (λ o. length s.triples + cond (is_some o) 3 0 ≤ length s.triples + cond (is_some o) 1 0 * (3 * 2 ^ length ls)) (sym e) (omega arith) }

pub level-some : (ts us : List Triple) (list : Images) (f level : ℕ) (g : Node) (r : ℕ) → image_of list level ≡ Some g → StandsFor us r (λ a. function_of ts f (put level (function_of ts g.0 a) a)) → StandsFor us r (λ a. function_of ts f (put level (substituted ts list a level) a))
level-some ts us list f level g r e is = record { at = λ a. is.at a ∙ ap (λ b. function_of ts f (put level b a)) (sym (at-some ts list a level g e)) }

pub level-room : (s t : Store) (list : Images) (f level : ℕ) (g : Node) → image_of list level ≡ Some g → Room (f ∷ g.0 ∷ []) 3 s t → LevelRoom f level list s t
level-room s t list f level g e room = record {
  most = λ ls sp.
      let m = room.most ls (sp.depends, (sp.images level g e, tt)) in
      subst (λ o. length t.triples + cond (is_some o) 3 0 ≤ length s.triples + cond (is_some o) 1 0 * (3 * 2 ^ length ls)) (sym e) (omega (arith, m));
}

-- ---- one level after another

mul_sum : (a b c : ℕ) → (a + b) * c ≡ a * c + b * c
mul_sum a b c = grind arith

three-where : (b : Bool) → b ≡ true → 3 ≤ cond b 3 0
three-where true e = omega arith
three-where false e = absurd (true≢false (sym e))

-- the first levels are replaced
pub record Composing (k f : ℕ) (list : Images) (levels : List ℕ) (s t : Store) (n : ℕ) : Type 0 where
  pub grows : Grows s t
  pub node : IsNode t.triples n
  pub is : StandsFor t.triples n (λ a. function_of s.triples f (begun s.triples list (take k levels) a))
  pub most : (ls : List ℕ) → Spreads s.triples f list ls ls → length t.triples ≤ length s.triples + length (filter (is_replaced list) (take k levels)) * (3 * 2 ^ length ls)
  pub fulls : t.fulls ≡ s.fulls
  pub diagram : IsDiagram t.triples

pub composing-first : (f : ℕ) (list : Images) (levels : List ℕ) (s : Store) → IsNode s.triples f → IsDiagram s.triples → Composing 0 f list levels s s f
composing-first f list levels s w is = record { diagram = is; grows = Grows-same s; node = w; is = record { at = λ a. refl }; most = λ ls sp. let e : length (filter (is_replaced list) (take 0 levels)) ≡ 0 = ap (λ xs. length (filter (is_replaced list) xs)) (take-none levels) in omega (arith, e); fulls = refl }
  where
    take-none : (xs : List ℕ) → take 0 xs ≡ []
    take-none [] = refl
    take-none (x ∷ xs) = refl

module _ (k f : ℕ) (list : Images) (levels : List ℕ) (s t u : Store) (n : ℕ) (ws : AreNodes s.triples list) (so : Composing k f list levels s t n) where
  spreads-here : (ls : List ℕ) → Spreads s.triples f list ls ls → Spreads t.triples n list ls ls
  spreads-here ls sp = record {
    depends = begun-depends s.triples list f ls sp t.triples n (take k levels) so.is;
    covers = λ l there e. there;
    images = λ l m e. grown-depends s t so.grows m.0 ls (image-node s.triples list l m ws e) (sp.images l m e);
  }

  module _ (less : k < length levels) (room : LevelRoom n (get_or levels k 0) list t u) where
    -- the room after one level more
    composing-most : (ls : List ℕ) → Spreads s.triples f list ls ls → length u.triples + cond (is_replaced list (get_or levels k 0)) 3 0 ≤ length s.triples + length (filter (is_replaced list) (take (k + 1) levels)) * (3 * 2 ^ length ls)
    composing-most ls sp =
        let m = room.most ls (spreads-here ls sp) in
        let o = so.most ls sp in
        let c : length (filter (is_replaced list) (take (k + 1) levels)) ≡ length (filter (is_replaced list) (take k levels)) + cond (is_replaced list (get_or levels k 0)) 1 0 = length-filter_more (is_replaced list) levels k 0 less in
        let e : length (filter (is_replaced list) (take (k + 1) levels)) * (3 * 2 ^ length ls) ≡ length (filter (is_replaced list) (take k levels)) * (3 * 2 ^ length ls) + cond (is_replaced list (get_or levels k 0)) 1 0 * (3 * 2 ^ length ls) =
        ap (λ i. i * (3 * 2 ^ length ls)) c ∙ mul_sum (length (filter (is_replaced list) (take k levels))) (cond (is_replaced list (get_or levels k 0)) 1 0) (3 * 2 ^ length ls) in
        omega (arith, m, o, e)

  module _ (rise : IsStrictlyIncreasing levels) (needed : (l : ℕ) → Contains levels l → IsFree s.triples f l → ⊥) (less : k < length levels) (room : LevelRoom n (get_or levels k 0) list t u) where
    most-of : (ls : List ℕ) → Spreads s.triples f list ls ls → length u.triples + cond (is_replaced list (get_or levels k 0)) 3 0 ≤ length s.triples + length (filter (is_replaced list) ls) * (3 * 2 ^ length ls)
    most-of ls sp =
        let m : length (filter (is_replaced list) (take (k + 1) levels)) * (3 * 2 ^ length ls) ≤ length (filter (is_replaced list) ls) * (3 * 2 ^ length ls) =
        mul-le-mul_right {m = length (filter (is_replaced list) (take (k + 1) levels))} {n = length (filter (is_replaced list) ls)} (3 * 2 ^ length ls) (chosen-count (is_replaced list) s.triples f levels ls rise needed sp.depends (k + 1)) in
        let o = composing-most less room ls sp in
        omega (arith, m, o)

    pub composing-stop : ComposedRoom f list s u
    composing-stop = record { most = λ ls sp. let m = most-of ls sp in omega (arith, m) }

    pub composing-cause : (r : Result Node Stop) → (r ≡ Err Nodes → is_replaced list (get_or levels k 0) ≡ true) → Grows t u → u.fulls ≡ fulls_after t.fulls r → (r ≡ Err Nodes → length u.triples ≡ u.budget) → r ≡ Err Nodes → ComposedCause f list s u
    composing-cause r replaced tu fulls full stop =
        let risen : u.fulls ≡ min (s.fulls + 1) (2 ^ 64 - 1) = fulls ∙ ap (fulls_after t.fulls) stop ∙ ap (λ n. min (n + 1) (2 ^ 64 - 1)) so.fulls in
        let filled = full stop in
        let same : u.budget ≡ s.budget = tu.budget ∙ so.grows.budget in
        record {
          rose = omega (arith, risen);
          below = λ ls sp. let m = most-of ls sp in let e = three-where (is_replaced list (get_or levels k 0)) (replaced stop) in omega (arith, m, e, filled, same);
        }

    pub composing-next : (r : ℕ) (lower : AreLower s.triples list) → Grows t u → IsDiagram u.triples → IsNode u.triples r
        → StandsFor u.triples r (λ a. function_of t.triples n (put (get_or levels k 0) (substituted t.triples list a (get_or levels k 0)) a)) → u.fulls ≡ t.fulls → Composing (k + 1) f list levels s u r
    composing-next r lower tu diagram w is same = record {
      diagram = diagram;
      grows = Grows-then s t u so.grows tu;
      node = w;
      is = record {
        at = λ a.
            is.at a
            ∙ ap (λ (b : Bits). function_of t.triples n (put (get_or levels k 0) (b (get_or levels k 0)) a)) (substituted-grown s t so.grows list ws a)
            ∙ so.is.at (put (get_or levels k 0) (substituted s.triples list a (get_or levels k 0)) a)
            ∙ ap (function_of s.triples f) (next a);
      };
      most = λ ls sp. let m = composing-most less room ls sp in omega (arith, m);
      fulls = same ∙ so.fulls;
    }
      where
        pairs : AllPairs (λ (x y : ℕ). x < y) levels
        pairs = AllPairs-from_increasing levels rise

        below : (l : ℕ) → IsListed (take k levels) l → l < get_or levels k 0
        below l there =
            let p = listed-place (take k levels) l there in
            let within : p.0 < length (take k levels) = slice_get_within (take k levels) p.0 l p.1 in
            let short : length (take k levels) ≡ k = length-take-le k levels (omega (arith, less)) in
            let at : get_or (take k levels) p.0 l ≡ l = get_or_from_slice_get (take k levels) p.0 l l p.1 in
            let same : get_or (take k levels) p.0 l ≡ get_or levels p.0 l = get_or-take k levels p.0 l (omega (arith, within, short)) in
            let lt : get_or levels p.0 l < get_or levels k l = pairs p.0 k l (omega (arith, within, short)) less in
            let e : get_or levels k l ≡ get_or levels k 0 = get_or-defaults levels k l 0 less in
            omega (arith, at, same, lt, e)
          where
            get_or-defaults : (xs : List ℕ) (i c d : ℕ) → i < length xs → get_or xs i c ≡ get_or xs i d
            get_or-defaults [] i c d h = absurd (omega arith)
            get_or-defaults (x ∷ xs) zero c d h = refl
            get_or-defaults (x ∷ xs) (suc i) c d h = get_or-defaults xs i c d (omega arith)

        next : (a : Bits) → begun s.triples list (take k levels) (put (get_or levels k 0) (substituted s.triples list a (get_or levels k 0)) a) ≡ begun s.triples list (take (k + 1) levels) a
        next a = begun-next s.triples list lower (get_or levels k 0) a (take k levels) (take (k + 1) levels) below (λ l. list_any_more (nat_eq l) levels k 0 less)

-- all levels are replaced
pub composing-done : (k f : ℕ) (list : Images) (levels : List ℕ) (s t : Store) (n : ℕ) → Composing k f list levels s t n → length levels ≤ k → DependsOn s.triples f levels → StandsFor t.triples n (λ a. function_of s.triples f (substituted s.triples list a))
composing-done k f list levels s t n so all d = record {
  at = λ a.
      so.is.at a ∙ ap (λ (ks : List ℕ). function_of s.triples f (begun s.triples list ks a)) (take-past levels k all)
      ∙ begun-all s.triples list f levels d a;
}
  where
    take-past : (xs : List ℕ) (i : ℕ) → length xs ≤ i → take i xs ≡ xs
    take-past [] zero h = refl
    take-past [] (suc i) h = refl
    take-past (x ∷ xs) zero h = absurd (omega arith)
    take-past (x ∷ xs) (suc i) h = ap (λ ys. x ∷ ys) (take-past xs i (omega arith))

pub composing-room : (k f : ℕ) (list : Images) (levels : List ℕ) (s t : Store) (n : ℕ) → Composing k f list levels s t n → IsStrictlyIncreasing levels → ((l : ℕ) → Contains levels l → IsFree s.triples f l → ⊥) → ComposedRoom f list s t
composing-room k f list levels s t n so rise needed = record {
  most = λ ls sp.
      let m : length (filter (is_replaced list) (take k levels)) * (3 * 2 ^ length ls) ≤ length (filter (is_replaced list) ls) * (3 * 2 ^ length ls) =
      mul-le-mul_right {m = length (filter (is_replaced list) (take k levels))} {n = length (filter (is_replaced list) ls)} (3 * 2 ^ length ls) (chosen-count (is_replaced list) s.triples f levels ls rise needed sp.depends k) in
      let o = so.most ls sp in
      omega (arith, m, o);
}

-- ---- the images when nodes are added

pub lower-grown : (s t : Store) → Grows s t → (list : Images) → AreNodes s.triples list → AreLower s.triples list → AreLower t.triples list
lower-grown s t g list ws lower = record {
  free = λ l k m n e h less a b.
      let w : IsNode s.triples m.0 = image-node s.triples list l m ws e in
      grown-function s t g m.0 w (put k b a) ∙ lower.free l k m n e h less a b ∙ sym (grown-function s t g m.0 w a);
}
