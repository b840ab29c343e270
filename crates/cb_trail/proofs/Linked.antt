-- Uses linked by their levels.
use Rattle.std.proofs.Common.{◌≡◌, ◌≢◌, ◌⊎◌, inl, inr, ℕ, ◌+◌, ◌-◌, ◌<◌, ◌≤◌, true, List, [], ◌∷◌, ◌++◌, length, nat_eq, get_or, refl, sym, ap, subst, ◌∙◌, arith, length-append}
use Rattle.std.specs.Prelude.{cond, slice_set}
use Rattle.std.specs.List.{list_any}
use Rattle.std.proofs.lemmas.Bool.{cases_Bool, cases_eq, cases_lt, eq-eqb, eqb-true}
use Rattle.std.proofs.lemmas.List.{get_or_append_left, get_or_default, get_or_past}
use Rattle.std.proofs.Common.{get_or-set_other, get_or-set_same}
use Rattle.std.proofs.Math.Seq.{get_or-append_seam}
use Rattle.cb_trail.specs.declared.uses.Use.{Use}
use Rattle.cb_trail.specs.Uses.{IsIn, IsLast, IsLinked, IsUsed, StaysUsed}

-- of lists that begin alike the first uses have the same last
pub same-last : (us vs : List Use) (l n h : ℕ) → ((j : ℕ) (d : Use) → j < n → get_or vs j d ≡ get_or us j d) → IsLast us l n h → IsLast vs l n h
same-last us vs l n h same w = record {
  within = w.within;
  past = λ j d lo hi e. w.past j d lo hi (ap (λ (u : Use). u.level) (sym (same j d hi)) ∙ e);
  here = λ j d e. let le : h ≤ n = w.within in ap (λ (u : Use). u.level) (same j d (omega arith)) ∙ w.here j d e;
}

pub none-linked : IsLinked [] [] []
none-linked = record {
  number = refl;
  last = λ l. record { within = omega arith; past = λ j d lo hi e. absurd (omega arith); here = λ j d e. absurd (omega arith) };
  before = λ i d h. absurd (omega arith);
}

-- what the table says is all that counts of it
pub same-linked : (us : List Use) (bs hs gs : List ℕ) → ((l : ℕ) → get_or gs l 0 ≡ get_or hs l 0) → IsLinked us bs hs → IsLinked us bs gs
same-linked us bs hs gs same w = record {
  number = w.number;
  last = λ l. subst (λ h. IsLast us l (length us) h) (sym (same l)) (w.last l);
  before = w.before;
}

-- ---- a use more

module _ (us : List Use) (u : Use) where
  old-use : (j : ℕ) (d : Use) → j < length us → get_or (us ++ u ∷ []) j d ≡ get_or us j d
  old-use j d h = get_or_append_left us (u ∷ []) d j h

  new-use : (j : ℕ) (d : Use) → j ≡ length us → get_or (us ++ u ∷ []) j d ≡ u
  new-use j d e = ap (λ k. get_or (us ++ u ∷ []) k d) e ∙ get_or-append_seam us u [] d

  last-more : (l h : ℕ) → l ≢ u.level → IsLast us l (length us) h → IsLast (us ++ u ∷ []) l (length us + 1) h
  last-more l h other w = record {
    within = let le : h ≤ length us = w.within in omega arith;
    past = λ j d lo hi e. elim (cases_eq j (length us)) [
      | inl same ↦ other (sym e ∙ ap (λ (v : Use). v.level) (new-use j d same))
      | inr ne ↦ w.past j d lo (omega arith) (ap (λ (v : Use). v.level) (sym (old-use j d (omega arith))) ∙ e)
    ];
    here = λ j d e. let le : h ≤ length us = w.within in ap (λ (v : Use). v.level) (old-use j d (omega arith)) ∙ w.here j d e;
  }

  last-own : IsLast (us ++ u ∷ []) u.level (length us + 1) (length us + 1)
  last-own = record {
    within = omega arith;
    past = λ j d lo hi e. absurd (omega arith);
    here = λ j d e. ap (λ (v : Use). v.level) (new-use j d (omega arith));
  }

  pub linked-more : (bs cs hs gs : List ℕ) → IsLinked us bs hs → u.level < length hs → cs ≡ bs ++ get_or hs u.level 0 ∷ [] → gs ≡ slice_set hs u.level (length us + 1) → IsLinked (us ++ u ∷ []) cs gs
  linked-more bs cs hs gs w room before last =
      let long : length (us ++ u ∷ []) ≡ length us + 1 = omega (arith, length-append us (u ∷ [])) in
      record {
        number = ap length before ∙ omega (arith, length-append bs (get_or hs u.level 0 ∷ []), w.number, long);
        last = λ l. subst (λ n. IsLast (us ++ u ∷ []) l n (get_or gs l 0)) (sym long) (elim (cases_eq l u.level) [
          | inl same ↦
              subst (λ h. IsLast (us ++ u ∷ []) l (length us + 1) h) (sym (ap (λ xs. get_or xs l 0) last ∙ ap (λ k. get_or (slice_set hs u.level (length us + 1)) k 0) same ∙ get_or-set_same hs u.level (length us + 1) 0 room))
              (subst (λ k. IsLast (us ++ u ∷ []) k (length us + 1) (length us + 1)) (sym same) last-own)
          | inr other ↦
              subst (λ h. IsLast (us ++ u ∷ []) l (length us + 1) h) (sym (ap (λ xs. get_or xs l 0) last ∙ get_or-set_other hs u.level l (length us + 1) 0 other))
              (last-more l (get_or hs l 0) other (w.last l))
        ]);
        before = λ i d h. elim (cases_eq i (length us)) [
          | inl same ↦
              let b : get_or cs i 0 ≡ get_or hs u.level 0 = ap (λ xs. get_or xs i 0) before ∙ ap (λ k. get_or (bs ++ get_or hs u.level 0 ∷ []) k 0) (same ∙ sym w.number) ∙ get_or-append_seam bs (get_or hs u.level 0) [] 0 in
              subst (λ k. IsLast (us ++ u ∷ []) k i (get_or cs i 0)) (sym (ap (λ (v : Use). v.level) (new-use i d same)))
              (subst (λ k. IsLast (us ++ u ∷ []) u.level i k) (sym b)
              (subst (λ n. IsLast (us ++ u ∷ []) u.level n (get_or hs u.level 0)) (sym same)
              (same-last us (us ++ u ∷ []) u.level (length us) (get_or hs u.level 0) (λ j e less. old-use j e less) (w.last u.level))))
          | inr other ↦
              let less : i < length us = omega arith in
              let b : get_or cs i 0 ≡ get_or bs i 0 = ap (λ xs. get_or xs i 0) before ∙ get_or_append_left bs (get_or hs u.level 0 ∷ []) 0 i (let n = w.number in omega arith) in
              subst (λ k. IsLast (us ++ u ∷ []) k i (get_or cs i 0)) (sym (ap (λ (v : Use). v.level) (old-use i d less)))
              (subst (λ k. IsLast (us ++ u ∷ []) (get_or us i d).level i k) (sym b)
              (same-last us (us ++ u ∷ []) (get_or us i d).level i (get_or bs i 0) (λ j e le. old-use j e (omega arith)) (w.before i d less)))
        ];
      }

  -- ---- a use less

  last-less : (l h : ℕ) → l ≢ u.level → IsLast (us ++ u ∷ []) l (length us + 1) h → IsLast us l (length us) h
  last-less l h other w =
      let le : h ≤ length us + 1 = w.within in
      let ne : h ≢ length us + 1 = λ e. other (sym (w.here (length us) u e) ∙ ap (λ (v : Use). v.level) (new-use (length us) u refl)) in
      let less : h ≤ length us = omega arith in
      record {
        within = less;
        past = λ j d lo hi e. w.past j d lo (omega arith) (ap (λ (v : Use). v.level) (old-use j d hi) ∙ e);
        here = λ j d e. ap (λ (v : Use). v.level) (sym (old-use j d (omega arith))) ∙ w.here j d e;
      }

  -- the level of the last use has room in the table
  pub level-room : (bs hs : List ℕ) → IsLinked (us ++ u ∷ []) bs hs → u.level < length hs
  level-room bs hs w = elim (cases_lt u.level (length hs)) [
    | inl room ↦ room
    | inr past ↦ absurd ((w.last u.level).past (length us) u (let z : get_or hs u.level 0 ≡ 0 = get_or_past hs u.level 0 past in omega arith) (omega (arith, length-append us (u ∷ []))) (ap (λ (v : Use). v.level) (new-use (length us) u refl)))
  ]

  pub linked-less : (all : List Use) (bs cs hs gs : List ℕ) → all ≡ us ++ u ∷ [] → IsLinked all bs hs → ((i : ℕ) → i < length us → get_or cs i 0 ≡ get_or bs i 0) → length cs ≡ length us →
      gs ≡ slice_set hs u.level (get_or bs (length us) 0) → IsLinked us cs gs
  linked-less all bs cs hs gs is linked before short last =
      let w : IsLinked (us ++ u ∷ []) bs hs = subst (λ xs. IsLinked xs bs hs) is linked in
      let long : length (us ++ u ∷ []) ≡ length us + 1 = omega (arith, length-append us (u ∷ [])) in
      let own : IsLast (us ++ u ∷ []) u.level (length us) (get_or bs (length us) 0)
      = subst (λ k. IsLast (us ++ u ∷ []) k (length us) (get_or bs (length us) 0)) (ap (λ (v : Use). v.level) (new-use (length us) u refl)) (w.before (length us) u (omega arith)) in
      record {
        number = short;
        last = λ l. elim (cases_eq l u.level) [
          | inl same ↦
              subst (λ h. IsLast us l (length us) h) (sym (ap (λ xs. get_or xs l 0) last ∙ ap (λ k. get_or (slice_set hs u.level (get_or bs (length us) 0)) k 0) same ∙ get_or-set_same hs u.level (get_or bs (length us) 0) 0 (level-room bs hs w)))
              (subst (λ k. IsLast us k (length us) (get_or bs (length us) 0)) (sym same)
              (same-last (us ++ u ∷ []) us u.level (length us) (get_or bs (length us) 0) (λ j d h. sym (old-use j d h)) own))
          | inr other ↦
              subst (λ h. IsLast us l (length us) h) (sym (ap (λ xs. get_or xs l 0) last ∙ get_or-set_other hs u.level l (get_or bs (length us) 0) 0 other))
              (last-less l (get_or hs l 0) other (subst (λ n. IsLast (us ++ u ∷ []) l n (get_or hs l 0)) long (w.last l)))
        ];
        before = λ i d h.
            subst (λ k. IsLast us (get_or us i d).level i k) (sym (before i h))
            (subst (λ k. IsLast us k i (get_or bs i 0)) (ap (λ (v : Use). v.level) (old-use i d h))
            (same-last (us ++ u ∷ []) us (get_or (us ++ u ∷ []) i d).level i (get_or bs i 0) (λ j e less. sym (old-use j e (omega arith))) (w.before i d (omega arith))));
      }

-- ---- what stays used

pub stays-all : (slots changes : ℕ) (us : List Use) → StaysUsed slots changes us us
stays-all slots changes us l x t a b w = w

pub stays-then : (slots changes : ℕ) (us vs ws : List Use) → StaysUsed slots changes us vs → StaysUsed slots changes vs ws → StaysUsed slots changes us ws
stays-then slots changes us vs ws first second l x t a b w = second l x t a b (first l x t a b w)

pub stays-less : (slots changes : ℕ) (all us : List Use) (u : Use) → all ≡ us ++ u ∷ [] → (slots ≤ u.slot) ⊎ (changes < u.since) → StaysUsed slots changes all us
stays-less slots changes all us u is past l x t a b w = go (subst (λ vs. IsUsed vs l x t) is w)
  where
    go : IsUsed (us ++ u ∷ []) l x t → IsUsed us l x t
    go v = elim (cases_eq v.at (length us)) [
      | inl same ↦
          let s : u.slot ≡ x = ap (λ (d : Use). d.slot) (sym (new-use us u v.at u same)) ∙ v.by_slot u in
          let k : u.since ≤ t = subst (λ (d : Use). d.since ≤ t) (new-use us u v.at u same) (v.since u) in
          absurd (elim past [ inl h ↦ omega arith | inr h ↦ omega arith ])
      | inr other ↦
          let less : v.at < length us = let h = v.within in omega (arith, length-append us (u ∷ [])) in
          record {
            at = v.at;
            within = less;
            of_level = λ d. ap (λ (e : Use). e.level) (sym (old-use us u v.at d less)) ∙ v.of_level d;
            by_slot = λ d. ap (λ (e : Use). e.slot) (sym (old-use us u v.at d less)) ∙ v.by_slot d;
            since = λ d. subst (λ (e : Use). e.since ≤ t) (old-use us u v.at d less) (v.since d);
          }
    ]

pub used-new : (us : List Use) (u : Use) → IsUsed (us ++ u ∷ []) u.level u.slot u.since
used-new us u = record {
  at = length us;
  within = omega (arith, length-append us (u ∷ []));
  of_level = λ d. ap (λ (e : Use). e.level) (new-use us u (length us) d refl);
  by_slot = λ d. ap (λ (e : Use). e.slot) (new-use us u (length us) d refl);
  since = λ d. subst (λ (e : Use). e.since ≤ u.since) (sym (new-use us u (length us) d refl)) (omega arith);
}

pub used-old : (us : List Use) (u : Use) (l x t : ℕ) → IsUsed us l x t → IsUsed (us ++ u ∷ []) l x t
used-old us u l x t v = record {
  at = v.at;
  within = let h = v.within in omega (arith, length-append us (u ∷ []));
  of_level = λ d. ap (λ (e : Use). e.level) (old-use us u v.at d v.within) ∙ v.of_level d;
  by_slot = λ d. ap (λ (e : Use). e.slot) (old-use us u v.at d v.within) ∙ v.by_slot d;
  since = λ d. subst (λ (e : Use). e.since ≤ t) (sym (old-use us u v.at d v.within)) (v.since d);
}

-- ---- the walk over the uses of a level

-- those from here on were met
pub record Met (us : List Use) (level below at : ℕ) (keys : List ℕ) : Type 0 where
  pub within : at ≤ length us
  pub here : (j : ℕ) (d : Use) → at ≡ j + 1 → (get_or us j d).level ≡ level
  pub rest : (j : ℕ) (d : Use) → at ≤ j → j < length us → (get_or us j d).level ≡ level → (get_or us j d).slot < below → IsIn keys (get_or us j d).slot

pub met-first : (us : List Use) (bs hs : List ℕ) (level below at : ℕ) (keys : List ℕ) → IsLinked us bs hs → at ≡ get_or hs level 0 → Met us level below at keys
met-first us bs hs level below at keys w e =
    let q : IsLast us level (length us) at = subst (λ h. IsLast us level (length us) h) (sym e) (w.last level) in
    record { within = q.within; here = q.here; rest = λ j d lo hi same small. absurd (q.past j d lo hi same) }

pub met-next : (us : List Use) (bs hs : List ℕ) (level below at next : ℕ) (d : Use) (keys more : List ℕ) → IsLinked us bs hs → Met us level below at keys → 0 < at → next ≡ get_or bs (at - 1) 0 →
    ((x : ℕ) → IsIn keys x → IsIn more x) → ((get_or us (at - 1) d).slot < below → IsIn more (get_or us (at - 1) d).slot) → Met us level below next more
met-next us bs hs level below at next d keys more w m pos e kept met =
    let le : at ≤ length us = m.within in
    let less : at - 1 < length us = omega arith in
    let own : (get_or us (at - 1) d).level ≡ level = m.here (at - 1) d (omega arith) in
    let q : IsLast us level (at - 1) next = subst (λ h. IsLast us level (at - 1) h) (sym e) (subst (λ l. IsLast us l (at - 1) (get_or bs (at - 1) 0)) own (w.before (at - 1) d less)) in
    record {
      within = let k : next ≤ at - 1 = q.within in omega arith;
      here = q.here;
      rest = λ j f lo hi same small. elim (cases_lt j (at - 1)) [
        | inl before ↦ absurd (q.past j f lo before same)
        | inr from ↦ elim (cases_eq j (at - 1)) [
          | inl here ↦
              let u : get_or us j f ≡ get_or us (at - 1) d = ap (λ k. get_or us k f) here ∙ get_or_default us (at - 1) f d less in
              subst (λ (v : Use). IsIn more v.slot) (sym u) (met (subst (λ (v : Use). v.slot < below) u small))
          | inr past ↦ kept (get_or us j f).slot (m.rest j f (omega arith) hi same small)
        ]
      ];
    }

pub met-all : (us : List Use) (level below : ℕ) (keys : List ℕ) → Met us level below 0 keys → (x t : ℕ) → x < below → IsUsed us level x t → IsIn keys x
met-all us level below keys m x t small v =
    let d : Use = record { level = 0; slot = 0; since = 0 } in
    subst (λ y. IsIn keys y) (v.by_slot d) (m.rest v.at d (omega arith) v.within (v.of_level d) (subst (λ y. y < below) (sym (v.by_slot d)) small))

-- ---- as the code reads and writes lists

pub read-at : (xs : List ℕ) (i x : ℕ) → i < length xs → x ≡ get_or xs i x → x ≡ get_or xs i 0
read-at xs i x h e = e ∙ get_or_default xs i x 0 h

-- an insertion
module _ (n : ℕ) (old new : List ℕ) (says : (q : ℕ) → list_any (nat_eq q) new ≡ cond (nat_eq n q) true (list_any (nat_eq q) old)) where
  pub insert-kept : (x : ℕ) → IsIn old x → IsIn new x
  insert-kept x h = elim (cases_Bool (nat_eq n x)) [
    | inl same ↦ says x ∙ ap (λ b. cond b true (list_any (nat_eq x) old)) same
    | inr other ↦ says x ∙ ap (λ b. cond b true (list_any (nat_eq x) old)) other ∙ h
  ]

  pub insert-own : IsIn new n
  insert-own = says n ∙ ap (λ b. cond b true (list_any (nat_eq n) old)) (eq-eqb n n refl)

  pub insert-from : (x : ℕ) → IsIn new x → (x ≡ n) ⊎ IsIn old x
  insert-from x h = elim (cases_Bool (nat_eq n x)) [
    | inl same ↦ inl (sym (eqb-true n x same))
    | inr other ↦ inr (sym (says x ∙ ap (λ b. cond b true (list_any (nat_eq x) old)) other) ∙ h)
  ]
