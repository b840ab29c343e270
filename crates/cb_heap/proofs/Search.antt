-- The search for a cell below a cell.
use Rattle.std.proofs.Common.{◌≡◌, ◌⊎◌, inl, inr, ℕ, zero, suc, ◌+◌, ◌<◌, ◌≤◌, ◌^◌, ◌↔◌, Bool, true, cond, List, [], ◌∷◌, ◌++◌, length, nat_eq, Some, None, refl, sym, ap, subst, ◌∙◌, arith, length-append, append-nil, append_assoc, if◌then◌else◌}
use Rattle.std.specs.Prelude.{slice_get, get_or}
use Rattle.std.specs.List.{list_any, Contains, IsDistinct}
use Rattle.std.proofs.lemmas.Bool.{cases_Bool, cases_lt, eqb-true, eq-eqb, true≢false}
use Rattle.std.proofs.lemmas.Option.{slice_get_within, slice_get-get_or, get_or_from_slice_get}
use Rattle.std.proofs.lemmas.Map.Steps.{length-le_from_distinct_below}
use Rattle.std.proofs.lemmas.Map.Views.{Contains-from_any}
use Rattle.std.proofs.lemmas.List.Folds.{list_any_at}
use Rattle.cb_heap.specs.declared.Stored.{Stored}
use Rattle.cb_heap.specs.Finite.{IsChild, Names}
use Rattle.cb_heap.specs.Below.{IsBelow, here, down, IsMet, Meets}
use Rattle.cb_heap.specs.Links.{IsLinked}
use Rattle.cb_heap.proofs.Steps.{some-inj, no_some}
use Rattle.cb_heap.proofs.Adding.{get-front}

-- ---- what was met

met-at : (xs : List ℕ) (k n : ℕ) → slice_get xs k ≡ Some n → IsMet xs n
met-at xs k n at = list_any_at (nat_eq n) xs k n (slice_get_within xs k n at) (eq-eqb n _ (sym (get_or_from_slice_get xs k n n at)))

met-place : (xs : List ℕ) (n : ℕ) → IsMet xs n → (k : ℕ) × (slice_get xs k ≡ Some n)
met-place xs n h =
    let c : Contains xs n = Contains-from_any (λ x y e. eqb-true x y e) n xs h in
    (c.0, slice_get-get_or xs c.0 n c.1 ∙ ap Some c.2)

pub past-none : (xs : List ℕ) (k : ℕ) → slice_get xs k ≡ None → length xs ≤ k
past-none xs k e = elim (cases_lt k (length xs)) [
  | inl lt ↦ absurd (no_some (slice_get xs k) (get_or xs k 0) e (slice_get-get_or xs k 0 lt))
  | inr ge ↦ ge
]

one-more : (v q : ℕ) (b : Bool) → b ≡ true → cond (nat_eq v q) true b ≡ true
one-more v q b h = elim (cases_Bool (nat_eq v q)) [ inl same ↦ ap (λ c. cond c true b) same | inr other ↦ ap (λ c. cond c true b) other ∙ h ]

insert-more : (old : List ℕ) (v : ℕ) → (more : List ℕ) × ((if list_any (nat_eq v) old then old else old ++ v ∷ []) ≡ old ++ more)
insert-more old v = elim (cases_Bool (list_any (nat_eq v) old)) [
  | inl there ↦ ([], ap (λ b. if b then old else old ++ v ∷ []) there ∙ sym (append-nil old))
  | inr none ↦ (v ∷ [], ap (λ b. if b then old else old ++ v ∷ []) none)
]

met-stays : (old more new : List ℕ) (q : ℕ) → new ≡ old ++ more → IsMet old q → IsMet new q
met-stays old more new q e h =
    let p = met-place old q h in
    met-at new p.0 q (ap (λ xs. slice_get xs p.0) e ∙ get-front old more p.0 (slice_get_within old p.0 q p.1) ∙ p.1)

pub meets-none : (named : ℕ → Type 0) (old : List ℕ) → IsDistinct nat_eq old → ((j : ℕ) → named j → ⊥) → Meets named old old
meets-none named old unique none = record {
  more = [];
  behind = sym (append-nil old);
  unique = unique;
  all = λ j n. absurd (none j n);
  only = λ j h. inl h;
}

-- one was inserted
pub meets-one : (v : ℕ) (old new : List ℕ) → new ≡ (if list_any (nat_eq v) old then old else old ++ v ∷ []) → ((q : ℕ) → list_any (nat_eq q) new ≡ cond (nat_eq v q) true (list_any (nat_eq q) old)) →
    IsDistinct nat_eq new → Meets (λ j. j ≡ v) old new
meets-one v old new e says unique = let m = insert-more old v in record {
  more = m.0;
  behind = e ∙ m.1;
  unique = unique;
  all = λ j n. says j ∙ ap (λ b. cond b true (list_any (nat_eq j) old)) (eq-eqb v j (sym n));
  only = λ j h. elim (cases_Bool (nat_eq v j)) [
    | inl same ↦ inr (sym (eqb-true v j same))
    | inr other ↦ inl (sym (ap (λ b. cond b true (list_any (nat_eq j) old)) other) ∙ sym (says j) ∙ h)
  ];
}

pub meets-then : (a b : ℕ → Type 0) (old mid new : List ℕ) → Meets a old mid → Meets b mid new → Meets (λ j. a j ⊎ b j) old new
meets-then a b old mid new p q = record {
  more = p.more ++ q.more;
  behind = q.behind ∙ ap (λ xs. xs ++ q.more) p.behind ∙ append_assoc old p.more q.more;
  unique = q.unique;
  all = λ j n. elim n [ inl x ↦ met-stays mid q.more new j q.behind (p.all j x) | inr y ↦ q.all j y ];
  only = λ j h. elim (q.only j h) [ inl m ↦ elim (p.only j m) [ inl o ↦ inl o | inr x ↦ inr (inl x) ] | inr y ↦ inr (inr y) ];
}

pub meets-as : (a b : ℕ → Type 0) (old new : List ℕ) → ((j : ℕ) → a j ↔ b j) → Meets a old new → Meets b old new
meets-as a b old new f p = record {
  more = p.more;
  behind = p.behind;
  unique = p.unique;
  all = λ j n. p.all j ((f j).1 n);
  only = λ j h. elim (p.only j h) [ inl o ↦ inl o | inr x ↦ inr ((f j).0 x) ];
}

-- ---- the loop

-- all that were met are below the first cell, and the first ones that were met are as they should be
pub record Searching (cs : List Stored) (from : ℕ) (good : ℕ → Type 0) (met : List ℕ) (done : ℕ) : Type 0 where
  pub unique : IsDistinct nat_eq met
  pub root : IsMet met from
  pub below : (q : ℕ) → IsMet met q → IsBelow cs from q
  pub there : (q : ℕ) → IsMet met q → q < length cs
  pub closed : (k n : ℕ) → k < done → slice_get met k ≡ Some n → good n × ((q : ℕ) → IsChild cs n q → IsMet met q)
  pub within : done ≤ length met

pub searching-start : (cs : List Stored) (from : ℕ) (good : ℕ → Type 0) (old met : List ℕ) → from < length cs → old ≡ [] → Meets (λ j. j ≡ from) old met → Searching cs from good met 0
searching-start cs from good old met less none m = record {
  unique = m.unique;
  root = m.all from refl;
  below = λ q h. subst (λ x. IsBelow cs from x) (sym (only q h)) here;
  there = λ q h. subst (λ x. x < length cs) (sym (only q h)) less;
  closed = λ k n lt at. absurd (omega (arith, lt));
  within = omega arith;
}
  where
    only : (q : ℕ) → IsMet met q → q ≡ from
    only q h = elim (m.only q h) [ inl o ↦ absurd (true≢false (sym (sym (ap (list_any (nat_eq q)) none) ∙ o))) | inr e ↦ e ]

pub searching-bound : (cs : List Stored) (from : ℕ) (good : ℕ → Type 0) (met : List ℕ) (done : ℕ) → Searching cs from good met done → length met ≤ length cs
searching-bound cs from good met done s = length-le_from_distinct_below met (length cs) s.unique (λ q h. s.there q h)

pub searching-at : (cs : List Stored) (from : ℕ) (good : ℕ → Type 0) (met : List ℕ) (done n : ℕ) → Searching cs from good met done → slice_get met done ≡ Some n → IsBelow cs from n × (n < length cs)
searching-at cs from good met done n s at = (s.below n (met-at met done n at), s.there n (met-at met done n at))

below-one : (cs : List Stored) (r j k : ℕ) → IsBelow cs r j → IsChild cs j k → IsBelow cs r k
below-one cs r j k here c = down c here
below-one cs r j k (down d b) c = down d (below-one cs _ j k b c)

-- the cells that a cell names are those that what stands there names
pub child-names : (cs : List Stored) (n : ℕ) (c : Stored) → slice_get cs n ≡ Some c → (j : ℕ) → Names n c j ↔ IsChild cs n j
child-names cs n c is j = ((λ x. (c, is, x)), (λ child. subst (λ d. Names n d j) (some-inj child.0 c (sym child.1 ∙ is)) child.2))

module _ (cs : List Stored) (linked : IsLinked cs) (from : ℕ) (good : ℕ → Type 0) (met new : List ℕ) (done n : ℕ) (s : Searching cs from good met done) (at : slice_get met done ≡ Some n)
    (is_good : good n) (m : Meets (λ j. IsChild cs n j) met new) where
  before : (q : ℕ) → IsMet met q → IsMet new q
  before q h = met-stays met m.more new q m.behind h

  pub searching-step : Searching cs from good new (done + 1)
  searching-step = record {
    unique = m.unique;
    root = before from s.root;
    below = λ q h. elim (m.only q h) [ inl o ↦ s.below q o | inr x ↦ below-one cs from n q (s.below n (met-at met done n at)) x ];
    there = λ q h. elim (m.only q h) [ inl o ↦ s.there q o | inr x ↦ linked.within n q x ];
    closed = λ k i lt there. elim (cases_lt k done) [
      | inl less ↦
          let p = s.closed k i less (sym (get-front met m.more k (let w = slice_get_within met done n at in omega (arith, w, less))) ∙ sym (ap (λ xs. slice_get xs k) m.behind) ∙ there) in
          (p.0, λ q child. before q (p.1 q child))
      | inr more ↦
          let e : k ≡ done = omega (arith, lt, more) in
          let same : n ≡ i = some-inj n i (sym at ∙ sym (get-front met m.more done (slice_get_within met done n at)) ∙ sym (ap (λ xs. slice_get xs done) m.behind) ∙ ap (slice_get new) (sym e) ∙ there) in
          (subst (λ x. good x) same is_good, λ q child. m.all q (subst (λ x. IsChild cs x q) (sym same) child))
    ];
    within = let w = slice_get_within met done n at in let e = ap length m.behind in omega (arith, w, e, length-append met m.more);
  }

-- where all was looked at, each cell below the first is as it should be
pub searched : (cs : List Stored) (from to : ℕ) (good : ℕ → Type 0) (met : List ℕ) (done : ℕ) → Searching cs from good met done → length met ≤ done → IsBelow cs from to → good to
searched cs from to good met done s all b = find from b s.root
  where
    find : (n : ℕ) → IsBelow cs n to → IsMet met n → good to
    find n here h = let p = met-place met n h in (s.closed p.0 n (let w = slice_get_within met p.0 n p.1 in omega (arith, w, all)) p.1).0
    find n (down child b) h = let p = met-place met n h in find _ b ((s.closed p.0 n (let w = slice_get_within met p.0 n p.1 in omega (arith, w, all)) p.1).1 _ child)

pub behind-small : (at k : ℕ) → ((j : ℕ) → (at < j) × (j ≤ at + k) → j < 2 ^ 64) → at < 2 ^ 64 → at + k < 2 ^ 64
behind-small at zero f h = omega arith
behind-small at (suc k) f h = f (at + suc k) (omega arith, omega arith)

-- ---- the cells that a cell names

module _ (cs : List Stored) (linked : IsLinked cs) (r : ℕ) (c : Stored) (is : slice_get cs r ≡ Some c) where
  pub named-small : length cs < 2 ^ 63 → (j : ℕ) → Names r c j → j < 2 ^ 64
  named-small small j n = let w = linked.within r j (c, is, n) in omega (arith, w, small)

  pub meets-children : (old new : List ℕ) → Meets (Names r c) old new → Meets (λ j. IsChild cs r j) old new
  meets-children old new m = meets-as (Names r c) (λ j. IsChild cs r j) old new (child-names cs r c is) m
