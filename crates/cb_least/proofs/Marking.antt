-- Marks of nodes.
use Rattle.std.proofs.Common.{◌≡◌, ℕ, zero, suc, Some, ◌+◌, ◌-◌, ◌<◌, ◌≤◌, Bool, true, false, List, [], ◌∷◌, ◌++◌, length, get_or, slice_set, take, drop, inl, inr, sym, ap, subst, ◌∙◌, arith, append-nil, get_or-set_other, get_or-set_same, length-set}
use Rattle.std.proofs.lemmas.Bool.{cases_eq, cases_lt, true≢false}
use Rattle.std.proofs.lemmas.List.{take_all, drop_all}
use Rattle.cb_dd.specs.declared.Triple.{Triple}
use Rattle.cb_dd.specs.declared.Node.{Node}
use Rattle.cb_dd.specs.Diagram.{IsNode, IsDiagram, parts_of, triple}
use Rattle.cb_dd.proofs.Parts.{parts-some}
use Rattle.cb_least.specs.Beginning.{AreMarks, AreNexts}

-- what is written back to a whole list
pub written : {A : Type 0} (new old : List A) (n : ℕ) → length new ≡ length old → n ≡ length old → take n (new ++ drop (length new) old) ≡ new
written new old n e m =
    ap (λ l. take n (new ++ l)) (drop_all (length new) old (omega (arith, e)))
    ∙ ap (take n) (append-nil new)
    ∙ take_all n new (omega (arith, e, m))

-- children have lower numbers
pub child-low : (ts : List Triple) (is : IsDiagram ts) (n level : ℕ) (lo hi : Node) → IsNode ts n → parts_of ts n ≡ Some (level, lo, hi) → (lo.0 < n) × (hi.0 < n)
child-low ts is n level lo hi w e =
    let p = parts-some ts n level lo hi w e in
    let o = is.ordered p.0 (triple level lo.0 hi.0) p.2 in
    (omega (arith, o.lo, p.1), omega (arith, o.hi, p.1))

pub mark-set : (marks : List Bool) (i k : ℕ) → get_or marks k false ≡ true → get_or (slice_set marks i true) k false ≡ true
mark-set marks i k e = elim (cases_eq k i) [
  | inl same ↦ subst (λ j. get_or (slice_set marks j true) k false ≡ true) same (get_or-set_same marks k true false (has-within marks k e))
  | inr other ↦ get_or-set_other marks i k true false other ∙ e
]
  where
    has-within : (ms : List Bool) (k : ℕ) → get_or ms k false ≡ true → k < length ms
    has-within [] k e = absurd (true≢false (sym e))
    has-within (m ∷ ms) zero e = omega arith
    has-within (m ∷ ms) (suc k) e = let h = has-within ms k e in omega (arith, h)

-- one node more whose children are marked
pub more-marks : (ts : List Triple) (root at : ℕ) (old new : List Bool) → 2 ≤ at → at ≤ root → AreMarks ts root at old → length new ≡ length old
    → ((k : ℕ) → get_or old k false ≡ true → get_or new k false ≡ true) → ((k : ℕ) → at ≤ k → get_or new k false ≡ get_or old k false)
    → ((level : ℕ) (lo hi : Node) → get_or old at false ≡ true → parts_of ts at ≡ Some (level, lo, hi) → (get_or new lo.0 false ≡ true) × (get_or new hi.0 false ≡ true))
    → AreMarks ts root (at - 1) new
more-marks ts root at old new inner within marks long kept above children = record {
  long = long ∙ marks.long;
  root_in = kept root marks.root_in;
  closed = λ n level lo hi low l is parts. elim (cases_lt at n) [
    | inl later ↦
        let c = marks.closed n level lo hi later l (sym (above n (omega (arith, later))) ∙ is) parts in
        (kept lo.0 c.0, kept hi.0 c.1)
    | inr ge ↦
        let e : n ≡ at = omega (arith, low, ge, inner) in
        children level lo hi (sym (above at (omega arith)) ∙ ap (λ k. get_or new k false) (sym e) ∙ is) (ap (parts_of ts) (sym e) ∙ parts)
  ];
}

-- a mark before the next one is at the place or before it
pub before-next : (marks : List Bool) (nexts : List ℕ) → AreNexts marks nexts → (at : ℕ) → at < length marks → (n : ℕ) → n < get_or nexts at 0 → get_or marks n false ≡ true → n < at + 1
before-next marks nexts are at l n lt is = elim (cases_lt at n) [
  | inl later ↦ absurd (true≢false (sym is ∙ are.skipped at n l later lt))
  | inr ge ↦ omega (arith, ge)
]

-- the next marks are found from this place on
pub record FoundFrom (marks : List Bool) (nexts : List ℕ) (at next : ℕ) : Type 0 where
  pub long : length nexts ≡ length marks
  pub within : at ≤ length marks
  pub later : at ≤ next
  pub on : (k : ℕ) → at ≤ k → k < length marks → k < get_or nexts k 0
  pub skipped : (k j : ℕ) → at ≤ k → k < length marks → k < j → j < get_or nexts k 0 → get_or marks j false ≡ false
  pub between : (j : ℕ) → at ≤ j → j < next → get_or marks j false ≡ false

module _ (marks : List Bool) (nexts : List ℕ) (at next : ℕ) (some : 1 ≤ at) (found : FoundFrom marks nexts at next) where
  here : get_or (slice_set nexts (at - 1) next) (at - 1) 0 ≡ next
  here = get_or-set_same nexts (at - 1) next 0 (omega (arith, some, found.within, found.long))

  other : (k : ℕ) → at ≤ k → get_or (slice_set nexts (at - 1) next) k 0 ≡ get_or nexts k 0
  other k l = get_or-set_other nexts (at - 1) k next 0 (λ e. omega (arith, e, l, some))

  -- one place before
  found-more : (then : ℕ) → at - 1 ≤ then → ((j : ℕ) → at - 1 ≤ j → j < then → get_or marks j false ≡ false) → FoundFrom marks (slice_set nexts (at - 1) next) (at - 1) then
  found-more then later between = record {
    long = length-set nexts (at - 1) next ∙ found.long;
    within = omega (arith, found.within);
    later = later;
    on = λ k l w. elim (cases_lt k at) [
      | inl lt ↦ subst (λ m. m < get_or (slice_set nexts (at - 1) next) m 0) (let e : at - 1 ≡ k = omega (arith, l, lt, some) in e) (omega (arith, here, found.later, some))
      | inr ge ↦ omega (arith, other k ge, found.on k ge w)
    ];
    skipped = λ k j l w before lt. elim (cases_lt k at) [
      | inl less ↦
          let e : k ≡ at - 1 = omega (arith, l, less, some) in
          found.between j (omega (arith, before, e, some)) (let h : get_or (slice_set nexts (at - 1) next) k 0 ≡ next = ap (λ m. get_or (slice_set nexts (at - 1) next) m 0) e ∙ here in omega (arith, lt, h))
      | inr ge ↦ found.skipped k j ge w before (omega (arith, other k ge, lt))
    ];
    between = between;
  }

  pub found-marked : FoundFrom marks (slice_set nexts (at - 1) next) (at - 1) (at - 1)
  found-marked = found-more (at - 1) (omega arith) (λ j l lt. absurd (omega (arith, l, lt)))

  pub found-unmarked : get_or marks (at - 1) false ≡ false → FoundFrom marks (slice_set nexts (at - 1) next) (at - 1) next
  found-unmarked none = found-more next (omega (arith, found.later)) (λ j l lt. elim (cases_lt j at) [
    | inl less ↦ ap (λ m. get_or marks m false) (let e : j ≡ at - 1 = omega (arith, l, less, some) in e) ∙ none
    | inr ge ↦ found.between j ge lt
  ])

-- at the first place all are found
pub all-found : (marks : List Bool) (nexts : List ℕ) (at next : ℕ) → at ≤ 0 → FoundFrom marks nexts at next → AreNexts marks nexts
all-found marks nexts at next first found = record {
  long = found.long;
  on = λ k w. found.on k (omega (arith, first)) w;
  skipped = λ k j w before lt. found.skipped k j (omega (arith, first)) w before lt;
}

-- behind the last place there is none
pub none-found : (marks : List Bool) (nexts : List ℕ) → length nexts ≡ length marks → FoundFrom marks nexts (length marks) (length marks)
none-found marks nexts long = record {
  long = long;
  within = omega arith;
  later = omega arith;
  on = λ k l w. absurd (omega (arith, l, w));
  skipped = λ k j l w before lt. absurd (omega (arith, l, w));
  between = λ j l lt. absurd (omega (arith, l, lt));
}
