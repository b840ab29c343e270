-- The way down from a cell, and what a step of the search makes of it.
use Rattle.std.proofs.Common.{◌≡◌, ◌≢◌, ◌⊎◌, inl, inr, ℕ, zero, suc, ◌+◌, ◌-◌, ◌^◌, ◌<◌, ◌≤◌, Bool, nat_lt, if◌then◌else◌, List, [], ◌∷◌, ◌++◌, length, map, Option, Some, None, refl, sym, ap, subst, ◌∙◌, arith, Result, Ok, Err}
use Rattle.std.specs.Prelude.{slice_get, slice_set, get_or}
use Rattle.std.specs.Option.{option_map_or}
use Rattle.std.proofs.lemmas.Bool.{cases_eq, cases_lt, lt-ltb, ltb-true}
use Rattle.std.proofs.lemmas.Option.{slice_get_within, slice_get-get_or}
use Rattle.std.proofs.lemmas.List.{length-set}
use Rattle.cb_model.specs.Bits.{Bits, Each, numbers_from}
use Rattle.cb_model.specs.Values.{grounds}
use Rattle.cb_heap.specs.declared.Stored.{Stored}
use Rattle.cb_heap.specs.declared.Stored.TheVariants as cell
use Rattle.cb_heap.specs.declared.Ref.{Ref}
use Rattle.cb_heap.specs.Reading.{Reading, CellHolds, CellsHold}
use Rattle.cb_heap.specs.Finite.{IsFinite, AllFinite, ends, IsChild, Names}
use Rattle.cb_heap.specs.Links.{IsLast, IsLinked, link_of, chain}
use Rattle.cb_heap.proofs.Chains.{only-child, link-value, chain-falls}
use Rattle.cb_heap.proofs.Steps.{some-inj, no_some, get-set-same, get-set-other}
use Rattle.cb_join.specs.declared.cycle.Mark.{Mark}
use Rattle.cb_join.specs.declared.cycle.Mark.TheVariants as mark
use Rattle.cb_join.specs.declared.cycle.Frame.{Frame}
use Rattle.cb_join.specs.Cycle.{arity, child_of, weight, weights, Falls, AreDone, AreFinite, FrameHolds, Descends, IsOn, Frames, StaysMet, HasNoReading, left_of, left_at, frame_left, frames_left, Goes, AreNew, IsMetIn, IsNoted, IsClosed}

-- ---- the cells that a cell names

names-child : (r : ℕ) (c : Stored) (j : ℕ) → Names r c j → link_of c ≡ None → (k : ℕ) × (k < arity c) × (child_of r c k ≡ Some j)
names-child r (cell.BusCons h l) j (inl e) n = (0, omega arith, ap Some (sym e))
names-child r (cell.BusCons h l) j (inr e) n = (1, omega arith, ap Some (sym e))
names-child r (cell.Node m k) j h n =
    let less : j - suc r < k = (let a = h.0 in let b = h.1 in omega arith) in
    (j - suc r, less, ap (λ b. if b then Some (r + 1 + (j - suc r)) else None) (lt-ltb (j - suc r) k less) ∙ ap Some (let a = h.0 in let e : r + 1 + (j - suc r) ≡ j = omega arith in e))
names-child r (cell.Bound to) j h n = absurd (no_some _ to n refl)
names-child r (cell.Same to) j h n = absurd (no_some _ to n refl)
names-child r (cell.Leaf s) j h n = absurd h
names-child r cell.BusVar j h n = absurd h
names-child r cell.BusNil j h n = absurd h
names-child r cell.TermVar j h n = absurd h
names-child r (cell.Int z) j h n = absurd h

node-child : (r m k j : ℕ) → (b : Bool) → nat_lt k m ≡ b → (if b then Some (r + 1 + k) else None) ≡ Some j → (k < m) × (r < j) × (j ≤ r + m)
node-child r m k j Bool.true e h = let l = ltb-true k m e in let i = some-inj (r + 1 + k) j h in (l, omega arith, omega arith)
node-child r m k j Bool.false e h = absurd (no_some _ j refl h)

child-names : (r : ℕ) (c : Stored) (k j : ℕ) → child_of r c k ≡ Some j → (k < arity c) × Names r c j
child-names r (cell.BusCons h l) zero j e = (omega arith, inl (sym (some-inj h.0 j e)))
child-names r (cell.BusCons h l) (suc zero) j e = (omega arith, inr (sym (some-inj l.0 j e)))
child-names r (cell.BusCons h l) (suc (suc k)) j e = absurd (no_some _ j refl e)
child-names r (cell.Node n m) k j e = let h = node-child r m k j (nat_lt k m) refl e in (h.0, (h.1, h.2))
child-names r (cell.Bound to) k j e = absurd (no_some _ j refl e)
child-names r (cell.Same to) k j e = absurd (no_some _ j refl e)
child-names r (cell.Leaf s) k j e = absurd (no_some _ j refl e)
child-names r cell.BusVar k j e = absurd (no_some _ j refl e)
child-names r cell.BusNil k j e = absurd (no_some _ j refl e)
child-names r cell.TermVar k j e = absurd (no_some _ j refl e)
child-names r (cell.Int z) k j e = absurd (no_some _ j refl e)

child-none : (r : ℕ) (c : Stored) (k : ℕ) → child_of r c k ≡ None → arity c ≤ k
child-none r (cell.BusCons h l) zero e = absurd (no_some _ _ e refl)
child-none r (cell.BusCons h l) (suc zero) e = absurd (no_some _ _ e refl)
child-none r (cell.BusCons h l) (suc (suc k)) e = omega arith
child-none r (cell.Node n m) k e = elim (cases_lt k m) [
  | inl less ↦ absurd (no_some _ (r + 1 + k) e (ap (λ b. if b then Some (r + 1 + k) else None) (lt-ltb k m less)))
  | inr more ↦ more
]
child-none r (cell.Bound to) k e = omega arith
child-none r (cell.Same to) k e = omega arith
child-none r (cell.Leaf s) k e = omega arith
child-none r cell.BusVar k e = omega arith
child-none r cell.BusNil k e = omega arith
child-none r cell.TermVar k e = omega arith
child-none r (cell.Int z) k e = omega arith

-- ---- parts are smaller

part-weight : (g : Reading) (i k j : ℕ) → i ≤ j → j < i + k → weight (g j) < suc (weights (grounds (map g (numbers_from i k))))
part-weight g i zero j a b = absurd (omega arith)
part-weight g i (suc k) j a b = elim (cases_eq j i) [
  | inl same ↦ let e : weight (g j) ≡ weight (g i) = ap (λ q. weight (g q)) same in omega arith
  | inr other ↦ let h = part-weight g (suc i) k j (omega arith) (omega arith) in omega arith
]

child-weight : (w : Bits) (g : Reading) (r : ℕ) (c : Stored) (k j : ℕ) → child_of r c k ≡ Some j → CellHolds w g r c → weight (g j) < weight (g r)
child-weight w g r (cell.BusCons h l) zero j e q =
    let a : weight (g j) ≡ 0 = ap (λ x. weight (g x)) (sym (some-inj h.0 j e)) ∙ ap weight q.2 in
    let b : weight (g r) ≡ suc (length (q.0 ∷ q.1)) = ap weight q.4 in
    omega arith
child-weight w g r (cell.BusCons h l) (suc zero) j e q =
    let a : weight (g j) ≡ suc (length q.1) = ap (λ x. weight (g x)) (sym (some-inj l.0 j e)) ∙ ap weight q.3 in
    let b : weight (g r) ≡ suc (suc (length q.1)) = ap weight q.4 ∙ ap suc (let d : length (q.0 ∷ q.1) ≡ suc (length q.1) = refl in d) in
    omega arith
child-weight w g r (cell.BusCons h l) (suc (suc k)) j e q = absurd (no_some _ j refl e)
child-weight w g r (cell.Node n m) k j e q =
    let h = child-names r (cell.Node n m) k j e in
    let b : weight (g r) ≡ suc (weights (grounds (map g (numbers_from (suc r) m)))) = ap weight q in
    let p = part-weight g (suc r) m j (let x = h.1.0 in omega arith) (let x = h.1.1 in omega arith) in
    omega arith
child-weight w g r (cell.Bound to) k j e q = absurd (no_some _ j refl e)
child-weight w g r (cell.Same to) k j e q = absurd (no_some _ j refl e)
child-weight w g r (cell.Leaf s) k j e q = absurd (no_some _ j refl e)
child-weight w g r cell.BusVar k j e q = absurd (no_some _ j refl e)
child-weight w g r cell.BusNil k j e q = absurd (no_some _ j refl e)
child-weight w g r cell.TermVar k j e q = absurd (no_some _ j refl e)
child-weight w g r (cell.Int z) k j e q = absurd (no_some _ j refl e)

-- the end of the chain from a cell that r names is a part of r
child-falls : (cs : List Stored) (r : ℕ) (c : Stored) (k j e : ℕ) → slice_get cs r ≡ Some c → child_of r c k ≡ Some j → IsLast cs j e → Falls cs r e
child-falls cs r c k j e is h l w g q = subst (λ x. weight x < weight (g r)) (l.value w g q) (child-weight w g r c k j h (q r c is))

-- ---- lists

each-split : {A : Type 0} (P : A → Type 0) (xs ys : List A) → Each P (xs ++ ys) → Each P xs × Each P ys
each-split P [] ys h = (tt, h)
each-split P (x ∷ xs) ys h = let r = each-split P xs ys h.1 in ((h.0, r.0), r.1)

each-join : {A : Type 0} (P : A → Type 0) (xs ys : List A) → Each P xs → Each P ys → Each P (xs ++ ys)
each-join P [] ys a b = b
each-join P (x ∷ xs) ys a b = (a.0, each-join P xs ys a.1 b)

pub each-map : {A : Type 0} (P Q : A → Type 0) (xs : List A) → ((x : A) → P x → Q x) → Each P xs → Each Q xs
each-map P Q [] f h = tt
each-map P Q (x ∷ xs) f h = (f x h.0, each-map P Q xs f h.1)

each-both : {A : Type 0} (P Q : A → Type 0) (xs : List A) → Each P xs → Each Q xs → Each (λ x. P x × Q x) xs
each-both P Q [] a b = tt
each-both P Q (x ∷ xs) a b = ((a.0, b.0), each-both P Q xs a.1 b.1)

on-split : (r : ℕ) (fs : List Frame) (f : Frame) → IsOn r (fs ++ f ∷ []) → IsOn r fs ⊎ (r ≡ f.cell)
on-split r [] f (inl e) = inr e
on-split r [] f (inr h) = absurd h
on-split r (h ∷ fs) f (inl e) = inl (inl e)
on-split r (h ∷ fs) f (inr o) = elim (on-split r fs f o) [ inl a ↦ inl (inr a) | inr e ↦ inr e ]

on-left : (r : ℕ) (fs hs : List Frame) → IsOn r fs → IsOn r (fs ++ hs)
on-left r [] hs o = absurd o
on-left r (f ∷ fs) hs (inl e) = inl e
on-left r (f ∷ fs) hs (inr o) = inr (on-left r fs hs o)

on-last : (r : ℕ) (fs : List Frame) (f : Frame) → r ≡ f.cell → IsOn r (fs ++ f ∷ [])
on-last r [] f e = inl e
on-last r (h ∷ fs) f e = inr (on-last r fs f e)

above : List Stored → Frame → Frame → Type 0
above cs f h = (f.cell ≢ h.cell) × Falls cs f.cell h.cell

descends-split : (cs : List Stored) (fs : List Frame) (f : Frame) → Descends cs (fs ++ f ∷ []) → Descends cs fs × Each (λ h. (h.cell ≢ f.cell) × Falls cs h.cell f.cell) fs
descends-split cs [] f d = (tt, tt)
descends-split cs (h ∷ fs) f d =
    let r = descends-split cs fs f d.1 in
    let e = each-split _ fs (f ∷ []) d.0 in
    ((e.0, r.0), (e.1.0, r.1))

descends-join : (cs : List Stored) (fs : List Frame) (f : Frame) → Descends cs fs → Each (λ h. (h.cell ≢ f.cell) × Falls cs h.cell f.cell) fs → Descends cs (fs ++ f ∷ [])
descends-join cs [] f d e = (tt, tt)
descends-join cs (h ∷ fs) f d e = (each-join _ fs (f ∷ []) d.0 (e.0, tt), descends-join cs fs f d.1 e.1)

frames-add : (cs : List Stored) (fs : List Frame) (f : Frame) → frames_left cs (fs ++ f ∷ []) ≡ frames_left cs fs + frame_left cs f
frames-add cs [] f = let e : frame_left cs f + 0 ≡ 0 + frame_left cs f = omega arith in e
frames-add cs (h ∷ fs) f = let i = frames-add cs fs f in let e : frame_left cs h + frames_left cs (fs ++ f ∷ []) ≡ (frame_left cs h + frames_left cs fs) + frame_left cs f = omega arith in e

frame-at : (cs : List Stored) (f : Frame) (c : Stored) → slice_get cs f.cell ≡ Some c → frame_left cs f ≡ suc (arity c) - f.next
frame-at cs f c is = ap (λ o. option_map_or (λ c. suc (arity c) - f.next) o 0) is

pub left-set : (cs : List Stored) (ms : List Mark) (r : ℕ) (c : Stored) (m n : Mark) → slice_get cs r ≡ Some c → slice_get ms r ≡ Some m → left_at cs (slice_set ms r n) + left_of c m ≡ left_at cs ms + left_of c n
left-set [] ms r c m n is at = absurd (no_some _ c refl is)
left-set (x ∷ cs) [] r c m n is at = absurd (no_some _ m refl at)
left-set (x ∷ cs) (y ∷ ms) zero c m n is at =
    let a : left_of x n ≡ left_of c n = ap (λ z. left_of z n) (some-inj x c is) in
    let b : left_of x y ≡ left_of c m = ap (λ z. left_of z y) (some-inj x c is) ∙ ap (λ z. left_of c z) (some-inj y m at) in
    let f : (left_of x n + left_at cs ms) + left_of c m ≡ (left_of x y + left_at cs ms) + left_of c n = omega arith in
    f
left-set (x ∷ cs) (y ∷ ms) (suc r) c m n is at =
    let h = left-set cs ms r c m n is at in
    let f : (left_of x y + left_at cs (slice_set ms r n)) + left_of c m ≡ (left_of x y + left_at cs ms) + left_of c n = omega arith in
    f

-- ---- marks

pub mark-at : (ms : List Mark) (r : ℕ) (n m : Mark) (old : Mark) → slice_get ms r ≡ Some old → slice_get (slice_set ms r n) r ≡ Some m → n ≡ m
mark-at ms r n m old is at = some-inj n m (sym (get-set-same ms r old n is) ∙ at)

pub no-mark : (m : Mark) → m ≡ mark.Done → m ≡ mark.Open → ⊥
no-mark m a b = cc

pub open-new : (m : Mark) → m ≡ mark.Open → m ≡ mark.New → ⊥
open-new m a b = cc

pub done-new : (m : Mark) → m ≡ mark.Done → m ≡ mark.New → ⊥
done-new m a b = cc

pub stays-refl : (ms : List Mark) → StaysMet ms ms
stays-refl ms r m is n = (m, is, n)

pub stays-set : (ms : List Mark) (r : ℕ) (n old : Mark) → slice_get ms r ≡ Some old → (n ≡ mark.New → ⊥) → StaysMet ms (slice_set ms r n)
stays-set ms r n old is f q m at h = elim (cases_eq q r) [
  | inl same ↦ (n, subst (λ k. slice_get (slice_set ms r n) k ≡ Some n) (sym same) (get-set-same ms r old n is), f)
  | inr other ↦ (m, get-set-other ms r q n other ∙ at, h)
]

-- ---- the exits of `go_on`

module _ (cs : List Stored) (ms : List Mark) (fs : List Frame) (f : Frame) (done : AreDone cs ms) (way : Frames cs ms (fs ++ f ∷ [])) (c0 : Stored) (there : slice_get cs f.cell ≡ Some c0) where
  both : Each (FrameHolds cs ms) fs × Each (FrameHolds cs ms) (f ∷ [])
  both = each-split _ fs (f ∷ []) way.holds

  top : FrameHolds cs ms f
  top = both.1.0

  cell-is : top.cell ≡ c0
  unfolding top both
  cell-is = some-inj top.cell c0 (sym top.there ∙ there)

  pub top-open : slice_get ms f.cell ≡ Some mark.Open
  unfolding top both
  top-open = top.is_open

  down : Descends cs fs × Each (λ h. (h.cell ≢ f.cell) × Falls cs h.cell f.cell) fs
  down = descends-split cs fs f way.descends

  child-is : (k : ℕ) (o : Option ℕ) → child_of f.cell c0 k ≡ o → child_of f.cell top.cell k ≡ o
  unfolding top both
  child-is k o e = ap (λ c. child_of f.cell c k) cell-is ∙ e

  other-holds : (n : Mark) (h : Frame) → h.cell ≢ f.cell → FrameHolds cs ms h → FrameHolds cs (slice_set ms f.cell n) h
  other-holds n h ne q = record {
    cell = q.cell;
    there = q.there;
    no_link = q.no_link;
    is_open = get-set-other ms f.cell h.cell n ne ∙ q.is_open;
    before = q.before;
    next = q.next;
  }

  -- it is done
  pub exit-none : child_of f.cell c0 f.next ≡ None → Goes cs ms fs f (slice_set ms f.cell mark.Done) fs
  unfolding top both down
  exit-none e =
      let all = child-none f.cell top.cell f.next (child-is f.next None e) in
      let finite : IsFinite cs f.cell = ends (λ j child.
      let same : child.0 ≡ top.cell = some-inj child.0 top.cell (sym child.1 ∙ top.there) in
      let n = names-child f.cell top.cell j (subst (λ x. Names f.cell x j) same child.2) top.no_link in
      top.before n.0 j (let a = n.1 in omega arith) n.2) in
      record {
        frames = record {
          holds = each-map (λ h. FrameHolds cs ms h × ((h.cell ≢ f.cell) × Falls cs h.cell f.cell)) _ fs (λ h q. other-holds mark.Done h q.1.0 q.0) (each-both (FrameHolds cs ms) _ fs both.0 down.1);
          descends = down.0;
          met = λ r at. elim (cases_eq r f.cell) [
            | inl same ↦ absurd (no-mark mark.Done refl (mark-at ms f.cell mark.Done mark.Open mark.Open top.is_open (subst (λ q. slice_get (slice_set ms f.cell mark.Done) q ≡ Some mark.Open) same at)))
            | inr other ↦ elim (on-split r fs f (way.met r (sym (get-set-other ms f.cell r mark.Done other) ∙ at))) [ inl o ↦ o | inr e ↦ absurd (other e) ]
          ];
        };
        done = λ r at. elim (cases_eq r f.cell) [
          | inl same ↦ subst (IsFinite cs) (sym same) finite
          | inr other ↦ done r (sym (get-set-other ms f.cell r mark.Done other) ∙ at)
        ];
        stays = stays-set ms f.cell mark.Done mark.Open top.is_open (λ h. done-new mark.Done refl h);
        less =
            let a = left-set cs ms f.cell top.cell mark.Open mark.Done top.there top.is_open in
            let b = frames-add cs fs f in
            let d = frame-at cs f top.cell top.there in
            let n = top.next in
            omega arith;
      }

  -- the next is done
  pub exit-next : (to : ℕ) → child_of f.cell c0 f.next ≡ Some to → IsFinite cs to →
      (f' : Frame) → f'.cell ≡ f.cell → f'.next ≡ f.next + 1 → (fs' : List Frame) → fs' ≡ fs ++ f' ∷ [] → Goes cs ms fs f ms fs'
  unfolding top both down
  exit-next to child at f' ce ne fs' is = subst (λ (x : List Frame). Goes cs ms fs f ms x) (sym is) (
      let k = child-is f.next (Some to) child in
      let inside = (child-names f.cell top.cell f.next to k).0 in
      let new : FrameHolds cs ms f' = record {
        cell = top.cell;
        there = ap (λ q. slice_get cs q) ce ∙ top.there;
        no_link = top.no_link;
        is_open = ap (λ q. slice_get ms q) ce ∙ top.is_open;
        before = λ i j less at'.
            let at'' : child_of f.cell top.cell i ≡ Some j = subst (λ q. child_of q top.cell i ≡ Some j) ce at' in
            elim (cases_eq i f.next) [
              | inl same ↦
                  let j-is : to ≡ j = some-inj to j (sym k ∙ ap (λ q. child_of f.cell top.cell q) (sym same) ∙ at'') in
                  subst (IsFinite cs) j-is at
              | inr other ↦ top.before i j (omega arith) at''
            ];
        next = omega arith;
      } in
      record {
        frames = record {
          holds = each-join _ fs (f' ∷ []) both.0 (new, tt);
          descends = descends-join cs fs f' down.0 (each-map (λ h. (h.cell ≢ f.cell) × Falls cs h.cell f.cell) _ fs (λ h q. subst (λ x. (h.cell ≢ x) × Falls cs h.cell x) (sym ce) q) down.1);
          met = λ r o. elim (on-split r fs f (way.met r o)) [ inl a ↦ on-left r fs (f' ∷ []) a | inr e ↦ on-last r fs f' (e ∙ sym ce) ];
        };
        done = done;
        stays = stays-refl ms;
        less =
            let b = frames-add cs fs f in
            let b' = frames-add cs fs f' in
            let d = frame-at cs f top.cell top.there in
            let d' = frame-at cs f' top.cell (ap (λ q. slice_get cs q) ce ∙ top.there) in
            omega arith;
      })

  falls-on : (r : ℕ) (hs : List Frame) → IsOn r hs → Each (λ h. (h.cell ≢ f.cell) × Falls cs h.cell f.cell) hs → Falls cs r f.cell
  falls-on r [] o h = absurd o
  falls-on r (x ∷ hs) (inl e) h = subst (λ q. Falls cs q f.cell) (sym e) h.0.1
  falls-on r (x ∷ hs) (inr o) h = falls-on r hs o h.1

  -- the next leads back
  pub exit-cycle : (to e : ℕ) → child_of f.cell c0 f.next ≡ Some to → IsLast cs to e → slice_get ms e ≡ Some mark.Open → HasNoReading cs
  unfolding top both down
  exit-cycle to e child last at w g q =
      let low : weight (g e) < weight (g f.cell) = child-falls cs f.cell top.cell f.next to e top.there (child-is f.next (Some to) child) last w g q in
      elim (on-split e fs f (way.met e at)) [
        | inl o ↦ (let high : weight (g f.cell) < weight (g e) = falls-on e fs o down.1 w g q in omega arith)
        | inr same ↦ (let even : weight (g e) ≡ weight (g f.cell) = ap (λ x. weight (g x)) same in omega arith)
      ]

  -- the next is met for the first time
  pub exit-new : (to e : ℕ) → child_of f.cell c0 f.next ≡ Some to → IsLast cs to e → slice_get ms e ≡ Some mark.New →
      (f' : Frame) → f'.cell ≡ e → f'.next ≡ 0 → (hs fs' : List Frame) → hs ≡ fs ++ f ∷ [] → fs' ≡ hs ++ f' ∷ [] → Goes cs ms fs f (slice_set ms e mark.Open) fs'
  unfolding top both down
  exit-new to e child last at f' ce ne hs fs' hse fse = subst (λ (x : List Frame). Goes cs ms fs f (slice_set ms e mark.Open) x) (sym fse) (subst (λ (x : List Frame). Goes cs ms fs f (slice_set ms e mark.Open) (x ++ f' ∷ [])) (sym hse) main)
    where
      fall : Falls cs f.cell e
      fall = child-falls cs f.cell top.cell f.next to e top.there (child-is f.next (Some to) child) last

      apart : (h : Frame) → FrameHolds cs ms h → h.cell ≢ e
      apart h q same = open-new mark.Open refl (some-inj mark.Open mark.New (sym q.is_open ∙ ap (λ k. slice_get ms k) same ∙ at))

      still : (h : Frame) → FrameHolds cs ms h → FrameHolds cs (slice_set ms e mark.Open) h
      still h q = record { cell = q.cell; there = q.there; no_link = q.no_link; is_open = get-set-other ms e h.cell mark.Open (apart h q) ∙ q.is_open; before = q.before; next = q.next }

      new : FrameHolds cs (slice_set ms e mark.Open) f'
      new = record {
        cell = last.cell;
        there = ap (λ q. slice_get cs q) ce ∙ last.there;
        no_link = last.no_link;
        is_open = ap (λ q. slice_get (slice_set ms e mark.Open) q) ce ∙ get-set-same ms e mark.New mark.Open at;
        before = λ i j less c. absurd (omega arith);
        next = omega arith;
      }

      main : Goes cs ms fs f (slice_set ms e mark.Open) ((fs ++ f ∷ []) ++ f' ∷ [])
      main = record {
        frames = record {
          holds = each-join _ (fs ++ f ∷ []) (f' ∷ []) (each-map (FrameHolds cs ms) _ (fs ++ f ∷ []) still way.holds) (new, tt);
          descends = descends-join cs (fs ++ f ∷ []) f' way.descends
              (each-join _ fs (f ∷ [])
              (each-map (λ h. FrameHolds cs ms h × ((h.cell ≢ f.cell) × Falls cs h.cell f.cell)) _ fs
              (λ h q. (λ same. apart h q.0 (same ∙ ce), λ w g r. let a : weight (g f.cell) < weight (g h.cell) = q.1.1 w g r in let b : weight (g e) < weight (g f.cell) = fall w g r in let d : weight (g f'.cell) ≡ weight (g e) = ap (λ x. weight (g x)) ce in omega arith))
              (each-both (FrameHolds cs ms) _ fs both.0 down.1))
              ((λ same. apart f top (same ∙ ce), λ w g r. subst (λ x. weight (g x) < weight (g f.cell)) (sym ce) (fall w g r)), tt));
          met = λ r o. elim (cases_eq r e) [
            | inl same ↦ on-last r (fs ++ f ∷ []) f' (same ∙ sym ce)
            | inr other ↦ on-left r (fs ++ f ∷ []) (f' ∷ []) (way.met r (sym (get-set-other ms e r mark.Open other) ∙ o))
          ];
        };
        done = λ r o. elim (cases_eq r e) [
          | inl same ↦ absurd (no-mark mark.Done refl (sym (mark-at ms e mark.Open mark.Done mark.New at (subst (λ q. slice_get (slice_set ms e mark.Open) q ≡ Some mark.Done) same o))))
          | inr other ↦ done r (sym (get-set-other ms e r mark.Open other) ∙ o)
        ];
        stays = stays-set ms e mark.Open mark.New at (λ h. open-new mark.Open refl h);
        less =
            let a = left-set cs ms e last.cell mark.New mark.Open last.there at in
            let b = frames-add cs (fs ++ f ∷ []) f' in
            let d' = frame-at cs f' last.cell (ap (λ q. slice_get cs q) ce ∙ last.there) in
            omega arith;
      }

pub child-within : (cs : List Stored) → IsLinked cs → (r : ℕ) (c : Stored) → slice_get cs r ≡ Some c → (k j : ℕ) → child_of r c k ≡ Some j → j < length cs
child-within cs h r c is k j e = h.within r j (c, is, (child-names r c k j e).1)

pub last-within : (cs : List Stored) (ms : List Mark) (r e : ℕ) → length cs ≤ length ms → IsLast cs r e → e < length ms
last-within cs ms r e n l = let a = slice_get_within cs e l.cell l.there in omega (arith, n, a)

arity-small : (cs : List Stored) → IsLinked cs → (r : ℕ) (c : Stored) → slice_get cs r ≡ Some c → length cs < 2 ^ 63 → arity c < 2 ^ 63
arity-small cs h r (cell.BusCons a b) is m = omega arith
arity-small cs h r (cell.Node n zero) is m = omega arith
arity-small cs h r (cell.Node n (suc k)) is m = let a = h.within r (r + suc k) (cell.Node n (suc k), is, (omega arith, omega arith)) in omega arith
arity-small cs h r (cell.Bound to) is m = omega arith
arity-small cs h r (cell.Same to) is m = omega arith
arity-small cs h r (cell.Leaf s) is m = omega arith
arity-small cs h r cell.BusVar is m = omega arith
arity-small cs h r cell.BusNil is m = omega arith
arity-small cs h r cell.TermVar is m = omega arith
arity-small cs h r (cell.Int z) is m = omega arith

pub next-small : (cs : List Stored) (ms : List Mark) (fs rest : List Frame) (f : Frame) → IsLinked cs → length cs < 2 ^ 63 → Frames cs ms fs → fs ≡ rest ++ f ∷ [] → f.next < 2 ^ 63
next-small cs ms fs rest f h m w e =
    let t = (each-split (FrameHolds cs ms) rest (f ∷ []) (subst (λ (x : List Frame). Each (FrameHolds cs ms) x) e w.holds)).1.0 in
    let a = arity-small cs h f.cell t.cell t.there m in
    let b = t.next in
    omega arith

-- ---- cells that have a reading are finite

module _ (w : Bits) (cs : List Stored) (g : Reading) (q : CellsHold w cs g) (h : IsLinked cs) where
  by-chain : (n : ℕ) → ((j : ℕ) → weight (g j) < n → IsFinite cs j) → (m r : ℕ) → weight (g r) < suc n → chain cs r < m → IsFinite cs r
  by-chain n rec zero r less c = absurd (omega arith)
  by-chain n rec (suc m) r less c = ends (λ j child. way (link_of child.0) j child refl (λ k inside e. by-chain n rec m j inside e))
    where
      way : (o : Option Ref) (j : ℕ) (child : IsChild cs r j) → link_of child.0 ≡ o → ((k : ℕ) → weight (g j) < suc n → chain cs j < m → IsFinite cs j) → IsFinite cs j
      way None j child e go =
          let n' = names-child r child.0 j child.2 e in
          let l : weight (g j) < weight (g r) = child-weight w g r child.0 n'.0 j n'.2 (q r child.0 child.1) in
          rec j (omega arith)
      way (Some to) j child e go =
          let same : j ≡ to.0 = only-child r child.0 to j e child.2 in
          let v : weight (g r) ≡ weight (g j) = ap weight (link-value w g r child.0 to e (q r child.0 child.1) ∙ ap g (sym same)) in
          let f : chain cs to.0 < chain cs r = chain-falls cs h r child.0 to child.1 e in
          let d : chain cs j ≡ chain cs to.0 = ap (chain cs) same in
          go 0 (omega arith) (omega arith)

  by-weight : (n r : ℕ) → weight (g r) < n → IsFinite cs r
  by-weight zero r less = absurd (omega arith)
  by-weight (suc n) r less = by-chain n (λ j l. by-weight n j l) (suc (chain cs r)) r less (omega arith)

  pub finite-by-reading : AllFinite cs
  finite-by-reading r = by-weight (suc (weight (g r))) r (omega arith)

-- ---- from one root, and from all

pub root-frames : (cs : List Stored) (ms : List Mark) (r e : ℕ) → IsLast cs r e → Frames cs ms [] → slice_get ms e ≡ Some mark.New → (f : Frame) → f.cell ≡ e → f.next ≡ 0 → (fs hs : List Frame) → hs ≡ [] → fs ≡ hs ++ f ∷ [] →
    Frames cs (slice_set ms e mark.Open) fs
root-frames cs ms r e l none at f ce ne fs hs he fe = subst (λ (x : List Frame). Frames cs (slice_set ms e mark.Open) x) (sym (fe ∙ ap (λ (x : List Frame). x ++ f ∷ []) he)) (record {
  holds = (
    record {
      cell = l.cell;
      there = ap (λ q. slice_get cs q) ce ∙ l.there;
      no_link = l.no_link;
      is_open = ap (λ q. slice_get (slice_set ms e mark.Open) q) ce ∙ get-set-same ms e mark.New mark.Open at;
      before = λ i j less c. absurd (omega arith);
      next = omega arith;
    },
    tt,
  );
  descends = (tt, tt);
  met = λ q o. elim (cases_eq q e) [
    | inl same ↦ inl (same ∙ sym ce)
    | inr other ↦ absurd (none.met q (sym (get-set-other ms e q mark.Open other) ∙ o))
  ];
})

pub root-done : (cs : List Stored) (ms : List Mark) (e : ℕ) → slice_get ms e ≡ Some mark.New → AreDone cs ms → AreDone cs (slice_set ms e mark.Open)
root-done cs ms e at done r o = elim (cases_eq r e) [
  | inl same ↦ absurd (no-mark mark.Done refl (sym (mark-at ms e mark.Open mark.Done mark.New at (subst (λ q. slice_get (slice_set ms e mark.Open) q ≡ Some mark.Done) same o))))
  | inr other ↦ done r (sym (get-set-other ms e r mark.Open other) ∙ o)
]

done-of : (cs : List Stored) (ms : List Mark) (r : ℕ) (m : Mark) → Frames cs ms [] → slice_get ms r ≡ Some m → (m ≡ mark.New → ⊥) → slice_get ms r ≡ Some mark.Done
done-of cs ms r mark.New none at n = absurd (n refl)
done-of cs ms r mark.Open none at n = absurd (none.met r at)
done-of cs ms r mark.Done none at n = at

pub root-finite : (cs : List Stored) (ms ms' : List Mark) (r e : ℕ) → IsLast cs r e → slice_get ms e ≡ Some mark.New → StaysMet (slice_set ms e mark.Open) ms' → AreDone cs ms' → Frames cs ms' [] → IsFinite cs r
root-finite cs ms ms' r e l at stays done none =
    let s = stays e mark.Open (get-set-same ms e mark.New mark.Open at) (λ h. open-new mark.Open refl h) in
    l.finite (done e (done-of cs ms' e s.0 none s.1 s.2))

pub mark-finite : (cs : List Stored) (ms : List Mark) (e floor : ℕ) → AreFinite cs floor → AreDone cs ms → (e < floor) ⊎ (slice_get ms e ≡ Some mark.Done) → IsFinite cs e
mark-finite cs ms e floor low done (inl less) = low e less
mark-finite cs ms e floor low done (inr at) = done e at

pub done-finite : (cs : List Stored) (ms' ms : List Mark) → ms' ≡ ms → (e floor : ℕ) (m : Mark) → m ≡ mark.Done → (m ≡ mark.Done → (e < floor) ⊎ (slice_get ms' e ≡ Some mark.Done)) → AreFinite cs floor → AreDone cs ms → IsFinite cs e
done-finite cs ms' ms same e floor m is h low done = mark-finite cs ms e floor low done (subst (λ (x : List Mark). (e < floor) ⊎ (slice_get x e ≡ Some mark.Done)) same (h is))

pub open-mark : (ms' ms : List Mark) → ms' ≡ ms → (e : ℕ) (m : Mark) → m ≡ mark.Open → ((m ≡ mark.Done → ⊥) → slice_get ms' e ≡ Some m) → slice_get ms e ≡ Some mark.Open
open-mark ms' ms same e m is h = ap (λ (x : List Mark). slice_get x e) (sym same) ∙ h (λ d. no-mark m d is) ∙ ap Some is

pub new-mark : (ms' ms : List Mark) → ms' ≡ ms → (e : ℕ) (m : Mark) → m ≡ mark.New → ((m ≡ mark.Done → ⊥) → slice_get ms' e ≡ Some m) → slice_get ms e ≡ Some mark.New
new-mark ms' ms same e m is h = ap (λ (x : List Mark). slice_get x e) (sym same) ∙ h (λ d. done-new m d is) ∙ ap Some is

pub met-finite : (cs : List Stored) (ms : List Mark) (e floor : ℕ) (m : Mark) → (m ≡ mark.Done → (e < floor) ⊎ (slice_get ms e ≡ Some mark.Done)) → ((m ≡ mark.Done → ⊥) → slice_get ms e ≡ Some m) →
    (m ≡ mark.New → ⊥) → AreFinite cs floor → AreDone cs ms → Frames cs ms [] → IsFinite cs e
met-finite cs ms e floor mark.New h o n low done none = absurd (n refl)
met-finite cs ms e floor mark.Open h o n low done none = absurd (none.met e (o (λ x. no-mark mark.Open x refl)))
met-finite cs ms e floor mark.Done h o n low done none = mark-finite cs ms e floor low done (h refl)

pub new-done : (cs : List Stored) (ms : List Mark) → AreNew ms → AreDone cs ms
new-done cs ms n r at = absurd (done-new mark.Done refl (n r mark.Done at))

pub new-frames : (cs : List Stored) (ms : List Mark) → AreNew ms → Frames cs ms []
new-frames cs ms n = record { holds = tt; descends = tt; met = λ r at. absurd (open-new mark.Open refl (n r mark.Open at)) }

pub past-finite : (cs : List Stored) (r : ℕ) → length cs ≤ r → IsFinite cs r
past-finite cs r less = ends (λ j child. absurd (let a = slice_get_within cs r child.0 child.1 in omega arith))

pub more-new : (ms ms' : List Mark) → ms' ≡ ms ++ mark.New ∷ [] → AreNew ms → AreNew ms'
more-new ms ms' e h r m at = go ms r m h (sym (ap (λ (x : List Mark). slice_get x r) e) ∙ at)
  where
    go : (xs : List Mark) (r : ℕ) (m : Mark) → ((q : ℕ) (n : Mark) → slice_get xs q ≡ Some n → n ≡ mark.New) → slice_get (xs ++ mark.New ∷ []) r ≡ Some m → m ≡ mark.New
    go [] zero m h a = sym (some-inj mark.New m a)
    go [] (suc r) m h a = absurd (no_some _ m refl a)
    go (x ∷ xs) zero m h a = h zero m a
    go (x ∷ xs) (suc r) m h a = go xs r m (λ q n b. h (suc q) n b) a

pub none-new : AreNew []
none-new r m at = absurd (no_some _ m refl at)

is_yes : {E : Type 0} → Result Bool E → Bool
is_yes (Ok b) = b
is_yes (Err e) = Bool.false

pub ok-apart : {E : Type 0} → ◌≡◌ {A = Result Bool E} (Ok Bool.true) (Ok Bool.false) → ⊥
unfolding is_yes
ok-apart e = let x : Bool.true ≡ Bool.false = ap is_yes e in cc

-- ---- what was met

met-left : (r : ℕ) (xs ys : List ℕ) → IsMetIn r xs → IsMetIn r (xs ++ ys)
met-left r [] ys h = absurd h
met-left r (x ∷ xs) ys (inl e) = inl e
met-left r (x ∷ xs) ys (inr h) = inr (met-left r xs ys h)

met-last : (r : ℕ) (xs : List ℕ) (x : ℕ) → r ≡ x → IsMetIn r (xs ++ x ∷ [])
met-last r [] x e = inl e
met-last r (y ∷ xs) x e = inr (met-last r xs x e)

met-split : (r : ℕ) (xs : List ℕ) (x : ℕ) → IsMetIn r (xs ++ x ∷ []) → IsMetIn r xs ⊎ (r ≡ x)
met-split r [] x (inl e) = inr e
met-split r [] x (inr h) = absurd h
met-split r (y ∷ xs) x (inl e) = inl (inl e)
met-split r (y ∷ xs) x (inr h) = elim (met-split r xs x h) [ inl a ↦ inl (inr a) | inr e ↦ inr e ]

within-set : (ms : List Mark) (at : ℕ) (m : Mark) (met : List ℕ) → Each (λ r. r < length ms) met → Each (λ r. r < length (slice_set ms at m)) met
within-set ms at m met h = subst (λ n. Each (λ (r : ℕ). r < n) met) (sym (length-set ms at m)) h

pub noted-done : (ms : List Mark) (met : List ℕ) (at : ℕ) → IsNoted ms met → slice_get ms at ≡ Some mark.Open → IsNoted (slice_set ms at mark.Done) met
noted-done ms met at h is = record {
  listed = λ r m o n. elim (cases_eq r at) [
    | inl same ↦ h.listed r mark.Open (ap (λ k. slice_get ms k) same ∙ is) (λ e. open-new mark.Open refl e)
    | inr other ↦ h.listed r m (sym (get-set-other ms at r mark.Done other) ∙ o) n
  ];
  within = within-set ms at mark.Done met h.within;
}

pub noted-met : (ms : List Mark) (met met' : List ℕ) (at : ℕ) → IsNoted ms met → at < length ms → met' ≡ met ++ at ∷ [] → IsNoted ms met'
noted-met ms met met' at h less e = subst (λ (x : List ℕ). IsNoted ms x) (sym e) (record {
  listed = λ r m o n. met-left r met (at ∷ []) (h.listed r m o n);
  within = each-join _ met (at ∷ []) h.within (less, tt);
})

pub noted-as : (m : Mark) (ms : List Mark) (met met' : List ℕ) (at : ℕ) → IsNoted ms met → at < length ms → met' ≡ met ++ at ∷ [] → IsNoted (slice_set ms at m) met'
noted-as m ms met met' at h less e = subst (λ (x : List ℕ). IsNoted (slice_set ms at m) x) (sym e) (record {
  listed = λ r n o new. elim (cases_eq r at) [
    | inl same ↦ met-last r met at same
    | inr other ↦ met-left r met (at ∷ []) (h.listed r n (sym (get-set-other ms at r m other) ∙ o) new)
  ];
  within = within-set ms at m (met ++ at ∷ []) (each-join _ met (at ∷ []) h.within (less, tt));
})

pub noted-new : (ms : List Mark) (met met' : List ℕ) (at : ℕ) → IsNoted ms met → at < length ms → met' ≡ met ++ at ∷ [] → IsNoted (slice_set ms at mark.Open) met'
noted-new = noted-as mark.Open

pub noted-back : (ms : List Mark) (met rest : List ℕ) (at : ℕ) → IsNoted ms met → met ≡ rest ++ at ∷ [] → IsNoted (slice_set ms at mark.New) rest
noted-back ms met rest at h e =
    let w = each-split _ rest (at ∷ []) (subst (λ (x : List ℕ). Each (λ r. r < length ms) x) e h.within) in
    let less : at < length ms = w.1.0 in
    record {
      listed = λ r m o n. elim (cases_eq r at) [
        | inl same ↦ absurd (n (sym (mark-at ms at mark.New m (get_or ms at mark.New) (slice_get-get_or ms at mark.New less) (ap (λ k. slice_get (slice_set ms at mark.New) k) (sym same) ∙ o))))
        | inr other ↦ elim (met-split r rest at (subst (λ (x : List ℕ). IsMetIn r x) e (h.listed r m (sym (get-set-other ms at r mark.New other) ∙ o) n))) [ inl a ↦ a | inr x ↦ absurd (other x) ]
      ];
      within = within-set ms at mark.New rest w.0;
    }

pub back-within : (ms : List Mark) (met rest : List ℕ) (at : ℕ) → IsNoted ms met → met ≡ rest ++ at ∷ [] → at < length ms
back-within ms met rest at h e = (each-split _ rest (at ∷ []) (subst (λ (x : List ℕ). Each (λ r. r < length ms) x) e h.within)).1.0

pub none-noted : (ms : List Mark) (met : List ℕ) → IsNoted ms met → met ≡ [] → AreNew ms
none-noted ms met h e r mark.New at = refl
none-noted ms met h e r mark.Open at = absurd (subst (λ (x : List ℕ). IsMetIn r x) e (h.listed r mark.Open at (λ x. open-new mark.Open refl x)))
none-noted ms met h e r mark.Done at = absurd (subst (λ (x : List ℕ). IsMetIn r x) e (h.listed r mark.Done at (λ x. done-new mark.Done refl x)))

pub new-noted : (ms : List Mark) (met : List ℕ) → AreNew ms → met ≡ [] → IsNoted ms met
new-noted ms met n e = subst (λ (x : List ℕ). IsNoted ms x) (sym e) (record { listed = λ r m at k. absurd (k (n r m at)); within = tt })
