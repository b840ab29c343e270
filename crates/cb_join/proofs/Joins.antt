-- Cells that become one.
use Rattle.std.proofs.Common.{◌≡◌, inl, inr, ℕ, zero, suc, ◌+◌, ◌^◌, ◌<◌, ◌≤◌, ◌↔◌, Bool, List, [], ◌∷◌, ◌++◌, length, map, Some, None, IsTrue, refl, sym, ap, subst, ◌∙◌, arith, length-append}
use Rattle.std.specs.Prelude.{slice_get, slice_set}
use Rattle.std.proofs.lemmas.Bool.{cases_eq}
use Rattle.std.proofs.lemmas.Option.{slice_get_within}
use Rattle.std.proofs.lemmas.List.{length-set}
use Rattle.cb_model.specs.declared.Sort.{Sort}
use Rattle.cb_model.specs.Bits.{Bits, Each, numbers_from}
use Rattle.cb_model.specs.Values.{Ground, Int, Name, Grounds, Last, More, grounds, Fits}
use Rattle.cb_model.specs.Derivation.{Outermost, outermost, ABit, Empty, NotEmpty, AnInt, ANode}
use Rattle.cb_heap.specs.declared.Stored.{Stored}
use Rattle.cb_heap.specs.declared.Stored.TheVariants as cell
use Rattle.cb_heap.specs.declared.Ref.{Ref}
use Rattle.cb_heap.specs.Reading.{Reading, CellHolds, IsReading, Agree, AgreeBits, side_by_side, IsUnbound, form_of}
use Rattle.cb_heap.specs.Links.{IsLinked, LinkFalls, IsSolid, link_of}
use Rattle.cb_heap.specs.Heap.{Terms}
use Rattle.cb_heap.specs.Moments.{KeepsMoments}
use Rattle.cb_heap.proofs.Steps.{some-inj, no_some, get-set-same, get-set-other, bound-step, same-step, leaf-left, cons-left, node-left, form-tells, one-sort}
use Rattle.cb_heap.proofs.Rewriting.{linked-set, sorted-set, solid-stays, unbound-no-solid, solid-of}
use Rattle.cb_join.specs.Joins.{Alike, owed_pairs, owed_leaves, owed_most, IsWithin, SlotsBelow, LeavesBelow, Rising, leaf_of, leaf_count, IsEnd, Joined, Clashes, Equated, KeepsEnds, KeepsLeaves, NoneAgree, work, work_of}
use Rattle.cb_join.proofs.Ends.{ends-bound}

-- ---- lists

pub side_more : (i j n : ℕ) → side_by_side i j (n + 1) ≡ side_by_side i j n ++ (i + n, j + n) ∷ []
side_more i j n = ap (λ k. side_by_side i j k) (let e : n + 1 ≡ suc n = omega arith in e) ∙ go i j n
  where
    go : (i j n : ℕ) → side_by_side i j (suc n) ≡ side_by_side i j n ++ (i + n, j + n) ∷ []
    go i j zero = ap (λ (p : ℕ × ℕ). p ∷ []) (ap (λ k. (k, j)) (let e : i ≡ i + 0 = omega arith in e) ∙ ap (λ k. (i + 0, k)) (let e : j ≡ j + 0 = omega arith in e))
    go i j (suc n) = ap (λ xs. (i, j) ∷ xs) (go (suc i) (suc j) n ∙ ap (λ (p : ℕ × ℕ). side_by_side (suc i) (suc j) n ++ p ∷ [])
        (ap (λ k. (k, suc j + n)) (let e : suc i + n ≡ i + suc n = omega arith in e) ∙ ap (λ k. (i + suc n, k)) (let e : suc j + n ≡ j + suc n = omega arith in e)))

append-append : {X : Type 0} (xs ys zs : List X) → (xs ++ ys) ++ zs ≡ xs ++ (ys ++ zs)
append-append [] ys zs = refl
append-append (x ∷ xs) ys zs = ap (λ l. x ∷ l) (append-append xs ys zs)

pub more-pairs : (ps xs ys : List (ℕ × ℕ)) (i j n : ℕ) → ys ≡ xs ++ (i + n, j + n) ∷ [] → xs ≡ ps ++ side_by_side i j n → ys ≡ ps ++ side_by_side i j (n + 1)
more-pairs ps xs ys i j n e h = e ∙ ap (λ l. l ++ (i + n, j + n) ∷ []) h ∙ append-append ps (side_by_side i j n) ((i + n, j + n) ∷ []) ∙ ap (λ l. ps ++ l) (sym (side_more i j n))

each-join : {A : Type 0} (P : A → Type 0) (xs ys : List A) → Each P xs → Each P ys → Each P (xs ++ ys)
each-join P [] ys a b = b
each-join P (x ∷ xs) ys a b = (a.0, each-join P xs ys a.1 b)

-- ---- one cell rewritten: work

pub work-set : (cs : List Stored) (v : ℕ) (c d : Stored) → slice_get cs v ≡ Some d → work (slice_set cs v c) + work_of d ≡ work cs + work_of c
work-set [] v c d is = absurd (no_some _ d refl is)
work-set (x ∷ cs) zero c d is =
    let e : work_of x ≡ work_of d = ap work_of (some-inj x d is) in
    let f : (work_of c + work cs) + work_of d ≡ (work_of x + work cs) + work_of c = omega arith in
    f
work-set (x ∷ cs) (suc v) c d is =
    let e = work-set cs v c d is in
    let f : (work_of x + work (slice_set cs v c)) + work_of d ≡ (work_of x + work cs) + work_of c = omega arith in
    f

within-set : (cs : List Stored) (v : ℕ) (c : Stored) (ps : List (ℕ × ℕ)) → IsWithin cs ps → IsWithin (slice_set cs v c) ps
within-set cs v c [] h = tt
within-set cs v c (p ∷ ps) h = (let n = length-set cs v c in let a = h.0.0 in let b = h.0.1 in (omega arith, omega arith), within-set cs v c ps h.1)

pub slots-set : (n : ℕ) (cs : List Stored) (v : ℕ) (c d : Stored) → slice_get cs v ≡ Some d → form_of c ≡ None → SlotsBelow n cs → SlotsBelow n (slice_set cs v c)
slots-set n cs v c d is e h r s at = elim (cases_eq r v) [
  | inl same ↦ absurd (no_some (form_of c) _ e (ap form_of (some-inj c (cell.Leaf s) (sym (subst (λ q. slice_get (slice_set cs v c) q ≡ Some c) (sym same) (get-set-same cs v d c is)) ∙ at))))
  | inr other ↦ h r s (sym (get-set-other cs v r c other) ∙ at)
]

leaves-owed : (n : ℕ) (cs : List Stored) (l r : ℕ) (a b : Stored) → slice_get cs l ≡ Some a → slice_get cs r ≡ Some b → Alike a b → SlotsBelow n cs → LeavesBelow n (owed_leaves a b)
leaves-owed n cs l r (cell.Leaf s) (cell.Leaf z) il ir al h = ((h l s il, h r z ir), tt)
leaves-owed n cs l r cell.BusNil cell.BusNil il ir al h = tt
leaves-owed n cs l r (cell.BusCons x y) (cell.BusCons i j) il ir al h = tt
leaves-owed n cs l r (cell.Int i) (cell.Int j) il ir al h = tt
leaves-owed n cs l r (cell.Node m k) (cell.Node o j) il ir al h = tt
leaves-owed n cs l r _ _ il ir al h = absurd al

-- ---- leaves rise, and there are fewer

rising-less : (n k j : ℕ) (cs : List Stored) → j ≤ k → Rising n k cs → Rising n j cs
rising-less n k j [] l h = omega arith
rising-less n k j (cell.Leaf s ∷ cs) l h = (let a = h.0 in omega arith, h.1)
rising-less n k j (cell.BusVar ∷ cs) l h = rising-less n k j cs l h
rising-less n k j (cell.BusNil ∷ cs) l h = rising-less n k j cs l h
rising-less n k j (cell.BusCons a b ∷ cs) l h = rising-less n k j cs l h
rising-less n k j (cell.TermVar ∷ cs) l h = rising-less n k j cs l h
rising-less n k j (cell.Int z ∷ cs) l h = rising-less n k j cs l h
rising-less n k j (cell.Node m i ∷ cs) l h = rising-less n k j cs l h
rising-less n k j (cell.Bound to ∷ cs) l h = rising-less n k j cs l h
rising-less n k j (cell.Same to ∷ cs) l h = rising-less n k j cs l h

rising-rest : (n k : ℕ) (c : Stored) (cs : List Stored) → Rising n k (c ∷ cs) → Rising n k cs
rising-rest n k (cell.Leaf s) cs h = let a = h.0 in rising-less n (suc s) k cs (omega arith) h.1
rising-rest n k cell.BusVar cs h = h
rising-rest n k cell.BusNil cs h = h
rising-rest n k (cell.BusCons a b) cs h = h
rising-rest n k cell.TermVar cs h = h
rising-rest n k (cell.Int z) cs h = h
rising-rest n k (cell.Node m i) cs h = h
rising-rest n k (cell.Bound to) cs h = h
rising-rest n k (cell.Same to) cs h = h

rising-link : (n k : ℕ) (c : Stored) (cs : List Stored) → form_of c ≡ None → Rising n k cs → Rising n k (c ∷ cs)
rising-link n k (cell.Bound to) cs e h = h
rising-link n k (cell.Same to) cs e h = h
rising-link n k cell.BusVar cs e h = h
rising-link n k cell.TermVar cs e h = h
rising-link n k (cell.Leaf s) cs e h = absurd (no_some _ _ e refl)
rising-link n k cell.BusNil cs e h = absurd (no_some _ _ e refl)
rising-link n k (cell.BusCons a b) cs e h = absurd (no_some _ _ e refl)
rising-link n k (cell.Int z) cs e h = absurd (no_some _ _ e refl)
rising-link n k (cell.Node m i) cs e h = absurd (no_some _ _ e refl)

pub rising-set : (n k : ℕ) (cs : List Stored) (v : ℕ) (c : Stored) → form_of c ≡ None → Rising n k cs → Rising n k (slice_set cs v c)
rising-set n k [] v c e h = h
rising-set n k (x ∷ cs) zero c e h = rising-link n k c cs e (rising-rest n k x cs h)
rising-set n k (cell.Leaf s ∷ cs) (suc v) c e h = (h.0, rising-set n (suc s) cs v c e h.1)
rising-set n k (cell.BusVar ∷ cs) (suc v) c e h = rising-set n k cs v c e h
rising-set n k (cell.BusNil ∷ cs) (suc v) c e h = rising-set n k cs v c e h
rising-set n k (cell.BusCons a b ∷ cs) (suc v) c e h = rising-set n k cs v c e h
rising-set n k (cell.TermVar ∷ cs) (suc v) c e h = rising-set n k cs v c e h
rising-set n k (cell.Int z ∷ cs) (suc v) c e h = rising-set n k cs v c e h
rising-set n k (cell.Node m i ∷ cs) (suc v) c e h = rising-set n k cs v c e h
rising-set n k (cell.Bound to ∷ cs) (suc v) c e h = rising-set n k cs v c e h
rising-set n k (cell.Same to ∷ cs) (suc v) c e h = rising-set n k cs v c e h

pub rising-count : (n k : ℕ) (cs : List Stored) → Rising n k cs → k + leaf_count cs ≤ n
rising-count n k [] h = omega arith
rising-count n k (cell.Leaf s ∷ cs) h = let a = h.0 in let b = rising-count n (suc s) cs h.1 in omega arith
rising-count n k (cell.BusVar ∷ cs) h = let b = rising-count n k cs h in omega arith
rising-count n k (cell.BusNil ∷ cs) h = let b = rising-count n k cs h in omega arith
rising-count n k (cell.BusCons x y ∷ cs) h = let b = rising-count n k cs h in omega arith
rising-count n k (cell.TermVar ∷ cs) h = let b = rising-count n k cs h in omega arith
rising-count n k (cell.Int z ∷ cs) h = let b = rising-count n k cs h in omega arith
rising-count n k (cell.Node m i ∷ cs) h = let b = rising-count n k cs h in omega arith
rising-count n k (cell.Bound to ∷ cs) h = let b = rising-count n k cs h in omega arith
rising-count n k (cell.Same to ∷ cs) h = let b = rising-count n k cs h in omega arith

pub leaf-set : (cs : List Stored) (v : ℕ) (c d : Stored) → slice_get cs v ≡ Some d → leaf_count (slice_set cs v c) + leaf_of d ≡ leaf_count cs + leaf_of c
leaf-set [] v c d is = absurd (no_some _ d refl is)
leaf-set (x ∷ cs) zero c d is =
    let e : leaf_of x ≡ leaf_of d = ap leaf_of (some-inj x d is) in
    let f : (leaf_of c + leaf_count cs) + leaf_of d ≡ (leaf_of x + leaf_count cs) + leaf_of c = omega arith in
    f
leaf-set (x ∷ cs) (suc v) c d is =
    let e = leaf-set cs v c d is in
    let f : (leaf_of x + leaf_count (slice_set cs v c)) + leaf_of d ≡ (leaf_of x + leaf_count cs) + leaf_of c = omega arith in
    f

owed-fewer : (a b : Stored) → Alike a b → length (owed_leaves a b) ≡ leaf_of b
owed-fewer (cell.Leaf s) (cell.Leaf z) al = refl
owed-fewer cell.BusNil cell.BusNil al = refl
owed-fewer (cell.BusCons x y) (cell.BusCons i j) al = refl
owed-fewer (cell.Int i) (cell.Int j) al = refl
owed-fewer (cell.Node n k) (cell.Node m j) al = refl
owed-fewer _ _ al = absurd al

-- ---- a variable is bound

unbound-work : (d : Stored) → IsUnbound d → work_of d ≡ 1
unbound-work cell.BusVar u = refl
unbound-work cell.TermVar u = refl
unbound-work (cell.Leaf z) u = absurd u
unbound-work cell.BusNil u = absurd u
unbound-work (cell.BusCons a b) u = absurd u
unbound-work (cell.Int z) u = absurd u
unbound-work (cell.Node n k) u = absurd u
unbound-work (cell.Bound to) u = absurd u
unbound-work (cell.Same to) u = absurd u

pub equated-bound : (ss : List Sort) (cs : List Stored) (ps ls : List (ℕ × ℕ)) (l r : ℕ) → IsLinked cs → IsWithin cs ps → (v : ℕ) (to : Ref) (d : Stored) → slice_get cs v ≡ Some d → IsUnbound d →
    to.0 < length cs → (s : Sort) → slice_get ss v ≡ Some s → slice_get ss to.0 ≡ Some s →
    ((g : Reading) → (g l ≡ g r) ↔ (g v ≡ g to.0)) → LinkFalls (slice_set cs v (cell.Bound to)) v (cell.Bound to) → KeepsEnds cs (slice_set cs v (cell.Bound to)) →
    Equated ss cs ps ls l r (slice_set cs v (cell.Bound to)) ps ls
equated-bound ss cs ps ls l r h wi v to d is u there s sv st turn falls one = record {
  joined = λ t w g. (
    λ p. ((bound-step t w ss cs g v to d is u).0 (p.0, (turn g).0 p.1.0), p.1.1, p.2),
    λ q. let p = (bound-step t w ss cs g v to d is u).1 q.0 in (p.0, ((turn g).1 p.1, q.1), q.2),
  );
  linked = linked-set cs v (cell.Bound to) d is h (unbound-no-solid d (cell.Bound to) u) falls (λ j n. subst (λ k. k < length cs) (sym n) there);
  within = within-set cs v (cell.Bound to) ps wi;
  keeps = record {
    sorted = λ t o. sorted-set cs v (cell.Bound to) d is t ss o (s, sv, st);
    slots = λ n a b. (slots-set n cs v (cell.Bound to) d is refl a, b);
    rises = λ n k o. rising-set n k cs v (cell.Bound to) refl o;
    fewer = let e = leaf-set cs v (cell.Bound to) d is in omega arith;
    ends = one;
  };
  less = let e = work-set cs v (cell.Bound to) d is in let f = unbound-work d u in omega arith;
}

-- ---- two solid cells become one

each-split : {A : Type 0} (P : A → Type 0) (xs ys : List A) → Each P (xs ++ ys) → Each P xs × Each P ys
each-split P [] ys h = (tt, h)
each-split P (x ∷ xs) ys h = let r = each-split P xs ys h.1 in ((h.0, r.0), r.1)

owed-step : (w : Bits) (g : Reading) (l r : ℕ) (a b : Stored) → Alike a b → CellHolds w g l a → g l ≡ g r →
    CellHolds w g r b ↔ (Agree g (owed_pairs l r a b) × AgreeBits w (owed_leaves a b))
owed-step w g l r (cell.Leaf s) (cell.Leaf z) al h e =
    let k = leaf-left w g r s z (sym e ∙ h) in (λ q. (tt, (k.0 q, tt)), λ q. k.1 q.1.0)
owed-step w g l r cell.BusNil cell.BusNil al h e = (λ q. (tt, tt), λ q. sym e ∙ h)
owed-step w g l r (cell.BusCons x y) (cell.BusCons i j) al h e =
    let k = cons-left w g r x y i j (h.0, h.1, h.2, h.3, sym e ∙ h.4) in (λ q. let p = k.0 q in ((p.0, (p.1, tt)), tt), λ q. k.1 (q.0.0, q.0.1.0))
owed-step w g l r (cell.Int i) (cell.Int j) al h e = (λ q. (tt, tt), λ q. sym e ∙ h ∙ ap Int al)
owed-step w g l r (cell.Node n k) (cell.Node m j) al h e =
    subst (λ (x : Stored). CellHolds w g r x ↔ (Agree g (side_by_side (suc l) (suc r) k) × AgreeBits w [])) (ap (λ x. cell.Node x k) al.0 ∙ ap (λ x. cell.Node m x) al.1)
    (let p = node-left w g r l n k (sym e ∙ h) in (λ q. (p.0 q, tt), λ q. p.1 q.0))
owed-step w g l r _ _ al h e = absurd al

owed-length : (l r : ℕ) (a b : Stored) → Alike a b → length (owed_pairs l r a b) < work_of b
owed-length l r (cell.Leaf s) (cell.Leaf z) al = omega arith
owed-length l r cell.BusNil cell.BusNil al = omega arith
owed-length l r (cell.BusCons x y) (cell.BusCons i j) al = omega arith
owed-length l r (cell.Int i) (cell.Int j) al = omega arith
owed-length l r (cell.Node n k) (cell.Node m j) al = let e = side-length (suc l) (suc r) k in let f : k ≡ j = al.1 in omega arith
  where
    side-length : (i j k : ℕ) → length (side_by_side i j k) ≡ k
    side-length i j zero = refl
    side-length i j (suc k) = ap suc (side-length (suc i) (suc j) k)
owed-length l r _ _ al = absurd al

side-within : (cs : List Stored) (i j k : ℕ) → i + k ≤ length cs → j + k ≤ length cs → IsWithin cs (side_by_side i j k)
side-within cs i j zero a b = tt
side-within cs i j (suc k) a b = ((omega arith, omega arith), side-within cs (suc i) (suc j) k (omega arith) (omega arith))

node-room : (cs : List Stored) → IsLinked cs → (l n k : ℕ) → slice_get cs l ≡ Some (cell.Node n k) → suc l + k ≤ length cs
node-room cs h l n zero is = let m = slice_get_within cs l (cell.Node n zero) is in omega arith
node-room cs h l n (suc k) is = let m = h.within l (l + suc k) (cell.Node n (suc k), is, (omega arith, omega arith)) in omega arith

owed-within : (cs : List Stored) → IsLinked cs → (l r : ℕ) (a b : Stored) → slice_get cs l ≡ Some a → slice_get cs r ≡ Some b → Alike a b → IsWithin cs (owed_pairs l r a b)
owed-within cs h l r (cell.Leaf s) (cell.Leaf z) il ir al = tt
owed-within cs h l r cell.BusNil cell.BusNil il ir al = tt
owed-within cs h l r (cell.BusCons x y) (cell.BusCons i j) il ir al = (
  (h.within l x.0 (cell.BusCons x y, il, inl refl), h.within r i.0 (cell.BusCons i j, ir, inl refl)),
  ((h.within l y.0 (cell.BusCons x y, il, inr refl), h.within r j.0 (cell.BusCons i j, ir, inr refl)), tt),
)
owed-within cs h l r (cell.Int i) (cell.Int j) il ir al = tt
owed-within cs h l r (cell.Node n k) (cell.Node m j) il ir al =
    side-within cs (suc l) (suc r) k (node-room cs h l n k il) (let e : k ≡ j = al.1 in let m = node-room cs h r m j ir in omega arith)
owed-within cs h l r _ _ il ir al = absurd al

pub equated-same : (ss : List Sort) (cs : List Stored) (ps ls : List (ℕ × ℕ)) (l r : ℕ) → IsLinked cs → IsWithin cs ps → (to : Ref) (a b : Stored) → to.0 ≡ l → l < r →
    slice_get cs l ≡ Some a → slice_get cs r ≡ Some b → IsSolid a → IsSolid b → Alike a b → (s : Sort) → slice_get ss l ≡ Some s → slice_get ss r ≡ Some s → KeepsEnds cs (slice_set cs r (cell.Same to)) →
    (ps' ls' : List (ℕ × ℕ)) → ps' ≡ ps ++ owed_pairs l r a b → ls' ≡ ls ++ owed_leaves a b →
    Equated ss cs ps ls l r (slice_set cs r (cell.Same to)) ps' ls'
equated-same ss cs ps ls l r h wi to a b tl less il ir sa sb al s sl sr one ps' ls' pe le =
    subst (λ (xs : List (ℕ × ℕ)). Equated ss cs ps ls l r (slice_set cs r (cell.Same to)) xs ls') (sym pe)
    (subst (λ (xs : List (ℕ × ℕ)). Equated ss cs ps ls l r (slice_set cs r (cell.Same to)) (ps ++ owed_pairs l r a b) xs) (sym le) main)
  where
    turn : (g : Reading) → g l ≡ g to.0
    turn g = sym (ap g tl)

    main : Equated ss cs ps ls l r (slice_set cs r (cell.Same to)) (ps ++ owed_pairs l r a b) (ls ++ owed_leaves a b)
    main = record {
      joined = λ t w g. (
        λ p.
            let q = (same-step t w ss cs g r to b ir).0 (p.0, sym p.1.0 ∙ turn g) in
            let o = (owed-step w g l r a b al (p.0.holds l a il) p.1.0).0 q.1 in
            (q.0, each-join _ ps (owed_pairs l r a b) p.1.1 o.0, each-join _ ls (owed_leaves a b) p.2 o.1),
        λ q.
            let x = each-split _ ps (owed_pairs l r a b) q.1 in
            let y = each-split _ ls (owed_leaves a b) q.2 in
            let e : g r ≡ g to.0 = q.0.holds r (cell.Same to) (get-set-same cs r b (cell.Same to) ir) in
            let la : CellHolds w g l a = q.0.holds l a (get-set-other cs r l (cell.Same to) (λ k. omega arith) ∙ il) in
            let e' : g l ≡ g r = turn g ∙ sym e in
            let p = (same-step t w ss cs g r to b ir).1 (q.0, (owed-step w g l r a b al la e').1 (x.1, y.1)) in
            (p.0, (e', x.0), y.0),
      );
      linked = linked-set cs r (cell.Same to) b ir h (λ _. tt) (omega arith, solid-stays cs r (cell.Same to) b ir (λ _. tt) to.0 (a, ap (λ k. slice_get cs k) tl ∙ il, sa)) (λ j n. let m = slice_get_within cs l a il in omega arith);
      within = each-join _ ps (owed_pairs l r a b) (within-set cs r (cell.Same to) ps wi) (within-set cs r (cell.Same to) (owed_pairs l r a b) (owed-within cs h l r a b il ir al));
      keeps = record {
        sorted = λ t o. sorted-set cs r (cell.Same to) b ir t ss o (s, sr, ap (λ k. slice_get ss k) tl ∙ sl);
        slots = λ n x y. (slots-set n cs r (cell.Same to) b ir refl x, each-join _ ls (owed_leaves a b) y (leaves-owed n cs l r a b il ir al x));
        rises = λ n k o. rising-set n k cs r (cell.Same to) refl o;
        fewer = let e = leaf-set cs r (cell.Same to) b ir in let f = owed-fewer a b al in let g = length-append ls (owed_leaves a b) in omega arith;
        ends = one;
      };
      less = let e = work-set cs r (cell.Same to) b ir in let f = owed-length l r a b al in let g = length-append ps (owed_pairs l r a b) in omega arith;
    }

-- ---- clash

Code : Outermost → Outermost → Type 0
Code ABit ABit = Unit {0}
Code Empty Empty = Unit {0}
Code NotEmpty NotEmpty = Unit {0}
Code (AnInt i) (AnInt j) = i ≡ j
Code (ANode n) (ANode m) = n ≡ m
Code _ _ = ⊥

code : (o : Outermost) → Code o o
unfolding Code
code ABit = tt
code Empty = tt
code NotEmpty = tt
code (AnInt i) = refl
code (ANode n) = refl

forms-agree : (w : Bits) (g : Reading) (l r : ℕ) (a b : Stored) (f h : Outermost) → form_of a ≡ Some f → form_of b ≡ Some h → CellHolds w g l a → CellHolds w g r b → g l ≡ g r → Code f h
forms-agree w g l r a b f h ef eh ha hb e =
    subst (Code f) (sym (form-tells w g l a f ha ef) ∙ ap outermost e ∙ form-tells w g r b h hb eh) (code f)

args-in : Ground → Grounds
args-in (Name n gs) = gs
args-in _ = Last

args-number : Grounds → ℕ
args-number Last = 0
args-number (More x xs) = suc (args-number xs)

number-of : (g : Reading) (j k : ℕ) → args-number (grounds (map g (numbers_from j k))) ≡ k
unfolding args-number
number-of g j zero = refl
number-of g j (suc k) = ap suc (number-of g (suc j) k)

same-number : (w : Bits) (g : Reading) (l r n m k j : ℕ) → CellHolds w g l (cell.Node n k) → CellHolds w g r (cell.Node m j) → g l ≡ g r → k ≡ j
unfolding args-in
same-number w g l r n m k j ha hb e =
    sym (number-of g (suc l) k) ∙ ap (λ x. args-number (args-in x)) (sym ha ∙ e ∙ hb) ∙ number-of g (suc r) j

pub not-alike : (w : Bits) (g : Reading) (l r : ℕ) (a b : Stored) → link_of a ≡ None → link_of b ≡ None → (IsUnbound a → ⊥) → (IsUnbound b → ⊥) → (Alike a b → ⊥) →
    CellHolds w g l a → CellHolds w g r b → g l ≡ g r → ⊥
unfolding Code
not-alike w g l r cell.BusVar b la lb ua ub na ha hb e = ua tt
not-alike w g l r cell.TermVar b la lb ua ub na ha hb e = ua tt
not-alike w g l r (cell.Bound to) b la lb ua ub na ha hb e = no_some _ to la refl
not-alike w g l r (cell.Same to) b la lb ua ub na ha hb e = no_some _ to la refl
not-alike w g l r a cell.BusVar la lb ua ub na ha hb e = ub tt
not-alike w g l r a cell.TermVar la lb ua ub na ha hb e = ub tt
not-alike w g l r a (cell.Bound to) la lb ua ub na ha hb e = no_some _ to lb refl
not-alike w g l r a (cell.Same to) la lb ua ub na ha hb e = no_some _ to lb refl
not-alike w g l r (cell.Leaf s) (cell.Leaf z) la lb ua ub na ha hb e = na tt
not-alike w g l r cell.BusNil cell.BusNil la lb ua ub na ha hb e = na tt
not-alike w g l r (cell.BusCons x y) (cell.BusCons i j) la lb ua ub na ha hb e = na tt
not-alike w g l r (cell.Int i) (cell.Int j) la lb ua ub na ha hb e = na (forms-agree w g l r (cell.Int i) (cell.Int j) _ _ refl refl ha hb e)
not-alike w g l r (cell.Node n k) (cell.Node m j) la lb ua ub na ha hb e = na (forms-agree w g l r (cell.Node n k) (cell.Node m j) _ _ refl refl ha hb e, same-number w g l r n m k j ha hb e)
not-alike w g l r a b la lb ua ub na ha hb e = forms-agree w g l r a b _ _ refl refl ha hb e

pub clash-sorts : (ss : List Sort) (cs : List Stored) (l r : ℕ) (s z : Sort) → slice_get ss l ≡ Some s → slice_get ss r ≡ Some z → (s ≡ z → ⊥) → Clashes ss cs l r
clash-sorts ss cs l r s z sl sr n t w g h e = n (one-sort t s z (g l) (h.fits l s sl) (subst (Fits t z) (sym e) (h.fits r z sr)))

-- ---- the exits of `equate`

module _ (ss : List Sort) (cs : List Stored) (ps ls : List (ℕ × ℕ)) (l r : ℕ) (h : IsLinked cs) (wi : IsWithin cs ps) (ends : IsEnd cs l × IsEnd cs r) (older : l < r)
    (s z : Sort) (sl : slice_get ss l ≡ Some s) (sr : slice_get ss r ≡ Some z) (a b : Stored) (il : slice_get cs l ≡ Some a) (ir : slice_get cs r ≡ Some b) where
  end-l : link_of a ≡ None
  end-l = subst (λ c. link_of c ≡ None) (some-inj ends.0.0 a (sym ends.0.1 ∙ il)) ends.0.2

  end-r : link_of b ≡ None
  end-r = subst (λ c. link_of c ≡ None) (some-inj ends.1.0 b (sym ends.1.1 ∙ ir)) ends.1.2

  pub young-linked : (to : Ref) → to.0 ≡ l → IsUnbound b → IsLinked (slice_set cs r (cell.Bound to))
  young-linked to tl u = linked-set cs r (cell.Bound to) b ir h (unbound-no-solid b (cell.Bound to) u) (inl (omega arith)) (λ j n. let m = slice_get_within cs l a il in omega arith)

  pub exit-young : (to : Ref) → to.0 ≡ l → s ≡ z → IsUnbound b → (cs' : List Stored) → cs' ≡ slice_set cs r (cell.Bound to) → Equated ss cs ps ls l r cs' ps ls
  exit-young to tl same u cs' e = subst (λ (x : List Stored). Equated ss cs ps ls l r x ps ls) (sym e)
      (equated-bound ss cs ps ls l r h wi r to b ir u (let m = slice_get_within cs l a il in omega arith)
      z sr (ap (λ k. slice_get ss k) tl ∙ sl ∙ ap Some same)
      (λ g. (λ x. sym x ∙ sym (ap g tl), λ x. sym (ap g tl) ∙ sym x)) (inl (omega arith))
      (ends-bound cs r b (cell.Bound to) to ir end-r refl (λ k. omega arith) (subst (IsEnd cs) (sym tl) ends.0)))

  old-falls : (to : Ref) → to.0 ≡ r → (IsUnbound b → ⊥) → LinkFalls (slice_set cs l (cell.Bound to)) l (cell.Bound to)
  old-falls to tr n = inr (b, ap (λ k. slice_get (slice_set cs l (cell.Bound to)) k) tr ∙ get-set-other cs l r (cell.Bound to) (λ k. omega arith) ∙ ir, solid-of b end-r n)

  pub old-linked : (to : Ref) → to.0 ≡ r → IsUnbound a → (IsUnbound b → ⊥) → IsLinked (slice_set cs l (cell.Bound to))
  old-linked to tr u n = linked-set cs l (cell.Bound to) a il h (unbound-no-solid a (cell.Bound to) u) (old-falls to tr n) (λ j e. let m = slice_get_within cs r b ir in omega arith)

  pub exit-old : (to : Ref) → to.0 ≡ r → s ≡ z → IsUnbound a → (IsUnbound b → ⊥) → (cs' : List Stored) → cs' ≡ slice_set cs l (cell.Bound to) → Equated ss cs ps ls l r cs' ps ls
  exit-old to tr same u n cs' e = subst (λ (x : List Stored). Equated ss cs ps ls l r x ps ls) (sym e)
      (equated-bound ss cs ps ls l r h wi l to a il u (let m = slice_get_within cs r b ir in omega arith)
      s sl (ap (λ k. slice_get ss k) tr ∙ sr ∙ ap Some (sym same))
      (λ g. (λ x. x ∙ sym (ap g tr), λ x. x ∙ ap g tr))
      (old-falls to tr n)
      (ends-bound cs l a (cell.Bound to) to il end-l refl (λ k. omega arith) (subst (IsEnd cs) (sym tr) ends.1)))

  pub exit-unlike : (IsUnbound a → ⊥) → (IsUnbound b → ⊥) → (Alike a b → ⊥) → Clashes ss cs l r
  exit-unlike nl nr na t w g q e = not-alike w g l r a b end-l end-r nl nr na (q.holds l a il) (q.holds r b ir) e

  pub same-linked : (to : Ref) → to.0 ≡ l → (IsUnbound a → ⊥) → IsLinked (slice_set cs r (cell.Same to))
  same-linked to tl nl = linked-set cs r (cell.Same to) b ir h (λ _. tt)
      (omega arith, solid-stays cs r (cell.Same to) b ir (λ _. tt) to.0 (a, ap (λ k. slice_get cs k) tl ∙ il, solid-of a end-l nl))
      (λ j n. let m = slice_get_within cs l a il in omega arith)

  pub exit-same : (to : Ref) → to.0 ≡ l → s ≡ z → (IsUnbound a → ⊥) → (IsUnbound b → ⊥) → Alike a b → (cs' : List Stored) → cs' ≡ slice_set cs r (cell.Same to) →
      (ps' ls' : List (ℕ × ℕ)) → ps' ≡ ps ++ owed_pairs l r a b → ls' ≡ ls ++ owed_leaves a b → Equated ss cs ps ls l r cs' ps' ls'
  exit-same to tl same nl nr al cs' e ps' ls' pe le = subst (λ (x : List Stored). Equated ss cs ps ls l r x ps' ls') (sym e)
      (equated-same ss cs ps ls l r h wi to a b tl older il ir (solid-of a end-l nl) (solid-of b end-r nr) al s sl (sr ∙ ap Some (sym same))
      (ends-bound cs r b (cell.Same to) to ir end-r refl (λ k. omega arith) (subst (IsEnd cs) (sym tl) ends.0)) ps' ls' pe le)

pub owed-below : (cs : List Stored) → IsLinked cs → (l r : ℕ) → (l < length cs) × (r < length cs) → (a b : Stored) → slice_get cs l ≡ Some a → slice_get cs r ≡ Some b → Alike a b → length cs < 2 ^ 64 →
    (l + owed_most a < 2 ^ 64) × (r + owed_most a < 2 ^ 64)
owed-below cs h l r t (cell.Leaf s) (cell.Leaf z) il ir al m = (let x = t.0 in omega arith, let x = t.1 in omega arith)
owed-below cs h l r t cell.BusNil cell.BusNil il ir al m = (let x = t.0 in omega arith, let x = t.1 in omega arith)
owed-below cs h l r t (cell.BusCons x y) (cell.BusCons i j) il ir al m = (let x = t.0 in omega arith, let x = t.1 in omega arith)
owed-below cs h l r t (cell.Int i) (cell.Int j) il ir al m = (let x = t.0 in omega arith, let x = t.1 in omega arith)
owed-below cs h l r t (cell.Node n k) (cell.Node o j) il ir al m =
    let x = node-room cs h l n k il in let y = node-room cs h r o j ir in let e : k ≡ j = al.1 in (omega arith, omega arith)
owed-below cs h l r t _ _ il ir al m = absurd al

pub is-true : (b : Bool) → b ≡ Bool.true → IsTrue b
is-true b e = e

pub is-false : (b : Bool) → b ≡ Bool.false → IsTrue b → ⊥
is-false b e h = let x : b ≡ Bool.true = h in cc

-- ---- the loop

agree-last : (g : Reading) (ps rest : List (ℕ × ℕ)) (l r : ℕ) → ps ≡ rest ++ (l, r) ∷ [] → Agree g ps ↔ ((g l ≡ g r) × Agree g rest)
agree-last g ps rest l r e = (
  λ a. let x = each-split _ rest ((l, r) ∷ []) (subst (Agree g) e a) in (x.1.0, x.0),
  λ y. subst (Agree g) (sym e) (each-join _ rest ((l, r) ∷ []) y.1 (y.0, tt)),
)

pub step-on : (ss : List Sort) (cs0 : List Stored) (ps0 ls0 : List (ℕ × ℕ)) (zs : List Sort) (cs cs' : List Stored) (ps rest ls ps' ls' : List (ℕ × ℕ)) (l r : ℕ) → zs ≡ ss → Joined ss cs0 ps0 ls0 cs ps ls → ps ≡ rest ++ (l, r) ∷ [] →
    Equated zs cs rest ls l r cs' ps' ls' → Joined ss cs0 ps0 ls0 cs' ps' ls'
step-on ss cs0 ps0 ls0 zs cs cs' ps rest ls ps' ls' l r same j e eq t w g = (
  λ x. let y = (j t w g).0 x in let a = (agree-last g ps rest l r e).0 y.1 in (q.joined t w g).0 (y.0, (a.0, a.1), y.2),
  λ y. let z = (q.joined t w g).1 y in (j t w g).1 (z.0, (agree-last g ps rest l r e).1 (z.1.0, z.1.1), z.2),
)
  where
    q : Equated ss cs rest ls l r cs' ps' ls'
    q = subst (λ (x : List Sort). Equated x cs rest ls l r cs' ps' ls') same eq

pub keeps-on : (ss : List Sort) (cs0 : List Stored) (ps0 ls0 : List (ℕ × ℕ)) (zs : List Sort) (cs cs' : List Stored) (ls ls' : List (ℕ × ℕ)) → zs ≡ ss → KeepsLeaves ss cs0 ls0 cs ls → KeepsLeaves zs cs ls cs' ls' → KeepsLeaves ss cs0 ls0 cs' ls'
keeps-on ss cs0 ps0 ls0 zs cs cs' ls ls' same p r = record {
  sorted = λ t o. q.sorted t (p.sorted t o);
  slots = λ n a b. let x = p.slots n a b in q.slots n x.0 x.1;
  rises = λ n k o. q.rises n k (p.rises n k o);
  fewer = let a = q.fewer in let b = p.fewer in omega arith;
  ends = λ r j h. q.ends r j (p.ends r j h);
}
  where
    q : KeepsLeaves ss cs ls cs' ls'
    q = subst (λ (x : List Sort). KeepsLeaves x cs ls cs' ls') same r

-- ---- moments

pub keeps-then : (a b d : Terms) → KeepsMoments a b → KeepsMoments b d → KeepsMoments a d
keeps-then a b d p q = record { moments = λ m w. q.moments m (p.moments m w); same = λ m w. q.same m (p.moments m w) ∙ p.same m w }

pub none-on : (ss : List Sort) (cs0 : List Stored) (ps0 ls0 : List (ℕ × ℕ)) (zs : List Sort) (cs : List Stored) (ps rest ls : List (ℕ × ℕ)) (l r : ℕ) → zs ≡ ss → Joined ss cs0 ps0 ls0 cs ps ls → ps ≡ rest ++ (l, r) ∷ [] → Clashes zs cs l r → NoneAgree ss cs0 ps0 ls0
none-on ss cs0 ps0 ls0 zs cs ps rest ls l r same j e n t w g q a b = let y = (j t w g).0 (q, a, b) in n t w g (subst (λ (x : List Sort). IsReading t w x cs g) (sym same) y.0) ((agree-last g ps rest l r e).0 y.1).0

pub within-last : (cs : List Stored) (ps rest : List (ℕ × ℕ)) (l r : ℕ) → IsWithin cs ps → ps ≡ rest ++ (l, r) ∷ [] → ((l < length cs) × (r < length cs)) × IsWithin cs rest
within-last cs ps rest l r h e = let x = each-split _ rest ((l, r) ∷ []) (subst (IsWithin cs) e h) in (x.1.0, x.0)

pub less-on : (w w' : ℕ) (ps rest ps' : List (ℕ × ℕ)) (l r : ℕ) → ps ≡ rest ++ (l, r) ∷ [] → w' + length ps' < w + suc (length rest) → w' + length ps' < w + length ps
less-on w w' ps rest ps' l r e h = let f : length ps ≡ length (rest ++ (l, r) ∷ []) = ap length e in let k = length-append rest ((l, r) ∷ []) in omega arith

pub no-items : {X : Type 0} (xs : List X) → length xs ≡ 0 → xs ≡ []
no-items [] e = refl
no-items (x ∷ xs) e = absurd (omega arith)

pub none-left : (ss : List Sort) (cs0 cs : List Stored) (ps0 ls0 ps ls : List (ℕ × ℕ)) → Joined ss cs0 ps0 ls0 cs ps ls → length ps ≡ 0 → Joined ss cs0 ps0 ls0 cs [] ls
none-left ss cs0 cs ps0 ls0 ps ls j e = subst (λ (x : List (ℕ × ℕ)). Joined ss cs0 ps0 ls0 cs x ls) (no-items ps e) j
