-- Marks tell how often nets are driven.
use Rattle.std.proofs.Common.{◌≡◌, ◌≢◌, inl, inr, ℕ, zero, suc, ◌+◌, ◌-◌, ◌<◌, ◌≤◌, Bool, true, false, cond, not, ◌&&◌, ◌||◌, ◌==◌, List, [], ◌∷◌, ◌++◌, length, take, drop, get_or, slice_set, replicate, flat_map, count_by, Contains, Option, Some, None, position, bytes_eq, refl, sym, ◌∙◌, ap, subst, arith, append_assoc, append-nil, length-append, length-take}
use Rattle.std.specs.Bool.{if◌then◌else◌}
use Rattle.std.specs.List.{list_any, list_all}
use Rattle.std.proofs.lemmas.Bool.{true≢false}
use Rattle.std.proofs.lemmas.Bool.Decides.{nat_tests}
use Rattle.std.proofs.lemmas.Option.{same_Some}
use Rattle.std.proofs.lemmas.List.{get_or-set_same, get_or-set_other, get_or-replicate, get_or_append_left, get_or-append-add, length-set, length-replicate, take_all}
use Rattle.std.proofs.lemmas.List.Recursion.{is_count_by}
use Rattle.std.proofs.Math.Seq.{get_or-append_seam, take-append_seam}
use Rattle.cb_model.specs.Text.{Text, all_different}
use Rattle.cb_model.specs.Circuits.{Instance, Module}
use Rattle.cb_model.specs.Facts.{drivers, all_driven_once}
use Rattle.cb_facts.specs.Reads.{AreNumbers}
use Rattle.cb_flat.proofs.Places.{position-cons, here_or, behind, position-append-found, position-append-lost, bytes_eq-refl, bytes_eq-same, position-Some, list_any-lost, Contains-cons}
use Rattle.cb_circ.specs.Marks.{marked, are_marked}
use Rattle.cb_facts.specs.declared.modules.RawModule.{RawModule}
use Rattle.cb_facts.specs.Modules.{texts}
use Rattle.cb_circ.specs.View.{module_view, IsWell}
use Rattle.cb_circ.specs.Marks.{AreWithin}
use Rattle.cb_circ.proofs.Names.{name-at, one-name, numbers-append, numbers-within, outs-flat, ins-flat, instances-long, instance-at, no_instance}

-- ---- counts

abbrev pub counted : (Text → Bool) → List Text → ℕ
counted p [] = 0
counted p (x ∷ xs) = cond (p x) (1 + counted p xs) (counted p xs)

count-same : (p : Text → Bool) (xs : List Text) → counted p xs ≡ count_by p xs
count-same p xs = is_count_by (counted p) p refl (λ y ys. refl) xs

counted-append : (p : Text → Bool) (xs ys : List Text) → counted p (xs ++ ys) ≡ counted p xs + counted p ys
counted-append p [] ys = let z : counted p ys ≡ 0 + counted p ys = omega arith in z
counted-append p (x ∷ xs) ys = step (p x) (counted-append p xs ys)
  where
    step : (b : Bool) → counted p (xs ++ ys) ≡ counted p xs + counted p ys → cond b (1 + counted p (xs ++ ys)) (counted p (xs ++ ys)) ≡ cond b (1 + counted p xs) (counted p xs) + counted p ys
    step true e = omega (arith, e)
    step false e = e

counted-lost : (x : Text) (xs : List Text) → position (bytes_eq x) xs ≡ None → counted (bytes_eq x) xs ≡ 0
counted-lost x [] e = refl
counted-lost x (y ∷ ys) e = step (bytes_eq x y) (position (bytes_eq x) ys) (counted-lost x ys) (sym (position-cons (bytes_eq x) y ys) ∙ e)
  where
    step : (b : Bool) (o : Option ℕ) → (o ≡ None → counted (bytes_eq x) ys ≡ 0) → here_or b o ≡ None → cond b (1 + counted (bytes_eq x) ys) (counted (bytes_eq x) ys) ≡ 0
    step true o f e = absurd (cc)
    step false None f e = f refl
    step false (Some k) f e = absurd (cc)

-- a name that isn't in a list is not counted in it
counted-out : (x : Text) (xs : List Text) → list_any (bytes_eq x) xs ≡ false → counted (bytes_eq x) xs ≡ 0
counted-out x [] e = refl
counted-out x (y ∷ ys) e = step (bytes_eq x y) e (counted-out x ys)
  where
    step : (b : Bool) → (b || list_any (bytes_eq x) ys) ≡ false → (list_any (bytes_eq x) ys ≡ false → counted (bytes_eq x) ys ≡ 0) → cond b (1 + counted (bytes_eq x) ys) (counted (bytes_eq x) ys) ≡ 0
    step true e f = absurd (true≢false e)
    step false e f = f e

both-parts : (a b : Bool) → (a && b) ≡ true → (a ≡ true) × (b ≡ true)
both-parts true b h = (refl, h)
both-parts false b h = absurd (true≢false (sym h))

counted-once : (x : Text) (xs : List Text) (k : ℕ) → all_different xs ≡ true → position (bytes_eq x) xs ≡ Some k → counted (bytes_eq x) xs ≡ 1
counted-once x [] k d e = absurd (cc)
counted-once x (y ∷ ys) k d e =
    let p = both-parts (not (list_any (bytes_eq y) ys)) (all_different ys) d in
    step (bytes_eq x y) (position (bytes_eq x) ys) refl (out (list_any (bytes_eq y) ys) refl p.0) (λ j. counted-once x ys j p.1) (sym (position-cons (bytes_eq x) y ys) ∙ e)
  where
    out : (b : Bool) → list_any (bytes_eq y) ys ≡ b → not b ≡ true → counted (bytes_eq y) ys ≡ 0
    out true e n = absurd (true≢false (sym n))
    out false e n = counted-out y ys e

    step : (b : Bool) (o : Option ℕ) → bytes_eq x y ≡ b → counted (bytes_eq y) ys ≡ 0 → ((j : ℕ) → o ≡ Some j → counted (bytes_eq x) ys ≡ 1) → here_or b o ≡ Some k → cond b (1 + counted (bytes_eq x) ys) (counted (bytes_eq x) ys) ≡ 1
    step true o q z f e = let w : counted (bytes_eq x) ys ≡ 0 = ap (λ t. counted (bytes_eq t) ys) (bytes_eq-same x y q) ∙ z in omega (arith, w)
    step false None q z f e = absurd (cc)
    step false (Some j) q z f e = f j refl

-- ---- marks

-- the marks of names by number: those that are driven so far, each once
pub record Marks (ns : List Text) (ms : List Bool) (xs : List Text) : Type 0 where
  pub long : length ms ≡ length ns
  pub once : (x : Text) (k : ℕ) → position (bytes_eq x) ns ≡ Some k → get_or ms k false ≡ true → counted (bytes_eq x) xs ≡ 1
  pub none : (x : Text) (k : ℕ) → position (bytes_eq x) ns ≡ Some k → get_or ms k false ≡ false → counted (bytes_eq x) xs ≡ 0

split-front : (n : ℕ) (ns : List Text) → n ≤ length ns → (take n ns ++ drop n ns ≡ ns) × (length (take n ns) ≡ n)
split-front zero ns l = (refl, refl)
split-front (suc n) [] l = absurd (omega (arith, l))
split-front (suc n) (x ∷ ns) l = let h = split-front n ns (omega (arith, l)) in (ap (λ (ys : List Text). x ∷ ys) h.0, ap suc h.1)

-- the inputs are marked
pub marks-start : (ns : List Text) (n : ℕ) (ms : List Bool) → n ≤ length ns → all_different (take n ns) ≡ true → ms ≡ replicate n true ++ replicate (length ns - n) false → Marks ns ms (take n ns)
marks-start ns n ms l d e = record {
  long = ap length e ∙ length-append (replicate n true) (replicate (length ns - n) false) ∙ (let a = length-replicate n true in let b = length-replicate (length ns - n) false in omega (arith, a, b, l));
  once = λ x k p m. from x k p m (position (bytes_eq x) (take n ns)) refl;
  none = λ x k p m. off x k p m (position (bytes_eq x) (take n ns)) refl;
}
  where
    s : (take n ns ++ drop n ns ≡ ns) × (length (take n ns) ≡ n)
    s = split-front n ns l

    before : (x : Text) (k j : ℕ) → position (bytes_eq x) ns ≡ Some k → position (bytes_eq x) (take n ns) ≡ Some j → k < n
    before x k j p q =
        let same : Some j ≡ Some k = sym (position-append-found (bytes_eq x) (take n ns) (drop n ns) j q) ∙ ap (position (bytes_eq x)) s.0 ∙ p in
        let w = (position-Some x (take n ns) j q).0 in
        let z : j ≡ k = same_Some j k same in
        omega (arith, w, z, s.1)

    behind-it : (x : Text) (k : ℕ) → position (bytes_eq x) ns ≡ Some k → position (bytes_eq x) (take n ns) ≡ None → n ≤ k
    behind-it x k p q = step (position (bytes_eq x) (drop n ns)) (sym (position-append-lost (bytes_eq x) (take n ns) (drop n ns) q) ∙ ap (position (bytes_eq x)) s.0 ∙ p)
      where
        step : (o : Option ℕ) → behind (length (take n ns)) o ≡ Some k → n ≤ k
        step None e = absurd (cc)
        step (Some j) e = let z : length (take n ns) + j ≡ k = same_Some (length (take n ns) + j) k e in omega (arith, z, s.1)

    on : (k : ℕ) → k < n → get_or ms k false ≡ true
    on k h = ap (λ v. get_or v k false) e ∙ get_or_append_left (replicate n true) (replicate (length ns - n) false) false k (let a = length-replicate n true in omega (arith, a, h)) ∙ get_or-replicate n k true false h

    off-mark : (k : ℕ) → n ≤ k → k < length ns → get_or ms k false ≡ false
    off-mark k h w =
        let a = length-replicate n true in
        let z : length (replicate n true) + (k - n) ≡ k = omega (arith, a, h) in
        ap (λ v. get_or v k false) e ∙ ap (λ i. get_or (replicate n true ++ replicate (length ns - n) false) i false) (sym z)
        ∙ get_or-append-add (replicate n true) (replicate (length ns - n) false) (k - n) false ∙ get_or-replicate (length ns - n) (k - n) false false (omega (arith, h, w))

    from : (x : Text) (k : ℕ) → position (bytes_eq x) ns ≡ Some k → get_or ms k false ≡ true → (o : Option ℕ) → position (bytes_eq x) (take n ns) ≡ o → counted (bytes_eq x) (take n ns) ≡ 1
    from x k p m (Some j) q = counted-once x (take n ns) j d q
    from x k p m None q = absurd (true≢false (sym m ∙ off-mark k (behind-it x k p q) (name-at x ns k p).0))

    off : (x : Text) (k : ℕ) → position (bytes_eq x) ns ≡ Some k → get_or ms k false ≡ false → (o : Option ℕ) → position (bytes_eq x) (take n ns) ≡ o → counted (bytes_eq x) (take n ns) ≡ 0
    off x k p m (Some j) q = absurd (true≢false (sym (on k (before x k j p q)) ∙ m))
    off x k p m None q = counted-lost x (take n ns) q

counted-push : (x : Text) (xs : List Text) (y : Text) → counted (bytes_eq x) (xs ++ y ∷ []) ≡ counted (bytes_eq x) xs + cond (bytes_eq x y) 1 0
counted-push x xs y = counted-append (bytes_eq x) xs (y ∷ []) ∙ ap (λ n. counted (bytes_eq x) xs + n) (step (bytes_eq x y))
  where
    step : (b : Bool) → cond b (1 + 0) 0 ≡ cond b 1 0
    step true = refl
    step false = refl

marks-push : (ns : List Text) (ms : List Bool) (xs : List Text) (y : Text) (k : ℕ) → Marks ns ms xs → position (bytes_eq y) ns ≡ Some k → get_or ms k false ≡ false → Marks ns (slice_set ms k true) (xs ++ y ∷ [])
marks-push ns ms xs y k s p u = record {
  long = length-set ms k true ∙ s.long;
  once = λ x j q m. counted-push x xs y ∙ on x j q m (bytes_eq x y) refl;
  none = λ x j q m. counted-push x xs y ∙ off x j q m (bytes_eq x y) refl;
}
  where
    in-marks : k < length ms
    in-marks = let w = (name-at y ns k p).0 in let a = s.long in omega (arith, w, a)

    at-y : (x : Text) (j : ℕ) → position (bytes_eq x) ns ≡ Some j → bytes_eq x y ≡ true → j ≡ k
    at-y x j q b = same_Some j k (sym q ∙ ap (λ t. position (bytes_eq t) ns) (bytes_eq-same x y b) ∙ p)

    elsewhere : (x : Text) (j : ℕ) → position (bytes_eq x) ns ≡ Some j → bytes_eq x y ≡ false → j ≢ k
    elsewhere x j q b e = true≢false (sym (ap (λ t. bytes_eq x t) (sym (one-name x y ns k (q ∙ ap Some e) p)) ∙ bytes_eq-refl x) ∙ b)

    on : (x : Text) (j : ℕ) → position (bytes_eq x) ns ≡ Some j → get_or (slice_set ms k true) j false ≡ true → (b : Bool) → bytes_eq x y ≡ b → counted (bytes_eq x) xs + cond b 1 0 ≡ 1
    on x j q m true b =
        let z : counted (bytes_eq x) xs ≡ 0 = s.none x j q (ap (λ i. get_or ms i false) (at-y x j q b) ∙ u) in
        omega (arith, z)
    on x j q m false b =
        let z : counted (bytes_eq x) xs ≡ 1 = s.once x j q (sym (get_or-set_other ms k j true false (elsewhere x j q b)) ∙ m) in
        omega (arith, z)

    off : (x : Text) (j : ℕ) → position (bytes_eq x) ns ≡ Some j → get_or (slice_set ms k true) j false ≡ false → (b : Bool) → bytes_eq x y ≡ b → counted (bytes_eq x) xs + cond b 1 0 ≡ 0
    off x j q m true b = absurd (true≢false (sym (ap (λ i. get_or (slice_set ms k true) i false) (at-y x j q b) ∙ get_or-set_same ms k true false in-marks) ∙ m))
    off x j q m false b =
        let z : counted (bytes_eq x) xs ≡ 0 = s.none x j q (sym (get_or-set_other ms k j true false (elsewhere x j q b)) ∙ m) in
        omega (arith, z)

pub marks-run : (ns : List Text) (ms now : List Bool) (xs ys : List Text) (ks : List ℕ) → Marks ns ms xs → AreNumbers ns ys ks → marked ms ks ≡ Some now → Marks ns now (xs ++ ys)
marks-run ns ms now xs [] [] s a e = subst (λ (v : List Bool). Marks ns v (xs ++ [])) (same_Some ms now e) (subst (Marks ns ms) (sym (append-nil xs)) s)
marks-run ns ms now xs [] (k ∷ ks) s a e = absurd a
marks-run ns ms now xs (y ∷ ys) [] s a e = absurd a
marks-run ns ms now xs (y ∷ ys) (k ∷ ks) s a e = step (get_or ms k false) refl e (λ u f. marks-run ns (slice_set ms k true) now (xs ++ y ∷ []) ys ks (marks-push ns ms xs y k s a.0 u) a.1 f)
  where
    step : (b : Bool) → get_or ms k false ≡ b → (if b then None else marked (slice_set ms k true) ks) ≡ Some now → (get_or ms k false ≡ false → marked (slice_set ms k true) ks ≡ Some now → Marks ns now ((xs ++ y ∷ []) ++ ys)) → Marks ns now (xs ++ y ∷ ys)
    step true u e f = absurd (cc)
    step false u e f = subst (Marks ns now) (append_assoc xs (y ∷ []) ys) (f u e)

-- a net is driven twice
pub record Twice (xs : List Text) : Type 0 where
  pub x : Text
  pub there : Contains xs x
  pub often : 2 ≤ counted (bytes_eq x) xs

pub marks-stop : (ns : List Text) (ms : List Bool) (xs ys : List Text) (ks : List ℕ) → Marks ns ms xs → AreNumbers ns ys ks → marked ms ks ≡ None → Twice (xs ++ ys)
marks-stop ns ms xs [] [] s a e = absurd (cc)
marks-stop ns ms xs [] (k ∷ ks) s a e = absurd a
marks-stop ns ms xs (y ∷ ys) [] s a e = absurd a
marks-stop ns ms xs (y ∷ ys) (k ∷ ks) s a e = step (get_or ms k false) refl e (λ u f. marks-stop ns (slice_set ms k true) (xs ++ y ∷ []) ys ks (marks-push ns ms xs y k s a.0 u) a.1 f)
  where
    step : (b : Bool) → get_or ms k false ≡ b → (if b then None else marked (slice_set ms k true) ks) ≡ None → (get_or ms k false ≡ false → marked (slice_set ms k true) ks ≡ None → Twice ((xs ++ y ∷ []) ++ ys)) → Twice (xs ++ y ∷ ys)
    step true u e f =
        let o : counted (bytes_eq y) xs ≡ 1 = s.once y k a.0 u in
        let w : counted (bytes_eq y) (xs ++ y ∷ ys) ≡ counted (bytes_eq y) xs + cond (bytes_eq y y) (1 + counted (bytes_eq y) ys) (counted (bytes_eq y) ys) = counted-append (bytes_eq y) xs (y ∷ ys) in
        let v : cond (bytes_eq y y) (1 + counted (bytes_eq y) ys) (counted (bytes_eq y) ys) ≡ 1 + counted (bytes_eq y) ys = ap (λ b. cond b (1 + counted (bytes_eq y) ys) (counted (bytes_eq y) ys)) (bytes_eq-refl y) in
        record { x = y; there = (length xs, (let l = length-append xs (y ∷ ys) in omega (arith, l)), get_or-append_seam xs y ys y); often = omega (arith, o, w, v) }
    step false u e f = subst Twice (append_assoc xs (y ∷ []) ys) (f u e)

-- ---- all nets

all-hold : (p : Text → Bool) (xs : List Text) → ((x : Text) → Contains xs x → p x ≡ true) → list_all p xs ≡ true
all-hold p [] f = refl
all-hold p (x ∷ xs) f = ap (λ b. b && list_all p xs) (f x (0, omega arith, refl)) ∙ all-hold p xs (λ y h. f y (suc h.0, omega (arith, h.1), h.2))

one-fails : (p : Text → Bool) (xs : List Text) (x : Text) → Contains xs x → p x ≡ false → list_all p xs ≡ false
one-fails p [] x h e = absurd (omega (arith, h.1))
one-fails p (y ∷ ys) x (zero, l, s) e = ap (λ b. b && list_all p ys) (ap p s ∙ e)
one-fails p (y ∷ ys) x (suc k, l, s) e = step (p y) (one-fails p ys x (k, omega (arith, l), s) e)
  where
    step : (b : Bool) → list_all p ys ≡ false → (b && list_all p ys) ≡ false
    step true f = f
    step false f = refl

all-append : (p : Text → Bool) (xs ys : List Text) → list_all p (xs ++ ys) ≡ (list_all p xs && list_all p ys)
all-append p [] ys = refl
all-append p (x ∷ xs) ys = step (p x) (all-append p xs ys)
  where
    step : (b : Bool) → list_all p (xs ++ ys) ≡ (list_all p xs && list_all p ys) → (b && list_all p (xs ++ ys)) ≡ ((b && list_all p xs) && list_all p ys)
    step true e = e
    step false e = refl

once-test : (n : ℕ) → n ≡ 1 → (n == 1) ≡ true
once-test n e = ap (λ k. k == 1) e

twice-test : (n : ℕ) → 2 ≤ n → (n == 1) ≡ false
twice-test n l = grind (arith, nat_tests)

none-test : (n : ℕ) → n ≡ 0 → (n == 1) ≡ false
none-test n e = ap (λ k. k == 1) e

counted-some : (x : Text) (xs : List Text) → Contains xs x → 1 ≤ counted (bytes_eq x) xs
counted-some x [] h = absurd (omega (arith, h.1))
counted-some x (y ∷ ys) h = elim (Contains-cons x y ys h) [
  | inl e ↦ let t : bytes_eq x y ≡ true = ap (bytes_eq x) e ∙ bytes_eq-refl x in subst (λ b. 1 ≤ cond b (1 + counted (bytes_eq x) ys) (counted (bytes_eq x) ys)) (sym t) (omega arith)
  | inr t ↦ step (bytes_eq x y) (counted-some x ys t)
]
  where
    step : (b : Bool) → 1 ≤ counted (bytes_eq x) ys → 1 ≤ cond b (1 + counted (bytes_eq x) ys) (counted (bytes_eq x) ys)
    step true l = omega (arith, l)
    step false l = l

-- the net is driven once
abbrev pub is_once : Module → Text → Bool
is_once m x = count_by (bytes_eq x) (drivers m) == 1

pub twice-driven : (m : Module) → Twice (drivers m) → all_driven_once m ≡ false
twice-driven m t =
    let fails : list_all (is_once m) (drivers m) ≡ false = one-fails (is_once m) (drivers m) t.x t.there (twice-test (count_by (bytes_eq t.x) (drivers m)) (let e = count-same (bytes_eq t.x) (drivers m) in let o = t.often in omega (arith, e, o))) in
    all-append (is_once m) (drivers m ++ m.outputs) (flat_map (λ (i : Instance). i.ins) m.instances)
    ∙ ap (λ b. b && list_all (is_once m) (flat_map (λ (i : Instance). i.ins) m.instances)) (all-append (is_once m) (drivers m) m.outputs ∙ ap (λ b. b && list_all (is_once m) m.outputs) fails)

module _ (m : Module) (ns : List Text) (ms : List Bool) (s : Marks ns ms (drivers m)) where
  mark-is : (x : Text) (k : ℕ) → position (bytes_eq x) ns ≡ Some k → get_or ms k false ≡ is_once m x
  mark-is x k p = step (get_or ms k false) refl
    where
      step : (b : Bool) → get_or ms k false ≡ b → b ≡ is_once m x
      step true u = sym (once-test (count_by (bytes_eq x) (drivers m)) (sym (count-same (bytes_eq x) (drivers m)) ∙ s.once x k p u))
      step false u = sym (none-test (count_by (bytes_eq x) (drivers m)) (sym (count-same (bytes_eq x) (drivers m)) ∙ s.none x k p u))

  marks-are : (xs : List Text) (ks : List ℕ) → AreNumbers ns xs ks → are_marked ms ks ≡ list_all (is_once m) xs
  marks-are [] [] a = refl
  marks-are [] (k ∷ ks) a = absurd a
  marks-are (x ∷ xs) [] a = absurd a
  marks-are (x ∷ xs) (k ∷ ks) a = ap (λ b. b && are_marked ms ks) (mark-is x k a.0) ∙ ap (λ b. is_once m x && b) (marks-are xs ks a.1)

  has-number : (xs : List Text) (ks : List ℕ) → AreNumbers ns xs ks → (x : Text) → Contains xs x → (k : ℕ) × (position (bytes_eq x) ns ≡ Some k)
  has-number [] ks a x h = absurd (omega (arith, h.1))
  has-number (y ∷ ys) [] a x h = absurd a
  has-number (y ∷ ys) (k ∷ ks) a x h = elim (Contains-cons x y ys h) [
    | inl e ↦ (k, ap (λ t. position (bytes_eq t) ns) (sym e) ∙ a.0)
    | inr t ↦ has-number ys ks a.1 x t
  ]

  drivers-once : (ks : List ℕ) → AreNumbers ns (drivers m) ks → list_all (is_once m) (drivers m) ≡ true
  drivers-once ks a = all-hold (is_once m) (drivers m) (λ x h. from x h (has-number (drivers m) ks a x h))
    where
      from : (x : Text) → Contains (drivers m) x → (k : ℕ) × (position (bytes_eq x) ns ≡ Some k) → is_once m x ≡ true
      from x h (k, p) = step (get_or ms k false) refl
        where
          step : (b : Bool) → get_or ms k false ≡ b → is_once m x ≡ true
          step true u = sym (mark-is x k p) ∙ u
          step false u = absurd (let z = s.none x k p u in let w = counted-some x (drivers m) h in omega (arith, z, w))

  pub driven-is : (ds os is : List ℕ) → AreNumbers ns (drivers m) ds → AreNumbers ns m.outputs os → AreNumbers ns (flat_map (λ (i : Instance). i.ins) m.instances) is → all_driven_once m ≡ (are_marked ms os && are_marked ms is)
  driven-is ds os is a b c =
      all-append (is_once m) (drivers m ++ m.outputs) (flat_map (λ (i : Instance). i.ins) m.instances)
      ∙ ap (λ t. t && list_all (is_once m) (flat_map (λ (i : Instance). i.ins) m.instances)) (all-append (is_once m) (drivers m) m.outputs ∙ ap (λ t. t && list_all (is_once m) m.outputs) (drivers-once ds a))
      ∙ ap (λ t. t && list_all (is_once m) (flat_map (λ (i : Instance). i.ins) m.instances)) (sym (marks-are m.outputs os b))
      ∙ ap (λ t. are_marked ms os && t) (sym (marks-are (flat_map (λ (i : Instance). i.ins) m.instances) is c))

-- the inputs by number
abbrev pub count-up : ℕ → ℕ → List ℕ
count-up at zero = []
count-up at (suc n) = at ∷ count-up (suc at) n

place-in : (before : List Text) (x : Text) (after : List Text) → position (bytes_eq x) before ≡ None → position (bytes_eq x) (before ++ x ∷ after) ≡ Some (length before)
place-in before x after e =
    position-append-lost (bytes_eq x) before (x ∷ after) e ∙ ap (behind (length before)) (position-cons (bytes_eq x) x after ∙ ap (λ b. here_or b (position (bytes_eq x) after)) (bytes_eq-refl x)) ∙ ap Some (omega arith)

lost-from : (x : Text) (xs : List Text) → list_any (bytes_eq x) xs ≡ false → position (bytes_eq x) xs ≡ None
lost-from x [] e = refl
lost-from x (y ∷ ys) e = position-cons (bytes_eq x) y ys ∙ step (bytes_eq x y) e (lost-from x ys)
  where
    step : (b : Bool) → (b || list_any (bytes_eq x) ys) ≡ false → (list_any (bytes_eq x) ys ≡ false → position (bytes_eq x) ys ≡ None) → here_or b (position (bytes_eq x) ys) ≡ None
    step true e f = absurd (true≢false e)
    step false e f = ap (here_or false) (f e)

-- all of these are new behind the others
abbrev pub apart-from : List Text → List Text → Type 0
apart-from before [] = Unit {0}
apart-from before (x ∷ xs) = (position (bytes_eq x) before ≡ None) × apart-from (before ++ x ∷ []) xs

pub inputs-numbered : (before xs after : List Text) (n : ℕ) → length before ≡ n → apart-from before xs → AreNumbers (before ++ xs ++ after) xs (count-up n (length xs))
inputs-numbered before [] after n e a = tt
inputs-numbered before (x ∷ xs) after n e a = (
  ap (position (bytes_eq x)) (append_assoc before (x ∷ xs) after) ∙ place-in before x (xs ++ after) a.0 ∙ ap Some e,
  subst (λ (l : List Text). AreNumbers l xs (count-up (suc n) (length xs))) (ap (λ (l : List Text). l ++ after) (append_assoc before (x ∷ []) xs))
      (inputs-numbered (before ++ x ∷ []) xs after (suc n) (omega (arith, e, length-append before (x ∷ []))) a.1),
)

lost-push : (before : List Text) (y x : Text) → position (bytes_eq y) before ≡ None → bytes_eq y x ≡ false → position (bytes_eq y) (before ++ x ∷ []) ≡ None
lost-push before y x e d = position-append-lost (bytes_eq y) before (x ∷ []) e ∙ ap (behind (length before)) (position-cons (bytes_eq y) x [] ∙ ap (λ b. here_or b (position (bytes_eq y) [])) d)

pub all-apart : (before xs : List Text) → ((y : Text) → Contains xs y → position (bytes_eq y) before ≡ None) → all_different xs ≡ true → apart-from before xs
all-apart before [] f d = tt
all-apart before (x ∷ xs) f d =
    let p = both-parts (not (list_any (bytes_eq x) xs)) (all_different xs) d in (
      f x (0, omega arith, refl),
      all-apart (before ++ x ∷ []) xs (λ y h. lost-push before y x (f y (suc h.0, omega (arith, h.1), h.2)) (differs y h (list_any (bytes_eq x) xs) refl p.0)) p.1,
    )
  where
    differs : (y : Text) → Contains xs y → (b : Bool) → list_any (bytes_eq x) xs ≡ b → not b ≡ true → bytes_eq y x ≡ false
    differs y h true e n = absurd (true≢false (sym n))
    differs y h false e n = step (bytes_eq y x) refl
      where
        step : (b : Bool) → bytes_eq y x ≡ b → b ≡ false
        step true q = absurd (list_any-lost x xs e (subst (Contains xs) (bytes_eq-same y x q) h))
        step false q = refl

-- ---- a module by numbers

module _ (r : RawModule) (w : IsWell r) where
  abbrev m : Module
  m = module_view r

  more : List Text
  more = drop r.inputs r.nets

  cut : (take r.inputs r.nets ++ more ≡ r.nets) × (length (take r.inputs r.nets) ≡ r.inputs)
  unfolding more
  cut = split-front r.inputs r.nets (short r.inputs r.nets w.count)
    where
      short : (n : ℕ) (xs : List Text) → n ≡ length (take n xs) → n ≤ length xs
      short n xs e = let h = length-take n xs in omega (arith, e, h)

  ins-numbers : (ks : List ℕ) × AreNumbers r.nets m.inputs ks
  ins-numbers = (
    count-up 0 (length m.inputs),
    subst (λ (l : List Text). AreNumbers l m.inputs (count-up 0 (length m.inputs))) cut.0
        (inputs-numbered [] m.inputs more 0 refl (all-apart [] m.inputs (λ y h. refl) w.different)),
  )

  pub few-inputs : r.inputs ≤ length r.nets
  few-inputs = let e = cut.1 in let a = ap length cut.0 in let b = length-append (take r.inputs r.nets) more in omega (arith, e, a, b)

  outs-numbers : AreNumbers r.nets (flat_map (λ (i : Instance). i.outs) m.instances) (flat_map (λ (ks : List ℕ). ks) r.outs)
  outs-numbers = outs-flat r.nets w.fit

  pub outs-within : AreWithin (length r.nets) (flat_map (λ (ks : List ℕ). ks) r.outs)
  outs-within = numbers-within r.nets (flat_map (λ (i : Instance). i.outs) m.instances) (flat_map (λ (ks : List ℕ). ks) r.outs) outs-numbers

  pub outputs-within : AreWithin (length r.nets) r.outputs.items
  outputs-within = numbers-within r.nets m.outputs r.outputs.items w.drives

  pub ins-within : AreWithin (length r.nets) (flat_map (λ (ks : List ℕ). ks) r.ins)
  ins-within = numbers-within r.nets (flat_map (λ (i : Instance). i.ins) m.instances) (flat_map (λ (ks : List ℕ). ks) r.ins) (ins-flat r.nets w.fit)

  module _ (ms : List Bool) (e : ms ≡ replicate r.inputs true ++ replicate (length r.nets - r.inputs) false) where
    start : Marks r.nets ms m.inputs
    start = marks-start r.nets r.inputs ms few-inputs w.different e

    pub driven-twice : marked ms (flat_map (λ (ks : List ℕ). ks) r.outs) ≡ None → all_driven_once m ≡ false
    driven-twice n = twice-driven m (marks-stop r.nets ms m.inputs (flat_map (λ (i : Instance). i.outs) m.instances) (flat_map (λ (ks : List ℕ). ks) r.outs) start outs-numbers n)

    pub driven-by-marks : (now : List Bool) → marked ms (flat_map (λ (ks : List ℕ). ks) r.outs) ≡ Some now → all_driven_once m ≡ (are_marked now r.outputs.items && are_marked now (flat_map (λ (ks : List ℕ). ks) r.ins))
    driven-by-marks now n =
        driven-is m r.nets now (marks-run r.nets ms now m.inputs (flat_map (λ (i : Instance). i.outs) m.instances) (flat_map (λ (ks : List ℕ). ks) r.outs) start outs-numbers n)
        (ins-numbers.0 ++ flat_map (λ (ks : List ℕ). ks) r.outs) r.outputs.items (flat_map (λ (ks : List ℕ). ks) r.ins)
        (numbers-append r.nets m.inputs (flat_map (λ (i : Instance). i.outs) m.instances) ins-numbers.0 (flat_map (λ (ks : List ℕ). ks) r.outs) ins-numbers.1 outs-numbers)
        w.drives (ins-flat r.nets w.fit)

pub within-as : (n k : ℕ) (ks js : List ℕ) → AreWithin n ks → k ≡ n → js ≡ ks → AreWithin k js
within-as n k ks js w e f = subst (λ i. AreWithin i js) (sym e) (subst (AreWithin n) (sym f) w)

pub marked-long : (ms now : List Bool) (ks : List ℕ) → marked ms ks ≡ Some now → length now ≡ length ms
marked-long ms now [] e = sym (ap length (same_Some ms now e))
marked-long ms now (k ∷ ks) e = step (get_or ms k false) (marked-long (slice_set ms k true) now ks) e
  where
    step : (b : Bool) → (marked (slice_set ms k true) ks ≡ Some now → length now ≡ length (slice_set ms k true)) → (if b then None else marked (slice_set ms k true) ks) ≡ Some now → length now ≡ length ms
    step true f e = absurd (cc)
    step false f e = f e ∙ length-set ms k true

module _ (r : RawModule) (w : IsWell r) where
  pub marks-made : (old ms : List Bool) (n l : ℕ) → old ≡ replicate r.inputs true → n ≡ length r.nets → l ≡ r.inputs → ms ≡ take n old ++ replicate (n - l) false → ms ≡ replicate r.inputs true ++ replicate (length r.nets - r.inputs) false
  marks-made old ms n l e f g h =
      let few = few-inputs r w in
      let long = length-replicate r.inputs true in
      h ∙ ap (λ v. take n v ++ replicate (n - l) false) e ∙ ap (λ k. take k (replicate r.inputs true) ++ replicate (k - l) false) f
      ∙ ap (λ v. v ++ replicate (length r.nets - l) false) (take_all (length r.nets) (replicate r.inputs true) (omega (arith, few, long)))
      ∙ ap (λ k. replicate r.inputs true ++ replicate (length r.nets - k) false) g

  -- the lists of pins, one for each instance
  pub lists-long : (length (texts r.parts.items) ≡ length (module_view r).instances) × (length r.ins ≡ length (module_view r).instances) × (length r.outs ≡ length (module_view r).instances)
  lists-long = instances-long r.nets w.fit

  pub outs-at : (k : ℕ) → k < length r.outs → AreWithin (length r.nets) (get_or r.outs k [])
  outs-at k l =
      let long = lists-long.2 in
      let i = instance-at r.nets w.fit k (omega (arith, l, long)) in
      numbers-within r.nets (get_or (module_view r).instances k no_instance).outs (get_or r.outs k []) i.drives

  pub ins-at : (k : ℕ) → k < length r.ins → AreWithin (length r.nets) (get_or r.ins k [])
  ins-at k l =
      let long = lists-long.1 in
      let i = instance-at r.nets w.fit k (omega (arith, l, long)) in
      numbers-within r.nets (get_or (module_view r).instances k no_instance).ins (get_or r.ins k []) i.takes

-- a list with its front written anew
pub written-back : (v old : List Bool) (n : ℕ) → n ≡ length v → take n (v ++ drop (length v) old) ≡ v
written-back v old n e = ap (λ k. take k (v ++ drop (length v) old)) e ∙ take-append_seam v (drop (length v) old)
