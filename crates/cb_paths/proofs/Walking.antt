-- How the products of a node are gone through, step by step.
use Rattle.std.proofs.Common.{◌≡◌, ℕ, zero, suc, ◌+◌, ◌<◌, ◌≤◌, max, Bool, true, false, List, [], ◌∷◌, ◌++◌, map, length, Some, refl, sym, ap, subst, ◌∙◌, arith, length-append, append-nil, append_assoc, get_or, take, set, length-take, Result, is_ok, if◌then◌else◌, ◌⊎◌, inl, inr}
use Rattle.std.proofs.lemmas.List.{map-append, get_or_default}
use Rattle.std.proofs.lemmas.Simd.{map-map}
use Rattle.cb_model.specs.Answers.{Product}
use Rattle.cb_dd.specs.declared.Triple.{Triple}
use Rattle.cb_dd.specs.declared.Node.{Node}
use Rattle.cb_dd.specs.Diagram.{IsNode, IsDiagram, HasParts, parts_of}
use Rattle.cb_paths.specs.Products.{join_products, products_of, height_of}
use Rattle.cb_paths.specs.Walk.{after, to_come, AllFit, IsWalk}
use Rattle.cb_paths.proofs.Built.{built-zero, built-one, built-parts}

module _ (ts : List Triple) where
  -- one literal more
  after-snoc : (ls : Product) (ns : List Node) (l : ℕ × Bool) (n : Node) → length ls ≡ length ns → after ts (ls ++ l ∷ []) (ns ++ n ∷ []) ≡ map (λ p. ls ++ (l.0, true) ∷ p) (products_of ts n.0) ++ after ts ls ns
  after-snoc [] [] l n h = sym (append-nil _)
  after-snoc [] (m ∷ ms) l n h = absurd (omega arith)
  after-snoc (k ∷ ks) [] l n h = absurd (omega arith)
  after-snoc (k ∷ ks) (m ∷ ms) l n h =
      let e : length ks ≡ length ms = omega arith in
      ap (λ ps. map (λ p. k ∷ p) ps ++ map (λ p. (k.0, true) ∷ p) (products_of ts m.0)) (after-snoc ks ms l n e)
      ∙ ap (λ ps. ps ++ map (λ p. (k.0, true) ∷ p) (products_of ts m.0)) (map-append (λ p. k ∷ p) (map (λ p. ks ++ (l.0, true) ∷ p) (products_of ts n.0)) (after ts ks ms))
      ∙ append_assoc (map (λ p. k ∷ p) (map (λ p. ks ++ (l.0, true) ∷ p) (products_of ts n.0))) (map (λ p. k ∷ p) (after ts ks ms)) (map (λ p. (k.0, true) ∷ p) (products_of ts m.0))
      ∙ ap (λ ps. ps ++ (map (λ p. k ∷ p) (after ts ks ms) ++ map (λ p. (k.0, true) ∷ p) (products_of ts m.0))) (map-map (λ p. k ∷ p) (λ p. ks ++ (l.0, true) ∷ p) (products_of ts n.0))

  -- where nothing is left at the last literal, it goes
  pub after-done : (ls : Product) (ns : List Node) (l : ℕ × Bool) (n : Node) → length ls ≡ length ns → n.0 ≡ 0 → after ts (ls ++ l ∷ []) (ns ++ n ∷ []) ≡ after ts ls ns
  after-done ls ns l n h z = after-snoc ls ns l n h ∙ ap (λ ps. map (λ p. ls ++ (l.0, true) ∷ p) ps ++ after ts ls ns) (ap (products_of ts) z ∙ built-zero [] join_products ([] ∷ []) ts)

  regroup : (ls : Product) (l : ℕ × Bool) (ps : List Product) → map (λ p. (ls ++ l ∷ []) ++ p) ps ≡ map (λ p. ls ++ l ∷ p) ps
  regroup ls l ps = λ i. map (λ p. append_assoc ls (l ∷ []) p i) ps

  -- the other side of the last literal
  pub after-turned : (ls : Product) (ns : List Node) (l : ℕ × Bool) (n o : Node) → length ls ≡ length ns → o.0 ≡ 0 → after ts (ls ++ l ∷ []) (ns ++ n ∷ []) ≡ to_come ts (ls ++ (l.0, true) ∷ []) (ns ++ o ∷ []) n.0
  after-turned ls ns l n o h z =
      after-snoc ls ns l n h
      ∙ sym (ap (λ ps. map (λ p. (ls ++ (l.0, true) ∷ []) ++ p) (products_of ts n.0) ++ ps) (after-done ls ns (l.0, true) o h z) ∙ ap (λ ps. ps ++ after ts ls ns) (regroup ls (l.0, true) (products_of ts n.0)))

  -- with nothing left below, what comes is what is left at the literals
  pub to_come-zero : (ls : Product) (ns : List Node) (n : ℕ) → n ≡ 0 → to_come ts ls ns n ≡ after ts ls ns
  to_come-zero ls ns n z = ap (λ ps. map (λ p. ls ++ p) ps ++ after ts ls ns) (ap (products_of ts) z ∙ built-zero [] join_products ([] ∷ []) ts)

  -- at 1 the literals are a product
  pub to_come-one : (ls : Product) (ns : List Node) (n : ℕ) → n ≡ 1 → to_come ts ls ns n ≡ ls ∷ after ts ls ns
  to_come-one ls ns n z = ap (λ ps. map (λ p. ls ++ p) ps ++ after ts ls ns) (ap (products_of ts) z ∙ built-one [] join_products ([] ∷ []) ts) ∙ ap (λ l. l ∷ after ts ls ns) (append-nil ls)

  module _ (is : IsDiagram ts) (ls : Product) (ns : List Node) (n level : ℕ) (lo hi : Node) (w : IsNode ts n) (parts : parts_of ts n ≡ Some (level, lo, hi)) (h : length ls ≡ length ns) where
    split : to_come ts ls ns n ≡ map (λ p. ls ++ (level, false) ∷ p) (products_of ts lo.0) ++ (map (λ p. ls ++ (level, true) ∷ p) (products_of ts hi.0) ++ after ts ls ns)
    split =
        ap (λ ps. map (λ p. ls ++ p) ps ++ after ts ls ns) (built-parts [] join_products ([] ∷ []) ts is n level lo hi w parts)
        ∙ ap (λ ps. ps ++ after ts ls ns) (map-append (λ p. ls ++ p) (map (λ p. (level, false) ∷ p) (products_of ts lo.0)) (map (λ p. (level, true) ∷ p) (products_of ts hi.0)))
        ∙ append_assoc (map (λ p. ls ++ p) (map (λ p. (level, false) ∷ p) (products_of ts lo.0))) (map (λ p. ls ++ p) (map (λ p. (level, true) ∷ p) (products_of ts hi.0))) (after ts ls ns)
        ∙ (λ i. map-map (λ p. ls ++ p) (λ p. (level, false) ∷ p) (products_of ts lo.0) i ++ (map-map (λ p. ls ++ p) (λ p. (level, true) ∷ p) (products_of ts hi.0) i ++ after ts ls ns))

    -- the 0 side comes first
    pub to_come-low : to_come ts ls ns n ≡ to_come ts (ls ++ (level, false) ∷ []) (ns ++ hi ∷ []) lo.0
    to_come-low =
        split
        ∙ sym (ap (λ ps. map (λ p. (ls ++ (level, false) ∷ []) ++ p) (products_of ts lo.0) ++ ps) (after-snoc ls ns (level, false) hi h)
        ∙ ap (λ ps. ps ++ (map (λ p. ls ++ (level, true) ∷ p) (products_of ts hi.0) ++ after ts ls ns)) (regroup ls (level, false) (products_of ts lo.0)))

    -- the 1 side, where the 0 side has none
    pub to_come-high : lo.0 ≡ 0 → (o : Node) → o.0 ≡ 0 → to_come ts ls ns n ≡ to_come ts (ls ++ (level, true) ∷ []) (ns ++ o ∷ []) hi.0
    to_come-high z o y =
        split
        ∙ ap (λ ps. map (λ p. ls ++ (level, false) ∷ p) ps ++ (map (λ p. ls ++ (level, true) ∷ p) (products_of ts hi.0) ++ after ts ls ns)) (ap (products_of ts) z ∙ built-zero [] join_products ([] ∷ []) ts)
        ∙ sym (ap (λ ps. map (λ p. (ls ++ (level, true) ∷ []) ++ p) (products_of ts hi.0) ++ ps) (after-done ls ns (level, true) o h y) ∙ ap (λ ps. ps ++ after ts ls ns) (regroup ls (level, true) (products_of ts hi.0)))

  fit-snoc : (room k : ℕ) (ns : List Node) (n : Node) → AllFit ts room k ns → IsNode ts n.0 → k + length ns + 1 + height_of ts n.0 ≤ room → AllFit ts room k (ns ++ n ∷ [])
  fit-snoc room k [] n all w h = ((w, omega arith), tt)
  fit-snoc room k (m ∷ ms) n all w h = (all.0, fit-snoc room (suc k) ms n all.1 w (omega arith))

  fit-last : (room k : ℕ) (ns : List Node) (n : Node) → AllFit ts room k (ns ++ n ∷ []) → AllFit ts room k ns × (IsNode ts n.0 × (k + length ns + 1 + height_of ts n.0 ≤ room))
  fit-last room k [] n all = (tt, (all.0.0, let h = all.0.1 in omega arith))
  fit-last room k (m ∷ ms) n all = let r = fit-last room (suc k) ms n all.1 in let h = r.1.1 in ((all.0, r.0), (r.1.0, omega arith))

  zero-height : height_of ts 0 ≡ 0
  zero-height = built-zero 0 (λ level lo hi. max lo hi + 1) 0 ts

  module _ (room : ℕ) (ls : Product) (ns : List Node) where
    -- one step down
    pub walk-down : IsDiagram ts → (n level : ℕ) (lo hi : Node) → IsWalk ts room ls ns n → parts_of ts n ≡ Some (level, lo, hi) → (l : ℕ × Bool) (next other : Node) → IsNode ts next.0 → IsNode ts other.0
        → height_of ts next.0 ≤ max (height_of ts lo.0) (height_of ts hi.0) → height_of ts other.0 ≤ max (height_of ts lo.0) (height_of ts hi.0) → IsWalk ts room (ls ++ l ∷ []) (ns ++ other ∷ []) next.0
    walk-down is n level lo hi walk parts l next other wn wo hn ho =
        let e : height_of ts n ≡ max (height_of ts lo.0) (height_of ts hi.0) + 1 = built-parts 0 (λ level lo hi. max lo hi + 1) 0 ts is n level lo hi walk.node parts in
        let f = walk.fits in
        let m = walk.as_many in
        record {
          as_many = omega (arith, length-append {A = ℕ × Bool}, length-append {A = Node});
          node = wn;
          fits = omega (arith, length-append {A = ℕ × Bool});
          others_fit = fit-snoc room 0 ns other walk.others_fit wo (omega arith);
        }

    -- the last literal turned
    pub walk-turned : (l m : ℕ × Bool) (n o : Node) → o.0 ≡ 0 → IsWalk ts room (ls ++ l ∷ []) (ns ++ n ∷ []) 0 → IsWalk ts room (ls ++ m ∷ []) (ns ++ o ∷ []) n.0
    walk-turned l m n o z walk =
        let r = fit-last room 0 ns n walk.others_fit in
        let h = r.1.1 in
        let same = walk.as_many in
        let zh : height_of ts o.0 ≡ 0 = ap (height_of ts) z ∙ zero-height in
        let e : length ls ≡ length ns = omega (arith, length-append {A = ℕ × Bool}, length-append {A = Node}) in
        record {
          as_many = omega (arith, length-append {A = ℕ × Bool}, length-append {A = Node});
          node = r.1.0;
          fits = omega (arith, length-append {A = ℕ × Bool});
          others_fit = fit-snoc room 0 ns o r.0 (omega arith) (omega arith);
        }

    -- the last literal gone
    pub walk-done : (l : ℕ × Bool) (n : Node) → IsWalk ts room (ls ++ l ∷ []) (ns ++ n ∷ []) 0 → IsWalk ts room ls ns 0
    walk-done l n walk =
        let same = walk.as_many in
        let f = walk.fits in
        record {
          as_many = omega (arith, length-append {A = ℕ × Bool}, length-append {A = Node});
          node = walk.node;
          fits = omega (arith, length-append {A = ℕ × Bool});
          others_fit = (fit-last room 0 ns n walk.others_fit).0;
        }

-- a list whose last element is x
last-of : {A : Type 0} (xs : List A) (i : ℕ) (x : A) → i + 1 ≡ length xs → x ≡ get_or xs i x → xs ≡ take i xs ++ x ∷ []
last-of [] i x h e = absurd (omega arith)
last-of (y ∷ []) zero x h e = ap (λ z. z ∷ []) (sym e)
last-of (y ∷ z ∷ zs) zero x h e = absurd (omega arith)
last-of (y ∷ ys) (suc i) x h e = ap (λ l. y ∷ l) (last-of ys i x (omega arith) e)

last-set : {A : Type 0} (xs : List A) (i : ℕ) (y : A) → i + 1 ≡ length xs → set xs i y ≡ take i xs ++ y ∷ []
last-set [] i y h = absurd (omega arith)
last-set (z ∷ []) zero y h = refl
last-set (z ∷ w ∷ ws) zero y h = absurd (omega arith)
last-set (z ∷ zs) (suc i) y h = ap (λ l. z ∷ l) (last-set zs i y (omega arith))

module _ (ls : Product) (ns : List Node) (i : ℕ) (x : ℕ × Bool) (n : Node) (hl : i + 1 ≡ length ls) (hn : i + 1 ≡ length ns) (ex : x ≡ get_or ls i x) (en : n ≡ get_or ns i n) where
  el : ls ≡ take i ls ++ x ∷ []
  el = last-of ls i x hl ex

  eo : ns ≡ take i ns ++ n ∷ []
  eo = last-of ns i n hn en

  same : length (take i ls) ≡ length (take i ns)
  same = omega (arith, ap length el, ap length eo, length-append {A = ℕ × Bool}, length-append {A = Node})

  pub turned-come : (o : Node) → o.0 ≡ 0 → (ts : List Triple) → after ts ls ns ≡ to_come ts (set ls i (x.0, true)) (set ns i o) n.0
  turned-come o z ts =
      (λ j. after ts (el j) (eo j))
      ∙ after-turned ts (take i ls) (take i ns) x n o same z
      ∙ sym (λ j. to_come ts (last-set ls i (x.0, true) hl j) (last-set ns i o hn j) n.0)

  pub turned-walk : (o : Node) → o.0 ≡ 0 → (ts : List Triple) (room : ℕ) → IsWalk ts room ls ns 0 → IsWalk ts room (set ls i (x.0, true)) (set ns i o) n.0
  turned-walk o z ts room walk =
      subst (λ l. IsWalk ts room l (set ns i o) n.0) (sym (last-set ls i (x.0, true) hl))
      (subst (λ m. IsWalk ts room (take i ls ++ (x.0, true) ∷ []) m n.0) (sym (last-set ns i o hn))
      (walk-turned ts room (take i ls) (take i ns) x (x.0, true) n o z
      (subst (λ m. IsWalk ts room (take i ls ++ x ∷ []) m 0) eo (subst (λ l. IsWalk ts room l ns 0) el walk))))

  done-come : n.0 ≡ 0 → (ts : List Triple) → after ts ls ns ≡ after ts (take i ls) (take i ns)
  done-come z ts = (λ j. after ts (el j) (eo j)) ∙ after-done ts (take i ls) (take i ns) x n same z

  done-walk : (ts : List Triple) (room : ℕ) → IsWalk ts room ls ns 0 → IsWalk ts room (take i ls) (take i ns) 0
  done-walk ts room walk = walk-done ts room (take i ls) (take i ns) x n (subst (λ m. IsWalk ts room (take i ls ++ x ∷ []) m 0) eo (subst (λ l. IsWalk ts room l ns 0) el walk))

-- the same of a literal that is taken away
module _ (ls ls2 : Product) (ns ns2 : List Node) (i : ℕ) (n : Node) (hl : i + 1 ≡ length ls) (hn : i + 1 ≡ length ns) (en : n ≡ get_or ns i n) (gl : ls2 ≡ take i ls) (gn : ns2 ≡ take i ns) where
  pub gone-come : n.0 ≡ 0 → (ts : List Triple) → after ts ls ns ≡ after ts ls2 ns2
  gone-come z ts = done-come ls ns i (get_or ls i (0, false)) n hl hn (get_or_default ls i (0, false) (get_or ls i (0, false)) (omega arith)) en z ts ∙ sym (λ j. after ts (gl j) (gn j))

  pub gone-walk : (ts : List Triple) (room : ℕ) → IsWalk ts room ls ns 0 → IsWalk ts room ls2 ns2 0
  gone-walk ts room walk =
      subst (λ l. IsWalk ts room l ns2 0) (sym gl) (subst (λ m. IsWalk ts room (take i ls) m 0) (sym gn)
      (done-walk ls ns i (get_or ls i (0, false)) n hl hn (get_or_default ls i (0, false) (get_or ls i (0, false)) (omega arith)) en ts room walk))

  pub gone-as_many : length ls2 ≡ length ns2
  gone-as_many = omega (arith, ap length gl, ap length gn, length-take i ls, length-take i ns)

-- the side that is taken first, its bit, and what is left of the other
abbrev pub IsWay : Node → Node → Bool × Node × Node → Type 0
IsWay lo hi way = ((lo.0 ≡ 0) × (way ≡ (true, record { 0 = 0 }, hi))) ⊎ ((lo.0 ≡ 0 → ⊥) × (way ≡ (false, hi, lo)))

pub pushed : {A B : Type 0} (r : Result A B) {X : Type 0} (xs ys : List X) (x : X) → ys ≡ (if is_ok r then xs ++ x ∷ [] else xs) → is_ok r ≡ true → ys ≡ xs ++ x ∷ []
pushed r xs ys x e ok = e ∙ ap (λ b. if b then xs ++ x ∷ [] else xs) ok

module _ (ts : List Triple) (is : IsDiagram ts) (room : ℕ) (ls : Product) (ns : List Node) (n level : ℕ) (lo hi : Node) (walk : IsWalk ts room ls ns n) (parts : parts_of ts n ≡ Some (level, lo, hi)) where
  -- there is room for one literal more
  pub room-left : length ls < room
  room-left =
      let e : height_of ts n ≡ max (height_of ts lo.0) (height_of ts hi.0) + 1 = built-parts 0 (λ level lo hi. max lo hi + 1) 0 ts is n level lo hi walk.node parts in
      let f = walk.fits in
      omega arith

  module _ (has : HasParts ts n level lo.0 hi.0) (way : Bool × Node × Node) (is_way : IsWay lo hi way) where
    pub down-some : way.2.0 ≡ 0 → ⊥
    down-some z = elim is_way [
      | inl h ↦ let e : hi.0 ≡ 0 = sym (ap (λ (w : Bool × Node × Node). w.2.0) h.1) ∙ z in has.differ (h.0 ∙ sym e)
      | inr h ↦ h.0 (sym (ap (λ (w : Bool × Node × Node). w.2.0) h.1) ∙ z)
    ]

    module _ (ls2 : Product) (ns2 : List Node) (gl : ls2 ≡ ls ++ (level, way.0) ∷ []) (gn : ns2 ≡ ns ++ way.1 ∷ []) where
      pub down-come : to_come ts ls ns n ≡ to_come ts ls2 ns2 way.2.0
      down-come =
          elim is_way [
            | inl h ↦ to_come-high ts is ls ns n level lo hi walk.node parts walk.as_many h.0 (record { 0 = 0 }) refl ∙ sym (λ j. to_come ts (ls ++ (level, (h.1 j).0) ∷ []) (ns ++ (h.1 j).1 ∷ []) (h.1 j).2.0)
            | inr h ↦ to_come-low ts is ls ns n level lo hi walk.node parts walk.as_many ∙ sym (λ j. to_come ts (ls ++ (level, (h.1 j).0) ∷ []) (ns ++ (h.1 j).1 ∷ []) (h.1 j).2.0)
          ]
          ∙ sym (λ j. to_come ts (gl j) (gn j) way.2.0)

      pub down-walk : IsWalk ts room ls2 ns2 way.2.0
      down-walk = subst (λ l. IsWalk ts room l ns2 way.2.0) (sym gl) (subst (λ m. IsWalk ts room (ls ++ (level, way.0) ∷ []) m way.2.0) (sym gn)
          (elim is_way [
            | inl h ↦
                let P : Bool × Node × Node → Type 0 = λ w. IsWalk ts room (ls ++ (level, w.0) ∷ []) (ns ++ w.1 ∷ []) w.2.0 in
                let z = zero-height ts in
                subst P (sym h.1) (walk-down ts room ls ns is n level lo hi walk parts (level, true) hi (record { 0 = 0 }) has.hi_node (omega arith) (omega arith) (omega arith))
            | inr h ↦
                let P : Bool × Node × Node → Type 0 = λ w. IsWalk ts room (ls ++ (level, w.0) ∷ []) (ns ++ w.1 ∷ []) w.2.0 in
                subst P (sym h.1) (walk-down ts room ls ns is n level lo hi walk parts (level, false) lo hi has.lo_node has.hi_node (omega arith) (omega arith))
          ]))

-- with nothing left below
pub walk-end : (ts : List Triple) (room : ℕ) (ls : Product) (ns : List Node) (n : ℕ) → IsWalk ts room ls ns n → IsWalk ts room ls ns 0
walk-end ts room ls ns n walk =
    let z = zero-height ts in
    let f = walk.fits in
    record { as_many = walk.as_many; node = omega arith; fits = omega arith; others_fit = walk.others_fit }

-- a constant that isn't 0
pub is-one : (n : ℕ) → (n ≡ 0) ⊎ (n ≡ 1) → (n ≡ 0 → ⊥) → n ≡ 1
is-one n (inl z) some = absurd (some z)
is-one n (inr e) some = e

-- the same with more room
fit-wider : (ts : List Triple) (room more k : ℕ) (ns : List Node) → room ≤ more → AllFit ts room k ns → AllFit ts more k ns
fit-wider ts room more k [] h all = tt
fit-wider ts room more k (n ∷ ns) h all = ((all.0.0, let f = all.0.1 in omega arith), fit-wider ts room more (suc k) ns h all.1)

pub walk-wider : (ts : List Triple) (room more : ℕ) (ls : Product) (ns : List Node) (n : ℕ) → room ≤ more → IsWalk ts room ls ns n → IsWalk ts more ls ns n
walk-wider ts room more ls ns n h walk = let f = walk.fits in record { as_many = walk.as_many; node = walk.node; fits = omega arith; others_fit = fit-wider ts room more 0 ns h walk.others_fit }
