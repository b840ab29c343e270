-- How the products of nodes are counted.
use Rattle.std.proofs.Common.{◌≡◌, ℕ, zero, suc, ◌+◌, ◌*◌, ◌<◌, ◌≤◌, min, max, Bool, true, false, cond, ◌==◌, List, [], ◌∷◌, ◌++◌, map, length, Option, Some, None, All, refl, sym, ap, ◌∙◌, subst, ◌⊎◌, inl, inr, arith, length-append, mul-le-mul_left, lt-ltb}
use Rattle.std.proofs.lemmas.List.{length-map}
use Rattle.std.proofs.lemmas.List.Elements.{All-head, All-tail}
use Rattle.std.proofs.lemmas.Bool.{cases_lt}
use Rattle.std.proofs.lemmas.Cmp.{ranked}
use Rattle.std.proofs.lemmas.Map.Keys.{sorted_head, sorted_tail}
use Rattle.std.specs.List.{AllByRecursion}
use Rattle.std.specs.declared.cmp.Ordering.{Ordering}
use Rattle.std.specs.declared.cmp.Ordering.TheVariants.{Less, Equal, Greater}
use Rattle.std.specs.Ordering.{is_eq, match_ordering, nat_cmp}
use Rattle.std.specs.Map.{lookup, keys_of}
use Rattle.std.specs.BTreeMap.{insert_entry, is_at}
use Rattle.std.specs.Option.{unwrap_or}
use Rattle.std.specs.List.Sorted.{IsStrictlySortedBy}
use Rattle.cb_model.specs.Bits.{Each}
use Rattle.cb_dd.specs.declared.Triple.{Triple}
use Rattle.cb_dd.specs.declared.Node.{Node}
use Rattle.cb_dd.specs.Diagram.{IsNode, IsDiagram, parts_of, triple}
use Rattle.cb_dd.proofs.Parts.{parts-some}
use Rattle.cb_paths.specs.Products.{join_products, products_of}
use Rattle.cb_paths.specs.Counted.{Ways, AreEntries, AreCapped, through, above}
use Rattle.cb_paths.proofs.Built.{built-zero, built-one, built-parts}

-- the products of a node are those of its sides
pub products-split : (ts : List Triple) → IsDiagram ts → (n level : ℕ) (lo hi : Node) → IsNode ts n → parts_of ts n ≡ Some (level, lo, hi) →
    length (products_of ts n) ≡ length (products_of ts lo.0) + length (products_of ts hi.0)
products-split ts is n level lo hi w parts =
    ap length (built-parts [] join_products ([] ∷ []) ts is n level lo hi w parts)
    ∙ length-append (map (λ p. (level, false) ∷ p) (products_of ts lo.0)) (map (λ p. (level, true) ∷ p) (products_of ts hi.0))
    ∙ (λ j. length-map (products_of ts lo.0) (λ p. (level, false) ∷ p) j + length-map (products_of ts hi.0) (λ p. (level, true) ∷ p) j)

-- a constant has as many products as its number says
pub products-constant : (ts : List Triple) (n : ℕ) → (n ≡ 0) ⊎ (n ≡ 1) → length (products_of ts n) ≡ n
products-constant ts n (inl e) = ap length (ap (products_of ts) e ∙ built-zero [] join_products ([] ∷ []) ts) ∙ sym e
products-constant ts n (inr e) = ap length (ap (products_of ts) e ∙ built-one [] join_products ([] ∷ []) ts) ∙ sym e

-- ---- lists of entries, by number

nat_less : (x y : ℕ) → x < y → nat_cmp x y ≡ Less
nat_less x y h = ap (λ b. cond b Less (cond (x == y) Equal Greater)) (lt-ltb x y h)

absent : (k m : ℕ) (es : Ways) → AllByRecursion (λ y. nat_cmp m y ≡ Less) (keys_of es) → k < m → lookup (is_at (nat_cmp k)) es ≡ None
absent k m [] all h = refl
absent k m (e ∷ es) all h =
    let w : m < e.0 = ranked m e.0 Less (sym all.0) in
    ap (λ o. cond (is_eq o) (Some e.1) (lookup (is_at (nat_cmp k)) es)) (nat_less k e.0 (omega (arith, w, h))) ∙ absent k m es all.1 h

-- how many ways to the node there were
abbrev pub ways_to : ℕ → Ways → ℕ
ways_to k es = unwrap_or (lookup (is_at (nat_cmp k)) es) 0

module _ (ts : List Triple) where
  abbrev products : ℕ → ℕ
  products n = length (products_of ts n)

  through-insert : (k v : ℕ) (es : Ways) → IsStrictlySortedBy nat_cmp (keys_of es) →
      through ts (insert_entry nat_cmp es k v) + ways_to k es * products k ≡ through ts es + v * products k
  through-insert k v [] sorted = omega arith
  through-insert k v (e ∷ es) sorted = at (nat_cmp k e.0) refl (through-insert k v es (sorted_tail nat_cmp e.0 (keys_of es) sorted))
    where
      at : (o : Ordering) → o ≡ nat_cmp k e.0 → through ts (insert_entry nat_cmp es k v) + ways_to k es * products k ≡ through ts es + v * products k →
          through ts (match_ordering o ((k, v) ∷ e ∷ es) ((e.0, v) ∷ es) (e ∷ insert_entry nat_cmp es k v)) +
          unwrap_or (cond (is_eq o) (Some e.1) (lookup (is_at (nat_cmp k)) es)) 0 * products k ≡ (e.1 * products e.0 + through ts es) + v * products k
      at Less h next =
          let w : k < e.0 = ranked k e.0 Less h in
          let none : ways_to k es ≡ 0 = ap (λ o. unwrap_or o 0) (absent k e.0 es (sorted_head nat_cmp e.0 (keys_of es) sorted) w) in
          let z : ways_to k es * products k ≡ 0 * products k = ap (λ x. x * products k) none in
          omega arith
      at Equal h next =
          let w : k ≡ e.0 = ranked k e.0 Equal h in
          let a : e.1 * products k ≡ e.1 * products e.0 = ap (λ x. e.1 * products x) w in
          let b : v * products k ≡ v * products e.0 = ap (λ x. v * products x) w in
          omega arith
      at Greater h next = omega arith

  pub through-append : (es : Ways) (n w : ℕ) → through ts (es ++ (n, w) ∷ []) ≡ through ts es + w * products n
  through-append [] n w = omega arith
  through-append (e ∷ es) n w = let h : through ts (es ++ (n, w) ∷ []) ≡ through ts es + w * products n = through-append es n w in omega arith

each-insert : (P : ℕ × ℕ → Type 0) (k v : ℕ) (es : Ways) → Each P es → P (k, v) → Each P (insert_entry nat_cmp es k v)
each-insert P k v [] all here = (here, tt)
each-insert P k v (e ∷ es) all here = at (nat_cmp k e.0) refl (each-insert P k v es all.1 here)
  where
    at : (o : Ordering) → o ≡ nat_cmp k e.0 → Each P (insert_entry nat_cmp es k v) → Each P (match_ordering o ((k, v) ∷ e ∷ es) ((e.0, v) ∷ es) (e ∷ insert_entry nat_cmp es k v))
    at Less h next = (here, all)
    at Equal h next = let w : k ≡ e.0 = ranked k e.0 Equal h in (subst (λ j. P (j, v)) w here, all.1)
    at Greater h next = (all.0, next)

pub each-append : (P : ℕ × ℕ → Type 0) (es : Ways) (e : ℕ × ℕ) → Each P (es ++ e ∷ []) → Each P es × P e
each-append P [] e all = (tt, all.0)
each-append P (x ∷ xs) e all = let w = each-append P xs e all.1 in ((all.0, w.0), w.1)

lookup-capped : (limit : ℕ) (test : ℕ → Bool) (es : Ways) → AreCapped limit es → unwrap_or (lookup test es) 0 ≤ limit
lookup-capped limit test [] all = omega arith
lookup-capped limit test (e ∷ es) all = at (test e.0) (lookup-capped limit test es all.1)
  where
    at : (b : Bool) → unwrap_or (lookup test es) 0 ≤ limit → unwrap_or (cond b (Some e.1) (lookup test es)) 0 ≤ limit
    at true next = all.0
    at false next = next

pub above-insert : (k v : ℕ) (es : Ways) → above (insert_entry nat_cmp es k v) ≤ max (suc k) (above es)
above-insert k v [] = omega arith
above-insert k v (e ∷ es) = at (nat_cmp k e.0) (above-insert k v es)
  where
    at : (o : Ordering) → above (insert_entry nat_cmp es k v) ≤ max (suc k) (above es) → above (match_ordering o ((k, v) ∷ e ∷ es) ((e.0, v) ∷ es) (e ∷ insert_entry nat_cmp es k v)) ≤ max (suc k) (max (suc e.0) (above es))
    at Less next = omega arith
    at Equal next = omega arith
    at Greater next = omega arith

pub above-last : (es : Ways) (n w : ℕ) → suc n ≤ above (es ++ (n, w) ∷ [])
above-last [] n w = omega arith
above-last (e ∷ es) n w = let h : suc n ≤ above (es ++ (n, w) ∷ []) = above-last es n w in omega arith

pub above-below : (n : ℕ) (es : Ways) → All (λ q. nat_cmp q n ≡ Less) (keys_of es) → above es ≤ n
above-below n [] all = omega arith
above-below n (e ∷ es) all =
    let w : e.0 < n = ranked e.0 n Less (sym (All-head (λ q. nat_cmp q n ≡ Less) e.0 (keys_of es) all)) in
    let h : above es ≤ n = above-below n es (All-tail (λ q. nat_cmp q n ≡ Less) e.0 (keys_of es) all) in
    omega arith

-- ---- ways added to a node, up to the limit

up-to : (more new old b w c limit : ℕ) → b ≤ limit → b * c ≤ old → new + b * c ≡ old + min (b + w) limit * c → min (more + new) limit ≡ min (more + (old + w * c)) limit
up-to more new old b w c limit few part e = at (cases_lt limit (b + w))
  where
    at : (limit < b + w) ⊎ (b + w ≤ limit) → min (more + new) limit ≡ min (more + (old + w * c)) limit
    at (inr h) =
        let m : min (b + w) limit ≡ b + w = omega arith in
        let d : new + b * c ≡ old + (b + w) * c = e ∙ ap (λ x. old + x * c) m in
        let s : new ≡ old + w * c = omega arith in
        ap (λ x. min (more + x) limit) s
    at (inl h) = some c part e
      where
        some : (c : ℕ) → b * c ≤ old → new + b * c ≡ old + min (b + w) limit * c → min (more + new) limit ≡ min (more + (old + w * c)) limit
        some zero part e = omega arith
        some (suc d) part e =
            let m : min (b + w) limit ≡ limit = omega arith in
            let f : new + b * suc d ≡ old + limit * suc d = e ∙ ap (λ x. old + x * suc d) m in
            let one : limit * 1 ≤ limit * suc d = mul-le-mul_left limit (omega arith) in
            let two : (b + w) * 1 ≤ (b + w) * suc d = mul-le-mul_left (b + w) (omega arith) in
            omega arith

module _ (limit k w : ℕ) (old new : Ways) (sorted : IsStrictlySortedBy nat_cmp (keys_of old)) (capped : AreCapped limit old)
    (is : new ≡ insert_entry nat_cmp old k (min (ways_to k old + w) limit)) where
  pub add-through : (ts : List Triple) (more : ℕ) → min (more + through ts new) limit ≡ min (more + (through ts old + w * length (products_of ts k))) limit
  add-through ts more =
      let zero_in : through ts (insert_entry nat_cmp old k 0) + ways_to k old * length (products_of ts k) ≡ through ts old + 0 * length (products_of ts k) = through-insert ts k 0 old sorted in
      up-to more (through ts new) (through ts old) (ways_to k old) w (length (products_of ts k)) limit
      (lookup-capped limit (is_at (nat_cmp k)) old capped)
      (omega (arith, zero_in))
      (ap (λ es. through ts es + ways_to k old * length (products_of ts k)) is ∙ through-insert ts k (min (ways_to k old + w) limit) old sorted)

  pub add-nodes : (ts : List Triple) → AreEntries ts old → IsNode ts k → AreEntries ts new
  add-nodes ts all node = subst (AreEntries ts) (sym is) (each-insert (λ e. IsNode ts e.0) k (min (ways_to k old + w) limit) old all node)

  pub add-capped : AreCapped limit new
  add-capped = subst (AreCapped limit) (sym is) (each-insert (λ e. e.1 ≤ limit) k (min (ways_to k old + w) limit) old capped (omega arith))

  pub add-above : above new ≤ max (suc k) (above old)
  add-above = subst (λ es. above es ≤ max (suc k) (above old)) (sym is) (above-insert k (min (ways_to k old + w) limit) old)

pub is-added : (k w limit : ℕ) (old new : Ways) (got copied : Option ℕ) (before most : ℕ) → got ≡ lookup (is_at (nat_cmp k)) old → copied ≡ got → before ≡ unwrap_or copied 0 →
    most ≡ min (before + w) limit → new ≡ insert_entry nat_cmp old k most → new ≡ insert_entry nat_cmp old k (min (ways_to k old + w) limit)
is-added k w limit old new got copied before most g c b m n =
    n ∙ ap (insert_entry nat_cmp old k) (m ∙ ap (λ x. min (x + w) limit) (b ∙ ap (λ o. unwrap_or o 0) (c ∙ g)))

pub before-capped : (k limit : ℕ) (old : Ways) (got copied : Option ℕ) (before : ℕ) → got ≡ lookup (is_at (nat_cmp k)) old → copied ≡ got → before ≡ unwrap_or copied 0 → AreCapped limit old → before ≤ limit
before-capped k limit old got copied before g c b capped =
    subst (λ x. x ≤ limit) (sym (b ∙ ap (λ o. unwrap_or o 0) (c ∙ g))) (lookup-capped limit (is_at (nat_cmp k)) old capped)

-- ---- one node of the pass

module _ (ts : List Triple) (diagram : IsDiagram ts) (found total limit n w : ℕ) (old rest : Ways) (taken : old ≡ rest ++ (n, w) ∷ []) where
  taken-through : through ts old ≡ through ts rest + w * length (products_of ts n)
  taken-through = ap (through ts) taken ∙ through-append ts rest n w

  -- a node's ways are ways to its children
  pub counted-sides : (level : ℕ) (lo hi : Node) → IsNode ts n → parts_of ts n ≡ Some (level, lo, hi) → (one two : Ways) →
      ((more : ℕ) → min (more + through ts one) limit ≡ min (more + (through ts rest + w * length (products_of ts lo.0))) limit) →
      ((more : ℕ) → min (more + through ts two) limit ≡ min (more + (through ts one + w * length (products_of ts hi.0))) limit) →
      min (found + through ts old) limit ≡ total → min (found + through ts two) limit ≡ total
  counted-sides level lo hi node parts one two first second is =
      let split : length (products_of ts n) ≡ length (products_of ts lo.0) + length (products_of ts hi.0) = products-split ts diagram n level lo hi node parts in
      let all : w * length (products_of ts n) ≡ w * (length (products_of ts lo.0) + length (products_of ts hi.0)) = ap (λ x. w * x) split in
      let a = first (found + w * length (products_of ts hi.0)) in
      let b = second found in
      let t = taken-through in
      let e : found + (through ts one + w * length (products_of ts hi.0)) ≡ (found + w * length (products_of ts hi.0)) + through ts one = omega arith in
      let f : (found + w * length (products_of ts hi.0)) + (through ts rest + w * length (products_of ts lo.0)) ≡ found + through ts old = omega (arith, all, t) in
      b ∙ ap (λ x. min x limit) e ∙ a ∙ ap (λ x. min x limit) f ∙ is

  -- a constant's ways are products
  pub counted-constant : (n ≡ 0) ⊎ (n ≡ 1) → (now : ℕ) → now ≡ min (found + w * n) limit → min (found + through ts old) limit ≡ total → min (now + through ts rest) limit ≡ total
  counted-constant const now e is =
      let c : w * length (products_of ts n) ≡ w * n = ap (λ x. w * x) (products-constant ts n const) in
      let t = taken-through in
      (omega (arith, e, c, t)) ∙ is

  -- the children have lower numbers
  pub lower : (level : ℕ) (lo hi : Node) → IsNode ts n → parts_of ts n ≡ Some (level, lo, hi) → (suc lo.0 ≤ n) × (suc hi.0 ≤ n)
  lower level lo hi node parts =
      let p = parts-some ts n level lo hi node parts in
      let o = diagram.ordered p.0 (triple level lo.0 hi.0) p.2 in
      (omega (arith, o.lo, p.1), omega (arith, o.hi, p.1))

  pub smaller : (level : ℕ) (lo hi : Node) → IsNode ts n → parts_of ts n ≡ Some (level, lo, hi) → (one two : Ways) → All (λ q. nat_cmp q n ≡ Less) (keys_of rest) →
      above one ≤ max (suc lo.0) (above rest) → above two ≤ max (suc hi.0) (above one) → above two < above old
  smaller level lo hi node parts one two all first second =
      let l = lower level lo hi node parts in
      let b : above rest ≤ n = above-below n rest all in
      let t : suc n ≤ above old = subst (λ es. suc n ≤ above es) (sym taken) (above-last rest n w) in
      omega (arith, l.0, l.1)

  pub smaller-constant : All (λ q. nat_cmp q n ≡ Less) (keys_of rest) → above rest < above old
  smaller-constant all =
      let b : above rest ≤ n = above-below n rest all in
      let t : suc n ≤ above old = subst (λ es. suc n ≤ above es) (sym taken) (above-last rest n w) in
      omega arith

  pub taken-nodes : AreEntries ts old → AreEntries ts rest × IsNode ts n
  taken-nodes all = each-append (λ e. IsNode ts e.0) rest (n, w) (subst (AreEntries ts) taken all)

  pub taken-capped : AreCapped limit old → AreCapped limit rest × (w ≤ limit)
  taken-capped all = each-append (λ e. e.1 ≤ limit) rest (n, w) (subst (AreCapped limit) taken all)

pub constant-small : (n : ℕ) → (n ≡ 0) ⊎ (n ≡ 1) → n ≤ 1
constant-small n (inl e) = omega (arith, e)
constant-small n (inr e) = omega (arith, e)
