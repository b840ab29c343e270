-- Renumbered terms.
use Rattle.std.proofs.Common.{◌≡◌, ℕ, zero, suc, ◌+◌, Bool, true, List, [], ◌∷◌, ◌++◌, map, length, get_or, Option, Some, None, refl, sym, ap, subst, ◌∙◌, arith, append_assoc, length-append}
use Rattle.std.specs.Prelude.{option_map, flat_map}
use Rattle.std.specs.List.{list_all}
use Rattle.std.proofs.lemmas.List.{map-append}
use Rattle.cb_model.specs.declared.Sort.TheVariants as sort
use Rattle.cb_model.specs.declared.Expr.TheVariants as expr
use Rattle.cb_model.specs.declared.Tree.{Tree}
use Rattle.cb_model.specs.declared.Tree.TheOpen.{Tree-F}
use Rattle.cb_model.specs.declared.Tree.TheVariants as tree
use Rattle.cb_model.specs.declared.Tree.TheFolds.{fold-roll-Tree}
use Rattle.cb_model.specs.Bits.{Bits, numbers, numbers_from, Each}
use Rattle.cb_model.specs.Values.{Ground, Bit, Word, Name, More, grounds, World, Valuation, IsValuation, tail_of}
use Rattle.cb_model.specs.Equations.{Item, Meets}
use Rattle.cb_model.specs.Answers.{leaves, opens, is_leaf, is_open, is_open_step, InOrder, values, with_opens}
use Rattle.cb_laws.proofs.Shapes.{leaf-var, open-leaf, open-bus, open-term, open-node}
use Rattle.cb_laws.proofs.OpenTrees.{Plain, Plains, ALeaf, ABus, AVar, AnInt, ANode, Nil, Cons, Place, closed, closed_all, plain_value, plain_values, values_closed, plain_leaves, all_leaves, shape_leaves, bus_places, plain_opens, all_opens, shape_opens}
use Rattle.std.proofs.lemmas.Option.{get_or_from_slice_get}
use Rattle.cb_shape.proofs.Places.{place_at, all_there}
use Rattle.cb_shape.specs.Shapes.{has_place, place_from, firsts, numbered, numbered_all, HasPoint, shape_of}
use Rattle.cb_shape.proofs.Places.{renamed, in_order}

-- ---- leaves

from-append : (j n m : ℕ) → numbers_from j (n + m) ≡ numbers_from j n ++ numbers_from (j + n) m
from-append j zero m = let e : zero + m ≡ m = omega arith in let f : j + zero ≡ j = omega arith in ap (λ (x : ℕ). numbers_from j x) e ∙ sym (ap (λ (x : ℕ). numbers_from x m) f)
from-append j (suc n) m =
    let e : suc n + m ≡ suc (n + m) = omega arith in let f : suc j + n ≡ j + suc n = omega arith in
    ap (λ (x : ℕ). numbers_from j x) e ∙ ap (λ (xs : List ℕ). j ∷ xs) (from-append (suc j) n m ∙ ap (λ (x : ℕ). numbers_from (suc j) n ++ numbers_from x m) f)

pub length-from : (j n : ℕ) → length (numbers_from j n) ≡ n
length-from j zero = refl
length-from j (suc n) = ap (λ (x : ℕ). suc x) (length-from (suc j) n)

mutual
  leaves-numbered : (os : List Place) (j : ℕ) (p : Plain) → plain_leaves (numbered os j p) ≡ numbers_from j (length (plain_leaves p))
  leaves-numbered os j (ALeaf s) = refl
  leaves-numbered os j (ABus ss t) = refl
  leaves-numbered os j (AVar c) = refl
  leaves-numbered os j (AnInt z) = refl
  leaves-numbered os j (ANode n ps) = leaves-all os j ps

  pub leaves-all : (os : List Place) (j : ℕ) (ps : Plains) → all_leaves (numbered_all os j ps) ≡ numbers_from j (length (all_leaves ps))
  leaves-all os j Nil = refl
  leaves-all os j (Cons p ps) =
      ap (λ (xs : List ℕ). xs ++ all_leaves (numbered_all os (j + length (plain_leaves p)) ps)) (leaves-numbered os j p)
      ∙ ap (λ (xs : List ℕ). numbers_from j (length (plain_leaves p)) ++ xs) (leaves-all os (j + length (plain_leaves p)) ps)
      ∙ sym (from-append j (length (plain_leaves p)) (length (all_leaves ps)))
      ∙ ap (λ (x : ℕ). numbers_from j x) (sym (length-append (plain_leaves p) (all_leaves ps)))

-- ---- open places

opens-bus : (os : List Place) (t : Option ℕ) → bus_places (option_map (λ c. place_from 0 os (sort.Bus, c)) t) ≡ renamed os (bus_places t)
opens-bus os None = refl
opens-bus os (Some c) = refl

mutual
  opens-numbered : (os : List Place) (j : ℕ) (p : Plain) → plain_opens (numbered os j p) ≡ renamed os (plain_opens p)
  opens-numbered os j (ALeaf s) = refl
  opens-numbered os j (ABus ss t) = opens-bus os t
  opens-numbered os j (AVar c) = refl
  opens-numbered os j (AnInt z) = refl
  opens-numbered os j (ANode n ps) = opens-all os j ps

  pub opens-all : (os : List Place) (j : ℕ) (ps : Plains) → all_opens (numbered_all os j ps) ≡ renamed os (all_opens ps)
  opens-all os j Nil = refl
  opens-all os j (Cons p ps) =
      ap (λ (xs : List Place). xs ++ all_opens (numbered_all os (j + length (plain_leaves p)) ps)) (opens-numbered os j p)
      ∙ ap (λ (xs : List Place). renamed os (plain_opens p) ++ xs) (opens-all os (j + length (plain_leaves p)) ps)
      ∙ sym (map-append (λ (x : Place). (x.0, place_from 0 os x)) (plain_opens p) (all_opens ps))

-- ---- open trees

vars-open : (ns : List ℕ) → list_all is_leaf (map expr.Var ns) ≡ true
vars-open [] = refl
vars-open (n ∷ ns) = rw (leaf-var n) (vars-open ns)

mutual
  open-closed : (p : Plain) → is_open (closed p) ≡ true
  open-closed (ALeaf n) = open-leaf (expr.Var n) ∙ leaf-var n
  open-closed (ABus ns t) = open-bus (map expr.Var ns) t ∙ vars-open ns
  open-closed (AVar n) = open-term n
  open-closed (AnInt z) = ap is_open (sym (tree.rolls-Int z)) ∙ fold-roll-Tree Bool is_open_step (Tree-F.Int z)
  open-closed (ANode n ps) = open-node n (closed_all ps) ∙ opens-closed ps

  opens-closed : (ps : Plains) → list_all (λ b. b) (map is_open (closed_all ps)) ≡ true
  opens-closed Nil = refl
  opens-closed (Cons p ps) = rw (open-closed p) (opens-closed ps)

pub shape-open : (ps : Plains) → list_all is_open (closed_all ps) ≡ true
shape-open Nil = refl
shape-open (Cons p ps) = rw (open-closed p) (shape-open ps)

-- ---- values

-- bits from j on that are those of the slots
abbrev pub AgreeFrom : Valuation → Valuation → ℕ → List ℕ → Type 0
AgreeFrom o v j [] = Unit {0}
AgreeFrom o v j (s ∷ ss) = (o.bits j ≡ v.bits s) × AgreeFrom o v (suc j) ss

-- the value of an open place
abbrev pub AgreeAt : Valuation → Valuation → List Place → Place → Type 0
AgreeAt o v os (sort.Bus, c) = o.words (place_from 0 os (sort.Bus, c)) ≡ v.words c
AgreeAt o v os (sort.Term, c) = o.terms (place_from 0 os (sort.Term, c)) ≡ v.terms c
AgreeAt o v os (sort.Bool, c) = Unit {0}

agree-split : (o v : Valuation) (j : ℕ) (xs ys : List ℕ) → AgreeFrom o v j (xs ++ ys) → AgreeFrom o v j xs × AgreeFrom o v (j + length xs) ys
agree-split o v j [] ys h = let e : j ≡ j + 0 = omega arith in (tt, subst (λ (x : ℕ). AgreeFrom o v x ys) e h)
agree-split o v j (x ∷ xs) ys h =
    let r = agree-split o v (suc j) xs ys h.1 in let e : suc j + length xs ≡ j + suc (length xs) = omega arith in
    ((h.0, r.0), subst (λ (x : ℕ). AgreeFrom o v x ys) e r.1)

each-split : (P : Place → Type 0) (xs ys : List Place) → Each P (xs ++ ys) → Each P xs × Each P ys
each-split P [] ys h = (tt, h)
each-split P (x ∷ xs) ys h = let r = each-split P xs ys h.1 in ((h.0, r.0), r.1)

bits-agree : (o v : Valuation) (j : ℕ) (ss : List ℕ) → AgreeFrom o v j ss → map o.bits (numbers_from j (length ss)) ≡ map v.bits ss
bits-agree o v j [] h = refl
bits-agree o v j (s ∷ ss) h = let t = bits-agree o v (suc j) ss h.1 in let e = h.0 in λ i. e i ∷ t i

tail-agree : (o v : Valuation) (os : List Place) (t : Option ℕ) → Each (AgreeAt o v os) (bus_places t) → tail_of o (option_map (λ c. place_from 0 os (sort.Bus, c)) t) ≡ tail_of v t
tail-agree o v os None h = refl
tail-agree o v os (Some c) h = h.0

module _ (o v : Valuation) (os : List Place) where
  mutual
    value-numbered : (j : ℕ) (p : Plain) → AgreeFrom o v j (plain_leaves p) → Each (AgreeAt o v os) (plain_opens p) → plain_value o (numbered os j p) ≡ plain_value v p
    value-numbered j (ALeaf s) h k = ap Bit h.0
    value-numbered j (ABus ss t) h k =
        let a = bits-agree o v j ss h in let b = tail-agree o v os t k in λ i. Word (a i ++ b i)
    value-numbered j (AVar c) h k = k.0
    value-numbered j (AnInt z) h k = refl
    value-numbered j (ANode n ps) h k = ap (Name n) (values-numbered j ps h k)

    pub values-numbered : (j : ℕ) (ps : Plains) → AgreeFrom o v j (all_leaves ps) → Each (AgreeAt o v os) (all_opens ps) → plain_values o (numbered_all os j ps) ≡ plain_values v ps
    values-numbered j Nil h k = refl
    values-numbered j (Cons p ps) h k =
        let a = agree-split o v j (plain_leaves p) (all_leaves ps) h in
        let b = each-split (AgreeAt o v os) (plain_opens p) (all_opens ps) k in
        let x = value-numbered j p a.0 b.0 in
        let y = values-numbered (j + length (plain_leaves p)) ps a.1 b.1 in
        λ i. More (x i) (y i)

-- ---- values tell the bits

bus-bits : (o v : Valuation) (j : ℕ) (ss : List ℕ) (xs ys : List Bool) → map v.bits ss ++ xs ≡ map o.bits (numbers_from j (length ss)) ++ ys → AgreeFrom o v j ss
bus-bits o v j [] xs ys e = tt
bus-bits o v j (s ∷ ss) xs ys e =
    let h : o.bits j ≡ v.bits s = cc in
    let t : map v.bits ss ++ xs ≡ map o.bits (numbers_from (suc j) (length ss)) ++ ys = cc in
    (h, bus-bits o v (suc j) ss xs ys t)

agree-join : (o v : Valuation) (j : ℕ) (xs ys : List ℕ) → AgreeFrom o v j xs → AgreeFrom o v (j + length xs) ys → AgreeFrom o v j (xs ++ ys)
agree-join o v j [] ys h k = let e : j + 0 ≡ j = omega arith in subst (λ (x : ℕ). AgreeFrom o v x ys) e k
agree-join o v j (x ∷ xs) ys h k =
    let e : j + suc (length xs) ≡ suc j + length xs = omega arith in
    (h.0, agree-join o v (suc j) xs ys h.1 (subst (λ (x : ℕ). AgreeFrom o v x ys) e k))

module _ (o v : Valuation) (os : List Place) where
  mutual
    bits-told : (j : ℕ) (p : Plain) → plain_value v p ≡ plain_value o (numbered os j p) → AgreeFrom o v j (plain_leaves p)
    bits-told j (ALeaf s) e = let h : o.bits j ≡ v.bits s = cc in (h, tt)
    bits-told j (ABus ss t) e =
        let w : map v.bits ss ++ tail_of v t ≡ map o.bits (numbers_from j (length ss)) ++ tail_of o (option_map (λ c. place_from 0 os (sort.Bus, c)) t) = cc in
        bus-bits o v j ss _ _ w
    bits-told j (AVar c) e = tt
    bits-told j (AnInt z) e = tt
    bits-told j (ANode n ps) e = let w : plain_values v ps ≡ plain_values o (numbered_all os j ps) = cc in all-bits-told j ps w

    pub all-bits-told : (j : ℕ) (ps : Plains) → plain_values v ps ≡ plain_values o (numbered_all os j ps) → AgreeFrom o v j (all_leaves ps)
    all-bits-told j Nil e = tt
    all-bits-told j (Cons p ps) e =
        let h : plain_value v p ≡ plain_value o (numbered os j p) = cc in
        let t : plain_values v ps ≡ plain_values o (numbered_all os (j + length (plain_leaves p)) ps) = cc in
        agree-join o v j (plain_leaves p) (all_leaves ps) (bits-told j p h) (all-bits-told (j + length (plain_leaves p)) ps t)

-- ---- a valuation of the shape for each point

place-of : List Place → ℕ → Place
place-of os k = get_or os k (sort.Bool, 0)

abbrev pub seen-at : List ℕ → List Place → Valuation → Valuation
seen-at ls os v = record { bits = λ i. v.bits (get_or ls i 0); words = λ k. v.words (get_or os k (sort.Bool, 0)).1; terms = λ k. v.terms (get_or os k (sort.Bool, 0)).1 }

get-behind : (xs : List ℕ) (s : ℕ) (ys : List ℕ) → get_or (xs ++ s ∷ ys) (length xs) 0 ≡ s
get-behind [] s ys = refl
get-behind (x ∷ xs) s ys = get-behind xs s ys

seen-leaves : (os : List Place) (v : Valuation) (front rest : List ℕ) → AgreeFrom (seen-at (front ++ rest) os v) v (length front) rest
seen-leaves os v front [] = tt
seen-leaves os v front (s ∷ rest) =
    let e : (front ++ s ∷ []) ++ rest ≡ front ++ s ∷ rest = append_assoc front (s ∷ []) rest in
    let n : length (front ++ s ∷ []) ≡ suc (length front) = let l = length-append front (s ∷ []) in omega arith in (
      ap v.bits (get-behind front s rest),
      subst (λ (x : ℕ). AgreeFrom (seen-at (front ++ s ∷ rest) os v) v x rest) n
          (subst (λ (xs : List ℕ). AgreeFrom (seen-at xs os v) v (length (front ++ s ∷ [])) rest) e (seen-leaves os v (front ++ s ∷ []) rest)),
    )

get-place : (os : List Place) (x : Place) → has_place os x ≡ true → get_or os (place_from 0 os x) (sort.Bool, 0) ≡ x
get-place os x h =
    let r = place_at 0 os x h in
    let n : place_from 0 os x ≡ r.i = r.number ∙ omega arith in
    ap (λ (k : ℕ). get_or os k (sort.Bool, 0)) n ∙ get_or_from_slice_get os r.i x (sort.Bool, 0) r.there

seen-place : (ls : List ℕ) (os : List Place) (v : Valuation) (x : Place) → has_place os x ≡ true → AgreeAt (seen-at ls os v) v os x
seen-place ls os v (sort.Bus, c) h = ap (λ (y : Place). v.words y.1) (get-place os (sort.Bus, c) h)
seen-place ls os v (sort.Term, c) h = ap (λ (y : Place). v.terms y.1) (get-place os (sort.Term, c) h)
seen-place ls os v (sort.Bool, c) h = tt

seen-places : (ls : List ℕ) (os : List Place) (v : Valuation) (xs : List Place) → Each (λ x. has_place os x ≡ true) xs → Each (AgreeAt (seen-at ls os v) v os) xs
seen-places ls os v [] h = tt
seen-places ls os v (x ∷ xs) h = (seen-place ls os v x h.0, seen-places ls os v xs h.1)

-- ---- other values of the cells

abbrev pub back-at : List Place → Valuation → Valuation
back-at os o = record { bits = o.bits; words = λ c. o.words (place_from 0 os (sort.Bus, c)); terms = λ c. o.terms (place_from 0 os (sort.Term, c)) }

back-places : (os : List Place) (v o o' : Valuation) (xs : List Place) →
    Each (AgreeAt (with_opens o o') (record { bits = v.bits; words = (back-at os o').words; terms = (back-at os o').terms }) os) xs
back-places os v o o' [] = tt
back-places os v o o' ((sort.Bus, c) ∷ xs) = (refl, back-places os v o o' xs)
back-places os v o o' ((sort.Term, c) ∷ xs) = (refl, back-places os v o o' xs)
back-places os v o o' ((sort.Bool, c) ∷ xs) = (tt, back-places os v o o' xs)

-- ---- lists of values

grounds-same : (xs ys : List Ground) → grounds xs ≡ grounds ys → xs ≡ ys
grounds-same [] [] e = refl
grounds-same [] (y ∷ ys) e = absurd (cc)
grounds-same (x ∷ xs) [] e = absurd (cc)
grounds-same (x ∷ xs) (y ∷ ys) e =
    let h : x ≡ y = cc in
    let t : grounds xs ≡ grounds ys = cc in
    let r = grounds-same xs ys t in
    λ i. h i ∷ r i

other-bits : (o v u o' : Valuation) → u.bits ≡ v.bits → (j : ℕ) (ss : List ℕ) → AgreeFrom o v j ss → AgreeFrom (with_opens o o') u j ss
other-bits o v u o' e j [] h = tt
other-bits o v u o' e j (s ∷ ss) h = (h.0 ∙ ap (λ (f : Bits). f s) (sym e), other-bits o v u o' e (suc j) ss h.1)

-- ---- the shape

module _ (w : World) (es : List Item) (terms : List Tree) (ps : Plains) (point : (a : Bits) (b : Valuation) → Meets w es a b → HasPoint w es terms ps a b) where
  places : List Place
  places = firsts [] (all_opens ps)

  shape-leaves : flat_map leaves (shape_of ps) ≡ numbers_from 0 (length (all_leaves ps))
  shape-leaves = shape_leaves (numbered_all (firsts [] (all_opens ps)) 0 ps) ∙ leaves-all (firsts [] (all_opens ps)) 0 ps

  pub in-numbers : flat_map leaves (shape_of ps) ≡ numbers (length (flat_map leaves (shape_of ps)))
  in-numbers = shape-leaves ∙ ap (λ (n : ℕ). numbers_from 0 n) (sym (ap length shape-leaves ∙ length-from 0 (length (all_leaves ps))))

  pub opens-in-order : InOrder [] (flat_map opens (shape_of ps))
  opens-in-order =
      subst (λ (xs : List Place). InOrder [] xs) (sym (shape_opens (numbered_all (firsts [] (all_opens ps)) 0 ps) ∙ opens-all (firsts [] (all_opens ps)) 0 ps)) (in_order [] (all_opens ps))

  pub covers : (a : Bits) (b : Valuation) → Meets w es a b → (o : Valuation) × (IsValuation w o × (values a b terms ≡ values a o (shape_of ps)))
  covers a b m =
      let h = point a b m in
      let o = seen-at (all_leaves ps) (firsts [] (all_opens ps)) h.v in
      let e = values-numbered o h.v (firsts [] (all_opens ps)) 0 ps (seen-leaves (firsts [] (all_opens ps)) h.v [] (all_leaves ps))
      (seen-places (all_leaves ps) (firsts [] (all_opens ps)) h.v (all_opens ps) (all_there (all_opens ps))) in
      (o, (λ n. h.sorted _, grounds-same (values a b terms) (values a o (shape_of ps)) (h.is ∙ sym e ∙ sym (values_closed a o (numbered_all (firsts [] (all_opens ps)) 0 ps)))))

  pub free : (a : Bits) (b o o' : Valuation) → Meets w es a b → values a b terms ≡ values a o (shape_of ps) → IsValuation w o' → (b' : Valuation) × (Meets w es a b' × (values a b' terms ≡ values a (with_opens o o') (shape_of ps)))
  free a b o o' m e s =
      let os = firsts [] (all_opens ps) in
      let h = point a b m in
      let told = all-bits-told o h.v os 0 ps (sym h.is ∙ ap grounds e ∙ values_closed a o (numbered_all os 0 ps)) in
      let r = h.others (back-at os o') (λ n. s _) in
      let v : Valuation = record { bits = h.v.bits; words = (back-at os o').words; terms = (back-at os o').terms } in
      let x = values-numbered (with_opens o o') v os 0 ps (other-bits o h.v v o' refl 0 (all_leaves ps) told) (back-places os h.v o o' (all_opens ps)) in
      (r.0, (r.1.0, grounds-same (values a r.0 terms) (values a (with_opens o o') (shape_of ps)) (r.1.1 ∙ sym x ∙ sym (values_closed a (with_opens o o') (numbered_all os 0 ps)))))
