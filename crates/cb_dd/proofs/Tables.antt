-- How a table with one more triple is a diagram, and what its new node is.
use Rattle.std.proofs.Common.{◌≡◌, ◌≢◌, ℕ, zero, suc, ◌+◌, ◌-◌, ◌<◌, ◌≤◌, ◌^◌, Bool, List, [], ◌∷◌, ◌++◌, length, take, drop, slice_get, if◌then◌else◌, None, Some, refl, sym, ap, subst, ◌∙◌, ◌⊎◌, inl, inr, arith, length-append, append-nil, length-take}
use Rattle.std.proofs.lemmas.Bool.{le-ltb}
use Rattle.std.proofs.lemmas.List.{take-append-drop}
use Rattle.std.proofs.lemmas.Option.{slice_get_within, same_Some}
use Rattle.std.specs.Option.{option_map}
use Rattle.cb_model.specs.Bits.{Bits}
use Rattle.cb_dd.specs.declared.Triple.{Triple}
use Rattle.cb_dd.specs.declared.Node.{Node}
use Rattle.cb_dd.specs.Diagram.{function_of, level_of, IsNode, IsChild, IsOrdered, IsDiagram, Holds, parts_of, triple}
use Rattle.cb_dd.specs.Table.{IsTable, constant_entry}
use Rattle.cb_dd.proofs.Diagrams.{function_of-node, function_of-append, level_of-node, level_of-append}

-- an element of a list with one more
pub pushed : (ts : List Triple) (t : Triple) (k : ℕ) (u : Triple) → slice_get (ts ++ t ∷ []) k ≡ Some u → (slice_get ts k ≡ Some u) ⊎ ((k ≡ length ts) × (u ≡ t))
pushed [] t zero u at = inr (refl, sym (same_Some t u at))
pushed [] t (suc k) u at = absurd (cc)
pushed (x ∷ ts) t zero u at = inl at
pushed (x ∷ ts) t (suc k) u at = elim (pushed ts t k u at) [
  | inl h ↦ inl h
  | inr h ↦ inr (let e : k ≡ length ts = h.0 in omega arith, h.1)
]

pub ordered-append : (ts us : List Triple) (k : ℕ) (t : Triple) → slice_get ts k ≡ Some t → IsOrdered ts k t → IsOrdered (ts ++ us) k t
ordered-append ts us k t at o =
    let h : k < length ts = slice_get_within ts k t at in
    record {
      level = o.level;
      lo = o.lo;
      hi = o.hi;
      differ = o.differ;
      lo_below = subst (λ (x : ℕ). t.level < x) (sym (level_of-append ts us t.lo (omega (arith, o.lo)))) o.lo_below;
      hi_below = subst (λ (x : ℕ). t.level < x) (sym (level_of-append ts us t.hi (omega (arith, o.hi)))) o.hi_below;
    }

-- a new triple over nodes of greater levels leaves a diagram
pub IsDiagram-push : (ts : List Triple) (t : Triple) → IsDiagram ts → t.level < 2 ^ 32 → IsChild ts t.level t.lo → IsChild ts t.level t.hi → t.lo ≢ t.hi → (Holds ts t → ⊥) → IsDiagram (ts ++ t ∷ [])
IsDiagram-push ts t is small lo hi differ absent = record {
  ordered = λ k u at. elim (pushed ts t k u at) [
    | inl h ↦ ordered-append ts (t ∷ []) k u h (is.ordered k u h)
    | inr h ↦
        let P : Triple → Type 0 = λ w. IsOrdered (ts ++ t ∷ []) k w in
        subst P (sym h.1) (record {
          level = small;
          lo = omega (arith, lo.node, h.0);
          hi = omega (arith, hi.node, h.0);
          differ = differ;
          lo_below = subst (λ (x : ℕ). t.level < x) (sym (level_of-append ts (t ∷ []) t.lo lo.node)) lo.below;
          hi_below = subst (λ (x : ℕ). t.level < x) (sym (level_of-append ts (t ∷ []) t.hi hi.node)) hi.below;
        })
  ];
  once = λ i j u ai aj. elim (pushed ts t i u ai) [
    | inl p ↦ elim (pushed ts t j u aj) [
      | inl q ↦ is.once i j u p q
      | inr q ↦ absurd (absent (i, p ∙ ap Some q.1))
    ]
    | inr p ↦ elim (pushed ts t j u aj) [
      | inl q ↦ absurd (absent (j, q ∙ ap Some p.1))
      | inr q ↦ p.0 ∙ sym q.0
    ]
  ];
}

-- what a node with these parts is
pub record IsMade (old new : List Triple) (level lo hi n : ℕ) : Type 0 where
  pub node : IsNode new n
  pub above : level ≤ level_of new n
  pub parts : parts_of new n ≡ Some (level, record { 0 = lo }, record { 0 = hi })
  pub function : (a : Bits) → function_of new n a ≡ (if a level then function_of old hi a else function_of old lo a)

parts_of-node : (ts : List Triple) (k : ℕ) (t : Triple) → slice_get ts k ≡ Some t → parts_of ts (k + 2) ≡ Some (t.level, record { 0 = t.lo }, record { 0 = t.hi })
parts_of-node ts k t at =
    let e : k + 2 - 2 ≡ k = omega arith in
    let node : Triple → ℕ × Node × Node = λ u. (u.level, record { 0 = u.lo }, record { 0 = u.hi }) in
    ap (λ c. if c then None else option_map node (slice_get ts (k + 2 - 2))) (le-ltb (k + 2) 2 (omega arith))
    ∙ ap (λ i. option_map node (slice_get ts i)) e
    ∙ ap (option_map node) at

choose : (b : Bool) (x y z w : Bool) → x ≡ z → y ≡ w → (if b then x else y) ≡ (if b then z else w)
choose b x y z w p q = λ j. if b then p j else q j

pub made : (old more : List Triple) (level lo hi k : ℕ) → IsDiagram (old ++ more) → IsChild old level lo → IsChild old level hi → slice_get (old ++ more) k ≡ Some (triple level lo hi)
    → IsMade old (old ++ more) level lo hi (k + 2)
made old more level lo hi k is l h at =
    let o = is.ordered k _ at in
    let w : k < length (old ++ more) = slice_get_within (old ++ more) k _ at in
    record {
      node = omega arith;
      above = let e : level_of (old ++ more) (k + 2) ≡ level = level_of-node (old ++ more) k _ at in omega arith;
      parts = parts_of-node (old ++ more) k _ at;
      function = λ a. function_of-node (old ++ more) k _ at o.lo o.hi a ∙ choose (a level) _ _ _ _ (function_of-append old more hi h.node a) (function_of-append old more lo l.node a);
    }

-- the place of a triple with different children in the table
place : (ts : List Triple) (i : ℕ) (t : Triple) → t.lo ≢ t.hi → slice_get (constant_entry 0 ∷ constant_entry 1 ∷ ts) i ≡ Some t → (k : ℕ) × (i ≡ k + 2) × (slice_get ts k ≡ Some t)
place ts zero t differ at = absurd (differ (sym (ap (λ u. u.lo) (same_Some _ t at)) ∙ ap (λ u. u.hi) (same_Some _ t at)))
place ts (suc zero) t differ at = absurd (differ (sym (ap (λ u. u.lo) (same_Some _ t at)) ∙ ap (λ u. u.hi) (same_Some _ t at)))
place ts (suc (suc k)) t differ at = (k, omega arith, at)

-- what the table says of its triples
pub record IsGrown (old new : List Triple) (t : Triple) : Type 0 where
  pub more : List Triple
  pub is : new ≡ old ++ more
  pub bound : length more ≤ 1
  pub kept : Holds old t → new ≡ old
  pub diagram : IsDiagram new

module _ (keys : List Triple) (budget fulls : ℕ) (is : IsTable keys budget fulls) (t : Triple) (differ : t.lo ≢ t.hi) where
  -- the table's own places and those of the triples
  pub placed : (i : ℕ) → slice_get keys i ≡ Some t → (k : ℕ) × (i ≡ k + 2) × (slice_get (drop 2 keys) k ≡ Some t)
  placed i at = place (drop 2 keys) i t differ (ap (λ l. slice_get l i) (sym is.constants) ∙ at)

  pub held-key : Holds (drop 2 keys) t → (i : ℕ) × (slice_get keys i ≡ Some t)
  held-key h = (suc (suc h.0), ap (λ l. slice_get l (suc (suc h.0))) is.constants ∙ h.1)

  drop-push : drop 2 (keys ++ t ∷ []) ≡ drop 2 keys ++ t ∷ []
  drop-push = ap (λ l. drop 2 (l ++ t ∷ [])) is.constants

  pub constants-push : keys ++ t ∷ [] ≡ constant_entry 0 ∷ constant_entry 1 ∷ drop 2 (keys ++ t ∷ [])
  constants-push = ap (λ l. l ++ t ∷ []) is.constants ∙ ap (λ l. constant_entry 0 ∷ constant_entry 1 ∷ l) (sym drop-push)

  module _ (new : List Triple) (small : t.level < 2 ^ 32) (lo : IsChild (drop 2 keys) t.level t.lo) (hi : IsChild (drop 2 keys) t.level t.hi)
      (grows : (new ≡ keys) ⊎ (((i : ℕ) × (slice_get keys i ≡ Some t) → ⊥) × (new ≡ keys ++ t ∷ []))) where
    pub grown : IsGrown (drop 2 keys) (drop 2 new) t
    grown = elim grows [
      | inl same ↦ record { more = []; is = ap (drop 2) same ∙ sym (append-nil (drop 2 keys)); bound = omega arith; kept = λ _. ap (drop 2) same; diagram = subst (λ l. IsDiagram (drop 2 l)) (sym same) is.diagram }
      | inr added ↦
          let e : drop 2 new ≡ drop 2 keys ++ t ∷ [] = ap (drop 2) added.1 ∙ drop-push in
          record {
            more = t ∷ [];
            is = e;
            bound = omega arith;
            kept = λ h. absurd (added.0 (held-key h));
            diagram = subst IsDiagram (sym e) (IsDiagram-push (drop 2 keys) t is.diagram small lo hi differ (λ h. added.0 (held-key h)));
          }
    ]

    pub table-grown : length (drop 2 keys) < budget → IsTable new budget fulls
    table-grown room = elim grows [
      | inl same ↦ subst (λ l. IsTable l budget fulls) (sym same) is
      | inr added ↦
          let e : drop 2 new ≡ drop 2 keys ++ t ∷ [] = ap (drop 2) added.1 ∙ drop-push in
          record {
            constants = added.1 ∙ constants-push ∙ ap (λ l. constant_entry 0 ∷ constant_entry 1 ∷ drop 2 l) (sym added.1);
            diagram = grown.diagram;
            within = omega (arith, ap length e, length-append (drop 2 keys) (t ∷ []));
            unbounded = is.unbounded;
          }
    ]

-- the same, by what a caller sees: the triples `old` of the store, and the numbers of the children
module _ (keys new : List Triple) (budget fulls : ℕ) (is : IsTable keys budget fulls) (old : List Triple) (seen : drop 2 keys ≡ old) (level lo hi low high : ℕ) (el : low ≡ lo) (eh : high ≡ hi) (differ : lo ≢ hi)
    (small : level < 2 ^ 32) (l : IsChild old level lo) (h : IsChild old level hi) where
  different : low ≢ high
  different e = differ (sym el ∙ e ∙ eh)

  child-low : IsChild (drop 2 keys) level low
  child-low = let P : ℕ → Type 0 = λ n. IsChild (drop 2 keys) level n in subst P (sym el) (subst (λ ts. IsChild ts level lo) (sym seen) l)

  child-high : IsChild (drop 2 keys) level high
  child-high = let P : ℕ → Type 0 = λ n. IsChild (drop 2 keys) level n in subst P (sym eh) (subst (λ ts. IsChild ts level hi) (sym seen) h)

  same-triple : triple level low high ≡ triple level lo hi
  same-triple = λ j. record { level = level; lo = el j; hi = eh j }

  module _ (grows : (new ≡ keys) ⊎ (((i : ℕ) × (slice_get keys i ≡ Some (triple level low high)) → ⊥) × (new ≡ keys ++ triple level low high ∷ []))) where
    pub node-grown : IsGrown old (drop 2 new) (triple level lo hi)
    node-grown = subst (λ ts. IsGrown ts (drop 2 new) (triple level lo hi)) seen (subst (IsGrown (drop 2 keys) (drop 2 new)) same-triple (grown keys budget fulls is (triple level low high) different new small child-low child-high grows))

    pub node-table : length old < budget → IsTable new budget fulls
    node-table room = table-grown keys budget fulls is (triple level low high) different new small child-low child-high grows (omega (arith, ap length seen))

    module _ (room : length old < budget) (i : ℕ) (at : slice_get new i ≡ Some (triple level low high)) where
      pub node-made : IsMade old (drop 2 new) level lo hi i
      node-made =
          let g = node-grown in
          let p = placed new budget fulls (node-table room) (triple level low high) different i at in
          let P : ℕ → Type 0 = λ n. IsMade old (drop 2 new) level lo hi n in
          subst P (sym p.1) (subst (λ ts. IsMade old ts level lo hi (p.0 + 2)) (sym g.is)
          (made old g.more level lo hi p.0 (subst IsDiagram g.is g.diagram) l h (ap (λ ts. slice_get ts p.0) (sym g.is) ∙ p.2 ∙ ap Some same-triple)))

  -- a triple that is there already
  pub node-found : (i : ℕ) → slice_get keys i ≡ Some (triple level low high) → IsMade old old level lo hi i
  node-found i at =
      let p = placed keys budget fulls is (triple level low high) different i at in
      let P : ℕ → Type 0 = λ n. IsMade old old level lo hi n in
      let d : IsDiagram (old ++ []) = subst IsDiagram (seen ∙ sym (append-nil old)) is.diagram in
      let a : slice_get (old ++ []) p.0 ≡ Some (triple level lo hi) = ap (λ ts. slice_get ts p.0) (sym (seen ∙ sym (append-nil old))) ∙ p.2 ∙ ap Some same-triple in
      subst P (sym p.1) (subst (λ ts. IsMade old ts level lo hi (p.0 + 2)) (append-nil old) (made old [] level lo hi p.0 d l h a))

  -- a triple that isn't in the table isn't among the triples
  pub node-absent : ((i : ℕ) × (slice_get keys i ≡ Some (triple level low high)) → ⊥) → Holds old (triple level lo hi) → ⊥
  node-absent none held = none (held-key keys budget fulls is (triple level low high) different
      (subst (λ t. Holds (drop 2 keys) t) (sym same-triple) (subst (λ ts. Holds ts (triple level lo hi)) (sym seen) held)))

got-left : (ts us : List Triple) (k : ℕ) (t : Triple) → slice_get ts k ≡ Some t → slice_get (ts ++ us) k ≡ Some t
got-left [] us k t at = absurd (cc)
got-left (x ∷ ts) us zero t at = at
got-left (x ∷ ts) us (suc k) t at = got-left ts us k t at

-- the front of a diagram is one
pub IsDiagram-front : (ts us : List Triple) → IsDiagram (ts ++ us) → IsDiagram ts
IsDiagram-front ts us is = record {
  ordered = λ k t at.
      let o = is.ordered k t (got-left ts us k t at) in
      let w : k < length ts = slice_get_within ts k t at in
      record {
        level = o.level;
        lo = o.lo;
        hi = o.hi;
        differ = o.differ;
        lo_below = subst (λ (x : ℕ). t.level < x) (level_of-append ts us t.lo (omega (arith, o.lo))) o.lo_below;
        hi_below = subst (λ (x : ℕ). t.level < x) (level_of-append ts us t.hi (omega (arith, o.hi))) o.hi_below;
      };
  once = λ i j t p q. is.once i j t (got-left ts us i t p) (got-left ts us j t q);
}

drop-take : (x y : Triple) (ts : List Triple) (n m : ℕ) → m ≡ n + 2 → take m (x ∷ y ∷ ts) ≡ x ∷ y ∷ take n ts
drop-take x y ts n m e = let f : m ≡ suc (suc n) = omega arith in ap (λ i. take i (x ∷ y ∷ ts)) f

pub table-cut : (keys new : List Triple) (budget fulls n : ℕ) → IsTable keys budget fulls → new ≡ take (n + 2) keys → IsTable new budget fulls
table-cut keys new budget fulls n is e =
    let f : new ≡ constant_entry 0 ∷ constant_entry 1 ∷ take n (drop 2 keys) = e ∙ ap (take (n + 2)) is.constants ∙ drop-take _ _ (drop 2 keys) n (n + 2) refl in
    subst (λ l. IsTable l budget fulls) (sym f) (record {
      constants = refl;
      diagram = IsDiagram-front (take n (drop 2 keys)) (drop n (drop 2 keys)) (subst IsDiagram (sym (take-append-drop n (drop 2 keys))) is.diagram);
      within = omega (arith, is.within, length-take n (drop 2 keys));
      unbounded = is.unbounded;
    })
