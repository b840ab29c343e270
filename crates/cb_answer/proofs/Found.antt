-- The bits that the pairs of a store's range give the slots of an answer's leaves are those that the solutions of the
-- branch's equations give the leaves of its shape.
use Rattle.std.proofs.Common.{◌≡◌, ◌↔◌, ℕ, suc, ◌<◌, ◌≤◌, Bool, List, [], ◌∷◌, ◌++◌, map, length, get_or, refl, sym, ap, subst, ◌∙◌, arith}
use Rattle.std.proofs.Math.Path.{fun_ext}
use Rattle.std.proofs.lemmas.Option.{get_or_from_slice_get}
use Rattle.cb_model.specs.declared.Sort.TheVariants as sort
use Rattle.cb_model.specs.declared.Tree.{Tree}
use Rattle.cb_model.specs.Bits.{Bits}
use Rattle.cb_model.specs.Values.{Fits, World, Valuation, grounds}
use Rattle.cb_model.specs.Equations.{Item, Meets}
use Rattle.cb_model.specs.Answers.{BitsFrom, IsShape, values}
use Rattle.cb_model.specs.Answers.{Gives as Shows}
use Rattle.cb_laws.proofs.OpenTrees.{Plains, plain_values, values_closed, all_leaves, all_opens}
use Rattle.cb_boole.specs.View.{View, InRange, IsGood, point}
use Rattle.cb_boole.specs.Parametric.{Allows, values_at}
use Rattle.cb_boole.proofs.Unify.{at_point}
use Rattle.cb_elim.specs.Store.{Seen as Booleans, slot_bits, view_of}
use Rattle.cb_heap.specs.Reading.{Reading}
use Rattle.cb_heap.proofs.Values.{has-reading}
use Rattle.cb_project.specs.Answer.{slot_values}
use Rattle.cb_shape.specs.Shapes.{firsts, numbered_all, shape_of}
use Rattle.cb_shape.proofs.Numbered.{AgreeFrom, all-bits-told}
use Rattle.cb_unify.specs.State.{Seen, Reads, Gives, FitsTable, IsState}
use Rattle.cb_unify.proofs.Solving.{any-value, any-fits}
use Rattle.cb_items.specs.Standing.{IsVals}
use Rattle.cb_items.proofs.Bridges.{some-gives}
use Rattle.cb_answer.specs.Writing.{leaf_slots, slots_of}

-- ---- pairs of the range at assignments that agree on the constants

range-moved : (S : View) (a a' z : Bits) → ((k : ℕ) → k < S.constants → a k ≡ a' k) → InRange S a z → InRange S a' z
range-moved S a a' z same r = record { at = r.at; agrees = λ k below. r.agrees k below ∙ same k below; gives = r.gives }

-- the slots have the same bits
bits-moved : (S : View) → IsGood S → (a a' z : Bits) → ((k : ℕ) → k < S.constants → a k ≡ a' k) → InRange S a z → slot_bits S a z ≡ slot_bits S a' z
unfolding range-moved
bits-moved S good a a' z same r =
    fun_ext (λ x. at_point S good (S.values x) (good.fit x) a z r ∙ sym (at_point S good (S.values x) (good.fit x) a' z (range-moved S a a' z same r)))

-- the bits of slots
slots-at : (s : Booleans) (a z : Bits) (ns : List ℕ) → values_at (slot_values s (slots_of ns)) (point (view_of s).stands a z) ≡ map (slot_bits (view_of s) a z) ns
unfolding view_of
slots-at s a z [] = refl
slots-at s a z (n ∷ ns) = ap (λ (xs : List Bool). slot_bits (view_of s) a z n ∷ xs) (slots-at s a z ns)

-- ---- lists of bits

front-bits : (n : ℕ) (f : Bits) (xs ys : List Bool) → BitsFrom n f (xs ++ ys) → BitsFrom n f xs
front-bits n f [] ys h = tt
front-bits n f (x ∷ xs) ys h = (h.0, front-bits (suc n) f xs ys h.1)

agreed-bits : (o v : Valuation) (j : ℕ) (ss : List ℕ) → AgreeFrom o v j ss → BitsFrom j o.bits (map v.bits ss)
agreed-bits o v j [] h = tt
agreed-bits o v j (s ∷ ss) h = (sym h.0, agreed-bits o v (suc j) ss h.1)

begins-with : (o v : Valuation) (j : ℕ) (bits : List Bool) (ss : List ℕ) → BitsFrom j o.bits bits → AgreeFrom o v j ss → length bits ≤ length ss →
    (more : List Bool) × (bits ++ more ≡ map v.bits ss)
begins-with o v j [] ss b h l = (map v.bits ss, refl)
begins-with o v j (x ∷ xs) [] b h l = absurd (omega (arith, l))
begins-with o v j (x ∷ xs) (s ∷ ss) b h l =
    let r = begins-with o v (suc j) xs ss b.1 h.1 (omega (arith, l)) in
    (r.0, ap (λ (y : Bool). y ∷ xs ++ r.0) (b.0 ∙ h.0) ∙ ap (λ (ys : List Bool). v.bits s ∷ ys) r.1)

-- the values of the terms and of the shape have the same leaf bits
told : (terms : List Tree) (ps : Plains) (a : Bits) (b o v : Valuation) → grounds (values a b terms) ≡ plain_values v ps → values a b terms ≡ values a o (shape_of ps) →
    AgreeFrom o v 0 (all_leaves ps)
told terms ps a b o v e f =
    let os = firsts [] (all_opens ps) in all-bits-told o v os 0 ps (sym e ∙ ap grounds f ∙ values_closed a o (numbered_all os 0 ps))

-- ---- the two relations

-- the point of a reading: the terms' values are those of the open trees, where the leaves have the bits of their slots
abbrev pub PointOf : Seen → List Tree → Plains → Bits → Bits → Valuation → Type 0
PointOf s terms ps a z b = (o : Valuation) × (o.bits ≡ slot_bits (view_of s.store) a z) × (grounds (values a b terms) ≡ plain_values o ps)

module _ (w : World) (s : Seen) (es : List Item) (terms : List Tree) (ps : Plains) (state : IsState s) (fits : FitsTable w.arguments s) (vals : IsVals w s es)
    (shape : IsShape w es terms (shape_of ps))
    (points : (a z : Bits) (g : Reading) (b : Valuation) → Reads w.arguments s a z g → Gives s g b → PointOf s terms ps a z b) where
  -- each pair of the range has a reading
  some-reading : (a z : Bits) → InRange (view_of s.store) a z → (g : Reading) × Reads w.arguments s a z g
  some-reading a z r =
      let x = has-reading w.arguments (slot_bits (view_of s.store) a z) (λ n. any-value (get_or s.heap.sorts n sort.Bool)) s.heap.sorts s.heap.cells state.finite fits
      (λ n y e. subst (λ v. Fits w.arguments y (any-value v)) (sym (get_or_from_slice_get s.heap.sorts n y sort.Bool e)) (any-fits w.arguments y)) in
      (x.0, record { range = r; reading = x.1 })

  module _ (env p : Bits) (same : (k : ℕ) → k < s.store.constants → p k ≡ env k) where
    agree : (k : ℕ) → k < (view_of s.store).constants → p k ≡ env k
    unfolding view_of
    agree k below = same k below

    shown : (bits : List Bool) → Allows (view_of s.store) (slot_values s.store (leaf_slots ps)) p bits → Shows w es terms (shape_of ps) env bits
    shown bits h =
        let r = range-moved (view_of s.store) p env h.b agree h.in_range in
        let g = some-reading env h.b r in
        let b = some-gives w.arguments s env h.b g.0 g.1 in
        let m : Meets w es env b.0 = record { admitted = tt; sorted = b.1; sat = (vals env b.0 b.1).0 (h.b, g.0, g.1, b.2) } in
        let v = points env h.b g.0 b.0 g.1 b.2 in
        let o = shape.covers env b.0 m in
        let is = h.begins ∙ slots-at s.store p h.b (all_leaves ps) ∙ ap (λ (f : Bits). map f (all_leaves ps)) (bits-moved (view_of s.store) state.store.good p env h.b agree h.in_range ∙ sym v.1) in
        record {
          b = b.0;
          o = o.0;
          meets = m;
          fills = o.1.1;
          bits_are = front-bits 0 o.0.bits bits h.more (subst (λ (xs : List Bool). BitsFrom 0 o.0.bits xs) (sym is) (agreed-bits o.0 v.0 0 (all_leaves ps) (told terms ps env b.0 o.0 v.0 v.2 o.1.1)));
        }

    allowed : (bits : List Bool) → length bits ≤ length (all_leaves ps) → Shows w es terms (shape_of ps) env bits → Allows (view_of s.store) (slot_values s.store (leaf_slots ps)) p bits
    allowed bits few h =
        let i = (vals env h.b h.meets.sorted).1 h.meets.sat in
        let v = points env i.0 i.1 h.b i.2 i.3 in
        let back = λ (k : ℕ) (below : k < (view_of s.store).constants). sym (agree k below) in
        let more = begins-with h.o v.0 0 bits (all_leaves ps) h.bits_are (told terms ps env h.b h.o v.0 v.2 h.fills) few in
        record {
          b = i.0;
          in_range = range-moved (view_of s.store) env p i.0 back i.2.range;
          more = more.0;
          begins = more.1 ∙ ap (λ (f : Bits). map f (all_leaves ps)) (v.1 ∙ bits-moved (view_of s.store) state.store.good env p i.0 back i.2.range) ∙ sym (slots-at s.store p i.0 (all_leaves ps));
        }

    -- what the range allows at an assignment with these constants is what the solutions show
    pub found : (bits : List Bool) → length bits ≤ length (all_leaves ps) →
        Allows (view_of s.store) (slot_values s.store (leaf_slots ps)) p bits ↔ Shows w es terms (shape_of ps) env bits
    found bits few = (shown bits, allowed bits few)
