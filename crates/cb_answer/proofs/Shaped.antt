-- The terms of the printed variables' cells, renumbered, are the shape.
use Rattle.std.proofs.Common.{◌≡◌, ℕ, false, Option, Some, refl, sym, ap, subst, ◌∙◌, List}
use Rattle.std.specs.Prelude.{slice_get}
use Rattle.cb_model.specs.declared.Sort.{Sort}
use Rattle.cb_model.specs.declared.Sort.TheVariants as sort
use Rattle.cb_model.specs.Bits.{Bits}
use Rattle.cb_model.specs.Values.{Ground, Bit, Word, grounds, Fits, Valuation, IsValuation}
use Rattle.cb_model.specs.Equations.{Meets}
use Rattle.cb_model.specs.Answers.{IsShape, values}
use Rattle.cb_model.specs.Program.{Program}
use Rattle.cb_model.specs.Derivation.{Branch}
use Rattle.cb_model.specs.Line.{Names, printed_terms}
use Rattle.cb_laws.proofs.OpenTrees.{Plains, plain_values}
use Rattle.cb_elim.specs.Store.{slot_bits, view_of}
use Rattle.cb_heap.specs.declared.Stored.TheVariants as cell
use Rattle.cb_heap.specs.Reading.{Reading}
use Rattle.cb_heap.proofs.Values.{has-reading}
use Rattle.cb_shape.specs.Laws.{OpensHave}
use Rattle.cb_shape.specs.Shapes.{HasPoint, shape_of}
use Rattle.cb_shape.proofs.Numbered.{shape-open, in-numbers, opens-in-order, covers, free}
use Rattle.cb_unify.specs.State.{Seen, Reads}
use Rattle.cb_items.proofs.Bridges.{some-gives}
use Rattle.cb_answer.specs.declared.Item.{Item}
use Rattle.cb_answer.specs.Answering.{Tells}
use Rattle.cb_answer.proofs.Called.{AreTermsOf}
use Rattle.cb_answer.proofs.Points.{point_of, point-fits, point-opens, valued}

-- the value that a valuation has for an unbound cell, by its sort
own : Valuation → ℕ → Option Sort → Ground
own o r (Some sort.Bus) = Word (o.words r)
own o r (Some sort.Term) = o.terms r
own o r _ = Bit false

own-bus : (o : Valuation) (r : ℕ) (z : Option Sort) → z ≡ Some sort.Bus → own o r z ≡ Word (o.words r)
unfolding own
own-bus o r z e = ap (own o r) e

own-term : (o : Valuation) (r : ℕ) (z : Option Sort) → z ≡ Some sort.Term → own o r z ≡ o.terms r
unfolding own
own-term o r z e = ap (own o r) e

module _ (p : Program) (o : Valuation) (is : IsValuation p.world o) where
  own-fits : (r : ℕ) (z : Sort) (x : Option Sort) → x ≡ Some z → Fits p.world.arguments z (own o r x)
  unfolding own
  own-fits r sort.Bool x e = subst (λ y. Fits p.world.arguments sort.Bool (own o r y)) (sym e) tt
  own-fits r sort.Bus x e = subst (λ y. Fits p.world.arguments sort.Bus (own o r y)) (sym e) tt
  own-fits r sort.Term x e = subst (λ y. Fits p.world.arguments sort.Term (own o r y)) (sym e) (is r)

module _ (p : Program) (names : Names) (b : Branch) (s : Seen) (items : List Item) (ps : Plains) (tells : Tells p names b s items) (are : AreTermsOf s.heap.cells tells.calls items ps) where
  -- the same bits with other values of the unbound cells
  other-point : (a w : Bits) (g : Reading) → Reads p.world.arguments s a w g → (o : Valuation) → IsValuation p.world o →
      (v : Valuation) × (Meets p.world b.items a v × (grounds (values a v (printed_terms names b)) ≡ plain_values (record { bits = slot_bits (view_of s.store) a w; words = o.words; terms = o.terms }) ps))
  other-point a w g reads o is =
      let u : Reading = λ r. own o r (slice_get s.heap.sorts r) in
      let bits : Bits = slot_bits (view_of s.store) a w in
      let k = has-reading p.world.arguments bits u s.heap.sorts s.heap.cells tells.state.finite tells.fits (λ r z e. own-fits p o is r z (slice_get s.heap.sorts r) e) in
      let h : Reads p.world.arguments s a w k.0 = record { range = reads.range; reading = k.1 } in
      let v = some-gives p.world.arguments s a w k.0 h in
      let opens : OpensHave s.heap.cells k.0 (record { bits = bits; words = o.words; terms = o.terms }) = record {
        buses = λ c e. k.2 c cell.BusVar e tt ∙ own-bus o c (slice_get s.heap.sorts c) (tells.fits.cells c cell.BusVar e);
        terms = λ c e. k.2 c cell.TermVar e tt ∙ own-term o c (slice_get s.heap.sorts c) (tells.fits.cells c cell.TermVar e);
      } in (
        v.0,
        (
          record { admitted = tt; sorted = v.1; sat = (tells.vals a v.0 v.1).0 (w, k.0, h, v.2) },
          valued p names b s items tells ps are a w k.0 v.0 (record { bits = bits; words = o.words; terms = o.terms }) h v.2 refl opens,
        ),
      )

  has-point : (a : Bits) (v : Valuation) → Meets p.world b.items a v → HasPoint p.world b.items (printed_terms names b) ps a v
  has-point a v m =
      let i = (tells.vals a v m.sorted).1 m.sat in record {
        v = point_of s a i.0 i.1;
        sorted = point-fits p.world.arguments s a i.0 i.1 i.2;
        is = valued p names b s items tells ps are a i.0 i.1 v (point_of s a i.0 i.1) i.2 i.3 refl (point-opens p.world.arguments s a i.0 i.1 i.2 tells.fits);
        others = λ o is. other-point a i.0 i.1 i.2 o is;
      }

-- the terms of the items, renumbered, are the shape of the printed terms
abbrev pub ShapeIsRight : Type 0
ShapeIsRight = (p : Program) (names : Names) (b : Branch) (s : Seen) (items : List Item) (ps : Plains) (tells : Tells p names b s items) → AreTermsOf s.heap.cells tells.calls items ps →
    IsShape p.world b.items (printed_terms names b) (shape_of ps)

pub shape-is-right : ShapeIsRight
shape-is-right p names b s items ps tells are =
    let w = p.world in
    let point = has-point p names b s items ps tells are in record {
      only_leaves = shape-open _;
      leaf_order = in-numbers w b.items (printed_terms names b) ps point;
      open_order = opens-in-order w b.items (printed_terms names b) ps point;
      covers = covers w b.items (printed_terms names b) ps point;
      free = free w b.items (printed_terms names b) ps point;
    }
