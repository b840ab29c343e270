-- The parametric form of the slots of an answer's leaves is that of its shape.
use Rattle.std.proofs.Common.{◌≡◌, ℕ, ◌≤◌, List, [], map, length, sym, ap, subst, ◌∙◌, arith}
use Rattle.std.proofs.lemmas.List.{length-map}
use Rattle.cb_model.specs.declared.Tree.{Tree}
use Rattle.cb_model.specs.Bits.{Bits, numbers_from}
use Rattle.cb_model.specs.Values.{Valuation}
use Rattle.cb_model.specs.Derivation.{Branch}
use Rattle.cb_model.specs.Program.{Program}
use Rattle.cb_model.specs.Answers.{Gen, IsShape}
use Rattle.cb_model.specs.Answers.{Gives as Shows}
use Rattle.cb_model.specs.Line.{Names, AreGen, parameters, printed_terms}
use Rattle.cb_laws.proofs.OpenTrees.{Plains, all_leaves}
use Rattle.cb_boole.specs.Elimination.{Function}
use Rattle.cb_boole.specs.Parametric.{Allows, values_at}
use Rattle.cb_elim.specs.Store.{view_of}
use Rattle.cb_heap.specs.Reading.{Reading}
use Rattle.cb_project.specs.Answer.{IsAnswer, slot_values}
use Rattle.cb_shape.specs.Shapes.{shape_of}
use Rattle.cb_shape.proofs.Numbered.{length-from}
use Rattle.cb_show.specs.Levels.{spread}
use Rattle.cb_unify.specs.State.{Seen, Reads, Gives, FitsTable, IsState}
use Rattle.cb_items.specs.Standing.{IsVals}
use Rattle.cb_answer.specs.Lines.{spread_all}
use Rattle.cb_answer.specs.Writing.{leaf_slots}
use Rattle.cb_answer.specs.declared.Item.{Item}
use Rattle.cb_answer.specs.Answering.{Tells}
use Rattle.cb_answer.proofs.Called.{AreTermsOf}
use Rattle.cb_answer.proofs.Found.{PointOf, found}
use Rattle.cb_answer.proofs.Points.{point-of-terms}
use Rattle.cb_answer.proofs.Shaped.{shape-is-right}
use Rattle.cb_answer.proofs.Spread.{parameters-are, spread-constant, values-spread}
use Rattle.cb_answer.proofs.Within.{gen-within}

module _ (p : Program) (b : Branch) (s : Seen) (terms : List Tree) (ps : Plains) (state : IsState s) (fits : FitsTable p.world.arguments s) (vals : IsVals p.world s b.items)
    (constants : s.store.constants ≡ p.constants) (shape : IsShape p.world b.items terms (shape_of ps))
    (points : (a z : Bits) (g : Reading) (v : Valuation) → Reads p.world.arguments s a z g → Gives s g v → PointOf s terms ps a z v) where
  -- the functions, over the constants and the parameters behind them, give the leaf bits of the parametric form
  pub are-gen : (first : ℕ) (gens : List Function) → p.constants ≤ first → length gens ≡ length (all_leaves ps) → IsAnswer s.store (leaf_slots ps) first gens →
      AreGen p b terms (shape_of ps) (spread_all p.constants first gens)
  are-gen first gens room many answer env =
      let c = p.constants in
      let n = length (all_leaves ps) in
      let at = spread c first env in
      let as_many = length-map (numbers_from first (length gens)) at in
      let R = Allows (view_of s.store) (slot_values s.store (leaf_slots ps)) at in
      let Q = Shows p.world b.items terms (shape_of ps) env in
      let drawn = length-from first (length gens) in
      let moved : Gen Q [] (map at (numbers_from first (length gens))) (values_at gens at) =
      gen-within R Q n
      (λ bits few. found p.world s b.items terms ps state fits vals shape points env at (λ k below. spread-constant c first env k (omega (arith, constants, below))) bits few)
      [] (map at (numbers_from first (length gens))) (values_at gens at) (omega (arith, as_many, drawn, many)) (answer at) in
      let count : length (spread_all c first gens) ≡ length gens = length-map gens (λ (g : Function) (e : Bits). g (spread c first e)) in
      let ys : map at (numbers_from first (length gens)) ≡ parameters c (length (spread_all c first gens)) env =
      parameters-are c first env room (length gens) ∙ ap (λ m. parameters c m env) (sym count) in
      subst (λ zs. Gen Q [] (parameters c (length (spread_all c first gens)) env) zs) (values-spread c first env gens) (subst (λ xs. Gen Q [] xs (values_at gens at)) ys moved)

-- the parametric form of the terms' slots is that of the leaves of the shape
pub leaves-are-right : (p : Program) (names : Names) (b : Branch) (s : Seen) (items : List Item) (ps : Plains) (first : ℕ) (gens : List Function) (tells : Tells p names b s items) →
    AreTermsOf s.heap.cells tells.calls items ps → p.constants ≤ first → length gens ≡ length (all_leaves ps) → IsAnswer s.store (leaf_slots ps) first gens →
    AreGen p b (printed_terms names b) (shape_of ps) (spread_all p.constants first gens)
leaves-are-right p names b s items ps first gens tells are room many answer =
    are-gen p b s (printed_terms names b) ps tells.state tells.fits tells.vals tells.constants (shape-is-right p names b s items ps tells are) (point-of-terms p names b s items tells ps are)
    first gens room many answer
