-- The line of `inv(X, Y)` where the goal waits: four leaves, two of which repeat the printed variables.
use Rattle.std.proofs.Common.{◌≡◌, ℕ, Bool, false, not, List, [], ◌∷◌, refl, sym, ◌∙◌, ap, inl, codes, pos}
use Rattle.std.specs.Fmt.{digits}
use Rattle.cb_model.specs.declared.Expr.TheVariants as expr
use Rattle.cb_model.specs.declared.Tree.{Tree}
use Rattle.cb_model.specs.declared.Tree.TheVariants as tree
use Rattle.cb_model.specs.Bits.{Bits, bits_of}
use Rattle.cb_model.specs.Values.{Ground, Int, Valuation}
use Rattle.cb_model.specs.Derivation.{Branch, waits, Whole}
use Rattle.cb_model.specs.Answers.{IsShape, Gives, Gen, values}
use Rattle.cb_model.specs.Line.{IsLine, told}
use Rattle.cb_model.specs.Commands.{Max}
use Rattle.cb_model.specs.Output.{QuerySays, all, no_lines, more_lines}
use Rattle.cb_laws.proofs.Values.{expr_values, tree_values}
use Rattle.cb_laws.proofs.Tables.{with_bits, zero_fits}
use Rattle.cb_laws.proofs.Shapes.{shape_values, text_values}
use Rattle.cb_laws.proofs.Fixed.{first_arg, second_arg, the_bit, first_bit, second_bit, picks_fixed, not_other}
use Rattle.cb_rows.proofs.DelayRow.{plain}
use Rattle.cb_model.specs.Equations.{Meets}
use Rattle.cb_rows.specs.DelayRow.{p, q, call, behind, names}

abbrev answer : Branch
answer = waits behind call

abbrev leaf : ℕ → Tree
leaf n = tree.Leaf (expr.Var n)

abbrev terms : List Tree
terms = leaf 0 ∷ leaf 1 ∷ tree.Node 0 (leaf 0 ∷ leaf 1 ∷ []) ∷ []

abbrev shape : List Tree
shape = leaf 0 ∷ leaf 1 ∷ tree.Node 0 (leaf 2 ∷ leaf 3 ∷ []) ∷ []

-- the leaves that two bits give
abbrev copied : Bool → Bool → Valuation
copied x y = with_bits (bits_of (x ∷ y ∷ x ∷ y ∷ []))

is_shape : IsShape p.world [] terms shape
is_shape = record {
  only_leaves = simp shape_values refl;
  leaf_order = simp shape_values refl;
  open_order = simp shape_values tt;
  covers = λ a b m. (copied (b.bits 0) (b.bits 1), ((λ n. zero_fits), simp (tree_values, expr_values) refl));
  free = λ a b o o' m e sorted. (b, (m, e ∙ sym (simp (tree_values, expr_values) refl)));
}

abbrev third : List Ground → Ground
third (g ∷ h ∷ i ∷ gs) = i
third gs = Int (pos 0)

module _ (a : Bits) where
  abbrev R : List Bool → Type 0
  R = Gives p.world [] terms shape a

  meets : (x y : Bool) → Meets p.world [] a (copied x y)
  meets x y = record { admitted = tt; sorted = λ n. zero_fits; sat = tt }

  fills : (x y : Bool) → values a (copied x y) terms ≡ values a (copied x y) shape
  fills x y = simp (tree_values, expr_values) refl

  one : (x : Bool) → R (x ∷ [])
  one x = record { b = copied x x; o = copied x x; meets = meets x x; fills = fills x x; bits_are = (refl, tt) }

  two : (x y : Bool) → R (x ∷ y ∷ [])
  two x y = record { b = copied x y; o = copied x y; meets = meets x y; fills = fills x y; bits_are = (refl, (refl, tt)) }

  three : (x y : Bool) → R (x ∷ y ∷ x ∷ [])
  three x y = record { b = copied x y; o = copied x y; meets = meets x y; fills = fills x y; bits_are = (refl, (refl, (refl, tt))) }

  four : (x y : Bool) → R (x ∷ y ∷ x ∷ y ∷ [])
  four x y = record { b = copied x y; o = copied x y; meets = meets x y; fills = fills x y; bits_are = (refl, (refl, (refl, (refl, tt)))) }

  not_three : (x y : Bool) → R (x ∷ y ∷ not x ∷ []) → ⊥
  not_three x y r =
      let here : r.b.bits 0 ≡ r.o.bits 0 = simp (tree_values, expr_values) at (ap first_bit r.fills) in
      let there : r.b.bits 0 ≡ r.o.bits 2 = simp (tree_values, expr_values) at (ap (λ gs. the_bit (first_arg (third gs))) r.fills) in
      not_other x (r.bits_are.1.1.0 ∙ sym there ∙ here ∙ sym r.bits_are.0)

  not_four : (x y : Bool) → R (x ∷ y ∷ x ∷ not y ∷ []) → ⊥
  not_four x y r =
      let here : r.b.bits 1 ≡ r.o.bits 1 = simp (tree_values, expr_values) at (ap second_bit r.fills) in
      let there : r.b.bits 1 ≡ r.o.bits 3 = simp (tree_values, expr_values) at (ap (λ gs. the_bit (second_arg (third gs))) r.fills) in
      not_other y (r.bits_are.1.1.1.0 ∙ sym there ∙ here ∙ sym r.bits_are.1.0)

  gen : (x y u v : Bool) → Gen R [] (x ∷ y ∷ u ∷ v ∷ []) (x ∷ y ∷ x ∷ y ∷ [])
  gen x y u v = (
    inl (one x, refl),
    (inl (two x y, refl), (picks_fixed R (x ∷ y ∷ []) x (three x y) (not_three x y) u, (picks_fixed R (x ∷ y ∷ x ∷ []) y (four x y) (not_four x y) v, tt))),
  )

line : IsLine p names answer (codes "X = _1, Y = _2, waiting inv(_1, _2)")
unfolding digits
line = told shape ((λ e. e 0) ∷ (λ e. e 1) ∷ (λ e. e 0) ∷ (λ e. e 1) ∷ []) is_shape (simp (shape_values, text_values) refl)
    (λ env. gen env (env 0) (env 1) (env 2) (env 3)) (simp shape_values refl) (simp (shape_values, text_values) refl)

-- the whole text of the query
pub says : QuerySays p q names 10 Max (codes "X = _1, Y = _2, waiting inv(_1, _2)" ∷ codes "end" ∷ []) false
says = all _ Whole (codes "X = _1, Y = _2, waiting inv(_1, _2)" ∷ []) plain (more_lines line no_lines) refl refl
