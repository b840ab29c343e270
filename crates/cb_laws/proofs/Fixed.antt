-- The shape and the parametric form where two printed Boolean variables are fixed by the equations.
use Rattle.std.proofs.Common.{◌≡◌, Bool, true, false, not, List, [], ◌∷◌, ◌++◌, refl, sym, ◌∙◌, ap, inl, inr}
use Rattle.cb_model.specs.declared.Expr.TheVariants as expr
use Rattle.cb_model.specs.declared.Tree.{Tree}
use Rattle.cb_model.specs.declared.Tree.TheVariants as tree
use Rattle.cb_model.specs.Bits.{Bits}
use Rattle.cb_model.specs.Values.{Ground, Bit, Name, More, World, Valuation}
use Rattle.cb_model.specs.Equations.{Item, Meets, Solvable, SolvedAt}
use Rattle.cb_model.specs.Answers.{IsShape, Gives, Gen, Picks}
use Rattle.cb_laws.proofs.Values.{expr_values, tree_values}
use Rattle.cb_laws.proofs.Shapes.{shape_values}

-- the arguments of a value, and its bit
abbrev pub first_arg : Ground → Ground
first_arg (Name n (More g gs)) = g
first_arg g = g

abbrev pub second_arg : Ground → Ground
second_arg (Name n (More g (More h gs))) = h
second_arg g = g

abbrev pub third_arg : Ground → Ground
third_arg (Name n (More g (More h (More i gs)))) = i
third_arg g = g

abbrev pub the_bit : Ground → Bool
the_bit (Bit x) = x
the_bit _ = false

abbrev pub first_bit : List Ground → Bool
first_bit [] = false
first_bit (g ∷ gs) = the_bit g

abbrev pub second_bit : List Ground → Bool
second_bit [] = false
second_bit (g ∷ gs) = first_bit gs

-- a leaf that can have one bit only takes it for each parameter
pub picks_fixed : (R : List Bool → Type 0) (prefix : List Bool) (v : Bool) → R (prefix ++ v ∷ []) → (R (prefix ++ not v ∷ []) → ⊥) → (y : Bool) → Picks R prefix y v
picks_fixed R prefix true r n true = inl (r, refl)
picks_fixed R prefix true r n false = inr (n, refl)
picks_fixed R prefix false r n false = inl (r, refl)
picks_fixed R prefix false r n true = inr (n, refl)

pub not_other : (x : Bool) → not x ≡ x → ⊥
not_other true e = absurd (cc)
not_other false e = absurd (cc)

abbrev pub two : List Tree
two = tree.Leaf (expr.Var 0) ∷ tree.Leaf (expr.Var 1) ∷ []

-- two Boolean variables are a shape of two leaves, whatever the equations are
pub two_shape : (w : World) (es : List Item) → IsShape w es two two
two_shape w es = record {
  only_leaves = simp shape_values refl;
  leaf_order = simp shape_values refl;
  open_order = simp shape_values tt;
  covers = λ a b m. (b, (m.sorted, refl));
  free = λ a b o o' m e sorted. (b, (m, e ∙ sym (simp (tree_values, expr_values) refl)));
}

abbrev pub Fixes : World → List Item → (Bits → Bool) → (Bits → Bool) → Type 0
Fixes w es f g = (a : Bits) (b : Valuation) → Meets w es a b → (b.bits 0 ≡ f a) × (b.bits 1 ≡ g a)

module _ (w : World) (es : List Item) (f g : Bits → Bool) (solvable : Solvable w es) (fixes : Fixes w es f g) (env : Bits) where
  abbrev s : SolvedAt w es env
  s = solvable env tt

  abbrev m : Meets w es env s.b
  m = record { admitted = tt; sorted = s.sorted; sat = s.sat }

  gives_one : Gives w es two two env (f env ∷ [])
  gives_one = record { b = s.b; o = s.b; meets = m; fills = refl; bits_are = (sym (fixes env s.b m).0, tt) }

  gives_two : Gives w es two two env (f env ∷ g env ∷ [])
  gives_two = record { b = s.b; o = s.b; meets = m; fills = refl; bits_are = (sym (fixes env s.b m).0, (sym (fixes env s.b m).1, tt)) }

  not_one : Gives w es two two env (not (f env) ∷ []) → ⊥
  not_one r =
      let same : r.b.bits 0 ≡ r.o.bits 0 = simp (tree_values, expr_values) at (ap first_bit r.fills) in
      not_other (f env) (r.bits_are.0 ∙ sym same ∙ (fixes env r.b r.meets).0)

  not_two : Gives w es two two env (f env ∷ not (g env) ∷ []) → ⊥
  not_two r =
      let same : r.b.bits 1 ≡ r.o.bits 1 = simp (tree_values, expr_values) at (ap second_bit r.fills) in
      not_other (g env) (r.bits_are.1.0 ∙ sym same ∙ (fixes env r.b r.meets).1)

  pub two_gen : (y z : Bool) → Gen (Gives w es two two env) [] (y ∷ z ∷ []) (f env ∷ g env ∷ [])
  two_gen y z = (
    picks_fixed (Gives w es two two env) [] (f env) gives_one not_one y,
    (picks_fixed (Gives w es two two env) (f env ∷ []) (g env) gives_two not_two z, tt),
  )
