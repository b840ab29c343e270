-- `X = f(Y, [Z|B])` with `:- sorts f(bool, bus).`: a compound, a bus with an element and an open end that stands twice.
use Rattle.std.proofs.Common.{◌≡◌, ℕ, Bool, false, not, List, [], ◌∷◌, refl, sym, ◌∙◌, ap, inl, inr, codes, pos}
use Rattle.std.specs.Prelude.{Some}
use Rattle.std.specs.Fmt.{digits}
use Rattle.cb_model.specs.declared.Expr.TheVariants as expr
use Rattle.cb_model.specs.declared.Tree.{Tree}
use Rattle.cb_model.specs.declared.Tree.TheVariants as tree
use Rattle.cb_model.specs.Bits.{Bits, none, bits_of}
use Rattle.cb_model.specs.Values.{Ground, Bit, Word, Int, Name, Last, More, Valuation}
use Rattle.cb_model.specs.Equations.{Pair, Item, Meets, Solvable}
use Rattle.cb_model.specs.Derivation.{Branch, Run, Made, Printed, Answered, Adds, Goes, here, on, whole, Whole, runs, extended, first_branch}
use Rattle.cb_model.specs.Answers.{IsShape, Gives, Gen, values, with_opens}
use Rattle.cb_model.specs.Line.{IsLine, told}
use Rattle.cb_model.specs.Commands.{Max}
use Rattle.cb_model.specs.Output.{QuerySays, all, no_lines, more_lines}
use Rattle.cb_laws.proofs.Values.{expr_values, tree_values}
use Rattle.cb_laws.proofs.Tables.{zero_fits}
use Rattle.cb_laws.proofs.Shapes.{shape_values, text_values}
use Rattle.cb_laws.proofs.Fixed.{first_arg, second_arg, the_bit, picks_fixed, not_other}
use Rattle.cb_rows.specs.CompoundRow.{leaf, right, p, q, names}

abbrev answer : Branch
answer = extended (record (first_branch q) { goals = [] }) [] (Pair (tree.Var 0) right ∷ []) []

abbrev es : List Item
es = Pair (tree.Var 0) right ∷ []

abbrev terms : List Tree
terms = tree.Var 0 ∷ leaf 1 ∷ leaf 2 ∷ tree.Bus [] (Some 3) ∷ []

abbrev shape : List Tree
shape = tree.Node 0 (leaf 0 ∷ tree.Bus (expr.Var 1 ∷ []) (Some 0) ∷ []) ∷ leaf 2 ∷ leaf 3 ∷ tree.Bus [] (Some 0) ∷ []

-- the value of X, what two bits and the rest of the bus make of the variables, and of the leaves
abbrev made : Bool → Bool → List Bool → Ground
made x y w = Name 0 (More (Bit x) (More (Word (y ∷ w)) Last))

abbrev solved : Bool → Bool → List Bool → Valuation
solved x y w = record { bits = bits_of (false ∷ x ∷ y ∷ []); words = λ n. w; terms = λ n. made x y w }

abbrev leafed : Bool → Bool → List Bool → Valuation
leafed x y w = record { bits = bits_of (x ∷ y ∷ x ∷ y ∷ []); words = λ n. w; terms = λ n. Int (pos 0) }

meets : (a : Bits) (x y : Bool) (w : List Bool) → Meets p.world es a (solved x y w)
meets a x y w = record { admitted = tt; sorted = λ n. (tt, (tt, tt)); sat = (simp (tree_values, expr_values) refl, tt) }

fills : (a : Bits) (x y : Bool) (w : List Bool) → values a (solved x y w) terms ≡ values a (leafed x y w) shape
fills a x y w = simp (tree_values, expr_values) refl

-- what the equation says of X
x_is : (a : Bits) (b : Valuation) → Meets p.world es a b → b.terms 0 ≡ made (b.bits 1) (b.bits 2) (b.words 3)
x_is a b m = simp (tree_values, expr_values) at m.sat.0

abbrev nth : ℕ → List Ground → Ground
nth n gs = Rattle.std.specs.Prelude.get_or gs n (Int (pos 0))

abbrev first_of_word : Ground → Bool
first_of_word (Word (x ∷ xs)) = x
first_of_word _ = false

-- what a filled shape says of its leaves
leaf0 : (a : Bits) (b o : Valuation) → Meets p.world es a b → values a b terms ≡ values a o shape → b.bits 1 ≡ o.bits 0
leaf0 a b o m e =
    let h : b.terms 0 ≡ made (o.bits 0) (o.bits 1) (o.words 0) = simp (tree_values, expr_values) at (ap (nth 0) e) in
    ap (λ g. the_bit (first_arg g)) (sym (x_is a b m) ∙ h)

leaf1 : (a : Bits) (b o : Valuation) → Meets p.world es a b → values a b terms ≡ values a o shape → b.bits 2 ≡ o.bits 1
leaf1 a b o m e =
    let h : b.terms 0 ≡ made (o.bits 0) (o.bits 1) (o.words 0) = simp (tree_values, expr_values) at (ap (nth 0) e) in
    ap (λ g. first_of_word (second_arg g)) (sym (x_is a b m) ∙ h)

leaf2 : (a : Bits) (b o : Valuation) → values a b terms ≡ values a o shape → b.bits 1 ≡ o.bits 2
leaf2 a b o e = simp (tree_values, expr_values) at (ap (λ gs. the_bit (nth 1 gs)) e)

leaf3 : (a : Bits) (b o : Valuation) → values a b terms ≡ values a o shape → b.bits 2 ≡ o.bits 3
leaf3 a b o e = simp (tree_values, expr_values) at (ap (λ gs. the_bit (nth 2 gs)) e)

is_shape : IsShape p.world es terms shape
is_shape = record {
  only_leaves = simp shape_values refl;
  leaf_order = simp shape_values refl;
  open_order = simp shape_values (inr (refl, inl (refl, tt)));
  covers = λ a b m. (
    leafed (b.bits 1) (b.bits 2) (b.words 3),
    (
      (λ n. zero_fits),
      simp (tree_values, expr_values) (ap (λ g. g ∷ Bit (b.bits 1) ∷ Bit (b.bits 2) ∷ Word (b.words 3) ∷ []) (x_is a b m)),
    ),
  );
  free = λ a b o o' m e sorted.
      (solved (b.bits 1) (b.bits 2) (o'.words 0), (meets a (b.bits 1) (b.bits 2) (o'.words 0), moved a b o o' m e));
}
  where
    moved : (a : Bits) (b o o' : Valuation) → Meets p.world es a b → values a b terms ≡ values a o shape →
        values a (solved (b.bits 1) (b.bits 2) (o'.words 0)) terms ≡ values a (with_opens o o') shape
    moved a b o o' m e =
        simp (tree_values, expr_values) (rw (sym (leaf0 a b o m e), sym (leaf1 a b o m e), sym (leaf2 a b o e), sym (leaf3 a b o e)) refl)

solvable : Solvable p.world es
solvable a ok = let m = meets a false false [] in record { b = solved false false []; sorted = m.sorted; sat = m.sat }

module _ (a : Bits) where
  abbrev R : List Bool → Type 0
  R = Gives p.world es terms shape a

  gives_one : (x : Bool) → R (x ∷ [])
  gives_one x = record { b = solved x x []; o = leafed x x []; meets = meets a x x []; fills = fills a x x []; bits_are = (refl, tt) }

  gives_two : (x y : Bool) → R (x ∷ y ∷ [])
  gives_two x y = record { b = solved x y []; o = leafed x y []; meets = meets a x y []; fills = fills a x y []; bits_are = (refl, (refl, tt)) }

  gives_three : (x y : Bool) → R (x ∷ y ∷ x ∷ [])
  gives_three x y = record { b = solved x y []; o = leafed x y []; meets = meets a x y []; fills = fills a x y []; bits_are = (refl, (refl, (refl, tt))) }

  gives_four : (x y : Bool) → R (x ∷ y ∷ x ∷ y ∷ [])
  gives_four x y = record { b = solved x y []; o = leafed x y []; meets = meets a x y []; fills = fills a x y []; bits_are = (refl, (refl, (refl, (refl, tt)))) }

  not_three : (x y : Bool) → R (x ∷ y ∷ not x ∷ []) → ⊥
  not_three x y r = not_other x (r.bits_are.1.1.0 ∙ sym (leaf2 a r.b r.o r.fills) ∙ leaf0 a r.b r.o r.meets r.fills ∙ sym r.bits_are.0)

  not_four : (x y : Bool) → R (x ∷ y ∷ x ∷ not y ∷ []) → ⊥
  not_four x y r = not_other y (r.bits_are.1.1.1.0 ∙ sym (leaf3 a r.b r.o r.fills) ∙ leaf1 a r.b r.o r.meets r.fills ∙ sym r.bits_are.1.0)

  gen : (x y u v : Bool) → Gen R [] (x ∷ y ∷ u ∷ v ∷ []) (x ∷ y ∷ x ∷ y ∷ [])
  gen x y u v = (
    inl (gives_one x, refl),
    (
      inl (gives_two x y, refl),
      (picks_fixed R (x ∷ y ∷ []) x (gives_three x y) (not_three x y) u, (picks_fixed R (x ∷ y ∷ x ∷ []) y (gives_four x y) (not_four x y) v, tt)),
    ),
  )

goes : Goes p 1 0 (Run (first_branch q) ∷ []) (Made answer ∷ Printed answer ∷ []) 0 []
goes =
    on (Adds 0 [] answer) (Run answer ∷ []) _ refl refl
    (inl (solvable, (answer, (record { ready = []; rest = []; parts = none; is = refl }, refl)))) refl
    (on (Answered answer) [] [] refl refl refl refl here)

line : IsLine p names answer (codes "X = f(_1, [_2|_T1]), Y = _1, Z = _2, B = _T1")
unfolding digits
line = told shape ((λ e. e 0) ∷ (λ e. e 1) ∷ (λ e. e 0) ∷ (λ e. e 1) ∷ []) is_shape (simp (shape_values, text_values) refl)
    (λ env. gen env (env 0) (env 1) (env 2) (env 3)) (simp shape_values refl) (simp (shape_values, text_values) refl)

-- the whole text of the query
pub says : QuerySays p q names 1 Max (codes "X = f(_1, [_2|_T1]), Y = _1, Z = _2, B = _T1" ∷ codes "end" ∷ []) false
says = all _ Whole (codes "X = f(_1, [_2|_T1]), Y = _1, Z = _2, B = _T1" ∷ []) (runs 0 [] (record { begins = refl; rest = _; goes = goes; is = refl }) whole)
    (more_lines line no_lines) refl refl
