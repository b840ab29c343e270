-- The plain derivation of `p(X), X = 1` over `p(0). p(1).`: the first clause fails at the equation, the second answers.
use Rattle.std.proofs.Common.{◌≡◌, ℕ, true, false, [], ◌∷◌, refl, sym, ◌∙◌, ap, inl, inr}
use Rattle.cb_model.specs.declared.Expr.{Expr}
use Rattle.cb_model.specs.declared.Expr.TheOpen.{Expr-F}
use Rattle.cb_model.specs.declared.Expr.TheVariants as expr
use Rattle.cb_model.specs.declared.Expr.TheFolds.{fold-roll-Expr}
use Rattle.cb_model.specs.declared.Tree.{Tree}
use Rattle.cb_model.specs.declared.Tree.TheOpen.{Tree-F}
use Rattle.cb_model.specs.declared.Tree.TheVariants as tree
use Rattle.cb_model.specs.declared.Tree.TheFolds.{fold-roll-Tree}
use Rattle.cb_model.specs.Bits.{none}
use Rattle.cb_model.specs.Values.{Ground, Name, More}
use Rattle.cb_model.specs.Equations.{Solvable, Refuted}
use Rattle.cb_model.specs.Program.{shift_expr, shift_expr_step, shift_tree, shift_tree_step}
use Rattle.cb_model.specs.Derivation.{Run, Try, Made, Answered, Becomes, Adds, Goes, here, on, whole, Whole, Plain, runs, first_branch}
use Rattle.cb_laws.proofs.Values.{expr_values, tree_values}
use Rattle.cb_laws.proofs.Tables.{with_bits, zero_fits, bits_equal}
use Rattle.cb_rows.specs.TryRow.{X, fact, p, q, behind, called, equated, notes}

pub shift-zero : (k : ℕ) → shift_expr k expr.Zero ≡ expr.Zero
shift-zero k = ap (shift_expr k) (sym expr.rolls-Zero) ∙ fold-roll-Expr Expr (shift_expr_step k) Expr-F.Zero

pub shift-one : (k : ℕ) → shift_expr k expr.One ≡ expr.One
shift-one k = ap (shift_expr k) (sym expr.rolls-One) ∙ fold-roll-Expr Expr (shift_expr_step k) Expr-F.One

pub shift-leaf : (k : ℕ) (e : Expr) → shift_tree k (tree.Leaf e) ≡ tree.Leaf (shift_expr k e)
shift-leaf k e = ap (shift_tree k) (sym (tree.rolls-Leaf e)) ∙ fold-roll-Tree Tree (shift_tree_step k) (Tree-F.Leaf e)

-- the first argument of a value
abbrev argument : Ground → Ground
argument (Name n (More g gs)) = g
argument g = g

pub calls_zero : Solvable p.world (called expr.Zero).items
calls_zero a ok = record { b = with_bits (λ n. false); sorted = λ n. zero_fits; sat = (simp (shift-leaf, shift-zero, tree_values, expr_values) refl, tt) }

pub calls_one : Solvable p.world (called expr.One).items
calls_one a ok = record { b = with_bits (λ n. true); sorted = λ n. zero_fits; sat = (simp (shift-leaf, shift-one, tree_values, expr_values) refl, tt) }

pub answers_one : Solvable p.world (equated expr.One).items
answers_one a ok = record {
  b = with_bits (λ n. true);
  sorted = λ n. zero_fits;
  sat = (simp (shift-leaf, shift-one, tree_values, expr_values) refl, (simp (tree_values, expr_values) refl, tt));
}

pub zero_not_one : Refuted p.world (equated expr.Zero).items
zero_not_one = record {
  a = λ n. false;
  admitted = tt;
  none = λ b sorted s.
      let x : false ≡ b.bits 0 = bits_equal _ _ (ap argument (simp (shift-leaf, shift-zero, tree_values, expr_values) at s.0)) in
      let y : b.bits 0 ≡ true = bits_equal _ _ (simp (tree_values, expr_values) at s.1.0) in
      cc;
}

goes : Goes p 2 0 (Run (first_branch q) ∷ []) notes 2 []
goes =
    on (Becomes (Try behind 0 (X ∷ []) 0)) (Try behind 0 (X ∷ []) 0 ∷ []) _ (inl (tt, refl)) refl refl refl
    (on (Adds 1 (Try behind 0 (X ∷ []) 1 ∷ []) (called expr.Zero)) (Run (called expr.Zero) ∷ Try behind 0 (X ∷ []) 1 ∷ []) _ (fact expr.Zero, refl, refl) refl
    (inl (calls_zero, (called expr.Zero, (record { ready = []; rest = []; parts = none; is = refl }, refl)))) refl
    (on (Adds 0 [] (equated expr.Zero)) [] _ refl refl (inr (zero_not_one, refl)) refl
    (on (Adds 1 [] (called expr.One)) (Run (called expr.One) ∷ []) _ (fact expr.One, refl, refl) refl
    (inl (calls_one, (called expr.One, (record { ready = []; rest = []; parts = none; is = refl }, refl)))) refl
    (on (Adds 0 [] (equated expr.One)) (Run (equated expr.One) ∷ []) _ refl refl
    (inl (answers_one, (equated expr.One, (record { ready = []; rest = []; parts = none; is = refl }, refl)))) refl
    (on (Answered (equated expr.One)) [] [] refl refl refl refl here)))))

pub plain : Plain p q 2 (Made (first_branch q) ∷ notes) Whole
plain = runs 2 [] (record { begins = refl; rest = notes; goes = goes; is = refl }) whole
