-- `q(B, X)` over `:- sorts q(bus, term). q(B, X).`: one counter numbers the open places of both sorts.
use Rattle.std.proofs.Common.{◌≡◌, ℕ, List, [], ◌∷◌, refl, inl, inr, codes}
use Rattle.std.specs.Prelude.{Some}
use Rattle.std.specs.Fmt.{digits}
use Rattle.cb_model.specs.declared.Sort.TheVariants as sort
use Rattle.cb_model.specs.declared.Tree.{Tree}
use Rattle.cb_model.specs.declared.Tree.TheVariants as tree
use Rattle.cb_model.specs.declared.Tree.TheOpen.{Tree-F}
use Rattle.cb_model.specs.declared.Tree.TheFolds.{fold-roll-Tree}
use Rattle.cb_model.specs.Bits.{none}
use Rattle.cb_model.specs.Values.{Valuation}
use Rattle.cb_model.specs.Equations.{Solvable, Sat}
use Rattle.cb_model.specs.Program.{shift_tree, shift_tree_step}
use Rattle.cb_model.specs.Derivation.{Run, Try, Made, Printed, Answered, Becomes, Adds, Goes, here, on, whole, Whole, runs, first_branch}
use Rattle.cb_model.specs.Answers.{IsShape, InOrder}
use Rattle.cb_model.specs.Line.{IsLine, told}
use Rattle.cb_model.specs.Commands.{Max}
use Rattle.cb_model.specs.Output.{QuerySays, all, no_lines, more_lines}
use Rattle.cb_laws.proofs.Values.{tree_values}
use Rattle.cb_laws.proofs.Tables.{with_bits, zero_fits}
use Rattle.cb_laws.proofs.Shapes.{shape_values, text_values}
use Rattle.std.proofs.Common.{sym, ◌∙◌, ap, false, map, ◌+◌}
use Rattle.std.specs.Prelude.{Option, option_map}
use Rattle.cb_model.specs.declared.Expr.{Expr}
use Rattle.cb_model.specs.Program.{shift_expr}
use Rattle.cb_rows.specs.BusRow.{args, fact, p, q, names, behind, answer}

shift-bus : (k : ℕ) (es : List Expr) (t : Option ℕ) → shift_tree k (tree.Bus es t) ≡ tree.Bus (map (shift_expr k) es) (option_map (λ n. k + n) t)
shift-bus k es t = ap (shift_tree k) (sym (tree.rolls-Bus es t)) ∙ fold-roll-Tree Tree (shift_tree_step k) (Tree-F.Bus es t)

shift-term : (k n : ℕ) → shift_tree k (tree.Var n) ≡ tree.Var (k + n)
shift-term k n = ap (shift_tree k) (sym (tree.rolls-Var n)) ∙ fold-roll-Tree Tree (shift_tree_step k) (Tree-F.Var n)

-- one bus for both bus variables, and one term for both term variables
abbrev all_same : Valuation → Valuation → Valuation
all_same b o = record { bits = b.bits; words = λ n. o.words 0; terms = λ n. o.terms 1 }

same_meets : (a : _) (b o : Valuation) → Sat answer.items a (all_same b o)
same_meets a b o = (simp (shift-bus, shift-term, tree_values) refl, tt)

solvable : Solvable p.world answer.items
solvable a ok = record { b = with_bits (λ n. false); sorted = λ n. zero_fits; sat = (simp (shift-bus, shift-term, tree_values) refl, tt) }

is_shape : IsShape p.world answer.items args args
is_shape = record {
  only_leaves = simp shape_values refl;
  leaf_order = simp shape_values refl;
  open_order = simp shape_values (inr (refl, inr (refl, tt)));
  covers = λ a b m. (b, (m.sorted, refl));
  free = λ a b o o' m e sorted.
      (all_same o o', (record { admitted = m.admitted; sorted = λ n. sorted 1; sat = same_meets a o o' }, simp tree_values refl));
}

line : IsLine p names answer (codes "B = _T1, X = _T2")
unfolding digits
line = told args [] is_shape (simp (shape_values, text_values) refl) (λ env. tt) (simp shape_values refl) (simp text_values refl)

-- no shape gives one number to a bus and a term
one_number : InOrder [] ((sort.Bus, 0) ∷ (sort.Term, 0) ∷ []) → ⊥
one_number (inl x) = absurd (cc)
one_number (inr (x, inl (y, z))) = absurd (cc)
one_number (inr (x, inr (y, z))) = absurd (cc)

pub not_one_number : IsShape p.world answer.items args (tree.Bus [] (Some 0) ∷ tree.Var 0 ∷ []) → ⊥
not_one_number s = one_number (simp shape_values at s.open_order)

goes : Goes p 1 0 (Run (first_branch q) ∷ []) (Made answer ∷ Printed answer ∷ []) 1 []
goes =
    on (Becomes (Try behind 0 args 0)) (Try behind 0 args 0 ∷ []) _ (inl (tt, refl)) refl refl refl
    (on (Adds 1 [] answer) (Run answer ∷ []) _ (fact, refl, refl) refl
    (inl (solvable, (answer, (record { ready = []; rest = []; parts = none; is = refl }, refl)))) refl
    (on (Answered answer) [] [] refl refl refl refl here))

-- the whole text of the query
pub says : QuerySays p q names 1 Max (codes "B = _T1, X = _T2" ∷ codes "end" ∷ []) false
says = all _ Whole (codes "B = _T1, X = _T2" ∷ []) (runs 1 [] (record { begins = refl; rest = _; goes = goes; is = refl }) whole) (more_lines line no_lines) refl refl
