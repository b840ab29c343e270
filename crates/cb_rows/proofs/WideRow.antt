-- An answer with more leaves than a line may have.
use Rattle.std.proofs.Common.{◌≡◌, ℕ, zero, suc, ◌+◌, ◌<◌, Bool, true, false, ◌||◌, nat_lt, List, [], ◌∷◌, ◌++◌, map, length, refl, sym, ◌∙◌, ap, subst, inl, codes, arith, rules, pos}
use Rattle.std.specs.Prelude.{Some, None, flat_map, sum_by}
use Rattle.std.specs.List.{list_all}
use Rattle.cb_model.specs.declared.Expr.TheVariants as expr
use Rattle.cb_model.specs.declared.Tree.{Tree}
use Rattle.cb_model.specs.declared.Tree.TheVariants as tree
use Rattle.cb_model.specs.Bits.{Bits, none, numbers, numbers_from}
use Rattle.cb_model.specs.Values.{Word, Int, Valuation, expr_value, tree_value}
use Rattle.cb_model.specs.Equations.{Pair, Meets, Solvable}
use Rattle.cb_model.specs.Derivation.{Branch, Run, Made, Printed, Answered, Adds, Goes, here, on, whole, Whole, runs, extended, first_branch}
use Rattle.cb_model.specs.Answers.{IsShape, leaves, is_leaf, InOrder, values, with_opens}
use Rattle.cb_model.specs.Line.{IsLine, wide, is_wide, places}
use Rattle.cb_model.specs.Output.{QuerySays, all, no_lines, more_lines}
use Rattle.cb_model.specs.Commands.{Max}
use Rattle.cb_laws.proofs.Values.{value-zero, value-bus}
use Rattle.cb_laws.proofs.Tables.{zero_fits}
use Rattle.cb_laws.proofs.Shapes.{leaf-var, open-bus, places-bus}
use Rattle.cb_laws.proofs.OpenTrees.{Plains, ABus, Nil, Cons, shape_leaves, shape_opens, value_closed}
use Rattle.cb_rows.specs.WideRow.{zeros, p, q, names, shape}

abbrev terms : List Tree
terms = tree.Bus [] (Some 0) ∷ []

abbrev answer : ℕ → Branch
answer n = extended (record (first_branch (q n)) { goals = [] }) [] (Pair (tree.Bus [] (Some 0)) (tree.Bus (zeros n) None) ∷ []) []

-- so many bits that are 0
abbrev falses : ℕ → List Bool
falses zero = []
falses (suc n) = false ∷ falses n

zeros_false : (a b : Bits) (n : ℕ) → map (expr_value a b) (zeros n) ++ [] ≡ falses n
zeros_false a b zero = refl
zeros_false a b (suc n) = ap (λ x. x ∷ (map (expr_value a b) (zeros n) ++ [])) (value-zero a b) ∙ ap (λ l. false ∷ l) (zeros_false a b n)

leaves_false : (at n : ℕ) → map (λ k. false) (numbers_from at n) ++ [] ≡ falses n
leaves_false at zero = refl
leaves_false at (suc n) = ap (λ l. false ∷ l) (leaves_false (suc at) n)

no_more : (xs : List ℕ) → xs ++ [] ≡ xs
no_more [] = refl
no_more (x ∷ xs) = ap (λ l. x ∷ l) (no_more xs)

count : (at n : ℕ) → length (numbers_from at n) ≡ n
count at zero = refl
count at (suc n) = ap suc (count (suc at) n)

all_leaf : (ns : List ℕ) → list_all is_leaf (map expr.Var ns) ≡ true
all_leaf [] = refl
all_leaf (n ∷ ns) = rw (leaf-var n) (all_leaf ns)

abbrev open_bus : ℕ → Plains
open_bus n = Cons (ABus (numbers n) None) Nil

leaf_list : (n : ℕ) → flat_map leaves (shape n) ≡ numbers n
leaf_list n = shape_leaves (open_bus n) ∙ no_more (numbers n)

leaf_count : (n : ℕ) → length (flat_map leaves (shape n)) ≡ n
leaf_count n = ap length (leaf_list n) ∙ count 0 n

-- the value of the shape and of the printed variable
shape_value : (a : Bits) (o : Valuation) (n : ℕ) → values a o (shape n) ≡ Word (map o.bits (numbers n) ++ []) ∷ []
shape_value a o n = ap (λ g. g ∷ []) (value_closed a o (ABus (numbers n) None))

bus_value : (a : Bits) (b : Valuation) → tree_value a b (tree.Bus [] (Some 0)) ≡ Word (b.words 0)
bus_value a b = value-bus a b [] (Some 0)

-- what the equation says of the variable
all_zero : (a : Bits) (b : Valuation) (n : ℕ) → Meets p.world (answer n).items a b → tree_value a b (tree.Bus [] (Some 0)) ≡ Word (falses n)
all_zero a b n m = m.sat.0 ∙ value-bus a b (zeros n) None ∙ ap Word (zeros_false a b.bits n)

abbrev no_bits : Valuation
no_bits = record { bits = λ n. false; words = λ n. []; terms = λ n. Int (pos 0) }

is_shape : (n : ℕ) → IsShape p.world (answer n).items terms (shape n)
is_shape n = record {
  only_leaves = rw (open-bus (map expr.Var (numbers n)) None, all_leaf (numbers n)) refl;
  leaf_order = leaf_list n ∙ ap numbers (sym (leaf_count n));
  open_order = subst (InOrder []) (sym (shape_opens (open_bus n))) tt;
  covers = λ a b m. (no_bits, ((λ k. zero_fits), ap (λ g. g ∷ []) (all_zero a b n m) ∙ ap (λ l. Word l ∷ []) (sym (leaves_false 0 n)) ∙ sym (shape_value a no_bits n)));
  free = λ a b o o' m e sorted. (b, (m, e ∙ shape_value a o n ∙ sym (shape_value a (with_opens o o') n)));
}

solvable : (n : ℕ) → Solvable p.world (answer n).items
solvable n a ok =
    let b : Valuation = record no_bits { words = λ k. falses n } in
    record { b = b; sorted = λ k. zero_fits; sat = (bus_value a b ∙ ap Word (sym (zeros_false a b.bits n)) ∙ sym (value-bus a b (zeros n) None), tt) }

more_than : (n : ℕ) → 4096 < n → nat_lt 4096 n ≡ true
more_than n h = search rules

pub is_wide_at : (n : ℕ) → is_wide (shape n) ≡ (nat_lt 4096 n || nat_lt 65536 (n + 1))
is_wide_at n =
    ap (λ k. nat_lt 4096 k || nat_lt 65536 (sum_by places (shape n))) (leaf_count n) ∙
    ap (λ k. nat_lt 4096 n || nat_lt 65536 k) (place_count n)
  where
    long : (ns : List ℕ) → length (map expr.Var ns) ≡ length ns
    long [] = refl
    long (n ∷ ns) = ap suc (long ns)

    place_count : (n : ℕ) → sum_by places (shape n) ≡ n + 1
    place_count n = rw (places-bus (map expr.Var (numbers n)) None, long (numbers n), count 0 n) (omega arith)

line : (n : ℕ) → 4096 < n → IsLine p names (answer n) (codes "(wide)")
line n h = wide (shape n) (is_shape n) (is_wide_at n ∙ ap (λ x. x || nat_lt 65536 (n + 1)) (more_than n h)) refl

goes : (n : ℕ) → Goes p 1 0 (Run (first_branch (q n)) ∷ []) (Made (answer n) ∷ Printed (answer n) ∷ []) 0 []
goes n =
    on (Adds 0 [] (answer n)) (Run (answer n) ∷ []) _ refl refl
    (inl (solvable n, (answer n, (record { ready = []; rest = []; parts = none; is = refl }, refl)))) refl
    (on (Answered (answer n)) [] [] refl refl refl refl here)

-- the whole text of the query
pub says : (n : ℕ) → 4096 < n → QuerySays p (q n) names 1 Max (codes "(wide)" ∷ codes "end" ∷ []) false
says n h = all _ Whole (codes "(wide)" ∷ []) (runs 0 [] (record { begins = refl; rest = _; goes = goes n; is = refl }) whole) (more_lines (line n h) no_lines) refl refl

pub not_wide : is_wide (shape 4096) ≡ false
not_wide = is_wide_at 4096
