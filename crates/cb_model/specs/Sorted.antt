-- Trees in which each variable has the sort of its place, and each compound the arguments that its name has.
use Rattle.std.specs.Prelude.{ℕ, Bool, true, false, ◌&&◌, List, [], ◌∷◌, map, Option, Some, None, option_to_list, slice_get, get_or}
use Rattle.std.specs.List.{list_all}
use Rattle.cb_model.specs.declared.Sort.{Sort}
use Rattle.cb_model.specs.declared.Sort.TheVariants as sort
use Rattle.cb_model.specs.declared.Expr.{Expr}
use Rattle.cb_model.specs.declared.Expr.TheOpen.{Expr-F}
use Rattle.cb_model.specs.declared.Expr.TheFolds.{fold-Expr}
use Rattle.cb_model.specs.declared.Tree.{Tree}
use Rattle.cb_model.specs.declared.Tree.TheOpen.{Tree-F}
use Rattle.cb_model.specs.declared.Tree.TheVariants as tree
use Rattle.cb_model.specs.declared.Tree.TheFolds.{fold-Tree}
use Rattle.cb_model.specs.declared.Goal.{Goal}
use Rattle.cb_model.specs.declared.Goal.TheVariants as goal
use Rattle.cb_model.specs.declared.Clause.{Clause}
use Rattle.cb_model.specs.Bits.{all_of}
use Rattle.cb_model.specs.Values.{Sorts}

-- whether the sorts are one
abbrev pub same_sort : Sort → Sort → Bool
same_sort sort.Bool sort.Bool = true
same_sort sort.Bus sort.Bus = true
same_sort sort.Term sort.Term = true
same_sort _ _ = false

-- the same of sorts in order
abbrev pub same_sorts : List Sort → List Sort → Bool
same_sorts [] [] = true
same_sorts (s ∷ ss) (t ∷ ts) = same_sort s t && same_sorts ss ts
same_sorts _ _ = false

-- whether there is this sort
abbrev pub is_sort : Sort → Option Sort → Bool
is_sort s None = false
is_sort s (Some t) = same_sort s t

-- whether variable n is there and has the sort
abbrev pub variable_has : List Sort → Sort → ℕ → Bool
variable_has ss s n = is_sort s (slice_get ss n)

-- ---- variables

-- one layer of an expression whose variables are Boolean
abbrev pub are_boolean_step : List Sort → Expr-F Bool → Bool
are_boolean_step ss (Expr-F.Var n) = variable_has ss sort.Bool n
are_boolean_step ss (Expr-F.Not x) = x
are_boolean_step ss (Expr-F.And xs) = all_of xs
are_boolean_step ss (Expr-F.Xor xs) = all_of xs
are_boolean_step ss (Expr-F.Or xs) = all_of xs
are_boolean_step ss _ = true

-- whether the variables of an expression are Boolean
abbrev pub are_boolean : List Sort → Expr → Bool
are_boolean ss = fold-Expr Bool (are_boolean_step ss)

-- one layer of a tree whose variables have the sorts of their places
abbrev pub variables_fit_step : List Sort → Tree-F Bool → Bool
variables_fit_step ss (Tree-F.Leaf e) = are_boolean ss e
variables_fit_step ss (Tree-F.Bus es t) = list_all (are_boolean ss) es && list_all (variable_has ss sort.Bus) (option_to_list t)
variables_fit_step ss (Tree-F.Var n) = variable_has ss sort.Term n
variables_fit_step ss (Tree-F.Int z) = true
variables_fit_step ss (Tree-F.Node n xs) = all_of xs

-- whether a tree's variables, which have these sorts, have the sorts of their places
abbrev pub variables_fit : List Sort → Tree → Bool
variables_fit ss = fold-Tree Bool (variables_fit_step ss)

-- ---- compounds

-- one layer of the sort of a tree
abbrev pub tree_sort_step : Tree-F Sort → Sort
tree_sort_step (Tree-F.Leaf e) = sort.Bool
tree_sort_step (Tree-F.Bus es t) = sort.Bus
tree_sort_step _ = sort.Term

-- the sort of the places where a tree may stand
abbrev pub tree_sort : Tree → Sort
tree_sort = fold-Tree Sort tree_sort_step

-- one layer of a tree whose compounds have the arguments of the table, with the sort of each part
abbrev pub arguments_fit_step : Sorts → Tree-F (Sort × Bool) → Sort × Bool
arguments_fit_step t (Tree-F.Leaf e) = (sort.Bool, true)
arguments_fit_step t (Tree-F.Bus es l) = (sort.Bus, true)
arguments_fit_step t (Tree-F.Var n) = (sort.Term, true)
arguments_fit_step t (Tree-F.Int z) = (sort.Term, true)
arguments_fit_step t (Tree-F.Node n xs) = (sort.Term, same_sorts (get_or t n []) (map (λ x. x.0) xs) && all_of (map (λ x. x.1) xs))

-- whether each compound in a tree has as many arguments as the table gives its name, each of the sort that stands there
abbrev pub arguments_fit : Sorts → Tree → Bool
arguments_fit t x = (fold-Tree (Sort × Bool) (arguments_fit_step t) x).1

-- whether a tree stands for a value of this sort: its variables have the sorts of their places, its compounds the
-- arguments of the table
abbrev pub tree_fits : Sorts → List Sort → Sort → Tree → Bool
tree_fits t ss s x = same_sort s (tree_sort x) && (variables_fit ss x && arguments_fit t x)

-- whether a goal's trees do, each of the sort of its place
abbrev pub goal_fits : Sorts → List Sort → Goal → Bool
goal_fits t ss (goal.Equal l r) = tree_fits t ss (tree_sort l) l && tree_fits t ss (tree_sort l) r
goal_fits t ss (goal.Circuit m ins outs) = tree_fits t ss sort.Bus ins && tree_fits t ss sort.Bus outs
goal_fits t ss (goal.Call pred args) = tree_fits t ss sort.Term (tree.Node pred args)
goal_fits t ss _ = true

-- whether a clause's head and goals do
abbrev pub clause_fits : Sorts → Clause → Bool
clause_fits t c = tree_fits t c.sorts sort.Term (tree.Node c.pred c.head) && list_all (goal_fits t c.sorts) c.body

-- ---- chains

-- whether a chain has an operand
abbrev pub has_operand : List Bool → Bool
has_operand [] = false
has_operand (x ∷ xs) = true

-- one layer of an expression whose chains have operands
abbrev pub chains_fit_step : Expr-F Bool → Bool
chains_fit_step (Expr-F.Not x) = x
chains_fit_step (Expr-F.And xs) = has_operand xs && all_of xs
chains_fit_step (Expr-F.Xor xs) = has_operand xs && all_of xs
chains_fit_step (Expr-F.Or xs) = has_operand xs && all_of xs
chains_fit_step _ = true

-- whether the chains of an expression have operands
abbrev pub chains_fit : Expr → Bool
chains_fit = fold-Expr Bool chains_fit_step

-- one layer of a tree whose chains have operands
abbrev pub operands_fit_step : Tree-F Bool → Bool
operands_fit_step (Tree-F.Leaf e) = chains_fit e
operands_fit_step (Tree-F.Bus es t) = list_all chains_fit es
operands_fit_step (Tree-F.Node n xs) = all_of xs
operands_fit_step _ = true

-- whether the chains in a tree have operands, so that each Boolean place counts a leaf at least
abbrev pub operands_fit : Tree → Bool
operands_fit = fold-Tree Bool operands_fit_step
