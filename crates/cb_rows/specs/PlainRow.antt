-- The plain derivation of the query `X = a`.
use Rattle.std.specs.Prelude.{[], ◌∷◌}
use Rattle.cb_model.specs.declared.Sort.TheVariants as sort
use Rattle.cb_model.specs.declared.Expr.TheVariants as expr
use Rattle.cb_model.specs.declared.Tree.TheVariants as tree
use Rattle.cb_model.specs.declared.Goal.TheVariants as goal
use Rattle.cb_model.specs.Equations.{Item, Pair}
use Rattle.cb_model.specs.Program.{Program, no_program}
use Rattle.cb_model.specs.Derivation.{Query, Branch}

abbrev pub p : Program
p = no_program 1

abbrev pub item : Item
item = Pair (tree.Leaf (expr.Var 0)) (tree.Leaf (expr.Const 0))

abbrev pub q : Query
q = record { goals = goal.Equal (tree.Leaf (expr.Var 0)) (tree.Leaf (expr.Const 0)) ∷ []; sorts = sort.Bool ∷ [] }

-- the branch behind its only goal
abbrev pub answer : Branch
answer = record { goals = []; waiting = []; next = 0; items = item ∷ []; sorts = sort.Bool ∷ []; steps = 1 }
