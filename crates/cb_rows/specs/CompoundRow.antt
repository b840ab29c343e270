-- `X = f(Y, [Z|B])` with `:- sorts f(bool, bus).`: a compound, a bus with an element and an open end that stands twice.
use Rattle.std.specs.Prelude.{ℕ, false, [], ◌∷◌, codes, Some}
use Rattle.cb_model.specs.declared.Sort.TheVariants as sort
use Rattle.cb_model.specs.declared.Expr.TheVariants as expr
use Rattle.cb_model.specs.declared.Tree.{Tree}
use Rattle.cb_model.specs.declared.Tree.TheVariants as tree
use Rattle.cb_model.specs.declared.Goal.TheVariants as goal
use Rattle.cb_model.specs.Program.{Program}
use Rattle.cb_model.specs.Derivation.{Query}
use Rattle.cb_model.specs.Line.{Names}

abbrev pub leaf : ℕ → Tree
leaf n = tree.Leaf (expr.Var n)

abbrev pub right : Tree
right = tree.Node 0 (leaf 1 ∷ tree.Bus (expr.Var 2 ∷ []) (Some 3) ∷ [])

abbrev pub p : Program
p = record { constants = 0; world = record { arguments = (sort.Bool ∷ sort.Bus ∷ []) ∷ [] }; words = [] ∷ []; demons = false ∷ []; clauses = []; circuits = [] }

abbrev pub q : Query
q = record { goals = goal.Equal (tree.Var 0) right ∷ []; sorts = sort.Term ∷ sort.Bool ∷ sort.Bool ∷ sort.Bus ∷ [] }

abbrev pub names : Names
names = record { names = codes "f" ∷ []; constants = []; printed = (0, codes "X") ∷ (1, codes "Y") ∷ (2, codes "Z") ∷ (3, codes "B") ∷ [] }
