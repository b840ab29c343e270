-- The plain derivation of `inv(X, Y)` with `:- delay inv(const, any).`: the goal waits, and the branch is an answer.
use Rattle.std.specs.Prelude.{false, [], ◌∷◌, codes}
use Rattle.cb_model.specs.declared.Sort.TheVariants as sort
use Rattle.cb_model.specs.declared.When.TheVariants as when
use Rattle.cb_model.specs.declared.Expr.TheVariants as expr
use Rattle.cb_model.specs.declared.Tree.{Tree}
use Rattle.cb_model.specs.declared.Tree.TheVariants as tree
use Rattle.cb_model.specs.declared.Goal.{Goal}
use Rattle.cb_model.specs.declared.Goal.TheVariants as goal
use Rattle.cb_model.specs.Program.{Program}
use Rattle.cb_model.specs.Line.{Names}
use Rattle.cb_model.specs.Derivation.{Query, Branch, first_branch}

abbrev pub X : Tree
X = tree.Leaf (expr.Var 0)

abbrev pub Y : Tree
Y = tree.Leaf (expr.Var 1)

abbrev pub call : Goal
call = goal.Call 0 (X ∷ Y ∷ [])

abbrev pub p : Program
p = record { constants = 0; world = record { arguments = (sort.Bool ∷ sort.Bool ∷ []) ∷ [] }; words = (when.Fixed ∷ when.Any ∷ []) ∷ []; demons = false ∷ []; clauses = []; circuits = [] }

abbrev pub q : Query
q = record { goals = call ∷ []; sorts = sort.Bool ∷ sort.Bool ∷ [] }

abbrev pub behind : Branch
behind = record (first_branch q) { goals = [] }

abbrev pub names : Names
names = record { names = codes "inv" ∷ []; constants = []; printed = (0, codes "X") ∷ (1, codes "Y") ∷ [] }
