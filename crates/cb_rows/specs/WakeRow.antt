-- `inv(X, Y), X = 1` with `:- delay inv(const, any). inv(0, 1). inv(1, 0).`: the goal waits, is woken, and its second clause answers.
use Rattle.std.specs.Prelude.{false, [], ◌∷◌, codes}
use Rattle.cb_model.specs.declared.Sort.TheVariants as sort
use Rattle.cb_model.specs.declared.When.TheVariants as when
use Rattle.cb_model.specs.declared.Expr.{Expr}
use Rattle.cb_model.specs.declared.Expr.TheVariants as expr
use Rattle.cb_model.specs.declared.Tree.{Tree}
use Rattle.cb_model.specs.declared.Tree.TheVariants as tree
use Rattle.cb_model.specs.declared.Goal.{Goal}
use Rattle.cb_model.specs.declared.Goal.TheVariants as goal
use Rattle.cb_model.specs.declared.Clause.{Clause}
use Rattle.cb_model.specs.Program.{Program}
use Rattle.cb_model.specs.Derivation.{Query}
use Rattle.cb_model.specs.Line.{Names}

abbrev pub X : Tree
X = tree.Leaf (expr.Var 0)

abbrev pub one : Tree
one = tree.Leaf expr.One

abbrev pub call : Goal
call = goal.Call 0 (X ∷ tree.Leaf (expr.Var 1) ∷ [])

abbrev pub row : Expr → Expr → Clause
row x y = record { pred = 0; sorts = []; head = tree.Leaf x ∷ tree.Leaf y ∷ []; body = [] }

abbrev pub p : Program
p = record {
  constants = 0;
  world = record { arguments = (sort.Bool ∷ sort.Bool ∷ []) ∷ [] };
  words = (when.Fixed ∷ when.Any ∷ []) ∷ [];
  demons = false ∷ [];
  clauses = row expr.Zero expr.One ∷ row expr.One expr.Zero ∷ [];
  circuits = [];
}

abbrev pub q : Query
q = record { goals = call ∷ goal.Equal X one ∷ []; sorts = sort.Bool ∷ sort.Bool ∷ [] }

abbrev pub names : Names
names = record { names = codes "inv" ∷ []; constants = []; printed = (0, codes "X") ∷ (1, codes "Y") ∷ [] }

abbrev pub q2 : Query
q2 = record { goals = call ∷ goal.Equal X one ∷ goal.Fail ∷ []; sorts = sort.Bool ∷ sort.Bool ∷ [] }
