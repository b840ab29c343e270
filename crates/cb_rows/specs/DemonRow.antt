-- `andd(a, Y, Z), Y = a` with the demon rules `andd(0, Y, Z) :- Z = 0.` and `andd(X, X, Z) :- Z = X.`: the demon waits, and then
-- commits to its second rule.
use Rattle.std.specs.Prelude.{ℕ, true, List, [], ◌∷◌, codes}
use Rattle.cb_model.specs.declared.Sort.TheVariants as sort
use Rattle.cb_model.specs.declared.Expr.TheVariants as expr
use Rattle.cb_model.specs.declared.Tree.{Tree}
use Rattle.cb_model.specs.declared.Tree.TheVariants as tree
use Rattle.cb_model.specs.declared.Goal.{Goal}
use Rattle.cb_model.specs.declared.Goal.TheVariants as goal
use Rattle.cb_model.specs.declared.Clause.{Clause}
use Rattle.cb_model.specs.Program.{Program}
use Rattle.cb_model.specs.Derivation.{Query}
use Rattle.cb_model.specs.Line.{Names}

abbrev pub a : Tree
a = tree.Leaf (expr.Const 0)

abbrev pub var : ℕ → Tree
var n = tree.Leaf (expr.Var n)

abbrev pub zero_rule : Clause
zero_rule = record { pred = 0; sorts = sort.Bool ∷ sort.Bool ∷ []; head = tree.Leaf expr.Zero ∷ var 0 ∷ var 1 ∷ []; body = goal.Equal (var 1) (tree.Leaf expr.Zero) ∷ [] }

abbrev pub same_rule : Clause
same_rule = record { pred = 0; sorts = sort.Bool ∷ sort.Bool ∷ []; head = var 0 ∷ var 0 ∷ var 1 ∷ []; body = goal.Equal (var 1) (var 0) ∷ [] }

abbrev pub p : Program
p = record {
  constants = 2;
  world = record { arguments = (sort.Bool ∷ sort.Bool ∷ sort.Bool ∷ []) ∷ [] };
  words = [] ∷ [];
  demons = true ∷ [];
  clauses = zero_rule ∷ same_rule ∷ [];
  circuits = [];
}

abbrev pub args : List Tree
args = a ∷ var 0 ∷ var 1 ∷ []

abbrev pub call : Goal
call = goal.Call 0 args

abbrev pub q : Query
q = record { goals = call ∷ goal.Equal (var 0) a ∷ []; sorts = sort.Bool ∷ sort.Bool ∷ [] }

abbrev pub names : Names
names = record { names = codes "andd" ∷ []; constants = codes "a" ∷ codes "b" ∷ []; printed = (0, codes "Y") ∷ (1, codes "Z") ∷ [] }
