-- `p(X), q(X), X = 1` with `:- sorts p(bool), q(bool). :- delay p(const), q(const). q(X) :- r. r.`: the equation wakes both goals,
-- and the one with the lesser number, which has no clause, runs first.
use Rattle.std.specs.Prelude.{ℕ, false, [], ◌∷◌, codes}
use Rattle.cb_model.specs.declared.Sort.TheVariants as sort
use Rattle.cb_model.specs.declared.When.TheVariants as when
use Rattle.cb_model.specs.declared.Expr.TheVariants as expr
use Rattle.cb_model.specs.declared.Tree.{Tree}
use Rattle.cb_model.specs.declared.Tree.TheVariants as tree
use Rattle.cb_model.specs.declared.Goal.{Goal}
use Rattle.cb_model.specs.declared.Goal.TheVariants as goal
use Rattle.cb_model.specs.Program.{Program}
use Rattle.cb_model.specs.Derivation.{Query}
use Rattle.cb_model.specs.Line.{Names}

abbrev pub X : Tree
X = tree.Leaf (expr.Var 0)

-- the goal of predicate n
abbrev pub call : ℕ → Goal
call n = goal.Call n (X ∷ [])

abbrev pub p : Program
p = record {
  constants = 0;
  world = record { arguments = (sort.Bool ∷ []) ∷ (sort.Bool ∷ []) ∷ [] ∷ [] };
  words = (when.Fixed ∷ []) ∷ (when.Fixed ∷ []) ∷ [] ∷ [];
  demons = false ∷ false ∷ false ∷ [];
  clauses = record { pred = 1; sorts = sort.Bool ∷ []; head = X ∷ []; body = goal.Call 2 [] ∷ [] } ∷ record { pred = 2; sorts = []; head = []; body = [] } ∷ [];
  circuits = [];
}

abbrev pub q : Query
q = record { goals = call 0 ∷ call 1 ∷ goal.Equal X (tree.Leaf expr.One) ∷ []; sorts = sort.Bool ∷ [] }

abbrev pub names : Names
names = record { names = codes "p" ∷ codes "q" ∷ codes "r" ∷ []; constants = []; printed = (0, codes "X") ∷ [] }
