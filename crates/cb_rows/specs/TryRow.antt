-- The plain derivation of `p(X), X = 1` over `p(0). p(1).`: the first clause fails at the equation, the second answers.
use Rattle.std.specs.Prelude.{false, List, [], ◌∷◌}
use Rattle.cb_model.specs.declared.Sort.TheVariants as sort
use Rattle.cb_model.specs.declared.Expr.{Expr}
use Rattle.cb_model.specs.declared.Expr.TheVariants as expr
use Rattle.cb_model.specs.declared.Tree.{Tree}
use Rattle.cb_model.specs.declared.Tree.TheVariants as tree
use Rattle.cb_model.specs.declared.Goal.TheVariants as goal
use Rattle.cb_model.specs.declared.Clause.{Clause}
use Rattle.cb_model.specs.Equations.{Pair}
use Rattle.cb_model.specs.Program.{Program}
use Rattle.cb_model.specs.Derivation.{Query, Branch, Made, Printed, Note, extended, resolved, first_branch}

abbrev pub X : Tree
X = tree.Leaf (expr.Var 0)

abbrev pub one : Tree
one = tree.Leaf expr.One

abbrev pub fact : Expr → Clause
fact e = record { pred = 0; sorts = []; head = tree.Leaf e ∷ []; body = [] }

abbrev pub p : Program
p = record { constants = 0; world = record { arguments = (sort.Bool ∷ []) ∷ [] }; words = [] ∷ []; demons = false ∷ []; clauses = fact expr.Zero ∷ fact expr.One ∷ []; circuits = [] }

abbrev pub q : Query
q = record { goals = goal.Call 0 (X ∷ []) ∷ goal.Equal X one ∷ []; sorts = sort.Bool ∷ [] }

-- the branch behind the call, and after a clause, and after the equation too
abbrev pub behind : Branch
behind = record (first_branch q) { goals = goal.Equal X one ∷ [] }

abbrev pub called : Expr → Branch
called e = resolved behind 0 (X ∷ []) (fact e)

abbrev pub equated : Expr → Branch
equated e = extended (record (called e) { goals = [] }) [] (Pair X one ∷ []) []

abbrev pub notes : List Note
notes = Made (called expr.Zero) ∷ Made (equated expr.Zero) ∷ Made (called expr.One) ∷ Made (equated expr.One) ∷ Printed (equated expr.One) ∷ []

-- the clauses the other way round: the first answers, and the second is tried then
abbrev pub swapped : Program
swapped = record p { clauses = fact expr.One ∷ fact expr.Zero ∷ [] }
