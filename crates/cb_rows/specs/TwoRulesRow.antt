-- `d(0)` with the demon rules `d(X) :- fail.` and `d(X).`: both match, and the first is taken.
use Rattle.std.specs.Prelude.{true, List, [], ◌∷◌, codes}
use Rattle.cb_model.specs.declared.Sort.TheVariants as sort
use Rattle.cb_model.specs.declared.Expr.TheVariants as expr
use Rattle.cb_model.specs.declared.Tree.{Tree}
use Rattle.cb_model.specs.declared.Tree.TheVariants as tree
use Rattle.cb_model.specs.declared.Goal.{Goal}
use Rattle.cb_model.specs.declared.Goal.TheVariants as goal
use Rattle.cb_model.specs.declared.Clause.{Clause}
use Rattle.cb_model.specs.Program.{Program}
use Rattle.cb_model.specs.Derivation.{Query}
use Rattle.cb_model.specs.Line.{Names}

-- a rule with this body
abbrev pub rule : List Goal → Clause
rule body = record { pred = 0; sorts = sort.Bool ∷ []; head = tree.Leaf (expr.Var 0) ∷ []; body = body }

abbrev pub p : Program
p = record { constants = 0; world = record { arguments = (sort.Bool ∷ []) ∷ [] }; words = [] ∷ []; demons = true ∷ []; clauses = rule (goal.Fail ∷ []) ∷ rule [] ∷ []; circuits = [] }

abbrev pub zero : Tree
zero = tree.Leaf expr.Zero

abbrev pub q : Query
q = record { goals = goal.Call 0 (zero ∷ []) ∷ []; sorts = [] }

abbrev pub names : Names
names = record { names = codes "d" ∷ []; constants = []; printed = [] }
