-- `q(B, X)` over `:- sorts q(bus, term). q(B, X).`: one counter numbers the open places of both sorts.
use Rattle.std.specs.Prelude.{false, List, [], ◌∷◌, codes, Some}
use Rattle.cb_model.specs.declared.Sort.TheVariants as sort
use Rattle.cb_model.specs.declared.Tree.{Tree}
use Rattle.cb_model.specs.declared.Tree.TheVariants as tree
use Rattle.cb_model.specs.declared.Goal.TheVariants as goal
use Rattle.cb_model.specs.declared.Clause.{Clause}
use Rattle.cb_model.specs.Program.{Program}
use Rattle.cb_model.specs.Derivation.{Query, Branch, resolved, first_branch}
use Rattle.cb_model.specs.Line.{Names}

abbrev pub args : List Tree
args = tree.Bus [] (Some 0) ∷ tree.Var 1 ∷ []

abbrev pub fact : Clause
fact = record { pred = 0; sorts = sort.Bus ∷ sort.Term ∷ []; head = args; body = [] }

abbrev pub p : Program
p = record { constants = 0; world = record { arguments = (sort.Bus ∷ sort.Term ∷ []) ∷ [] }; words = [] ∷ []; demons = false ∷ []; clauses = fact ∷ []; circuits = [] }

abbrev pub q : Query
q = record { goals = goal.Call 0 args ∷ []; sorts = sort.Bus ∷ sort.Term ∷ [] }

abbrev pub names : Names
names = record { names = codes "q" ∷ []; constants = []; printed = (0, codes "B") ∷ (1, codes "X") ∷ [] }

abbrev pub behind : Branch
behind = record (first_branch q) { goals = [] }

abbrev pub answer : Branch
answer = resolved behind 0 args fact
