-- `p` over `p. p :- true, true.`: the first clause answers, and the branch of the second is larger than all before it.
use Rattle.std.specs.Prelude.{false, List, [], ◌∷◌, codes}
use Rattle.cb_model.specs.declared.Goal.{Goal}
use Rattle.cb_model.specs.declared.Goal.TheVariants as goal
use Rattle.cb_model.specs.declared.Clause.{Clause}
use Rattle.cb_model.specs.Program.{Program}
use Rattle.cb_model.specs.Derivation.{Query, Branch, resolved, first_branch}
use Rattle.cb_model.specs.Line.{Names}

-- a clause with this body
abbrev pub rule : List Goal → Clause
rule body = record { pred = 0; sorts = []; head = []; body = body }

abbrev pub p : Program
p = record { constants = 0; world = record { arguments = [] ∷ [] }; words = [] ∷ []; demons = false ∷ []; clauses = rule [] ∷ rule (goal.True ∷ goal.True ∷ []) ∷ []; circuits = [] }

abbrev pub q : Query
q = record { goals = goal.Call 0 [] ∷ []; sorts = [] }

abbrev pub names : Names
names = record { names = codes "p" ∷ []; constants = []; printed = [] }

abbrev pub behind : Branch
behind = record (first_branch q) { goals = [] }

-- the branch of the first clause, which answers, and that of the second
abbrev pub answer : Branch
answer = resolved behind 0 [] (rule [])

abbrev pub larger : Branch
larger = resolved behind 0 [] (rule (goal.True ∷ goal.True ∷ []))
