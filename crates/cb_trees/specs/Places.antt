-- The sorts of argument places, and goals with the sorts of their equations.
use Rattle.std.specs.Prelude.{ℕ, List, [], ◌∷◌, Option, Some, None}
use Rattle.std.specs.Borrow.{Bor}
use Rattle.cb_model.specs.Text.{Text}
use Rattle.cb_model.specs.declared.Sort.{Sort}
use Rattle.cb_model.specs.declared.Sort.TheVariants as sort
use Rattle.cb_model.specs.declared.Goal.{Goal}
use Rattle.cb_model.specs.declared.Goal.TheVariants as goal
use Rattle.cb_model.specs.Grammar.{Form, Variable, FormGoal, ACall, AnEqual}
use Rattle.cb_model.specs.Directives.{Declared, nothing, sorts_of}
use Rattle.cb_model.specs.Sorts.{Numbering, number_in, as_tree}
use Rattle.cb_model.specs.Loading.{call_goal}

-- declared sorts, or `term` for each of so many arguments
abbrev pub sorts_given : Option (Bor (List Sort)) → ℕ → List Sort
sorts_given (Some ss) n = ss.now
sorts_given None n = sorts_of nothing ([], n)

-- the number of a variable
abbrev pub variable_number : List Text → Form → ℕ
variable_number xs (Variable x) = number_in xs x
variable_number xs _ = 0

-- a goal, where an equation has this sort
abbrev pub goal_at : Declared → Numbering → List (Option Text) → Sort → FormGoal → Goal
goal_at d n ms s (ACall f) = call_goal d n ms f
goal_at d n ms s (AnEqual l r) = goal.Equal (as_tree d n s l) (as_tree d n s r)

-- goals, where an equation has the sort in its place
abbrev pub goals_at : Declared → Numbering → List (Option Text) → List Sort → List FormGoal → List Goal
goals_at d n ms ss [] = []
goals_at d n ms (s ∷ ss) (g ∷ gs) = goal_at d n ms s g ∷ goals_at d n ms ss gs
goals_at d n ms [] (g ∷ gs) = goal_at d n ms sort.Term g ∷ goals_at d n ms [] gs
