-- What is known of a rule or query whose places agree.
use Rattle.std.specs.Prelude.{◌≡◌, ℕ, ◌<◌, List, length, get_or}
use Rattle.cb_model.specs.Text.{Text}
use Rattle.cb_model.specs.declared.Sort.{Sort}
use Rattle.cb_model.specs.declared.Sort.TheVariants as sort
use Rattle.cb_model.specs.Directives.{Declared}
use Rattle.cb_model.specs.Sorts.{Body, Equation, HasSort, Clash}
use Rattle.cb_model.specs.Loading.{body_variables, HaveSorts}
use Rattle.cb_marking.specs.declared.links.Stop.{Stop}
use Rattle.cb_marking.specs.declared.links.Stop.TheVariants as stop

-- the variables, the sort of each, and a sort for each goal, which is that of the equation where the goal is one
pub record Sorted : Type 0 where
  pub variables : List Text
  pub sorts : List Sort
  pub goals : List Sort

-- nothing clashes, and these are the variables and the sorts
pub record IsMarking (d : Declared) (b : Body) (m : Sorted) : Type 0 where
  pub agrees : Clash d b → ⊥
  pub variables : m.variables ≡ body_variables b
  pub sorts : HaveSorts d b m.variables m.sorts
  pub goals : length m.goals ≡ length b.goals
  pub equations : (k : ℕ) → k < length b.goals → HasSort d b (Equation k) (get_or m.goals k sort.Term)

-- something clashes, or there was no memory left
abbrev pub Refuses : Declared → Body → Stop → Type 0
Refuses d b stop.Clash = Clash d b
Refuses d b stop.Memory = Unit {0}
