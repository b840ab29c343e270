-- What a walk that is over decides.
use Rattle.std.specs.Prelude.{◌≡◌, ℕ, ◌+◌, ◌<◌, ◌⊎◌, ◌++◌, List, Contains, length, take, drop, get_or}
use Rattle.cb_model.specs.declared.Sort.{Sort}
use Rattle.cb_model.specs.declared.Sort.TheVariants as sort
use Rattle.cb_marking.specs.Marks.{HasSort, IsWithin, AreSorts}
use Rattle.cb_marking.specs.declared.links.Stop.{Stop}
use Rattle.cb_marking.specs.declared.links.Stop.TheVariants as stop
use Rattle.cb_marking.specs.Marks as marks
use Rattle.cb_marking.specs.declared.walk.Walk.{Walk}
use Rattle.cb_marking.specs.Marking.{Sorted}

-- all that is linked or given a sort is a goal or a variable
pub record IsKept (w : Walk) : Type 0 where
  pub links : IsWithin w.links (w.goals + length w.variables)
  pub bits : (k : ℕ) → Contains w.bits k → k < w.goals

-- the variables that were met, with these sorts of the goals and behind them of the variables
abbrev pub sorted_by : Walk → List Sort → Sorted
sorted_by w ss = record { variables = w.variables; sorts = drop w.goals ss; goals = take w.goals ss }

-- each goal and each variable has its one sort, and no equation with a side 0 or 1 is of sort `bus`
pub record Decides (w : Walk) (m : Sorted) : Type 0 where
  pub variables : m.variables ≡ w.variables
  pub goals : length m.goals ≡ w.goals
  pub sorts : AreSorts w.links (w.goals + length w.variables) (m.goals ++ m.sorts)
  pub bits : (k : ℕ) → Contains w.bits k → get_or m.goals k sort.Term ≡ sort.Bus → ⊥

-- a thing has two sorts, or an equation with a side 0 or 1 is of sort `bus`, or there was no memory left
abbrev pub Undecided : Walk → Stop → Type 0
Undecided w stop.Clash = marks.Stops w.links stop.Clash ⊎ ((k : ℕ) × Contains w.bits k × HasSort w.links k sort.Bus)
Undecided w stop.Memory = Unit {0}
