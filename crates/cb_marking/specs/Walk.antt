-- The walk over the places of a rule or query.
use Rattle.std.specs.Prelude.{◌≡◌, ℕ, suc, ◌+◌, Bool, true, false, if◌then◌else◌, List, [], ◌∷◌, ◌++◌, Option, Some, None, codes, bytes_eq}
use Rattle.std.specs.List.{list_all}
use Rattle.cb_model.specs.declared.Sort.{Sort}
use Rattle.cb_model.specs.Text.{Text}
use Rattle.cb_model.specs.Grammar.{Form, Variable, FormGoal, ACall, AnEqual}
use Rattle.cb_model.specs.Directives.{Declared}
use Rattle.cb_model.specs.Sorts.{Place, own_name, form_sort, below, call_places, number_in}
use Rattle.cb_model.specs.Loading.{add_name}
use Rattle.cb_marking.specs.declared.links.Stop.{Stop}
use Rattle.cb_marking.specs.declared.links.Stop.TheVariants as stop
use Rattle.cb_marking.specs.declared.walk.Walk.{Walk}
use Rattle.cb_marking.specs.Places.{is_bit, place_fits}

-- the name of a variable behind k of `_`
abbrev pub name_at : ℕ → Text → Text
name_at k x = if bytes_eq x (codes "_") then own_name k else x

-- the number of `_` by then
abbrev pub own_after : ℕ → Text → ℕ
own_after k x = if bytes_eq x (codes "_") then suc k else k

-- nothing is met yet
abbrev pub fresh : ℕ → Walk
fresh n = record { goals = n; variables = []; own = 0; links = record { edges = []; given = [] }; bits = [] }

-- a variable is met
abbrev pub saw : Walk → Text → Walk
saw w x = record w { variables = add_name w.variables (name_at w.own x); own = own_after w.own x }

-- the thing that a variable is: the goals come first
abbrev pub thing_of : ℕ → List Text → Text → ℕ
thing_of goals xs x = goals + number_in xs x

-- a thing is given a sort
abbrev pub gave : Walk → ℕ → Sort → Walk
gave w t s = record w { links = record w.links { given = w.links.given ++ (t, s) ∷ [] } }

-- two things are linked
abbrev pub linked : Walk → ℕ → ℕ → Walk
linked w t u = record w { links = record w.links { edges = w.links.edges ++ (t, u) ∷ [] } }

-- an equation has a side 0 or 1
abbrev pub noted : Bool → Walk → ℕ → Walk
noted true w k = record w { bits = w.bits ++ k ∷ [] }
noted false w k = w

-- a sort by form, where there is one
abbrev pub gave_some : Walk → ℕ → Option Sort → Walk
gave_some w t None = w
gave_some w t (Some s) = gave w t s

-- a form is met at a sort
abbrev pub at : Walk → Sort → Form → Walk
at w s (Variable x) = gave (saw w x) (thing_of w.goals (add_name w.variables (name_at w.own x)) (name_at w.own x)) s
at w s _ = w

-- places are met, one after another
abbrev pub walked : Walk → List Place → Walk
walked w [] = w
walked w (p ∷ ps) = walked (at w p.0 p.1) ps

-- a side of equation k is met
abbrev pub side_at : Declared → Walk → ℕ → Form → Walk
side_at d w k (Variable x) = linked (saw w x) k (thing_of w.goals (add_name w.variables (name_at w.own x)) (name_at w.own x))
side_at d w k f = noted (is_bit f) (gave_some w k (form_sort d.constants f)) k

-- a side with the places inside it
abbrev pub side_walked : Declared → Walk → ℕ → Form → Walk
side_walked d w k f = walked (side_at d w k f) (below d f)

-- goal k is met
abbrev pub goal_walked : Declared → Walk → ℕ → FormGoal → Walk
goal_walked d w k (ACall f) = walked w (call_places d f)
goal_walked d w k (AnEqual f g) = side_walked d (side_walked d w k f) k g

-- goals from k on are met
abbrev pub goals_walked : Declared → Walk → ℕ → List FormGoal → Walk
goals_walked d w k [] = w
goals_walked d w k (g ∷ gs) = goals_walked d (goal_walked d w k g) (suc k) gs

-- all forms may stand at their places
abbrev pub all_fit : Declared → List Place → Bool
all_fit d ps = list_all (place_fits d) ps

-- the places are met, and all fit
pub record Walks (d : Declared) (old : Walk) (ps : List Place) (new : Walk) : Type 0 where
  pub fits : all_fit d ps ≡ true
  pub is_walked : new ≡ walked old ps

-- all these places fit, and the walk is this
pub record Meets (d : Declared) (ps : List Place) (aim : Walk) (new : Walk) : Type 0 where
  pub fits : all_fit d ps ≡ true
  pub is_aim : new ≡ aim

-- some form doesn't fit its place, or there was no memory left
abbrev pub Stops : Declared → List Place → Stop → Type 0
Stops d ps stop.Clash = all_fit d ps ≡ false
Stops d ps stop.Memory = Unit {0}

-- there was no memory left
abbrev pub Memory : Stop → Type 0
Memory e = e ≡ stop.Memory
