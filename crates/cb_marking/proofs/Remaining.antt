-- A walk over goals, with those that are left.
use Rattle.std.proofs.Common.{◌≡◌, ℕ, zero, suc, ◌+◌, ◌<◌, ◌≤◌, Bool, true, ◌&&◌, List, [], ◌∷◌, map, length, drop, get_or, refl, sym, ◌∙◌, ap, arith, add-one}
use Rattle.std.specs.List.{list_all}
use Rattle.std.proofs.lemmas.List.{drop_more}
use Rattle.std.proofs.lemmas.Bool.{and_parts}
use Rattle.cb_model.specs.declared.RawGoal.{RawGoal}
use Rattle.cb_model.specs.Grammar.{FormGoal}
use Rattle.cb_model.specs.Forms.{goal_form}
use Rattle.cb_model.specs.Written.{goal_written}
use Rattle.cb_model.specs.Directives.{Declared}
use Rattle.cb_model.specs.Sorts.{goal_places, goals_places}
use Rattle.cb_marking.specs.declared.links.Stop.{Stop}
use Rattle.cb_marking.specs.declared.links.Stop.TheVariants as stop
use Rattle.cb_marking.specs.declared.walk.Walk.{Walk}
use Rattle.cb_marking.specs.Walk.{goal_walked, goals_walked, all_fit, Meets, Stops}
use Rattle.cb_marking.proofs.Left.{all_fit-append}

abbrev pub goals_from : List RawGoal → ℕ → List FormGoal
goals_from gs i = map goal_form (drop i gs)

pub record GoalsLeft (d : Declared) (old : Walk) (gs : List RawGoal) (now : Walk) (i : ℕ) : Type 0 where
  pub same : goals_walked d old 0 (map goal_form gs) ≡ goals_walked d now i (goals_from gs i)
  pub fit : all_fit d (goals_places d (map goal_form gs)) ≡ all_fit d (goals_places d (goals_from gs i))

pub goals_start : (d : Declared) (w : Walk) (gs : List RawGoal) → GoalsLeft d w gs w 0
goals_start d w gs = record { same = refl; fit = refl }

module _ (d : Declared) (old : Walk) (gs : List RawGoal) (now : Walk) (i : ℕ) (g : RawGoal) (within : i < length gs) (is : g ≡ get_or gs i g) (l : GoalsLeft d old gs now i) where
  next_goals : goals_from gs i ≡ goal_form g ∷ goals_from gs (i + 1)
  next_goals = ap (map goal_form) (drop_more gs i g within ∙ ap (λ (h : RawGoal). h ∷ drop (i + 1) gs) (sym is))

  next_fit : all_fit d (goals_places d (map goal_form gs)) ≡ (all_fit d (goal_places d (goal_form g)) && all_fit d (goals_places d (goals_from gs (i + 1))))
  next_fit = l.fit ∙ ap (λ (hs : List FormGoal). all_fit d (goals_places d hs)) next_goals ∙ all_fit-append d (goal_places d (goal_form g)) (goals_places d (goals_from gs (i + 1)))

  pub goals_on : (new : Walk) → Meets d (goal_places d (goal_form g)) (goal_walked d now i (goal_form g)) new → GoalsLeft d old gs new (i + 1)
  goals_on new m = record {
    same = l.same ∙ ap (goals_walked d now i) next_goals ∙ ap (λ (w : Walk). goals_walked d w (suc i) (goals_from gs (i + 1))) (sym m.is_aim) ∙ ap (λ n. goals_walked d new n (goals_from gs (i + 1))) (sym (add-one i));
    fit = next_fit ∙ ap (λ (b : Bool). b && all_fit d (goals_places d (goals_from gs (i + 1)))) m.fits;
  }

  pub goals_stop : (e : Stop) → Stops d (goal_places d (goal_form g)) e → Stops d (goals_places d (map goal_form gs)) e
  goals_stop stop.Clash h = next_fit ∙ ap (λ (b : Bool). b && all_fit d (goals_places d (goals_from gs (i + 1)))) h
  goals_stop stop.Memory h = tt

pub drop_past : {A : Type 0} (xs : List A) (i : ℕ) → length xs ≤ i → drop i xs ≡ []
drop_past [] zero h = refl
drop_past [] (suc i) h = refl
drop_past (x ∷ xs) zero h = absurd (omega arith)
drop_past (x ∷ xs) (suc i) h = drop_past xs i (omega arith)

pub goals_end : (d : Declared) (old : Walk) (gs : List RawGoal) (now : Walk) (i : ℕ) → length gs ≤ i → GoalsLeft d old gs now i → Meets d (goals_places d (map goal_form gs)) (goals_walked d old 0 (map goal_form gs)) now
goals_end d old gs now i h l =
    let none : goals_from gs i ≡ [] = ap (map goal_form) (drop_past gs i h) in
    record {
      fits = l.fit ∙ ap (λ (hs : List FormGoal). all_fit d (goals_places d hs)) none;
      is_aim = sym (l.same ∙ ap (goals_walked d now i) none);
    }

pub goal_written_at : (gs : List RawGoal) (i : ℕ) (g : RawGoal) → list_all goal_written (map goal_form gs) ≡ true → i < length gs → g ≡ get_or gs i g → goal_written (goal_form g) ≡ true
goal_written_at [] i g h l e = absurd (omega arith)
goal_written_at (x ∷ xs) zero g h l e = ap (λ (r : RawGoal). goal_written (goal_form r)) e ∙ (and_parts (goal_written (goal_form x)) (list_all goal_written (map goal_form xs)) h).0
goal_written_at (x ∷ xs) (suc i) g h l e = goal_written_at xs i g (and_parts (goal_written (goal_form x)) (list_all goal_written (map goal_form xs)) h).1 (omega arith) e
