-- The least marking of linked things.
use Rattle.std.specs.Prelude.{◌≡◌, ◌≢◌, ℕ, ◌<◌, ◌⊎◌, List, Contains, length, get_or}
use Rattle.cb_model.specs.declared.Sort.{Sort}
use Rattle.cb_model.specs.declared.Sort.TheVariants as sort
use Rattle.cb_marking.specs.declared.links.Links.{Links}
use Rattle.cb_marking.specs.declared.links.Stop.{Stop}
use Rattle.cb_marking.specs.declared.links.Stop.TheVariants as stop

-- a thing has the sorts that it is given, and those of the things that it is linked with
pub data HasSort (m : Links) : ℕ → Sort → Type 0 where
  given : {x : ℕ} {s : Sort} → Contains m.given (x, s) → HasSort m x s
  along : {y : ℕ} {s : Sort} (x : ℕ) → Contains m.edges (x, y) → HasSort m x s → HasSort m y s
  back : {x : ℕ} {s : Sort} (y : ℕ) → Contains m.edges (x, y) → HasSort m y s → HasSort m x s

-- all that is linked or given a sort is among the first things
pub record IsWithin (m : Links) (things : ℕ) : Type 0 where
  pub edges : (x y : ℕ) → Contains m.edges (x, y) → (x < things) × (y < things)
  pub given : (x : ℕ) (s : Sort) → Contains m.given (x, s) → x < things

-- the thing has this sort alone, or none, and then this is `term`
pub record HasOneSort (m : Links) (x : ℕ) (s : Sort) : Type 0 where
  pub known : HasSort m x s ⊎ (((t : Sort) → HasSort m x t → ⊥) × (s ≡ sort.Term))
  pub only : (t : Sort) → HasSort m x t → t ≡ s

-- each thing has its one sort
pub record AreSorts (m : Links) (things : ℕ) (ss : List Sort) : Type 0 where
  pub len : length ss ≡ things
  pub sorts : (x : ℕ) → x < things → HasOneSort m x (get_or ss x sort.Term)

-- one thing has two sorts, or there was no memory left
abbrev pub Stops : Links → Stop → Type 0
Stops m stop.Clash = (x : ℕ) × (s : Sort) × (t : Sort) × HasSort m x s × HasSort m x t × (s ≢ t)
Stops m stop.Memory = Unit {0}
