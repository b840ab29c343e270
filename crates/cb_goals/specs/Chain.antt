-- Lists of goals that share their tails.
use Rattle.std.specs.Prelude.{◌≡◌, ℕ, zero, suc, ◌+◌, ◌≤◌, ◌<◌, List, [], ◌∷◌, ◌++◌, length, get_or, Some, slice_get}
use Rattle.cb_goals.specs.declared.Link.{Link}
use Rattle.cb_goals.specs.declared.Pending.{Pending}
use Rattle.cb_goals.specs.declared.Pending.TheVariants.{Body}

-- the lists of the links, one after another, behind those that are there
unfoldable pub lists_from : List (List Pending) → List Link → List (List Pending)
lists_from ls [] = ls
lists_from ls (c ∷ cs) = lists_from (ls ++ (c.goal ∷ get_or ls c.rest []) ∷ []) cs

-- the list of a number: 0 is the empty list
unfoldable pub goals_at : List Link → ℕ → List Pending
goals_at cs n = get_or (lists_from ([] ∷ []) cs) n []

-- each list has one made before it behind its goal
abbrev pub AreLinks : List Link → Type 0
AreLinks cs = (k : ℕ) (c : Link) → slice_get cs k ≡ Some c → c.rest ≤ k

-- all lists stay
pub record KeepsLists (old new : List Link) : Type 0 where
  pub more : List Link
  pub links : new ≡ old ++ more
  pub same : (n : ℕ) → n ≤ length old → goals_at new n ≡ goals_at old n

-- the goals of a body from a place on, so many
abbrev pub body_goals : ℕ → ℕ → ℕ → ℕ → List Pending
body_goals clause frame place zero = []
body_goals clause frame place (suc n) = Body clause place frame ∷ body_goals clause frame (suc place) n
