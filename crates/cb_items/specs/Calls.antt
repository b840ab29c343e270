-- Calls whose arguments are in cells.
use Rattle.std.specs.Prelude.{◌≡◌, ℕ, ◌<◌, List, [], ◌∷◌, length}
use Rattle.cb_model.specs.declared.Tree.{Tree}
use Rattle.cb_model.specs.declared.Goal.{Goal}
use Rattle.cb_model.specs.declared.Goal.TheVariants as goal
use Rattle.cb_model.specs.Values.{Sorts}
use Rattle.cb_model.specs.Derivation.{Waiting}
use Rattle.cb_heap.specs.declared.Ref.{Ref}
use Rattle.cb_unify.specs.State.{Seen}
use Rattle.cb_items.specs.Standing.{Stands}

-- the cells are there and stand for the trees, one for one
abbrev pub AreStanding : Sorts → Seen → List Ref → List Tree → Type 0
AreStanding t s [] [] = Unit {0}
AreStanding t s (r ∷ rs) (x ∷ xs) = (r.0 < length s.heap.sorts) × (Stands t s r.0 x × AreStanding t s rs xs)
AreStanding t s _ _ = ⊥

-- the goal calls this predicate with arguments for which these cells stand
abbrev pub IsCalled : Sorts → Seen → Goal → ℕ → List Ref → Type 0
IsCalled t s (goal.Call pred args) n rs = (pred ≡ n) × AreStanding t s rs args
IsCalled t s _ n rs = ⊥

-- the waiting goals are these calls, one for one
abbrev pub AreCalled : Sorts → Seen → List Waiting → List (ℕ × List Ref) → Type 0
AreCalled t s [] [] = Unit {0}
AreCalled t s (w ∷ ws) (c ∷ cs) = IsCalled t s w.goal c.0 c.1 × AreCalled t s ws cs
AreCalled t s _ _ = ⊥
