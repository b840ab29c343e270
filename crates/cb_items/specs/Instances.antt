-- Solutions of a branch's items are instances of its state.
use Rattle.std.specs.Prelude.{List}
use Rattle.cb_model.specs.Values.{World}
use Rattle.cb_model.specs.Equations.{Item, Substitution, Solves}
use Rattle.cb_unify.specs.State.{Seen, IsState}
use Rattle.cb_unify.specs.Instance.{IsInstance}
use Rattle.cb_items.specs.Standing.{IsVals}

-- where the values of a state are the solutions of the items, every solution of the items in the algebra, over however
-- many constants, is an instance of the slots and cells
abbrev pub SolutionsAreInstances : Type 0
SolutionsAreInstances = (w : World) (s : Seen) (es : List Item) (x : Substitution) → IsState s → IsVals w s es → Solves w es x → IsInstance s (λ a. a) x
