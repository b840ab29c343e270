-- What a caller knows of an answer's branch.
use Rattle.std.specs.Prelude.{◌≡◌, ℕ, ◌+◌, List}
use Rattle.cb_model.specs.Program.{Program, bools}
use Rattle.cb_model.specs.Derivation.{Branch}
use Rattle.cb_model.specs.Line.{Names}
use Rattle.cb_heap.specs.declared.Ref.{Ref}
use Rattle.cb_unify.specs.State.{Seen, FitsTable, IsState}
use Rattle.cb_items.specs.Standing.{HasVariables, IsVals}
use Rattle.cb_items.specs.Calls.{AreCalled}
use Rattle.cb_answer.specs.declared.Item.{Item}
use Rattle.cb_answer.specs.Items.{AreItems}

-- What a caller knows of an answer's branch: at each assignment of the constants the values that the branch's variables
-- can have together are the solutions of its equations, the waiting goals are calls whose arguments are in cells, and the
-- items are the printed variables and these calls, in order.
pub record Tells (p : Program) (names : Names) (b : Branch) (s : Seen) (items : List Item) : Type 0 where
  pub state : IsState s
  pub fits : FitsTable p.world.arguments s
  pub constants : s.store.constants ≡ p.constants
  pub drawn : s.store.drawn ≡ p.constants + bools b.sorts
  pub variables : HasVariables s b.sorts
  pub vals : IsVals p.world s b.items
  pub calls : List (ℕ × List Ref)
  pub waiting : AreCalled p.world.arguments s b.waiting calls
  pub items_are : AreItems s.made names.names names.printed calls items
