-- Laws of a running branch: each is the contract of a function that does nothing.
use Rattle.std.specs.Prelude.{◌≡◌, ℕ, ◌+◌}
use Rattle.cb_model.specs.Program.{bools}
use Rattle.cb_model.specs.Derivation.{Branch}
use Rattle.cb_unify.specs.State.{FitsTable, IsState}
use Rattle.cb_items.specs.Standing.{HasVariables, IsVals}
use Rattle.cb_items.specs.Calls.{AreCalled}
use Rattle.cb_branch.specs.Running.{IsBranch, Seen, calls_of, program_of}
use Rattle.cb_branch.specs.Lending.{left_with}

-- the same state, but for the count of refusals, gives the same branch back
abbrev pub LoanKeepsTheBranch : Type 0
LoanKeepsTheBranch = (s : Seen) (n : ℕ) (b : Branch) → IsBranch s b → IsBranch (left_with n s) b

-- The terms of a branch: its constants are the program's, its Boolean variables are drawn behind them, its variables are
-- those that were made, and at each assignment of the constants the values that they can have together are the solutions
-- of the branch's equations. Its waiting goals are the calls that wait, whose arguments are in cells.
pub record HasItsValues (s : Seen) (b : Branch) : Type 0 where
  pub state : IsState s.state
  pub fits : FitsTable (program_of s).world.arguments s.state
  pub constants : s.state.store.constants ≡ (program_of s).constants
  pub drawn : s.state.store.drawn ≡ (program_of s).constants + bools b.sorts
  pub variables : HasVariables s.state b.sorts
  pub vals : IsVals (program_of s).world s.state b.items
  pub waiting : AreCalled (program_of s).world.arguments s.state b.waiting (calls_of s)

-- a running branch has the values of its equations
abbrev pub BranchHasItsValues : Type 0
BranchHasItsValues = (s : Seen) (b : Branch) → IsBranch s b → HasItsValues s b
