-- The loan of a run's terms.
use Rattle.std.specs.Prelude.{ℕ, ◌≤◌, []}
use Rattle.std.specs.Borrow.{Lends, MutBor, Fml}
use mir.Syntax.{named}
use Rattle.cb_unify.specs.State as state
use Rattle.cb_unify.specs.contracts.State.{the_row as state_row}
use Rattle.cb_branch.specs.Running.{fulls_of}
use Rattle.cb_branch.specs.Lending as lending
use Rattle.cb_solve.specs.contracts.Engine.{the_row}
use Rattle.cb_solve.specs.Run.{IsRun, Run}

-- the run whose terms were lent, with other ones
abbrev pub with_state : state.Seen → Run → Run
with_state u r = record r { state = lending.with_state u r.state }

-- when the loan is over, the run has the terms that were left, and all else as before
abbrev pub LendsState : MutBor Run → MutBor state.Seen → Fml
LendsState s r =
    Lends (the_row (record { mir = named 1; lft = [] }) (record { mir = named 2; lft = [] }) (record { mir = named 3; lft = [] }))
    state_row s r (λ u. with_state u s.now)

-- the same terms, but for a count of refusals that has not fallen, give a run again
abbrev pub LoanKeepsTheRun : Type 0
LoanKeepsTheRun =
    (r : Run) (n : ℕ) → IsRun r → fulls_of r.state ≤ n → IsRun (with_state (state.with_fulls n r.state.state) r)
