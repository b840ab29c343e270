-- The loan of a branch's state.
use Rattle.std.specs.Prelude.{ℕ}
use Rattle.cb_unify.specs.State as state
use Rattle.cb_branch.specs.Running.{Seen}

-- the same branch over another state
abbrev pub with_state : state.Seen → Seen → Seen
with_state u s = record s { state = u }

-- the same branch and state, with another count of refusals
abbrev pub left_with : ℕ → Seen → Seen
left_with n s = with_state (state.with_fulls n s.state) s
