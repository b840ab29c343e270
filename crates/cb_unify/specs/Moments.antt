-- Moments of a state, and the way back to them: terms and Boolean variables together.
use Rattle.std.specs.Prelude.{◌≡◌, ℕ, ◌≤◌, length, take}
use Rattle.cb_elim.specs.Moments.{Moment as BoolMoment, IsMoment as IsBoolMoment, moment_of as bool_moment, reverted as bool_reverted}
use Rattle.cb_heap.specs.Moments.{Moment as TermMoment, IsMoment as IsTermMoment, moment_of as term_moment, reverted as term_reverted}
use Rattle.cb_unify.specs.State.{Seen, IsState, with_fulls}

-- the moments of the terms and of the Boolean variables, and how many variables were made
pub record Moment : Type 0 where
  pub heap : TermMoment
  pub store : BoolMoment
  pub made : ℕ

-- the moment now
abbrev pub moment_of : Seen → Moment
moment_of s = record { heap = term_moment s.heap; store = bool_moment s.store; made = length s.made }

-- the state as it was at a moment, but for the count of refusals for nodes
abbrev pub reverted : Moment → Seen → Seen
reverted m s = record { heap = term_reverted m.heap s.heap; store = bool_reverted m.store s.store; made = take m.made s.made }

-- a moment to which the state can go back
pub record IsMoment (m : Moment) (s : Seen) : Type 0 where
  pub heap : IsTermMoment m.heap s.heap
  pub store : IsBoolMoment m.store s.store
  pub made : m.made ≤ length s.made
  pub state : IsState (reverted m s)

-- Each moment stays one, and going back to it gives the same state as before.
pub record KeepsMoments (old new : Seen) : Type 0 where
  pub moments : (m : Moment) → IsMoment m old → IsMoment m new
  pub same : (m : Moment) → IsMoment m old → reverted m new ≡ with_fulls new.store.nodes.fulls (reverted m old)
