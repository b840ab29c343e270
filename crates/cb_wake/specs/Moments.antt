-- Moments of waiting goals, and the way back to them.
use Rattle.std.specs.Prelude.{◌≡◌, ℕ, ◌≤◌, Bool, true, List, [], ◌∷◌, length, take, drop, slice_set}
use Rattle.cb_wake.specs.Waits.{Waits}

-- how many were parked, and how many were taken
pub record Moment : Type 0 where
  pub parked : ℕ
  pub taken : ℕ

-- the moment now
abbrev pub moment_of : Waits → Moment
moment_of w = record { parked = length w.still; taken = length w.taken }

-- these goals wait again
abbrev pub put_back : List ℕ → List Bool → List Bool
put_back [] xs = xs
put_back (k ∷ ks) xs = slice_set (put_back ks xs) k true

-- the waiting goals as they were at a moment
abbrev pub reverted : Moment → Waits → Waits
reverted m w = record { still = put_back (drop m.taken w.taken) (take m.parked w.still); taken = take m.taken w.taken }

-- a moment to which the goals can go back
pub record IsMoment (m : Moment) (w : Waits) : Type 0 where
  pub parked : m.parked ≤ length w.still
  pub taken : m.taken ≤ length w.taken

-- Each moment stays one, and going back to it gives the same goals as before.
pub record KeepsMoments (old new : Waits) : Type 0 where
  pub moments : (m : Moment) → IsMoment m old → IsMoment m new
  pub same : (m : Moment) → IsMoment m old → reverted m new ≡ reverted m old
