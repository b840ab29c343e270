-- What the outside tells, and when it may fail.
use Rattle.std.specs.Prelude.{◌≡◌, ℕ, ◌+◌, ◌-◌, ◌^◌, ◌≤◌, min, List, [], ◌∷◌, ◌++◌, Option, Some, bytes_eq, if◌then◌else◌}
use Rattle.cb_model.specs.Text.{Text}

-- a count that rose, or stands at its last value
abbrev pub Rose : ℕ → ℕ → Type 0
Rose before now = min (before + 1) (2 ^ 64 - 1) ≤ now

-- the bytes of a listed file, the first of its name; a name that isn't listed counts as an empty file
abbrev pub bytes_named : List (Text × Text) → Text → Text
bytes_named [] x = []
bytes_named (e ∷ es) x = if bytes_eq e.0 x then e.1 else bytes_named es x

-- where a sink tells its bytes now, it told them before, and these bytes were appended since
pub record Wrote (before now : Option Text) (bytes : Text) : Type 0 where
  pub told : (all : Text) → now ≡ Some all → (old : Text) × (before ≡ Some old) × (all ≡ old ++ bytes)
