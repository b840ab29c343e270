-- Digits that are read one by one.
use Rattle.std.specs.Prelude.{◌≡◌, ℕ, ◌^◌, ◌≤◌, Option, MatchOption}
use Rattle.cb_model.specs.Text.{Text}
use Rattle.cb_model.specs.Tokens.{digits_value}

-- the number that digits write, or none where it is 2 ^ 64 or more
abbrev pub Writes : Text → Option ℕ → Type 0
Writes s value = MatchOption value (2 ^ 64 ≤ digits_value 0 s) (λ n. digits_value 0 s ≡ n)
