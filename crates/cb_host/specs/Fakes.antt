-- What the objects in memory hold, and which of their calls fail.
use Rattle.std.specs.Prelude.{ℕ, ◌+◌, ◌-◌, ◌^◌, min, Bool, not, ◌&&◌, ◌||◌, ◌==◌, nat_le, if◌then◌else◌, List, ◌++◌, length, take, map, Option, Some, None, string_bytes, bytes_eq}
use Rattle.std.specs.List.{list_any}
use Rattle.std.specs.declared.string.String.{String}
use Rattle.std.specs.declared.vec.Vec.{Vec}
use Rattle.cb_model.specs.Text.{Text}

-- the number of the next call, or the count after one more fault: one more, up to the greatest `u64`
abbrev pub next_number : ℕ → ℕ
next_number n = min (n + 1) (2 ^ 64 - 1)

-- whether the call with this number is to fail
abbrev pub is_failing : List ℕ → ℕ → Bool
is_failing failing n = list_any (λ k. k == n) failing

-- whether a file has this name
abbrev pub is_listed : List (Text × Text) → Text → Bool
is_listed files name = list_any (λ e. bytes_eq e.0 name) files

-- names and bytes, as contracts see them
abbrev pub entries_of : {A B : Type 0} → List (String A × Vec ℕ B) → List (Text × Text)
entries_of files = map (λ e. (string_bytes e.0, e.1.items)) files

-- files in memory: names with bytes, the numbers of the calls that fail, how many calls and faults came
pub record Loading : Type 0 where
  pub list : List (Text × Text)
  pub failing : List ℕ
  pub calls : ℕ
  pub faults : ℕ

-- whether the next load fails: its number is to fail, or no file has the name
abbrev pub load_fails : Loading → Text → Bool
load_fails s name = is_failing s.failing (next_number s.calls) || not (is_listed s.list name)

-- the files after a load
abbrev pub after_load : Loading → Text → Loading
after_load s name = record s { calls = next_number s.calls; faults = if load_fails s name then next_number s.faults else s.faults }

-- a sink in memory: what was written, how many bytes fit, how many a call takes at most, the numbers of the calls that
-- fail, how many calls and faults came
pub record Writing : Type 0 where
  pub written : Text
  pub room : ℕ
  pub step : ℕ
  pub failing : List ℕ
  pub calls : ℕ
  pub faults : ℕ

-- whether the next write of a piece of this length fails: its number is to fail, or the piece isn't empty and no room is
-- left
abbrev pub write_fails : Writing → ℕ → Bool
write_fails s len = is_failing s.failing (next_number s.calls) || (not (len == 0) && s.room - length s.written == 0)

-- how many bytes of a piece of this length the next write takes, if it doesn't fail
abbrev pub write_takes : Writing → ℕ → ℕ
write_takes s len = min (min len s.step) (s.room - length s.written)

-- a source in memory: the bytes left, how many a call gives at most, the numbers of the calls that fail, how many calls
-- and faults came
pub record Reading : Type 0 where
  pub left : Text
  pub step : ℕ
  pub failing : List ℕ
  pub calls : ℕ
  pub faults : ℕ

-- whether the next read fails: its number is to fail
abbrev pub read_fails : Reading → Bool
read_fails s = is_failing s.failing (next_number s.calls)

-- how many bytes the next read gives to a buffer of this length, if it doesn't fail
abbrev pub read_gives : Reading → ℕ → ℕ
read_gives s len = min (min len s.step) (length s.left)

-- a sink that never fails: what it kept, how many bytes it keeps at most, and whether that is all that was written
pub record Keeping : Type 0 where
  pub kept : Text
  pub room : ℕ
  pub whole : Bool

-- the bytes that it tells: all that was written, until it was handed more than it keeps
abbrev pub told_of : Keeping → Option Text
told_of s = if s.whole then Some s.kept else None

-- the sink after a piece
abbrev pub after_piece : Keeping → Text → Keeping
after_piece s piece = record s { kept = s.kept ++ take (s.room - length s.kept) piece; whole = s.whole && nat_le (length piece) (s.room - length s.kept) }
