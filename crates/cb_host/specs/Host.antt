-- What files, sources and sinks promise.
use Rattle.std.specs.Prelude.{Bool, true, false, ◌≡◌, ℕ, ◌+◌, ◌<◌, ◌≤◌, ◌↔◌, [], ◌++◌, length, take, drop, Option, Some, None}
use Rattle.cb_model.specs.Text.{Text}
use Rattle.cb_host.specs.declared.Load.{Load}
use Rattle.cb_host.specs.declared.Load.TheVariants.{Done, Long, Failed as LoadFailed, Memory}

-- a fact of the bytes that an object of the outside tells, where it tells them
abbrev pub IfTold : {A : Type 0} → Option A → (A → Type 0) → Type 0
IfTold None P = Unit {0}
IfTold (Some x) P = P x

-- whether a load failed
abbrev pub is_failed : Load → Bool
is_failed Done = false
is_failed Long = false
is_failed LoadFailed = true
is_failed Memory = false

-- how much a load leaves in the buffer, whether or not the files are told
abbrev pub HasLength : ℕ → Load → Text → Type 0
HasLength limit Done into = length into ≤ limit
HasLength limit Long into = length into ≡ limit + 1
HasLength limit LoadFailed into = into ≡ []
HasLength limit Memory into = into ≡ []

-- what a load of a file with these bytes leaves in the buffer
abbrev pub Loads : Text → ℕ → Load → Text → Type 0
Loads bytes limit Done into = (length bytes ≤ limit) × (into ≡ bytes)
Loads bytes limit Long into = (limit < length bytes) × (into ≡ take (limit + 1) bytes)
Loads bytes limit LoadFailed into = into ≡ []
Loads bytes limit Memory into = into ≡ []

-- n bytes of those left came to the front of the buffer and the rest of them is left; none came exactly where none was
-- left
pub record Reads (bytes : Text) (left : Option Text) (buffer : Text) (n : ℕ) : Type 0 where
  pub within : n ≤ length bytes
  pub front : take n buffer ≡ take n bytes
  pub rest : left ≡ Some (drop n bytes)
  pub none : (n ≡ 0) ↔ (bytes ≡ [])

-- where a source told its bytes before, these were taken from their front, and it tells the others now
pub record Took (before now : Option Text) (bytes : Text) : Type 0 where
  pub told : (all : Text) → before ≡ Some all → (rest : Text) × ((now ≡ Some rest) × (all ≡ bytes ++ rest))

-- what a reading of these bytes to their end, or to one byte past the limit, leaves in the buffer and in the source
abbrev pub ReadsAll : Text → ℕ → Load → Option Text → Text → Type 0
ReadsAll bytes limit Done left into = (length bytes ≤ limit) × ((into ≡ bytes) × (left ≡ Some []))
ReadsAll bytes limit Long left into = (limit < length bytes) × ((into ≡ take (limit + 1) bytes) × (left ≡ Some (drop (limit + 1) bytes)))
ReadsAll bytes limit LoadFailed left into = into ≡ []
ReadsAll bytes limit Memory left into = into ≡ []
